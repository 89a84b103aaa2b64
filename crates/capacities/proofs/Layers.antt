-- The capacity lines, layer by layer, and what the working numbers hold after them.
-- Assumes nothing.
use mathlib.Core.Path.{◌≡◌, refl, sym, ap, ap₂, ◌∙◌}
use mathlib.Core.Bool.{Bool}
use mathlib.Core.List.{List, ◌∷◌, ◌++◌}
use mathlib.Core.Option.{Option}
use Prim.Native.Nat.{ℕ, suc, ◌+◌, ◌-◌, ◌*◌, ◌≤◌, ◌<◌}
use native.Mathlib.Nat.{add-mul, mul_comm, mul-le-mul_right}
use native.Mathlib.Omega.{arith}
use lib.ListN.{length}
use Rattle.std.specs.Prelude.{Ok, Err, Result as Outcome}
use Rattle.model.specs.Grid.{east_count, north_count}
use Rattle.model.specs.Job.{runs}
use Rattle.model.specs.Read.{Place, Result, refused, found, next, capacity_line, capacity_lines}
use Rattle.theory.specs.links.Reading.{Gives, LineOk, EachCaps, StackOk, capacity-gives, capacities-give}
use Rattle.text.specs.Refusals.{place_of, number_of, line_of}
use Rattle.text.specs.declared.Cursor.{Cursor}
use Rattle.text.specs.declared.Refusal.{Refusal}
use Rattle.layout.specs.Dirs.{dirs_of}
use Rattle.layout.specs.Shapes.{Shaped}
use Rattle.layout.specs.declared.shape.Shape.{Shape}
use Rattle.lines.specs.Keyed.{key_bytes}
use Rattle.lines.specs.Told.{mapped, refused_by}
use Rattle.capacities.specs.Spread.{spread, Room}
use Rattle.capacities.specs.Capacities.{columns, capacities_of, spread_all}
use Rattle.capacities.specs.Reads.{judged_line_by, judged-line-is, layer_in}
use Rattle.capacities.specs.Told.{list_told, capacities_told, beyond_of}
use Rattle.capacities.proofs.Spreads.{spread-append, all-columns, all_drop}

-- ---- room

pub east-part : (g : Shape) → Shaped g → g.east * g.k ≤ g.k * g.e
east-part g h = omega (arith, mul-le-mul_right g.k h.east_most, mul_comm g.k g.e)

-- the two lines of layer l, counted from 0, have room
module _ (g : Shape) (h : Shaped g) (size l : ℕ) (below : l < g.k) (fits : g.k * g.e ≤ size) where
  pub east-room : Room g.k l g.east size
  east-room = record { apart = omega arith; room = omega (arith, east-part g h); small = omega (arith, east-part g h, h.all_most, h.k_most) }

  both : g.east * g.k + (g.e - g.east) * g.k ≡ g.k * g.e
  both =
      let s : g.east + (g.e - g.east) ≡ g.e = omega (arith, h.east_most) in
      sym (add-mul g.east (g.e - g.east) g.k) ∙ ap (λ (x : ℕ). x * g.k) s ∙ mul_comm g.e g.k

  pub north-room : Room g.k (l + g.east * g.k) (g.e - g.east) size
  north-room = record { apart = omega arith; room = omega (arith, both); small = omega (arith, both, h.all_most, h.k_most) }

-- ---- one layer

abbrev east_line : ℕ → ℕ → Option (List ℕ) → ℕ → Place → Result (List ℕ)
east_line W H ds l = capacity_line "east" (east_count W H) (runs ds 0 l)

abbrev north_line : ℕ → ℕ → Option (List ℕ) → ℕ → Place → Result (List ℕ)
north_line W H ds l = capacity_line "north" (north_count W H) (runs ds 1 l)

-- the east list is stored, then the north list
pub layer-law : (k : ℕ) (w : List ℕ) (l W H : ℕ) (ds : Option (List ℕ)) (p : Place) →
    mapped (spread k w l) (layer_in W H ds (l + 1) p)
    ≡ next (mapped (spread k w l) (east_line W H ds (l + 1) p)) (λ x q. mapped (spread k x (l + east_count W H * k)) (north_line W H ds (l + 1) q))
unfolding layer_in
layer-law k w l W H ds p = go (east_line W H ds (l + 1) p) (capacity-gives "east" (east_count W H) (runs ds 0 (l + 1)) p)
  where
    go : (r : Result (List ℕ)) → Gives (LineOk (east_count W H) (runs ds 0 (l + 1))) r →
        mapped (spread k w l) (next r (λ east q. next (north_line W H ds (l + 1) q) (λ north t. found (east ++ north) t)))
        ≡ next (mapped (spread k w l) r) (λ x q. mapped (spread k x (l + east_count W H * k)) (north_line W H ds (l + 1) q))
    go (refused n m) s = refl
    go (found east q) s = north (north_line W H ds (l + 1) q)
      where
        north : (r : Result (List ℕ)) → mapped (spread k w l) (next r (λ north t. found (east ++ north) t)) ≡ mapped (spread k (spread k w l east) (l + east_count W H * k)) r
        north (refused n m) = refl
        north (found vs t) = rw (sym s.0.0) (ap (λ (x : List ℕ). found x t) (spread-append k w l east vs))

-- the same, after the code has read and stored the east list: its answer is r, and the working numbers are x
module _ (s : List ℕ) (c : Cursor) (g : Shape) (h : Shaped g) (w x : List ℕ) (l : ℕ) (r : Outcome Cursor Refusal) (a b : Bool)
    (east-way : a ≡ runs (dirs_of g.k g.dirs) 0 (l + 1)) (north-way : b ≡ runs (dirs_of g.k g.dirs) 1 (l + 1))
    (e : list_told s x r ≡ mapped (spread g.k w l) (judged_line_by (key_bytes "east") g.east a (place_of s c))) where
  layer-by : mapped (spread g.k w l) (layer_in g.w g.h (dirs_of g.k g.dirs) (l + 1) (place_of s c))
      ≡ next (list_told s x r) (λ y q. mapped (spread g.k y (l + g.east * g.k)) (judged_line_by (key_bytes "north") (g.e - g.east) b q))
  layer-by = layer-law g.k w l g.w g.h (dirs_of g.k g.dirs) (place_of s c) ∙ (λ i. next (east i) (λ y q. mapped (spread g.k y (l + first i * g.k)) (north q i)))
    where
      first : east_count g.w g.h ≡ g.east
      first = sym h.east_is

      count : north_count g.w g.h ≡ g.e - g.east
      count = omega (arith, h.e_is, h.east_is)

      east : mapped (spread g.k w l) (east_line g.w g.h (dirs_of g.k g.dirs) (l + 1) (place_of s c)) ≡ list_told s x r
      east = rw (sym h.east_is, sym east-way, judged-line-is "east" g.east a (place_of s c)) (sym e)

      north : (q : Place) → north_line g.w g.h (dirs_of g.k g.dirs) (l + 1) q ≡ judged_line_by (key_bytes "north") (g.e - g.east) b q
      north q = rw (count, sym north-way) (judged-line-is "north" (g.e - g.east) b q)

  pub layer-refused : (z : Refusal) → r ≡ Err z → refused_by z ≡ mapped (spread g.k w l) (layer_in g.w g.h (dirs_of g.k g.dirs) (l + 1) (place_of s c))
  layer-refused z f = sym (layer-by ∙ rw f)

  pub layer-both : (d : Cursor) (t : Result (List ℕ)) → r ≡ Ok d → t ≡ mapped (spread g.k x (l + g.east * g.k)) (judged_line_by (key_bytes "north") (g.e - g.east) b (place_of s d)) →
      t ≡ mapped (spread g.k w l) (layer_in g.w g.h (dirs_of g.k g.dirs) (l + 1) (place_of s c))
  layer-both d t f k = k ∙ sym (layer-by ∙ rw f)

-- ---- all layers

-- a layer is stored, then those above it
caps-step : (k : ℕ) (w : List ℕ) (l W H : ℕ) (ds : Option (List ℕ)) (m : ℕ) (p : Place) →
    mapped (spread_all k w l) (capacity_lines W H ds (l + 1) (suc m) p)
    ≡ next (mapped (spread k w l) (layer_in W H ds (l + 1) p)) (λ x q. mapped (spread_all k x (suc l)) (capacity_lines W H ds (suc (l + 1)) m q))
unfolding layer_in
caps-step k w l W H ds m p = east (east_line W H ds (l + 1) p)
  where
    above-lines : Place → Result (List (List ℕ))
    above-lines = capacity_lines W H ds (suc (l + 1)) m

    east : (r : Result (List ℕ)) →
        mapped (spread_all k w l) (next r (λ e q. next (north_line W H ds (l + 1) q) (λ n t. next (above-lines t) (λ above u. found ((e ++ n) ∷ above) u))))
        ≡ next (mapped (spread k w l) (next r (λ e q. next (north_line W H ds (l + 1) q) (λ n t. found (e ++ n) t)))) (λ x q. mapped (spread_all k x (suc l)) (above-lines q))
    east (refused a b) = refl
    east (found e q) = north (north_line W H ds (l + 1) q)
      where
        north : (r : Result (List ℕ)) →
            mapped (spread_all k w l) (next r (λ n t. next (above-lines t) (λ above u. found ((e ++ n) ∷ above) u)))
            ≡ next (mapped (spread k w l) (next r (λ n t. found (e ++ n) t))) (λ x q. mapped (spread_all k x (suc l)) (above-lines q))
        north (refused a b) = refl
        north (found n t) = above (above-lines t)
          where
            above : (r : Result (List (List ℕ))) →
                mapped (spread_all k w l) (next r (λ above u. found ((e ++ n) ∷ above) u)) ≡ mapped (spread_all k (spread k w l (e ++ n)) (suc l)) r
            above (refused a b) = refl
            above (found cs u) = refl

caps-turn : (k : ℕ) (w : List ℕ) (l W H : ℕ) (ds : Option (List ℕ)) (K : ℕ) (p : Place) → l < K →
    mapped (spread_all k w l) (capacity_lines W H ds (l + 1) (K - l) p)
    ≡ next (mapped (spread k w l) (layer_in W H ds (l + 1) p)) (λ x q. mapped (spread_all k x (l + 1)) (capacity_lines W H ds (l + 1 + 1) (K - (l + 1)) q))
caps-turn k w l W H ds K p h =
    let e : K - l ≡ suc (K - (l + 1)) = omega arith in
    let one : l + 1 ≡ suc l = omega arith in
    let two : l + 1 + 1 ≡ suc (l + 1) = omega arith in
    ap (λ (n : ℕ). mapped (spread_all k w l) (capacity_lines W H ds (l + 1) n p)) e
    ∙ caps-step k w l W H ds (K - (l + 1)) p
    ∙ ap₂ (λ (a b : ℕ). next (mapped (spread k w l) (layer_in W H ds (l + 1) p)) (λ x q. mapped (spread_all k x a) (capacity_lines W H ds b (K - (l + 1)) q))) (sym one) (sym two)

-- the same, after the code has read and stored layer l
module _ (s : List ℕ) (k : ℕ) (w x : List ℕ) (l W H : ℕ) (ds : Option (List ℕ)) (K : ℕ) (c : Cursor) (r : Outcome Cursor Refusal) where
  pub caps-refused : (z : Refusal) → l < K → list_told s x r ≡ mapped (spread k w l) (layer_in W H ds (l + 1) (place_of s c)) → r ≡ Err z →
      mapped (spread_all k w l) (capacity_lines W H ds (l + 1) (K - l) (place_of s c)) ≡ refused_by z
  caps-refused z h e f = caps-turn k w l W H ds K (place_of s c) h ∙ rw (sym e, f)

  pub caps-next : (d : Cursor) → l < K → list_told s x r ≡ mapped (spread k w l) (layer_in W H ds (l + 1) (place_of s c)) → r ≡ Ok d →
      mapped (spread_all k w l) (capacity_lines W H ds (l + 1) (K - l) (place_of s c)) ≡ mapped (spread_all k x (l + 1)) (capacity_lines W H ds (l + 1 + 1) (K - (l + 1)) (place_of s d))
  caps-next d h e f = caps-turn k w l W H ds K (place_of s c) h ∙ rw (sym e, f)

pub caps-done : (k : ℕ) (w : List ℕ) (l W H : ℕ) (ds : Option (List ℕ)) (K : ℕ) (p : Place) → K ≤ l → mapped (spread_all k w l) (capacity_lines W H ds (l + 1) (K - l) p) ≡ found w p
caps-done k w l W H ds K p h = let e : K - l ≡ 0 = omega arith in rw e

-- ---- the capacities are read again from the working numbers

module _ (s : List ℕ) (g : Shape) (h : Shaped g) (w x : List ℕ) (fits : g.k * g.e ≤ length w) where
  abbrev Rows : List (List ℕ) → Type 0
  Rows cs = (length cs ≡ g.k) × EachCaps g.e cs

  read_again : (r : Outcome Cursor Refusal) (R : Result (List (List ℕ))) → Gives Rows R → list_told s x r ≡ mapped (spread_all g.k w 0) R →
      (capacities_told s g x r ≡ R) × beyond_of g w x r
  read_again (Ok c) (found cs p) i e = (rw rows_are (ap (found cs) place_is), rw stored (all_drop g.k g.e w 0 cs i.1 (omega (arith, i.0))))
    where
      stored : x ≡ spread_all g.k w 0 cs
      stored = cc

      place_is : place_of s c ≡ p
      place_is = cc

      rows_are : capacities_of g x ≡ cs
      rows_are =
          ap (λ (v : List ℕ). columns g.k g.e v 0 g.k) stored
          ∙ ap (λ (m : ℕ). columns g.k g.e (spread_all g.k w 0 cs) 0 m) (sym i.0)
          ∙ all-columns g.k g.e w 0 cs i.1 (omega (arith, i.0)) fits
  read_again (Ok c) (refused n l) i e = absurd (let z : ◌≡◌ {A = ℕ} 0 1 = cc in omega arith)
  read_again (Err r) (found cs p) i e = absurd (let z : ◌≡◌ {A = ℕ} 0 1 = cc in omega arith)
  read_again (Err r) (refused n l) i e = (same, tt)
    where
      number_is : number_of r ≡ n
      number_is = cc

      line-is : line_of r ≡ l
      line-is = cc

      same : ◌≡◌ {A = Result (List (List ℕ))} (refused (number_of r) (line_of r)) (refused n l)
      same = rw (number_is, line-is)

  pub caps-told : (r : Outcome Cursor Refusal) (p : Place) → list_told s x r ≡ mapped (spread_all g.k w 0) (capacity_lines g.w g.h (dirs_of g.k g.dirs) 1 g.k p) →
      (capacities_told s g x r ≡ capacity_lines g.w g.h (dirs_of g.k g.dirs) 1 g.k p) × beyond_of g w x r
  caps-told r p e =
      read_again r (capacity_lines g.w g.h (dirs_of g.k g.dirs) 1 g.k p)
      (rows (capacity_lines g.w g.h (dirs_of g.k g.dirs) 1 g.k p) (capacities-give g.w g.h (dirs_of g.k g.dirs) 1 g.k p)) e
    where
      rows : (R : Result (List (List ℕ))) → Gives (StackOk g.w g.h (dirs_of g.k g.dirs) 1 g.k) R → Gives Rows R
      rows (refused n l) i = tt
      rows (found cs q) i = (i.0, rw h.e_is i.1)
