-- The layers that stand in the slice once they are chosen are those of the definitions, and the root's least cost is the net's vias.
-- Assumes nothing.
use mathlib.Core.Path.{◌≡◌, refl, sym, ap, ap₂, ◌∙◌, subst}
use mathlib.Core.List.{List, [], ◌∷◌}
use mathlib.Core.Logic.{⊎_elim}
use Prim.Native.Nat.{ℕ, zero, suc, ◌+◌, ◌-◌, ◌*◌, ◌≤◌, ◌<◌}
use native.Mathlib.Omega.{arith}
use lib.Dec.{T}
use lib.ListN.{get_or, length, take, drop, length-drop}
use lib.Seq.{slice, get_or-drop, get_or-take, length-take-le, take-take, drop-drop}
use Rattle.model.specs.Job.{Net, Job}
use Rattle.model.specs.Walk.{walk}
use Rattle.theory.specs.engine.Stages.{IsFirst}
use Rattle.theory.specs.engine.Branches.{worth}
use Rattle.theory.specs.engine.Span.{Covers, covers-cons}
use Rattle.theory.specs.engine.Loops.{comb}
use Rattle.theory.specs.engine.Places.{TableAt, kids_of, above_of}
use Rattle.theory.specs.links.Best.{cost_by, cheapest_in_walk, cheapest}
use Rattle.theory.specs.links.Engine.{kids_at, first_at, pins_at, vias_at, found-is-cheapest, table-cost}
use Rattle.sets.specs.Mask.{with_layer, mask_of, has, IsSet}
use Rattle.costs.specs.Rows.{illegal_cost, row_at, LeastCost, RowEntry, first_in, branches_in, pins_in, legal_in, root_branches, Shape, RowsFrom}
use Rattle.engine.specs.Layers.{FirstCombination, FirstStands, layer_in, RootLeast, ChosenUpTo}
use Rattle.engine.specs.Net.{Holds, Placed}
use Rattle.costs.specs.Kept.{rows-read, drop_more}
use Rattle.engine.proofs.Table.{steps, first_is, kids-is, first-le, shape_of, tile-choice, table_at}

take_none : (k : ℕ) → take {A = ℕ} k [] ≡ []
take_none zero = refl
take_none (suc k) = refl

take-drop : (k n : ℕ) (l : List ℕ) → take k (drop n l) ≡ drop n (take (n + k) l)
take-drop k zero l = let e : 0 + k ≡ k = omega arith in ap (λ (x : ℕ). take x l) (sym e)
take-drop k (suc n) [] = take_none k ∙ sym (ap (drop (suc n)) (take_none (suc n + k)))
take-drop k (suc n) (x ∷ l) = let e : suc n + k ≡ suc (n + k) = omega arith in rw e (take-drop k n l)

part_slice : (k q p e : ℕ) (l : List ℕ) → p + q + k ≤ e → take k (drop q (slice p e l)) ≡ slice (p + q) (p + q + k) l
part_slice k q p e l h =
    ap (take k) (drop-drop q p (take e l)) ∙ take-drop k (p + q) (take e l) ∙ ap (drop (p + q)) (take-take (p + q + k) e l h)

first-cast : (w : List ℕ) (o first first' k k' K base v a b c : ℕ) → first' ≡ first → k' ≡ k → FirstCombination w o first' k' K base v a b c → FirstCombination w o first k K base v a b c
first-cast w o first first' k k' K base v a b c e e' t = rw (← e, ← e') t

least-cast : (w : List ℕ) (o first first' k k' K base v : ℕ) → first' ≡ first → k' ≡ k → LeastCost w o first' k' K base v → LeastCost w o first k K base v
least-cast w o first first' k k' K base v e e' t = rw (← e, ← e') t

row-cast : (w : List ℕ) (o first first' k k' K pins pins' legal legal' l v : ℕ) → first' ≡ first → k' ≡ k → pins' ≡ pins → legal' ≡ legal
    → RowEntry w o first' k' K pins' legal' l v → RowEntry w o first k K pins legal l v
row-cast w o first first' k k' K pins pins' legal legal' l v a b c d t = rw (← a, ← b, ← c, ← d) t

-- the rows by the list that holds them, as the chooser asks
pub rows_self : (w w' : List ℕ) (m n K : ℕ) → Shape w m n K → RowsFrom w w' m n K 1 → RowsFrom w' w' m n K 1
rows_self w w' m n K s r = record { long = refl; low = refl; high = refl; rows = at }
  where
    read : (x : ℕ) → x < 4 * m → get_or w x 0 ≡ get_or w' x 0
    read x h = sym (rows-read w w' m n K 1 r x h)

    at : (j : ℕ) → 1 ≤ j → j < n → (l : ℕ) → 1 ≤ l → l ≤ K
        → RowEntry w' (4 * m) (first_in w' j) (branches_in w' j) K (pins_in w' m j) (legal_in w' m j) l (row_at w' (4 * m) j l)
    at j a b l p q =
        let e₁ = read (j - 1) (omega (arith, s.fits)) in
        let e₂ = read j (omega (arith, s.fits)) in
        row-cast w' (4 * m) (first_in w' j) (first_in w j) (branches_in w' j) (branches_in w j) K (pins_in w' m j) (pins_in w m j) (legal_in w' m j) (legal_in w m j) l
        (row_at w' (4 * m) j l) e₁ (omega (arith, e₁, e₂)) (read (m + j) (omega (arith, s.fits))) (read (2 * m + j) (omega (arith, s.fits))) (r.rows j a b l p q)

-- the net with its rows
module _ (j : Job) (n : Net) (allowed : ℕ → List ℕ) (w : List ℕ) (m : ℕ) (holds : Holds j n allowed w m (suc (length n.edges)) j.layers)
    (rows : RowsFrom w w m (suc (length n.edges)) j.layers 1) where
  root-kids : root_branches w ≡ kids_at j n 0
  root-kids = omega (arith, holds.ends 0 (omega arith), (steps j n allowed w m holds).next 0 (omega arith), (steps j n allowed w m holds).start)

  -- the rows and the root's least cost are the net's table, and that cost is small
  pub root-table : (v : ℕ) → RootLeast w m j.layers v
      → TableAt (kids_at j n) (first_at j n) (vias_at j n) allowed (length n.edges) (walk j n) (row_at w (4 * m)) v × (v < illegal_cost)
  root-table v least =
      let e : m ≡ m + 0 = omega arith in
      table_at j n allowed w m holds w rows v
      (subst (λ (x : ℕ). LeastCost w (4 * m) (first_at j n 0) (kids_at j n 0) j.layers x v) (ap (λ (x : ℕ). get_or w x 0) e)
      (least-cast w (4 * m) (first_at j n 0) 1 (kids_at j n 0) (root_branches w) j.layers (get_or w m 0) v (sym (steps j n allowed w m holds).start) root-kids least))

module _ (j : Job) (n : Net) (allowed : ℕ → List ℕ) (w : List ℕ) (m : ℕ) (holds : Holds j n allowed w m (suc (length n.edges)) j.layers)
    (rows : RowsFrom w w m (suc (length n.edges)) j.layers 1) (v : ℕ) (least : RootLeast w m j.layers v)
    (u : List ℕ) (p : ChosenUpTo w u m (suc (length n.edges)) j.layers v (suc (length n.edges))) where
  abbrev d : ℕ
  d = length n.edges

  abbrev y : List ℕ
  y = slice (3 * m + 1) (3 * m + 1 + d) u

  kids-y : (i : ℕ) → i ≤ d → kids_of (kids_at j n) (first_at j n) y i ≡ slice (3 * m + first_at j n i) (3 * m + first_at j n i + kids_at j n i) u
  kids-y i h =
      let a = (steps j n allowed w m holds).ahead i h in
      let b = (steps j n allowed w m holds).next i h in
      let c = first-le j n allowed w m holds (d - i) (suc i) (omega arith) in
      let e : 3 * m + 1 + (first_at j n i - 1) ≡ 3 * m + first_at j n i = omega (arith, a) in
      part_slice (kids_at j n i) (first_at j n i - 1) (3 * m + 1) (3 * m + 1 + d) u (omega (arith, a, b, c))
      ∙ ap (λ (x : ℕ). slice x (x + kids_at j n i) u) e

  layer-y : (i : ℕ) → i < d → get_or y i 0 ≡ layer_in u m (suc i)
  layer-y i h =
      let e : 3 * m + 1 + i ≡ 3 * m + suc i = omega arith in
      get_or-drop (3 * m + 1) (take (3 * m + 1 + d) u) i 0 ∙ get_or-take (3 * m + 1 + d) u (3 * m + 1 + i) 0 (omega arith) ∙ ap (λ (x : ℕ). get_or u x 0) e

  -- one tile, its layer above in the list `above`
  tile-found : (i : ℕ) → i ≤ d → (above : List ℕ) → Covers 1 8 above → (first k base v' : ℕ) → first ≡ first_at j n i → k ≡ kids_at j n i
      → base ≡ mask_of (get_or w (m + i) 0) above → v' < illegal_cost → LeastCost w (4 * m) first k j.layers base v' → FirstStands w u m first k j.layers base v'
      → IsFirst allowed (kids_of (kids_at j n) (first_at j n) (walk j n) i) (worth (vias_at j n) (row_at w (4 * m)) i above (first_at j n i)) v'
      (kids_of (kids_at j n) (first_at j n) y i)
  tile-found i h above cov first k base v' ef ek eb small l ch =
      subst (λ (x : List ℕ). IsFirst allowed (kids_of (kids_at j n) (first_at j n) (walk j n) i) (worth (vias_at j n) (row_at w (4 * m)) i above (first_at j n i)) v' x)
      (ap (λ (x : ℕ). comb x ch.a ch.b ch.c) (sym ek) ∙ sym ch.stands ∙ ap₂ (λ (a b : ℕ). slice (3 * m + a) (3 * m + a + b) u) ef ek ∙ sym (kids-y i h))
      (tile-choice j n allowed w m holds w rows i h above cov v' small
      (subst (λ (x : ℕ). LeastCost w (4 * m) (first_at j n i) (kids_at j n i) j.layers x v') eb (least-cast w (4 * m) (first_at j n i) first (kids_at j n i) k j.layers base v' ef ek l))
      ch.a ch.b ch.c
      (subst (λ (x : ℕ). FirstCombination w (4 * m) (first_at j n i) (kids_at j n i) j.layers x v' ch.a ch.b ch.c) eb
      (first-cast w (4 * m) (first_at j n i) first (kids_at j n i) k j.layers base v' ch.a ch.b ch.c ef ek ch.combination)))

  value : ℕ → ℕ
  value zero = v
  value (suc i) = row_at w (4 * m) (suc i) (get_or y i 0)

  last : first_in w (suc d) ≡ get_or w d 0
  last = let e : suc d - 1 ≡ d = omega arith in ap (λ (x : ℕ). get_or w x 0) e

  found_at : (i : ℕ) → i ≤ d
      → IsFirst allowed (kids_of (kids_at j n) (first_at j n) (walk j n) i) (worth (vias_at j n) (row_at w (4 * m)) i (above_of y i) (first_at j n i)) (value i)
      (kids_of (kids_at j n) (first_at j n) y i)
  unfolding value
  found_at zero h =
      let e : m ≡ m + 0 = omega arith in
      let e' : get_or w m 0 ≡ get_or w (m + 0) 0 = ap (λ (x : ℕ). get_or w x 0) e in
      tile-found 0 h [] (λ x i. absurd (omega arith)) 1 (root_branches w) (get_or w m 0) v (sym (steps j n allowed w m holds).start) (root-kids j n allowed w m holds rows) e'
      (root-table j n allowed w m holds rows v least).1 least p.root
  found_at (suc i) h = subst Goal (sym (layer-y i h)) (go (p.usable (suc i) (omega arith) (omega (arith, last, holds.ends d (omega arith), (steps j n allowed w m holds).whole))))
    where
      l : ℕ
      l = layer_in u m (suc i)

      Goal : ℕ → Type 0
      Goal x =
          IsFirst allowed (kids_of (kids_at j n) (first_at j n) (walk j n) (suc i)) (worth (vias_at j n) (row_at w (4 * m)) (suc i) (x ∷ []) (first_at j n (suc i)))
          (row_at w (4 * m) (suc i) x) (kids_of (kids_at j n) (first_at j n) y (suc i))

      go : (1 ≤ l) × (l ≤ j.layers) × (row_at w (4 * m) (suc i) l < illegal_cost) → Goal l
      go f =
          let x = rows.rows (suc i) (omega arith) (omega arith) l f.0 f.1 in
          tile-found (suc i) h (l ∷ []) (covers-cons 1 8 l [] f.0 (omega (arith, f.1, holds.deep)) (λ a b. absurd (omega arith))) (first_in w (suc i)) (branches_in w (suc i))
          (with_layer (pins_in w m (suc i)) l) (row_at w (4 * m) (suc i) l) (first_is j n allowed w m holds (suc i) (omega arith) h)
          (kids-is j n allowed w m holds (suc i) (omega arith) h) refl f.2
          (⊎_elim (λ a. x.least a) (λ a. absurd (omega (arith, a, f.2))) x.mark) (p.tiles (suc i) (omega arith) (omega arith))

  long-y : length y ≡ d
  long-y =
      omega (
        arith,
        length-drop (3 * m + 1) (take (3 * m + 1 + d) u),
        length-take-le (3 * m + 1 + d) u (omega (arith, p.long, holds.room, holds.fits)),
      )

  -- the layers are those of the cheapest choice, in walk order
  pub layers-are-cheapest : y ≡ cheapest_in_walk allowed (λ x. x) j n
  layers-are-cheapest =
      found-is-cheapest j holds.wide holds.high n holds.ok (λ x. x) allowed holds.rising holds.inside (row_at w (4 * m)) v (root-table j n allowed w m holds rows v least).0 y
      (record { long = long-y; value = value; found = found_at })

  -- and their cost is the root's least
  pub net-cost : cost_by (λ x. x) j n.pins n.edges (cheapest allowed (λ x. x) j n) ≡ v
  net-cost =
      table-cost j holds.wide holds.high n holds.ok (λ x. x) allowed holds.rising holds.inside (row_at w (4 * m)) v (root-table j n allowed w m holds rows v least).0

-- the net is still there once its rows are written
pub holds_kept : (j : Job) (n : Net) (allowed : ℕ → List ℕ) (w w' : List ℕ) (m t K : ℕ) → Holds j n allowed w m t K → RowsFrom w w' m t K 1
    → Holds j n allowed w' m t K
holds_kept j n allowed w w' m t K holds r = record {
  wide = holds.wide;
  high = holds.high;
  ok = holds.ok;
  layers = holds.layers;
  some = holds.some;
  deep = holds.deep;
  tiles = holds.tiles;
  small = holds.small;
  fits = holds.fits;
  room = omega (arith, holds.room, r.long);
  ends = λ i h. read i (omega (arith, holds.fits)) ∙ holds.ends i h;
  pins = λ i h. subst (λ (x : ℕ). IsSet x (pins_at j n i)) (sym (read (m + i) (omega (arith, holds.fits)))) (holds.pins i h);
  into = λ i h l p q t. holds.into i h l p q (subst (λ (x : ℕ). T (has x l)) (read (2 * m + suc i) (omega (arith, holds.fits))) t);
  back = λ i h l t. subst (λ (x : ℕ). T (has x l)) (sym (read (2 * m + suc i) (omega (arith, holds.fits)))) (holds.back i h l t);
  rising = holds.rising;
  inside = holds.inside;
  choice = holds.choice;
  valid = holds.valid;
}
  where
    read : (x : ℕ) → x < 4 * m → get_or w' x 0 ≡ get_or w x 0
    read x h = rows-read w w' m t K 1 r x h

-- the numbers n and K of a call are those of the net
module _ (j : Job) (net : Net) (allowed : ℕ → List ℕ) (w : List ℕ) (m n K : ℕ) (holds : Holds j net allowed w m n K) where
  same : Holds j net allowed w m (suc (length net.edges)) j.layers
  same = subst (λ (x : ℕ). Holds j net allowed w m x j.layers) holds.tiles (subst (λ (x : ℕ). Holds j net allowed w m n x) holds.layers holds)

  pub net-shape : Shape w m n K
  net-shape = rw (holds.tiles, holds.layers) (shape_of j net allowed w m same)

  -- there is a way: the least cost of the root is below that of an illegal layer
  pub net-small : RowsFrom w w m n K 1 → (v : ℕ) → RootLeast w m K v → v < illegal_cost
  net-small r v least =
      (root-table j net allowed w m same
      (subst (λ (x : ℕ). RowsFrom w w m x j.layers 1) holds.tiles (subst (λ (x : ℕ). RowsFrom w w m n x 1) holds.layers r)) v
      (subst (λ (x : ℕ). RootLeast w m x v) holds.layers least)).1

-- the whole call: rows from w to w', layers from w' to u
pub net-placed : (j : Job) (net : Net) (allowed : ℕ → List ℕ) (w w' u : List ℕ) (m n K v : ℕ) → Holds j net allowed w m n K → RowsFrom w w' m n K 1
    → RootLeast w' m K v → ChosenUpTo w' u m n K v n → Placed (λ x. x) j net allowed w u m v
net-placed j net allowed w w' u m n K v holds r least p = record {
  long = p.long ∙ r.long;
  low = p.low ∙ sym (take-take (3 * m) (4 * m) w' (omega arith)) ∙ ap (take (3 * m)) r.low ∙ take-take (3 * m) (4 * m) w (omega arith);
  high = drop_more (4 * m) (12 * m) w' u (omega arith) p.high ∙ drop_more (4 * m + 8 * n) (12 * m) w w' (omega (arith, holds.fits, holds.tiles)) r.high;
  layers = layers-are-cheapest j net allowed w' m h₁ r₁ v l₁ u p₁;
  cost = sym (net-cost j net allowed w' m h₁ r₁ v l₁ u p₁);
}
  where
    kept : Holds j net allowed w' m n K
    kept = holds_kept j net allowed w w' m n K holds r

    h₁ : Holds j net allowed w' m (suc (length net.edges)) j.layers
    h₁ = same j net allowed w' m n K kept

    r₁ : RowsFrom w' w' m (suc (length net.edges)) j.layers 1
    r₁ = subst (λ (x : ℕ). RowsFrom w' w' m x j.layers 1) holds.tiles (subst (λ (x : ℕ). RowsFrom w' w' m n x 1) holds.layers
        (rows_self w w' m n K (net-shape j net allowed w m n K holds) r))

    l₁ : RootLeast w' m j.layers v
    l₁ = subst (λ (x : ℕ). RootLeast w' m x v) holds.layers least

    p₁ : ChosenUpTo w' u m (suc (length net.edges)) j.layers v (suc (length net.edges))
    p₁ = subst (λ (x : ℕ). ChosenUpTo w' u m x j.layers v x) holds.tiles (subst (λ (x : ℕ). ChosenUpTo w' u m n x v n) holds.layers p)
