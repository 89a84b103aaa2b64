-- One entry more: what the entries have shown after it.
-- Assumes nothing.
use mathlib.Core.Bool.{Bool, true, false, ◌&&◌, ◌||◌, not, cond}
use mathlib.Core.List.{List, [], ◌∷◌, ◌++◌, map-append}
use mathlib.Core.Path.{◌≡◌, refl, sym, ap, ◌∙◌}
use Prim.Native.Nat.{ℕ, ◌+◌, ◌≤◌, ◌<◌}
use native.Mathlib.Omega.{arith}
use lib.Dec.{eqb}
use lib.ListN.{length, get_or, set, length-set}
use Rattle.std.specs.Prelude.{Some, None}
use Rattle.layout.specs.Areas.{demand_at, tiles_at, links_at, chosen_at, tiles_of, links_of}
use Rattle.layout.specs.Parts.{Outside}
use Rattle.layout.specs.Shapes.{Shaped, way_of}
use Rattle.layout.specs.declared.shape.Shape.{Shape}
use Rattle.marks.specs.Marks.{marked, mark}
use Rattle.marks.specs.Words.{most_stamp}
use Rattle.model.specs.Job.{Pin}
use Rattle.model.specs.Lists.{all, twice, has, bit}
use Rattle.model.specs.Read.{Triple, edge_inside, edge_at}
use Rattle.model.specs.Tree.{ring}
use Rattle.scan.specs.Inside.{false-true}
use Rattle.theory.specs.congestion.Sums.{in_head}
use Rattle.theory.specs.links.Reach.{lo_of, hi_of}
use Rattle.theory.specs.congestion.Tests.{twice-once}
use Rattle.theory.specs.walk.NetVias.{pin_tiles}
use Rattle.theory.specs.walk.Joined.{ends}
use Rattle.union.specs.Links.{Merged}
use Rattle.ways.specs.Ends.{ends_of, ends_after, first-mark, twice-marked, new-marked}
use Rattle.ways.specs.Entry.{start_of, edge_of, Placed, placed}
use Rattle.edges.specs.Lists.{all_snoc, twice-snoc}
use Rattle.edges.specs.Reading.{Reading, Few, Going, Shown, goes_on, GoesOn, Ready, edges_on}
use Rattle.edges.specs.Steps.{counted-most, counted-some, marked-has, ring-then, reading-then}
use Rattle.edges.specs.declared.Judged.{Judged}
use Rattle.edges.specs.declared.Judged.TheVariants.{Fine, Ring, Twice, Range}

-- ---- where nothing is marked any more

module _ (g : Shape) (ts : List Triple) (t : Triple) where
  abbrev inside? : Triple → Bool
  inside? = edge_inside g.w g.h

  on-snoc : edges_on g (ts ++ (t ∷ [])) ≡ edges_on g ts ++ (edge_of g t ∷ [])
  on-snoc = map-append (edge_at g.w g.h) ts (t ∷ [])

  pub all-out : edge_inside g.w g.h t ≡ false → all (edge_inside g.w g.h) (ts ++ (t ∷ [])) ≡ false
  all-out e = all_snoc inside? ts t ∙ rw e (go (all inside? ts))
    where
      go : (q : Bool) → (q && false) ≡ false
      go true = refl
      go false = refl

  pub all_in : all (edge_inside g.w g.h) ts ≡ true → edge_inside g.w g.h t ≡ true → all (edge_inside g.w g.h) (ts ++ (t ∷ [])) ≡ true
  all_in a e = all_snoc inside? ts t ∙ rw (a, e)

  pub still-out : all (edge_inside g.w g.h) ts ≡ false → all (edge_inside g.w g.h) (ts ++ (t ∷ [])) ≡ false
  still-out a = all_snoc inside? ts t ∙ rw a

  pub still-twice : twice eqb (edges_on g ts) ≡ true → twice eqb (edges_on g (ts ++ (t ∷ []))) ≡ true
  still-twice a = ap (twice eqb) on-snoc ∙ twice-snoc (edges_on g ts) (edge_of g t) ∙ rw a

  now-twice : has (edges_on g ts) (edge_of g t) ≡ true → twice eqb (edges_on g (ts ++ (t ∷ []))) ≡ true
  now-twice h = ap (twice eqb) on-snoc ∙ twice-snoc (edges_on g ts) (edge_of g t) ∙ rw h (go (twice eqb (edges_on g ts)))
    where
      go : (q : Bool) → (q || true) ≡ true
      go true = refl
      go false = refl

  still-once : twice eqb (edges_on g ts) ≡ false → has (edges_on g ts) (edge_of g t) ≡ false → twice eqb (edges_on g (ts ++ (t ∷ []))) ≡ false
  still-once a h = ap (twice eqb) on-snoc ∙ twice-snoc (edges_on g ts) (edge_of g t) ∙ rw (a, h)

pub after_stop : (g : Shape) (n : ℕ) (ps : List Pin) (w₀ : List ℕ) (ts : List Triple) (parts : ℕ) (w : List ℕ) (t : Triple) (j : Judged)
    → goes_on j ≡ false → edge_inside g.w g.h t ≡ true → Shown g n ps w₀ ts parts w j → Shown g n ps w₀ (ts ++ (t ∷ [])) parts w j
after_stop g n ps w₀ ts parts w t Fine e i s = absurd (false-true (sym e))
after_stop g n ps w₀ ts parts w t Ring e i s = absurd (false-true (sym e))
after_stop g n ps w₀ ts parts w t Twice e i s = (all_in g ts t s.0 i, still-twice g ts t s.1)
after_stop g n ps w₀ ts parts w t Range e i s = still-out g ts t s

-- ---- where the marks go on

-- whether a ring was found
abbrev closed : Judged → Bool
closed Fine = false
closed Ring = true
closed Twice = true
closed Range = true

module _ (g : Shape) (n : ℕ) (ps : List Pin) (w₀ : List ℕ) (ts : List Triple) (parts : ℕ) (w : List ℕ) where
  goes_on_lem : (j : Judged) → GoesOn j → Shown g n ps w₀ ts parts w j → Going g n ps w₀ ts parts w × (ring g.w g.h (edges_on g ts) ≡ closed j)
  goes_on_lem Fine o s = s
  goes_on_lem Ring o s = s
  goes_on_lem Twice o s = absurd o
  goes_on_lem Range o s = absurd o

  shows : (j : Judged) → GoesOn j → Going g n ps w₀ ts parts w → ring g.w g.h (edges_on g ts) ≡ closed j → Shown g n ps w₀ ts parts w j
  shows Fine o s r = (s, r)
  shows Ring o s r = (s, r)
  shows Twice o s r = absurd o
  shows Range o s r = absurd o

  -- what the next edge asks for
  pub shown-ready : Shaped g → n ≤ most_stamp → 1 ≤ length ps → Few g n w₀ → (j : Judged) → Shown g n ps w₀ ts parts w j → GoesOn j → Ready g n parts w
  shown-ready shaped small some_pin few j s o =
      let k = (goes_on_lem j o s).0 in
      record {
        links = k.reading.links;
        demand = λ e h. omega (arith, k.reading.demand e h, twice-once (edges_on g ts) k.once e, few e h);
        some_part = first ps some_pin k.reading;
        few_parts = omega (arith, shaped.t_most, counted-most _ _ _ _ _ _ _ _ k.reading.counted);
      }
    where
      first : (qs : List Pin) → 1 ≤ length qs → Reading g n qs (edges_on g ts) parts w₀ w → 1 ≤ parts
      first [] l r = absurd (omega arith)
      first (q ∷ qs) l r = counted-some _ _ _ _ _ _ _ _ r.counted q.tile (in_head q.tile (pin_tiles qs ++ ends (lo_of g.w g.h) (hi_of g.w g.h) (edges_on g ts)))

-- an entry inside the grid, as the code has it
module _ (g : Shape) (shaped : Shaped g) (n : ℕ) (t : Triple) (inside : edge_inside g.w g.h t ≡ true) (way : t.third ≤ 1)
    (here there edge : ℕ) (here-is : here ≡ start_of g t) (there-is : there ≡ (way_of g here t.third).tile) (edge-is : edge ≡ (way_of g here t.third).edge) where
  at : Placed g t
  at = placed g shaped t inside way

  pub here-low : here ≡ lo_of g.w g.h (edge_of g t)
  here-low = here-is ∙ sym at.starts

  pub there-high : there ≡ hi_of g.w g.h (edge_of g t)
  there-high = there-is ∙ ap (λ (s : ℕ). (way_of g s t.third).tile) here-is ∙ at.leads

  pub edge-number : edge ≡ edge_of g t
  edge-number = edge-is ∙ ap (λ (s : ℕ). (way_of g s t.third).edge) here-is ∙ at.number

  pub here-inside : here < g.t
  here-inside = omega (arith, here-is, at.start_in)

  pub there-inside : there < g.t
  there-inside = omega (arith, there-high, at.end_in)

  pub edge-inside : edge < g.e
  edge-inside = omega (arith, edge-number, at.known)

  module _ (w : List ℕ) (room : chosen_at g ≤ length w) where
    -- the edge is marked already
    pub add_twice : None ≡ ends_of n (tiles_of g w) here there t.third → (j : Judged) → GoesOn j → (ps : List Pin) (w₀ : List ℕ) (ts : List Triple) (parts parts' : ℕ) (w' : List ℕ)
        → Shown g n ps w₀ ts parts w j → Shown g n ps w₀ (ts ++ (t ∷ [])) parts' w' Twice
    add_twice e j o ps w₀ ts parts parts' w' s =
        let k = (goes_on_lem g n ps w₀ ts parts w j o s).0 in
        let m = rw here-low at (twice-marked n (tiles_of g w) here there t.third e) in
        (all_in g ts t k.inside inside, now-twice g ts t (sym (marked-has g shaped n ps (edges_on g ts) parts w₀ w room k.reading t inside way) ∙ m))

    pub new-few : (k : ℕ) → Some k ≡ ends_of n (tiles_of g w) here there t.third → k ≤ 2
    new-few k found-new =
        omega (
          arith,
          (new-marked n (tiles_of g w) here there t.third k found-new).1,
          first-mark n (tiles_of g w) here,
          first-mark n (mark n (tiles_of g w) here (8 + t.third)) there,
        )

    module _ (k : ℕ) (found-new : Some k ≡ ends_of n (tiles_of g w) here there t.third) (w₁ w₂ w₃ : List ℕ)
        (stored : w₁ ≡ set w (demand_at g + edge) (get_or w (demand_at g + edge) 0 + 1))
        (marks-out : Outside (tiles_at g) g.t w₁ w₂)
        (marks-are : tiles_of g w₂ ≡ ends_after n (tiles_of g w) here there t.third)
        (links-out : Outside (links_at g) g.t w₂ w₃) where
      module _ (r : Bool) (merged : Merged n (links_of g w₂) here there (links_of g w₃) r) (j : Judged) (o : GoesOn j)
          (ps : List Pin) (w₀ : List ℕ) (ts : List Triple) (parts parts' : ℕ) (s : Shown g n ps w₀ ts parts w j) where
        going : Going g n ps w₀ ts parts w
        going = (goes_on_lem g n ps w₀ ts parts w j o s).0

        new : marked n (tiles_of g w) (lo_of g.w g.h (edge_of g t)) (8 + t.third) ≡ false
        new = rw here-low at (new-marked n (tiles_of g w) here there t.third k found-new).0

        marks-ends : tiles_of g w₂ ≡ ends_after n (tiles_of g w) (lo_of g.w g.h (edge_of g t)) (hi_of g.w g.h (edge_of g t)) t.third
        marks-ends = rw (here-low, there-high) at marks-are

        stored-edge : w₁ ≡ set w (demand_at g + edge_of g t) (get_or w (demand_at g + edge_of g t) 0 + 1)
        stored-edge = rw edge-number at stored

        merged-ends : Merged n (links_of g w₂) (lo_of g.w g.h (edge_of g t)) (hi_of g.w g.h (edge_of g t)) (links_of g w₃) r
        merged-ends = rw (here-low, there-high) at merged

        going-then : parts' + bit r ≡ parts + k → Going g n ps w₀ (ts ++ (t ∷ [])) parts' w₃
        going-then sum_is_lem = record {
          inside = all_in g ts t going.inside inside;
          once = still-once g ts t going.once (sym (marked-has g shaped n ps (edges_on g ts) parts w₀ w room going.reading t inside way) ∙ new);
          reading = rw (on-snoc g ts t)
              (reading-then g shaped n ps (edges_on g ts) parts w₀ w room going.reading t inside way new w₁ w₂ w₃ stored-edge marks-out marks-ends links-out r merged-ends
              k (rw (here-low, there-high) at (new-marked n (tiles_of g w) here there t.third k found-new).1) parts' sum_is_lem);
        }

        ring-now : ring g.w g.h (edges_on g (ts ++ (t ∷ []))) ≡ cond (closed j) true (not r)
        ring-now =
            ap (ring g.w g.h) (on-snoc g ts t)
            ∙ ring-then g shaped n ps (edges_on g ts) parts w₀ w room going.reading t inside way new w₁ w₂ w₃ stored-edge marks-out marks-ends links-out r merged-ends
            ∙ ap (λ (q : Bool). cond q true (not r)) (goes_on_lem g n ps w₀ ts parts w j o s).1

        -- its ends were apart
        pub add-joined : r ≡ true → parts' + 1 ≡ parts + k → Shown g n ps w₀ (ts ++ (t ∷ [])) parts' w₃ j
        add-joined e h = shows g n ps w₀ (ts ++ (t ∷ [])) parts' w₃ j o (going-then (omega (arith, ap bit e))) (ring-now ∙ rw e (go (closed j)))
          where
            go : (q : Bool) → cond q true false ≡ q
            go true = refl
            go false = refl

        -- its ends were joined already
        pub add-closed : r ≡ false → parts' ≡ parts + k → Shown g n ps w₀ (ts ++ (t ∷ [])) parts' w₃ Ring
        add-closed e h = (going-then (omega (arith, ap bit e)), ring-now ∙ rw e (go (closed j)))
          where
            go : (q : Bool) → cond q true true ≡ true
            go true = refl
            go false = refl

-- each step keeps the length
pub steps-long : (a b i v : ℕ) (t u : ℕ) (w w₁ w₂ w₃ : List ℕ) → w₁ ≡ set w i v → Outside a t w₁ w₂ → Outside b u w₂ w₃ → length w₃ ≡ length w
steps-long a b i v t u w w₁ w₂ w₃ e o p = p.long ∙ o.long ∙ ap length e ∙ length-set w i v
