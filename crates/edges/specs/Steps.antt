-- One edge more: what the working numbers hold after it.
-- Assumes nothing.
use Rattle.std.specs.Prelude.{Bool, true, false, ◌&&◌, ◌||◌, not, cond, List, [], ◌∷◌, ◌++◌, ◌⊎◌, ◌≡◌, refl, ℕ, ◌+◌, ◌≤◌, ◌<◌, eqb, length, get_or, set}
use Rattle.std.proofs.Common.{inl, inr, ⊎_elim, sym, ap, ap₂, ◌∙◌, arith, get_or-set_same}
use Rattle.layout.specs.Areas.{demand_at, tiles_at, links_at, chosen_at, tiles_of, links_of}
use Rattle.layout.specs.Parts.{part-long, part-outside, Outside, set-outside}
use Rattle.layout.specs.Shapes.{Shaped}
use Rattle.layout.specs.declared.shape.Shape.{Shape}
use Rattle.marks.specs.Marks.{marked, touched, mark}
use Rattle.model.specs.Job.{Pin}
use Rattle.model.specs.Lists.{has, bit, In}
use Rattle.model.specs.Read.{Triple, edge_inside}
use Rattle.model.specs.Tree.{ring}
use Rattle.theory.specs.congestion.Base.{up_from, length-up_from, in-up_from}
use Rattle.theory.specs.congestion.Sums.{same_cases, same_refl, sum_bound, sum-part, lt-or-ge}
use Rattle.theory.specs.links.Counted.{Counted, counted-marked}
use Rattle.theory.specs.links.Reach.{lo_of, hi_of}
use Rattle.theory.specs.walk.Parts.{root_mark, touches-test}
use Rattle.theory.specs.walk.Stops.{occurs-append}
use Rattle.theory.specs.walk.Union.{top_of}
use Rattle.union.specs.Links.{Merged}
use Rattle.union.specs.Parts.{merged-edge}
use Rattle.union.specs.Rings.{merged-ring}
use Rattle.ways.specs.Ends.{first_mark, ends_after, first-mark, ends-forth, start-touches, ends-touch, ends-fit}
use Rattle.ways.specs.Entry.{start_of, edge_of, Placed, placed, same-edge}
use Rattle.edges.specs.Lists.{has-snoc}
use Rattle.edges.specs.Reading.{Reading}

-- ---- how many parts there can be

module _ (lo hi : ℕ → ℕ) (size : ℕ) (touched par : ℕ → ℕ) (n : ℕ) (ts es : List ℕ) (c : Counted lo hi size touched par n ts es) where
  -- no more than there are tiles
  pub counted-most : n ≤ size
  counted-most = omega (arith, c.count, sum_bound (root_mark touched (top_of par)) 1 (up_from 0 size) (λ t i. one t), length-up_from 0 size)
    where
      one : (t : ℕ) → root_mark touched (top_of par) t ≤ 1
      one t =
          ⊎_elim
          (λ s. rw s.1 (omega (arith, c.marks t)))
          (λ s. rw s.1 (omega arith))
          (same_cases (top_of par t) t)

  -- and at least one, where there is a tile
  pub counted-some : (t : ℕ) → In t ts → 1 ≤ n
  counted-some t i =
      let m = counted-marked lo hi size touched par n ts es c in
      let k : touched (top_of par t) ≡ 1 = m.within t (omega (arith, c.marks t)) in
      let r : root_mark touched (top_of par) (top_of par t) ≡ 1 = rw (m.top t, same_refl (top_of par t), k) in
      omega (arith, c.count, sum-part (root_mark touched (top_of par)) (top_of par t) (up_from 0 size) ((in-up_from (top_of par t) 0 size).1 (omega arith, omega (arith, m.inside (top_of par t) k))))

-- ---- one more edge

-- its demand leaves the marks
pub kept-tiles : (g : Shape) (w w₁ : List ℕ) (e v : ℕ) → e < g.e → w₁ ≡ set w (demand_at g + e) v → tiles_of g w₁ ≡ tiles_of g w
kept-tiles g w w₁ e v known stored = part-outside (demand_at g + e) 1 w w₁ (rw stored (set-outside w (demand_at g + e) v)) (tiles_at g) g.t (inr (omega arith))

-- demand and marks leave the links
pub kept-links : (g : Shape) (w w₁ w₂ : List ℕ) (e v : ℕ) → e < g.e → w₁ ≡ set w (demand_at g + e) v → Outside (tiles_at g) g.t w₁ w₂ → links_of g w₂ ≡ links_of g w
kept-links g w w₁ w₂ e v known stored out =
    part-outside (tiles_at g) g.t w₁ w₂ out (links_at g) g.t (inr (omega arith))
    ∙ part-outside (demand_at g + e) 1 w w₁ (rw stored (set-outside w (demand_at g + e) v)) (links_at g) g.t (inr (omega arith))

module _ (g : Shape) (shaped : Shaped g) (n : ℕ) (ps : List Pin) (es : List ℕ) (parts : ℕ) (w₀ w : List ℕ) (room : chosen_at g ≤ length w) (reading : Reading g n ps es parts w₀ w)
    (t : Triple) (inside : edge_inside g.w g.h t ≡ true) (way : t.third ≤ 1) where
  abbrev here : ℕ
  here = lo_of g.w g.h (edge_of g t)

  abbrev there : ℕ
  there = hi_of g.w g.h (edge_of g t)

  abbrev tiles : List ℕ
  tiles = tiles_of g w

  at : Placed g t
  at = placed g shaped t inside way

  -- it is marked already just where the edge was there
  pub marked-has : marked n (tiles_of g w) (lo_of g.w g.h (edge_of g t)) (8 + t.third) ≡ has es (edge_of g t)
  marked-has = ap (λ (s : ℕ). marked n (tiles_of g w) s (8 + t.third)) at.starts ∙ reading.ways t inside way

  module _ (new : marked n (tiles_of g w) (lo_of g.w g.h (edge_of g t)) (8 + t.third) ≡ false) (w₁ w₂ w₃ : List ℕ)
      (stored : w₁ ≡ set w (demand_at g + edge_of g t) (get_or w (demand_at g + edge_of g t) 0 + 1))
      (marks-out : Outside (tiles_at g) g.t w₁ w₂)
      (marks-are : tiles_of g w₂ ≡ ends_after n (tiles_of g w) (lo_of g.w g.h (edge_of g t)) (hi_of g.w g.h (edge_of g t)) t.third)
      (links-out : Outside (links_at g) g.t w₂ w₃) where
    tiles-long : length (tiles_of g w) ≡ g.t
    tiles-long = part-long (tiles_at g) g.t w (omega arith)

    here_in : here < length tiles
    here_in = omega (arith, tiles-long, at.starts, at.start_in)

    there-in : there < length tiles
    there-in = omega (arith, tiles-long, at.end_in)

    demand-out : Outside (demand_at g + edge_of g t) 1 w w₁
    demand-out = rw stored (set-outside w (demand_at g + edge_of g t) (get_or w (demand_at g + edge_of g t) 0 + 1))

    -- below the tiles only the demand of the edge has changed
    unchanged : (i : ℕ) → i < tiles_at g → (i < demand_at g + edge_of g t) ⊎ (demand_at g + edge_of g t + 1 ≤ i) → get_or w₃ i 0 ≡ get_or w i 0
    unchanged i b c =
        links-out.low i (omega arith)
        ∙ marks-out.low i b
        ∙ ⊎_elim (λ h. demand-out.low i h) (λ h. demand-out.high i h) c

    counted-up : get_or w₃ (demand_at g + edge_of g t) 0 ≡ get_or w (demand_at g + edge_of g t) 0 + 1
    counted-up =
        links-out.low (demand_at g + edge_of g t) (omega (arith, at.known))
        ∙ marks-out.low (demand_at g + edge_of g t) (omega (arith, at.known))
        ∙ ap (λ (l : List ℕ). get_or l (demand_at g + edge_of g t) 0) stored
        ∙ get_or-set_same w (demand_at g + edge_of g t) (get_or w (demand_at g + edge_of g t) 0 + 1) 0 (omega (arith, at.known))

    tiles-are : tiles_of g w₃ ≡ ends_after n (tiles_of g w) here there t.third
    tiles-are =
        part-outside (links_at g) g.t w₂ w₃ links-out (tiles_at g) g.t (inl (omega arith))
        ∙ marks-are

    ways-then : (u : Triple) → edge_inside g.w g.h u ≡ true → u.third ≤ 1
        → marked n (tiles_of g w₃) (start_of g u) (8 + u.third) ≡ has (es ++ (edge_of g t ∷ [])) (edge_of g u)
    ways-then u i h =
        ap (λ (l : List ℕ). marked n l (start_of g u) (8 + u.third)) tiles-are
        ∙ ends-forth n tiles here there t.third here_in there-in way new (start_of g u) u.third h
        ∙ ap (λ (s : ℕ). (eqb s (start_of g u) && eqb (8 + t.third) (8 + u.third)) || marked n tiles (start_of g u) (8 + u.third)) at.starts
        ∙ ap₂ (λ (p q : Bool). p || q) (same-edge g shaped t u at (placed g shaped u i h) way h) (reading.ways u i h)
        ∙ turned (eqb (edge_of g u) (edge_of g t)) (has es (edge_of g u))
        ∙ sym (has-snoc es (edge_of g t) (edge_of g u))
      where
        turned : (p q : Bool) → (p || q) ≡ (q || p)
        turned true true = refl
        turned true false = refl
        turned false true = refl
        turned false false = refl

    module _ (r : Bool) (merged : Merged n (links_of g w₂) (lo_of g.w g.h (edge_of g t)) (hi_of g.w g.h (edge_of g t)) (links_of g w₃) r) where
      merged-here : Merged n (links_of g w) (lo_of g.w g.h (edge_of g t)) (hi_of g.w g.h (edge_of g t)) (links_of g w₃) r
      merged-here = rw (kept-links g w w₁ w₂ (edge_of g t) _ at.known stored marks-out) at merged

      -- the answer of the joining says whether the edge closes a ring
      pub ring-then : ring g.w g.h (es ++ (edge_of g t ∷ [])) ≡ cond (ring g.w g.h es) true (not r)
      ring-then = merged-ring g.w g.h n (links_of g w) (links_of g w₃) (edge_of g t) r merged-here es reading.counted.holds

      pub reading-then : (k : ℕ) → k ≡ first_mark n (tiles_of g w) here + first_mark n (mark n (tiles_of g w) here (8 + t.third)) there
          → (parts' : ℕ) → parts' + bit r ≡ parts + k → Reading g n ps (es ++ (edge_of g t ∷ [])) parts' w₀ w₃
      reading-then k k-is parts' sum_is_lem = record {
        long = links-out.long ∙ marks-out.long ∙ demand-out.long ∙ reading.long;
        low = λ i h. unchanged i (omega arith) (inl (omega arith)) ∙ reading.low i h;
        demand = λ e h.
            ⊎_elim
            (λ s. omega (arith, s.1, ap (λ (x : ℕ). get_or w₃ (demand_at g + x) 0) s.0, ap (λ (x : ℕ). get_or w (demand_at g + x) 0) s.0, counted-up, reading.demand e h, occurs-append e es (edge_of g t ∷ [])))
            (λ s. omega (arith, s.1, apart e h s.0, reading.demand e h, occurs-append e es (edge_of g t ∷ [])))
            (same_cases e (edge_of g t));
        flat = λ i b h. unchanged i h (inr (omega (arith, at.known))) ∙ reading.flat i b h;
        fits = rw tiles-are (ends-fit n tiles here there t.third here_in there-in way new reading.fits);
        links = merged.links;
        ways = ways-then;
        counted = merged-edge (lo_of g.w g.h) (hi_of g.w g.h) g.t n (links_of g w) (links_of g w₃) (edge_of g t) r merged-here
            (λ u. bit (touched n (tiles_of g w) u)) (λ u. bit (touched n (mark n (tiles_of g w) here (8 + t.third)) u)) (λ u. bit (touched n (tiles_of g w₃) u))
            parts parts' ps es reading.counted (omega (arith, at.starts, at.start_in)) at.end_in
            (touches-test (touched n (tiles_of g w)) (touched n (mark n (tiles_of g w) here (8 + t.third))) here (start-touches n tiles here there t.third here_in there-in way new))
            (touches-test (touched n (mark n (tiles_of g w) here (8 + t.third))) (touched n (tiles_of g w₃)) there
            (λ u. ap (λ (l : List ℕ). touched n l u) tiles-are ∙ ends-touch n tiles here there t.third here_in there-in way new u))
            (omega (arith, first-mark n (tiles_of g w) here, first-mark n (mark n (tiles_of g w) here (8 + t.third)) there));
      }
        where
          apart : (e : ℕ) → e < g.e → (e ≡ edge_of g t → ⊥) → get_or w₃ (demand_at g + e) 0 ≡ get_or w (demand_at g + e) 0
          apart e h d = go (lt-or-gt e (edge_of g t) d)
            where
              lt-or-gt : (a b : ℕ) → (a ≡ b → ⊥) → (a < b) ⊎ (b < a)
              lt-or-gt a b q = ⊎_elim (λ l. inl l) (λ l. inr (more l)) (lt-or-ge a b)
                where
                  more : b ≤ a → b < a
                  more l = ⊎_elim (λ m. m) (λ m. absurd (q (omega arith))) (lt-or-ge b a)

              go : (e < edge_of g t) ⊎ (edge_of g t < e) → get_or w₃ (demand_at g + e) 0 ≡ get_or w (demand_at g + e) 0
              go (inl l) = unchanged (demand_at g + e) (omega arith) (inl (omega arith))
              go (inr l) = unchanged (demand_at g + e) (omega arith) (inr (omega arith))

-- ---- between the lines of a net, and from net to net

-- where no edge is read yet, the working numbers as they are
pub reading-here : (g : Shape) (n : ℕ) (ps : List Pin) (parts : ℕ) (w₀ w : List ℕ) → Reading g n ps [] parts w₀ w → Reading g n ps [] parts w w
reading-here g n ps parts w₀ w r = record {
  long = refl;
  low = λ i h. refl;
  demand = λ e h. omega arith;
  flat = λ i b h. refl;
  fits = r.fits;
  links = r.links;
  ways = r.ways;
  counted = r.counted;
}
