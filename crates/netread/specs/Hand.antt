-- One edge more of a net that is read again: what the working numbers hold of it.
-- Assumes nothing.
use Rattle.std.specs.Prelude.{Bool, true, false, ◌&&◌, ◌||◌, cond, List, [], ◌∷◌, ◌++◌, map, ◌≡◌, refl, ℕ, zero, suc, ◌+◌, ◌-◌, ◌*◌, ◌≤◌, ◌<◌, min, eqb, length, get_or, set}
use Rattle.std.proofs.Common.{⊎_elim, sym, ap, ap₂, ◌∙◌, arith, length-append}
use Rattle.std.proofs.Math.ListN.{get_or-append}
use Rattle.std.proofs.Math.Seq.{get_or-append_seam}
use Rattle.layout.specs.Areas.{tiles_at, list_at, areas_end, tiles_of}
use Rattle.layout.specs.Parts.{part-long, Outside, set-outside}
use Rattle.layout.specs.Shapes.{Shaped}
use Rattle.layout.specs.declared.shape.Shape.{Shape}
use Rattle.marks.specs.Marks.{marked, marks_after}
use Rattle.marks.specs.Words.{Fits}
use Rattle.model.specs.Job.{Pin}
use Rattle.model.specs.Lists.{has}
use Rattle.model.specs.Read.{Triple, edge_inside}
use Rattle.model.specs.Walk.{lowest_from}
use Rattle.net.specs.AtHand.{Drawn, AtHand}
use Rattle.theory.specs.congestion.Sums.{lt-or-ge}
use Rattle.theory.specs.links.Reach.{lo_of, hi_of}
use Rattle.theory.specs.walk.Ways.{way?, way_edge}
use Rattle.ways.specs.Ends.{ends_after, ends-forth, ends-back, ends-pins, ends-fit, after-long, after-fits}
use Rattle.ways.specs.Entry.{start_of, edge_of, Placed, placed}
use Rattle.netread.specs.Edges.{Elsewhere, both_after, EdgeMarked, net_with, EdgesMarked}
use Rattle.netread.specs.Ways.{mark_on, mark-back, start-way}
use Rattle.netread.specs.declared.Again.{Again}

-- ---- elsewhere

pub elsewhere-same : (g : Shape) (w : List ℕ) → Elsewhere g w w
elsewhere-same g w = record { long = refl; low = λ i h. refl; between = λ i h k. refl; high = λ i h. refl }

pub elsewhere-then : (g : Shape) (w w' w'' : List ℕ) → Elsewhere g w w' → Elsewhere g w' w'' → Elsewhere g w w''
elsewhere-then g w w' w'' o p = record {
  long = p.long ∙ o.long;
  low = λ i h. p.low i h ∙ o.low i h;
  between = λ i h k. p.between i h k ∙ o.between i h k;
  high = λ i h. p.high i h ∙ o.high i h;
}

-- only the marks have changed
pub elsewhere-marks : (g : Shape) (w w' : List ℕ) → Outside (tiles_at g) g.t w w' → Elsewhere g w w'
elsewhere-marks g w w' o = record { long = o.long; low = o.low; between = λ i h k. o.high i h; high = λ i h. o.high i (omega arith) }

-- only a number of the list has
pub elsewhere-list : (g : Shape) (w : List ℕ) (i v : ℕ) → i < 2 * g.t → Elsewhere g w (set w (list_at g + i) v)
elsewhere-list g w i v h =
    let o = set-outside w (list_at g + i) v in
    record {
      long = o.long;
      low = λ k b. o.low k (omega arith);
      between = λ k a b. o.low k (omega arith);
      high = λ k b. o.high k (omega arith);
    }

-- ---- one element more at the end of a list

has_more : (xs : List ℕ) (x a : ℕ) → has (xs ++ (x ∷ [])) a ≡ (eqb a x || has xs a)
has_more [] x a = go (eqb a x)
  where
    go : (q : Bool) → cond q true false ≡ (q || false)
    go true = refl
    go false = refl
has_more (y ∷ xs) x a = rw (has_more xs x a) (go (eqb a y) (eqb a x))
  where
    go : (p q : Bool) → cond p true (q || has xs a) ≡ (q || cond p true (has xs a))
    go true true = refl
    go true false = refl
    go false q = refl

pub lowest-more : (f : ℕ → ℕ) (a : ℕ) (xs : List ℕ) (x : ℕ) → lowest_from a (map f (xs ++ (x ∷ []))) ≡ min (lowest_from a (map f xs)) (f x)
lowest-more f a [] x = refl
lowest-more f a (y ∷ xs) x = lowest-more f (min a (f y)) xs x

-- ---- one edge more

-- an edge that was not marked, marked in both of its tiles
both_ends : (n : ℕ) (a : List ℕ) (here there d : ℕ) → marked n a here (8 + d) ≡ false → both_after n a here there d ≡ ends_after n a here there d
unfolding marks_after ends_after
both_ends n a here there d e = rw e

-- a way that is the new edge, or one of those before
either : (a b c : Bool) → ((a && b) || (a && c)) ≡ (a && (b || c))
either true b c = refl
either false b c = refl

-- marked by tile: a are the words before, and a' those after
module _ (g : Shape) (shaped : Shaped g) (n : ℕ) (ps : List Pin) (es : List ℕ) (a a' : List ℕ) (long : length a ≡ g.t) (t : Triple) (inside : edge_inside g.w g.h t ≡ true)
    (way : t.third ≤ 1) (new : has es (edge_of g t) ≡ false) (marks : a' ≡ both_after n a (start_of g t) (hi_of g.w g.h (edge_of g t)) t.third)
    (drawn : Drawn g n ps es a) where
  abbrev here : ℕ
  here = start_of g t

  abbrev there : ℕ
  there = hi_of g.w g.h (edge_of g t)

  at : Placed g t
  at = placed g shaped t inside way

  here_in : start_of g t < length a
  here_in = omega (arith, at.start_in)

  there-in : hi_of g.w g.h (edge_of g t) < length a
  there-in = omega (arith, at.end_in)

  unmarked : marked n a (start_of g t) (8 + t.third) ≡ false
  unmarked =
      drawn.ways here t.third at.start_in (omega arith)
      ∙ ap (λ (e : ℕ). way? g.w g.h here t.third && has es e) (start-way g shaped t inside way)
      ∙ ap (λ (b : Bool). way? g.w g.h here t.third && b) new
      ∙ none (way? g.w g.h here t.third)
    where
      none : (b : Bool) → (b && false) ≡ false
      none true = refl
      none false = refl

  marks-are : a' ≡ ends_after n a (start_of g t) (hi_of g.w g.h (edge_of g t)) t.third
  marks-are = marks ∙ both_ends n a here there t.third unmarked

  -- a way on
  ways_on : (u k : ℕ) → u < g.t → k ≤ 1
      → marked n a' u (8 + k) ≡ (way? g.w g.h u k && has (es ++ (edge_of g t ∷ [])) (way_edge g.w g.h u k))
  ways_on u k b h =
      ap (λ (l : List ℕ). marked n l u (8 + k)) marks-are
      ∙ ends-forth n a here there t.third here_in there-in way unmarked u k h
      ∙ ap₂ (λ (p q : Bool). p || q) (mark_on g shaped t inside way u k b h) (drawn.ways u k b (omega arith))
      ∙ either (way? g.w g.h u k) (eqb (way_edge g.w g.h u k) (edge_of g t)) (has es (way_edge g.w g.h u k))
      ∙ ap (λ (q : Bool). way? g.w g.h u k && q) (sym (has_more es (edge_of g t) (way_edge g.w g.h u k)))

  -- a way back
  ways-back : (u k : ℕ) → u < g.t → k ≤ 1
      → marked n a' u (10 + k) ≡ (way? g.w g.h u (2 + k) && has (es ++ (edge_of g t ∷ [])) (way_edge g.w g.h u (2 + k)))
  ways-back u k b h =
      let e : 10 + k ≡ 8 + (2 + k) = omega arith in
      ap (λ (l : List ℕ). marked n l u (10 + k)) marks-are
      ∙ ends-back n a here there t.third here_in there-in way unmarked u k h
      ∙ ap₂ (λ (p q : Bool). p || q) (mark-back g shaped t inside way u k b h) (ap (marked n a u) e ∙ drawn.ways u (2 + k) b (omega arith))
      ∙ either (way? g.w g.h u (2 + k)) (eqb (way_edge g.w g.h u (2 + k)) (edge_of g t)) (has es (way_edge g.w g.h u (2 + k)))
      ∙ ap (λ (q : Bool). way? g.w g.h u (2 + k) && q) (sym (has_more es (edge_of g t) (way_edge g.w g.h u (2 + k))))

  ways-all : (u d : ℕ) → u < g.t → d < 4
      → marked n a' u (8 + d) ≡ (way? g.w g.h u d && has (es ++ (edge_of g t ∷ [])) (way_edge g.w g.h u d))
  ways-all u zero b h = ways_on u 0 b (omega arith)
  ways-all u (suc zero) b h = ways_on u 1 b (omega arith)
  ways-all u (suc (suc zero)) b h = ways-back u 0 b (omega arith)
  ways-all u (suc (suc (suc zero))) b h = ways-back u 1 b (omega arith)
  ways-all u (suc (suc (suc (suc d)))) b h = absurd (omega arith)

  pub drawn-more : Drawn g n ps (es ++ (edge_of g t ∷ [])) a'
  drawn-more = record {
    fits = rw marks-are (ends-fit n a here there t.third here_in there-in way unmarked drawn.fits);
    pins = λ u l b i h.
        ap (λ (x : List ℕ). marked n x u (l - 1)) marks-are
        ∙ ends-pins n a here there t.third here_in there-in way unmarked u (l - 1) (omega arith)
        ∙ drawn.pins u l b i h;
    ways = ways-all;
  }

-- and listed
module _ (g : Shape) (shaped : Shaped g) (n : ℕ) (es : List ℕ) (w w' : List ℕ) (room : areas_end g ≤ length w) (t : Triple) (inside : edge_inside g.w g.h t ≡ true)
    (way : t.third ≤ 1) (new : has es (edge_of g t) ≡ false) (v r : Again) (one : EdgeMarked g n t v w w' r) (counted : v.entries ≡ length es) where
  tiles-long : length (tiles_of g w) ≡ g.t
  tiles-long = part-long (tiles_at g) g.t w (omega arith)

  module _ (ps : List Pin) (hand : AtHand g n (net_with ps es) w) where
    list_all : (i : ℕ) → i < length (es ++ (edge_of g t ∷ [])) → get_or w' (list_at g + i) 0 ≡ get_or (es ++ (edge_of g t ∷ [])) i 0
    list_all i h = ⊎_elim before last (lt-or-ge i (length es))
      where
        before : i < length es → get_or w' (list_at g + i) 0 ≡ get_or (es ++ (edge_of g t ∷ [])) i 0
        before b = one.others i (omega arith) ∙ hand.list i b ∙ sym (get_or-append es (edge_of g t ∷ []) 0 i b)

        last : length es ≤ i → get_or w' (list_at g + i) 0 ≡ get_or (es ++ (edge_of g t ∷ [])) i 0
        last b =
            let e : i ≡ length es = omega (arith, length-append es (edge_of g t ∷ [])) in
            ap (λ (k : ℕ). get_or w' (list_at g + k) 0) (e ∙ sym counted)
            ∙ one.listed
            ∙ sym (get_or-append_seam es (edge_of g t) [] 0)
            ∙ ap (λ (k : ℕ). get_or (es ++ (edge_of g t ∷ [])) k 0) (sym e)

    hand-more : AtHand g n (net_with ps (es ++ (edge_of g t ∷ []))) w'
    hand-more = record {
      drawn = drawn-more g shaped n ps es (tiles_of g w) (tiles_of g w') tiles-long t inside way new one.marks hand.drawn;
      list = list_all;
    }

  pub fits_more : Fits n (tiles_of g w) → Fits n (tiles_of g w')
  fits_more f =
      let p = placed g shaped t inside way in
      rw one.marks (
      after-fits n (marks_after n (tiles_of g w) (start_of g t) (8 + t.third)) (hi_of g.w g.h (edge_of g t)) (10 + t.third)
      (omega (arith, p.end_in, tiles-long, after-long n (tiles_of g w) (start_of g t) (8 + t.third))) (omega arith)
      (after-fits n (tiles_of g w) (start_of g t) (8 + t.third) (omega (arith, tiles-long, p.start_in)) (omega arith) f)
      )

  pub edges_more : (low : ℕ) (w₀ : List ℕ) → EdgesMarked g n low es w₀ w v → EdgesMarked g n low (es ++ (edge_of g t ∷ [])) w₀ w' r
  edges_more low w₀ m = record {
    hand = λ ps h. hand-more ps (m.hand ps h);
    count = omega (arith, one.count, length-append es (edge_of g t ∷ []));
    lowest = one.lowest ∙ ap₂ min m.lowest (sym (placed g shaped t inside way).starts) ∙ sym (lowest-more (lo_of g.w g.h) low es (edge_of g t));
    elsewhere = elsewhere-then g w₀ w w' m.elsewhere one.elsewhere;
  }

-- no edge yet
pub edges-start : (g : Shape) (n low : ℕ) (w : List ℕ) → EdgesMarked g n low [] w w (record { low = low; entries = 0 })
edges-start g n low w = record { hand = λ ps h. h; count = refl; lowest = refl; elsewhere = elsewhere-same g w }
