-- The entries that a net does not keep, taken out of the flat demand.
-- Assumes nothing.
use Rattle.std.specs.Prelude.{Bool, true, false, not, cond, List, [], ◌∷◌, ◌++◌, ◌⊎◌, ◌≢◌, ◌≡◌, refl, ℕ, suc, ◌+◌, ◌-◌, ◌≤◌, ◌<◌, length, get_or, set}
use Rattle.std.proofs.Common.{append-nil, inl, inr, sym, ap, subst, ◌∙◌, arith, length-append, get_or-set_same, get_or-set_other}
use Rattle.layout.specs.Areas.{demand_at, tiles_at, links_at, tiles_of, links_of}
use Rattle.layout.specs.Parts.{part-outside, Outside, set-outside, outside_wider, outside-then, outside-same}
use Rattle.layout.specs.Shapes.{Shaped}
use Rattle.layout.specs.declared.shape.Shape.{Shape}
use Rattle.marks.specs.Marks.{Older}
use Rattle.model.specs.Job.{Pin, Net}
use Rattle.model.specs.Lists.{has, keep, occurs}
use Rattle.net.specs.AtHand.{Drawn}
use Rattle.net.specs.Dropped.{kept-in-order}
use Rattle.net.specs.Table.{EdgesAt}
use Rattle.theory.specs.congestion.Sums.{In, same, same_cases, keep-few}
use Rattle.theory.specs.congestion.Tests.{has-none}
use Rattle.theory.specs.cutting.Prune.{keep-occurs}
use Rattle.theory.specs.walk.Stops.{occurs-append}
use Rattle.cut.specs.Again.{keep-end}
use Rattle.cut.specs.Net.{RingAt, CutMarked}

-- the entries that are none of the edges es
abbrev pub dropped_of : List ℕ → List ℕ → List ℕ
dropped_of es xs = keep (λ x. not (has es x)) xs

-- w' is w with the entries xs that are none of the edges es taken out of the demand; they are r
pub record Uncounted (g : Shape) (es xs : List ℕ) (w w' : List ℕ) (r : ℕ) : Type 0 where
  pub demand : (e : ℕ) → e < g.e → get_or w' (demand_at g + e) 0 + occurs e (dropped_of es xs) ≡ get_or w (demand_at g + e) 0
  pub count : r ≡ length (dropped_of es xs)
  pub out : Outside (demand_at g) g.e w w'

pub uncounted-none : (g : Shape) (es w : List ℕ) → Uncounted g es [] w w 0
uncounted-none g es w = record { demand = λ e h. omega arith; count = refl; out = outside-same (demand_at g) g.e w }

-- some pins and edges are marked
pub record MarkedSome (g : Shape) (n : ℕ) (a : List ℕ) : Type 0 where
  pub pins : List Pin
  pub edges : List ℕ
  pub drawn : Drawn g n pins edges a

-- each entry of the line at p is counted in the demand
pub record EntriesCounted (s : List ℕ) (g : Shape) (p : ℕ) (w : List ℕ) : Type 0 where
  pub net : Net
  pub edges : EdgesAt s g.w g.h p net
  pub counted : (e : ℕ) → In e net.entries → 1 ≤ get_or w (demand_at g + e) 0

-- whatever edges are marked, the entries xs that are none of them are taken out of the demand
abbrev pub Dropping : Shape → ℕ → List ℕ → List ℕ → List ℕ → ℕ → Type 0
Dropping g n xs w w' r = (ps : List Pin) (es : List ℕ) → Drawn g n ps es (tiles_of g w) → Uncounted g es xs w w' r

-- the marks are as they were
pub tiles-kept : (g : Shape) (w w' : List ℕ) → Outside (demand_at g) g.e w w' → tiles_of g w' ≡ tiles_of g w
tiles-kept g w w' out = part-outside (demand_at g) g.e w w' out (tiles_at g) g.t (inr (omega arith))

-- ---- one entry more

dropped-more : (es xs : List ℕ) (x : ℕ) → dropped_of es (xs ++ (x ∷ [])) ≡ dropped_of es xs ++ cond (has es x) [] (x ∷ [])
dropped-more es xs x = keep-end (λ y. not (has es y)) xs x ∙ ap (λ (l : List ℕ). dropped_of es xs ++ l) (go (has es x))
  where
    go : (q : Bool) → cond (not q) (x ∷ []) [] ≡ cond q [] (x ∷ [])
    go true = refl
    go false = refl

module _ (g : Shape) (es xs : List ℕ) (w₀ w : List ℕ) (r : ℕ) (so_far : Uncounted g es xs w₀ w r) (x : ℕ) where
  -- it is kept
  pub uncounted-keeps : has es x ≡ true → Uncounted g es (xs ++ (x ∷ [])) w₀ w r
  uncounted-keeps h =
      let k : dropped_of es (xs ++ (x ∷ [])) ≡ dropped_of es xs = dropped-more es xs x ∙ ap (λ (q : Bool). dropped_of es xs ++ cond q [] (x ∷ [])) h ∙ append-nil (dropped_of es xs) in
      record {
        demand = λ e i. ap (λ (l : List ℕ). get_or w (demand_at g + e) 0 + occurs e l) k ∙ so_far.demand e i;
        count = so_far.count ∙ ap length (sym k);
        out = so_far.out;
      }

  -- or taken out
  pub uncounted-drops : has es x ≡ false → x < g.e → demand_at g + x < length w → 1 ≤ get_or w (demand_at g + x) 0
      → Uncounted g es (xs ++ (x ∷ [])) w₀ (set w (demand_at g + x) (get_or w (demand_at g + x) 0 - 1)) (r + 1)
  uncounted-drops h known room one =
      let k : dropped_of es (xs ++ (x ∷ [])) ≡ dropped_of es xs ++ (x ∷ []) = dropped-more es xs x ∙ ap (λ (q : Bool). dropped_of es xs ++ cond q [] (x ∷ [])) h in
      record {
        demand = λ e i. ap (λ (l : List ℕ). get_or w' (demand_at g + e) 0 + occurs e l) k ∙ each e i (same_cases e x);
        count = omega (arith, so_far.count, ap length k, length-append (dropped_of es xs) (x ∷ []));
        out = outside-then (demand_at g) g.e w₀ w w' so_far.out
            (outside_wider (demand_at g + x) 1 (demand_at g) g.e w w' (set-outside w (demand_at g + x) (get_or w (demand_at g + x) 0 - 1)) (omega arith) (omega arith));
      }
    where
      w' : List ℕ
      w' = set w (demand_at g + x) (get_or w (demand_at g + x) 0 - 1)

      each : (e : ℕ) → e < g.e → ((e ≡ x) × (same e x ≡ 1)) ⊎ ((e ≢ x) × (same e x ≡ 0)) → get_or w' (demand_at g + e) 0 + occurs e (dropped_of es xs ++ (x ∷ [])) ≡ get_or w₀ (demand_at g + e) 0
      each e i (inl s) =
          let z : get_or w' (demand_at g + e) 0 ≡ get_or w (demand_at g + x) 0 - 1 = ap (λ (j : ℕ). get_or w' (demand_at g + j) 0) s.0 ∙ get_or-set_same w (demand_at g + x) (get_or w (demand_at g + x) 0 - 1) 0 room in
          let y : get_or w (demand_at g + e) 0 ≡ get_or w (demand_at g + x) 0 = ap (λ (j : ℕ). get_or w (demand_at g + j) 0) s.0 in
          omega (arith, z, y, s.1, occurs-append e (dropped_of es xs) (x ∷ []), so_far.demand e i, one)
      each e i (inr s) =
          let z : get_or w' (demand_at g + e) 0 ≡ get_or w (demand_at g + e) 0 = get_or-set_other w (demand_at g + x) (demand_at g + e) (get_or w (demand_at g + x) 0 - 1) 0 (λ q. s.0 (omega (arith, q))) in
          omega (arith, z, s.1, occurs-append e (dropped_of es xs) (x ∷ []), so_far.demand e i)

  -- an edge that is not among those before has its demand still
  pub still-counted : has xs x ≡ false → x < g.e → get_or w (demand_at g + x) 0 ≡ get_or w₀ (demand_at g + x) 0
  still-counted h known = omega (arith, so_far.demand x known, keep-few (λ y. not (has es y)) x xs, has-none xs x h)

-- ---- all entries of a net with a ring

-- what is kept of a list and what is not are all of it
split-occurs : (p : ℕ → Bool) (a : ℕ) (xs : List ℕ) → occurs a (keep p xs) + occurs a (keep (λ x. not (p x)) xs) ≡ occurs a xs
split-occurs p a xs = go (p a) (keep-occurs p a xs) (keep-occurs (λ x. not (p x)) a xs)
  where
    go : (q : Bool) → occurs a (keep p xs) ≡ cond q (occurs a xs) 0 → occurs a (keep (λ x. not (p x)) xs) ≡ cond (not q) (occurs a xs) 0
        → occurs a (keep p xs) + occurs a (keep (λ x. not (p x)) xs) ≡ occurs a xs
    go true e f = omega (arith, e, f)
    go false e f = omega (arith, e, f)

split-length : (p : ℕ → Bool) (xs : List ℕ) → length (keep p xs) + length (keep (λ x. not (p x)) xs) ≡ length xs
split-length p [] = refl
split-length p (x ∷ xs) = go (p x) (split-length p xs)
  where
    go : (q : Bool) → length (keep p xs) + length (keep (λ y. not (p y)) xs) ≡ length xs
        → length (cond q (x ∷ keep p xs) (keep p xs)) + length (cond (not q) (x ∷ keep (λ y. not (p y)) xs) (keep (λ y. not (p y)) xs)) ≡ suc (length xs)
    go true e = omega (arith, e)
    go false e = omega (arith, e)

-- the lines of some net that has a ring stand at p and q, and its entries are counted
pub record RingCounted (s : List ℕ) (g : Shape) (p q : ℕ) (w : List ℕ) : Type 0 where
  pub net : Net
  pub lines : RingAt s g p q net
  pub counted : (e : ℕ) → In e net.entries → 1 ≤ get_or w (demand_at g + e) 0

-- The rings of the net are cut: its dropped entries, r of them, are taken out of the demand, and its marks and links have stamp n.
pub record CutDone (g : Shape) (n : ℕ) (net : Net) (w w' : List ℕ) (r : ℕ) : Type 0 where
  pub long : length w' ≡ length w
  pub low : (k : ℕ) → k < demand_at g → get_or w' k 0 ≡ get_or w k 0
  pub demand : (e : ℕ) → e < g.e → get_or w' (demand_at g + e) 0 + occurs e net.entries ≡ get_or w (demand_at g + e) 0 + occurs e net.edges
  pub marks : Older (n + 1) (tiles_of g w')
  pub links : Older (n + 1) (links_of g w')
  pub count : r + length net.edges ≡ length net.entries

module _ (s : List ℕ) (g : Shape) (shaped : Shaped g) (p q : ℕ) (n : ℕ) (net : Net) (at : RingAt s g p q net) (w w₁ : List ℕ) (low : ℕ) (marked : CutMarked g n net w w₁ low) where
  -- the demand is as it was
  demand-same : (e : ℕ) → e < g.e → get_or w₁ (demand_at g + e) 0 ≡ get_or w (demand_at g + e) 0
  demand-same e h = marked.around.low (demand_at g + e) (omega arith)

  pub still-counting : ((e : ℕ) → In e net.entries → 1 ≤ get_or w (demand_at g + e) 0) → EntriesCounted s g q w₁
  still-counting counted = record {
    net = net;
    edges = at.edges;
    counted = λ e i. omega (arith, counted e i, demand-same e (omega (arith, at.ok.entries_known e i, shaped.e_is)));
  }

  edges_are : keep (has net.edges) net.entries ≡ net.edges
  edges_are = kept-in-order g.w g.h g.k net at.ok

  module _ (w₂ : List ℕ) (r : ℕ) (dropping : Dropping g n net.entries w₁ w₂ r) where
    gone : Uncounted g net.edges net.entries w₁ w₂ r
    gone = dropping net.pins net.edges marked.drawn

    pub cut-done : CutDone g n net w w₂ r
    cut-done = record {
      long = gone.out.long ∙ marked.around.long;
      low = λ k h. gone.out.low k h ∙ marked.around.low k (omega arith);
      demand = λ e h. omega (arith, gone.demand e h, demand-same e h, ap (occurs e) edges_are, split-occurs (has net.edges) e net.entries);
      marks = subst (Older (n + 1)) (sym (tiles-kept g w₁ w₂ gone.out)) marked.drawn.fits;
      links = subst (Older (n + 1)) (sym (part-outside (demand_at g) g.e w₁ w₂ gone.out (links_at g) g.t (inr (omega arith)))) marked.links;
      count = omega (arith, gone.count, ap length edges_are, split-length (has net.edges) net.entries);
    }
