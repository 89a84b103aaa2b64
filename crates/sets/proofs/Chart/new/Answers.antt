-- `Chart::new` meets its contract: the rows pass the test of the whole chart, which is computed before the loop.
-- Assumes nothing.
use mathlib.Core.List.{List, []}
use mathlib.Core.Logic.{◌⊎◌, inl, inr}
use mathlib.Core.Path.{◌≡◌, refl, ◌∙◌}
use Prim.Native.Nat.{ℕ, ◌+◌, ◌*◌, ◌/◌, ◌%◌, ◌≤◌, ◌<◌}
use native.Mathlib.Omega.{arith}
use lib.Dec.{T}
use lib.ListN.{get_or}
use Rattle.theory.specs.congestion.Sums.{lt-or-ge}
use Rattle.sets.specs.Computed.{all}
use Rattle.sets.specs.Mask.{span_of, Rowed, right, chart-is}
use Rattle.sets.proofs.Chart.new.Goals as goal

-- one row more
row_more : (rows : List (List ℕ)) → T (all (right rows) 256) → (r : ℕ) (c d : List ℕ) → r < 16 → ((t : ℕ) → t < 16 * r → get_or c t 0 ≡ span_of t) → Rowed (get_or rows r []) r 16 c d
    → (t : ℕ) → t < 16 * (r + 1) → get_or d t 0 ≡ span_of t
row_more rows test r c d h p w t q = go (lt-or-ge t (16 * r))
  where
    go : (t < 16 * r) ⊎ (16 * r ≤ t) → get_or d t 0 ≡ span_of t
    go (inl k) = w.before t k ∙ p t k
    go (inr k) =
        let e : 16 * r + t % 16 ≡ t = omega arith in
        let f : t / 16 ≡ r = omega arith in
        let x : get_or d (16 * r + t % 16) 0 ≡ get_or (get_or rows (t / 16) []) (t % 16) 0 = rw f (w.written (t % 16) (omega arith)) in
        (rw e at x) ∙ chart-is rows test t (omega arith)

pub loop-r-init : goal.loop-r-init
unfolding right span_of
loop-r-init c =
    (tt, refl, λ t h. absurd (omega arith))

pub loop-r-preserved : goal.loop-r-preserved
loop-r-preserved c =
    let v = c.loop-r.invariant in
    let w = c.fill_row.ensures in
    (v.0, w.long ∙ v.1, row_more _ v.0 _ _ _ (omega arith) v.2 w)

pub invariant_of-result : goal.invariant_of-result
invariant_of-result c =
    record { charted = record { at = λ m h. c.loop-r.invariant.2 m (omega arith) } }
