-- The loop of `Chart::new`: the rows pass the test of the whole chart, which is computed before it, and the sets of the first r rows have their vias.
-- Assumes nothing.
use mathlib.Core.Path.{◌≡◌}
use Prim.Native.Nat.{ℕ, ◌*◌, ◌<◌}
use lib.Dec.{T}
use lib.ListN.{get_or, length}
use Rattle.sets.specs.Computed.{all}
use Rattle.sets.specs.Mask.{span_of, right}
use Rattle.sets.proofs.Chart.new.Given as goal

abbrev pub invariant-loop-r : goal.invariant-loop-r
invariant-loop-r l = T (all (right l.rows) 256) × (length l.spans ≡ 256) × ((t : ℕ) → t < 16 * l.r → get_or l.spans t 0 ≡ span_of t)
