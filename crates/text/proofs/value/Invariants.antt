-- `value` meets its contract: a loop over the digits.
-- The invariant: the value so far and the digits that are left spell the whole. As no digit is above 207, v + 23 grows at most tenfold (10 × 23 = 23 + 207), so five digits do not overflow.
-- Assumes nothing.
use mathlib.Core.Path.{◌≡◌}
use Prim.Native.Nat.{◌+◌, ◌*◌, ◌^◌, ◌≤◌}
use lib.ListN.{drop}
use Rattle.model.specs.Text.{value_from}
use Rattle.text.proofs.value.Given as goal

abbrev pub invariant-loop-b : goal.invariant-loop-b
invariant-loop-b l = (l.v + 23 ≤ 23 * 10 ^ l.b-index) × (value_from 0 l.b-items ≡ value_from l.v (drop l.b-index l.b-items))
