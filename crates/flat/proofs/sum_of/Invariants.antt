-- `sum_of` meets its contract. The loop's invariant: what was summed is the sum of the first numbers.
-- Assumes nothing.
use mathlib.Core.Path.{◌≡◌}
use Prim.Native.Nat.{◌*◌, ◌≤◌}
use Rattle.model.specs.Limits.{most_capacity}
use Rattle.flat.specs.FlatPlan.{sum_at}
use Rattle.flat.proofs.sum_of.Given as goal

abbrev pub invariant-loop-capacity : goal.invariant-loop-capacity
invariant-loop-capacity l = (l.capacity-index ≤ l.k) × (l.sum ≤ most_capacity * l.capacity-index) × (l.sum ≡ sum_at l.at l.capacity-index l.w)
