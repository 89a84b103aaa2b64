-- `flat_capacities` meets its contract. The loop's invariant: c(e) stands in its place for the first e edges, and the rest is as it was.
-- Assumes nothing.
use Prim.Native.Nat.{◌-◌, ◌≤◌}
use Rattle.flat.specs.FlatPlan.{capacity_sum}
use Rattle.layout.specs.Fill.{Filled}
use Rattle.flat.proofs.flat_capacities.Given as goal

abbrev pub invariant-loop-e : goal.invariant-loop-e
invariant-loop-e l = (l.e ≤ l.e-end) × Filled l.flat l.e (capacity_sum l.g l.initial.w) l.initial.w l.w

abbrev pub decreases-loop-e : goal.decreases-loop-e
decreases-loop-e l = l.e-end - l.e
