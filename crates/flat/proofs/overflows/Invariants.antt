-- `overflows` meets its contract. The loop's invariant: o(e) stands in the place of d(e) for the first e edges, and total and most are theirs.
-- Assumes nothing.
use mathlib.Core.Path.{◌≡◌}
use Prim.Native.Nat.{◌-◌, ◌*◌, ◌≤◌}
use Rattle.model.specs.Limits.{most_nets}
use Rattle.model.specs.Lists as lists
use Rattle.flat.specs.FlatPlan.{over_in}
use Rattle.layout.specs.Fill.{Filled}
use Rattle.flat.proofs.overflows.Given as goal

abbrev pub invariant-loop-e : goal.invariant-loop-e
invariant-loop-e l = (l.e ≤ l.e-end) × Filled l.demand l.e (over_in l.demand l.flat l.initial.w) l.initial.w l.w × (l.total ≤ most_nets * l.e)
    × (l.total ≡ lists.sum (over_in l.demand l.flat l.initial.w) (lists.up_from 0 l.e)) × (l.most ≡ lists.most (over_in l.demand l.flat l.initial.w) (lists.up_from 0 l.e))

abbrev pub decreases-loop-e : goal.decreases-loop-e
decreases-loop-e l = l.e-end - l.e
