-- `sum_excess` meets its contract. The loop's invariant: the excess of the first e edges is summed.
-- Assumes nothing.
use mathlib.Core.Path.{◌≡◌}
use Prim.Native.Nat.{◌-◌, ◌*◌, ◌≤◌}
use Rattle.model.specs.Limits.{most_nets}
use Rattle.model.specs.Lists.{up_from, sum}
use Rattle.directives.specs.Counts.{excess_in}
use Rattle.directives.proofs.sum_excess.Given as goal

abbrev pub invariant-loop-e : goal.invariant-loop-e
invariant-loop-e l = (l.e ≤ l.e-end) × (l.total ≡ sum (excess_in l.g l.w) (up_from 0 l.e)) × (l.total ≤ l.e * (8 * most_nets))

abbrev pub decreases-loop-e : goal.decreases-loop-e
decreases-loop-e l = l.e-end - l.e
