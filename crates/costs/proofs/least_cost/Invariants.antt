-- `least_cost` meets its contract.
-- Assumes nothing.
use mathlib.Core.Path.{◌≡◌}
use Prim.Native.Nat.{◌-◌, ◌≤◌}
use lib.ListN.{get_or}
use Rattle.model.specs.Lists.{up_from}
use Rattle.theory.specs.engine.Interval.{least_in}
use Rattle.costs.specs.Rows.{illegal_cost}
use Rattle.costs.proofs.least_cost.Given as goal

abbrev pub invariant-loop-l : goal.invariant-loop-l
invariant-loop-l l = (l.l ≤ l.layers) × (l.least ≡ least_in illegal_cost (λ t. get_or l.c t 0) (up_from 0 l.l))

abbrev pub decreases-loop-l : goal.decreases-loop-l
decreases-loop-l l = l.layers - l.l
