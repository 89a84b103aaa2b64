-- `entries` meets its contract. The loop's invariant: what was read so far leads from the first run's end to the one at hand.
-- Assumes nothing.
use Rattle.capacities.specs.Ran.{Ran}
use Rattle.capacities.proofs.entries.Given as goal

abbrev pub invariant-loop-r : goal.invariant-loop-r
invariant-loop-r l = Ran l.s l.to.k l.initial.w l.initial.r l.w l.r

abbrev pub decreases-loop-r : goal.decreases-loop-r
decreases-loop-r l = l.r.left
