-- `brief_run` meets its contract. The loop's invariant: what was read so far leads from the first place to the one at hand.
-- Assumes nothing.
use Rattle.capacities.specs.Ran.{Ran}
use Rattle.capacities.proofs.brief_run.Given as goal

abbrev pub invariant-loop-left : goal.invariant-loop-left
invariant-loop-left l = Ran l.s l.k l.initial.w (record { at = l.initial.at; to = l.initial.to; left = l.initial.left; inside = l.initial.inside }) l.w (record { at = l.at; to = l.to; left = l.left; inside = l.inside })

abbrev pub decreases-loop-left : goal.decreases-loop-left
decreases-loop-left l = l.left
