-- `mark_entries` meets its contract. The loop's invariant: the edges that came are marked and listed.
-- Assumes nothing.
use Rattle.known.specs.Taken.{Taking}
use Rattle.netread.specs.Edges.{EdgesGoing}
use Rattle.netread.proofs.mark_entries.Given as goal

abbrev pub invariant-loop-e : goal.invariant-loop-e
invariant-loop-e l = Taking l.s l.g l.at l.e-iterator (EdgesGoing l.g l.stamp l.low l.initial.w l.w l.v)
