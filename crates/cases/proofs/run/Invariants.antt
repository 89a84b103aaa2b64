-- The lent storage keeps its lengths, and fewer texts are left.
use Rattle.std.proofs.Common.{◌≡◌, length}
use Rattle.cases.proofs.run.Given as goal

abbrev pub invariant-loop-left : goal.invariant-loop-left
invariant-loop-left g l = length l.table ≡ length l.initial.table

abbrev pub decreases-loop-left : goal.decreases-loop-left
decreases-loop-left g l = l.left
