-- `one_way` meets its contract. The loop's invariant: the entries that are left say whether all go this way.
-- Assumes nothing.
use Prim.Native.Nat.{◌-◌}
use lib.ListN.{length}
use Rattle.edges.proofs.Again.{Left}
use Rattle.edges.proofs.one_way.Given as goal

abbrev pub invariant-loop-e : goal.invariant-loop-e
invariant-loop-e l = Left l.s l.way l.from l.i

abbrev pub decreases-loop-e : goal.decreases-loop-e
decreases-loop-e l = length l.s - l.i
