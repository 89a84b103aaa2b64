-- `union::root` meets its contract. The loop's invariant: tile t has the root of tile x, and no root changed. The measure is t.
-- Assumes nothing.
use Rattle.union.proofs.Words.{Searched}
use Rattle.union.proofs.root.Given as goal

abbrev pub invariant-loop-t : goal.invariant-loop-t
invariant-loop-t l = Searched l.stamp l.initial.a l.x l.a l.t

abbrev pub decreases-loop-t : goal.decreases-loop-t
decreases-loop-t l = l.t
