-- `strip_from` meets its contract. The loop's invariant: the strip has come to the tile at hand, and goes on from there by at most `left` edges.
-- Assumes nothing.
use Rattle.cut.proofs.Turns.{Going}
use Rattle.cut.proofs.strip_from.Given as goal

abbrev pub invariant-loop-left : goal.invariant-loop-left
invariant-loop-left l = Going l.g l.stamp l.t l.initial.a l.a l.here l.left
