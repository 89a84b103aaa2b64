-- `edge_excess` meets its contract. The loop's invariant: the layers above t are done (`Falling.antt`).
-- Assumes nothing.
use Rattle.directives.proofs.Falling.{Falling}
use Rattle.directives.proofs.edge_excess.Given as goal

abbrev pub invariant-loop-t : goal.invariant-loop-t
invariant-loop-t l = Falling l.w l.caps l.needs l.fn.g.k l.room l.served l.excess l.t
