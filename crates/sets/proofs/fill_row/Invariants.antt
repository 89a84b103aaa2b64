-- The loop of `fill_row`: the first i numbers of the row are written.
-- Assumes nothing.
use Rattle.sets.specs.Mask.{Rowed}
use Rattle.sets.proofs.fill_row.Given as goal

abbrev pub invariant-loop-i : goal.invariant-loop-i
invariant-loop-i l = Rowed l.fn.row l.r l.i l.initial.spans l.spans
