-- `strip_entries` meets its contract. The loop's invariant: the tiles of the entries that came were stripped from.
-- Assumes nothing.
use Rattle.known.specs.Taken.{Taking}
use Rattle.cut.specs.Strips.{both_tiles, Stripped}
use Rattle.cut.proofs.strip_entries.Given as goal

abbrev pub invariant-loop-e : goal.invariant-loop-e
invariant-loop-e l = Taking l.s l.g l.at l.e-iterator (λ es. Stripped l.g l.stamp (both_tiles l.g es) l.initial.a l.a)
