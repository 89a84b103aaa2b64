-- `drop_entries` meets its contract. The loop's invariant: the entries that came are taken out where they are not marked.
-- Assumes nothing.
use Rattle.known.specs.Taken.{Taking}
use Rattle.cut.specs.Dropped.{Dropping}
use Rattle.cut.proofs.drop_entries.Given as goal

abbrev pub invariant-loop-e : goal.invariant-loop-e
invariant-loop-e l = Taking l.s l.g l.at l.e-iterator (λ xs. Dropping l.g l.stamp xs l.initial.w l.w l.dropped)
