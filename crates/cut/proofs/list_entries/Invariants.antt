-- `list_entries` meets its contract. The loop's invariant: the entries that came are listed.
-- Assumes nothing.
use Rattle.known.specs.Taken.{Taking}
use Rattle.cut.specs.Listing.{Listing}
use Rattle.cut.proofs.list_entries.Given as goal

abbrev pub invariant-loop-e : goal.invariant-loop-e
invariant-loop-e l = Taking l.s l.g l.at l.e-iterator (λ xs. Listing l.g l.stamp xs l.low l.initial.w l.w l.v)
