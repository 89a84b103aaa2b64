-- `join_entries` meets its contract. The loop's invariant: the entries that came are joined.
-- Assumes nothing.
use Rattle.known.specs.Taken.{Taking}
use Rattle.cut.specs.Joining.{Joined}
use Rattle.cut.proofs.join_entries.Given as goal

abbrev pub invariant-loop-e : goal.invariant-loop-e
invariant-loop-e l = Taking l.s l.g l.at l.e-iterator (λ es. Joined l.g l.stamp es l.initial.w l.w)
