-- `entries_density` meets its contract. The loop's invariant: the entries that came are summed.
-- Assumes nothing.
use Rattle.known.specs.Taken.{Taking}
use Rattle.order.specs.Sums.{Sums}
use Rattle.order.proofs.entries_density.Given as goal

abbrev pub invariant-loop-e : goal.invariant-loop-e
invariant-loop-e l = Taking l.s l.g l.at l.e-iterator (λ es. Sums l.g l.w es l.v)
