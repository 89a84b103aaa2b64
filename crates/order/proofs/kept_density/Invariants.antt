-- `kept_density` meets its contract. The loop's invariant: of the entries that came those are summed that are marked.
-- Assumes nothing.
use Rattle.known.specs.Taken.{Taking}
use Rattle.order.specs.Sums.{KeptSums}
use Rattle.order.proofs.kept_density.Given as goal

abbrev pub invariant-loop-e : goal.invariant-loop-e
invariant-loop-e l = Taking l.s l.g l.at l.e-iterator (λ es. KeptSums l.g l.stamp l.w es l.v)
