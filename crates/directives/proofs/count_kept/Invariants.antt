-- `count_kept` meets its contract. The loop's invariant: of the entries that came those are counted that are marked.
-- Assumes nothing.
use Rattle.known.specs.Taken.{Taking}
use Rattle.directives.specs.Counting.{KeptCounted}
use Rattle.directives.proofs.count_kept.Given as goal

abbrev pub invariant-loop-e : goal.invariant-loop-e
invariant-loop-e l = Taking l.s l.g l.at l.e-iterator (λ xs. KeptCounted l.g l.low l.stamp l.initial.w xs l.w)
