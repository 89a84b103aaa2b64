-- `count_entries` meets its contract. The loop's invariant: the entries that came are counted.
-- Assumes nothing.
use Rattle.known.specs.Taken.{Taking}
use Rattle.directives.specs.Counting.{AllCounted}
use Rattle.directives.proofs.count_entries.Given as goal

abbrev pub invariant-loop-e : goal.invariant-loop-e
invariant-loop-e l = Taking l.s l.g l.at l.e-iterator (λ xs. AllCounted l.g l.low l.initial.w xs l.w)
