-- `any_low` meets its contract. The loop's invariant: none of the first i nets has a line `low`.
-- Assumes nothing.
use mathlib.Core.Path.{◌≡◌}
use Prim.Native.Nat.{◌-◌, ◌≤◌}
use lib.Dec.{ltb}
use Rattle.layout.specs.Table.{low_in}
use Rattle.model.specs.Lists.{up_from, any}
use Rattle.directives.specs.Counts.{any_low}
use Rattle.directives.proofs.any_low.Given as goal

abbrev pub invariant-loop-i : goal.invariant-loop-i
invariant-loop-i l = (l.i ≤ l.n) × (any_low l.table l.n ≡ any (λ i. ltb 0 (low_in l.table i)) (up_from l.i (l.n - l.i)))
