-- `most_of` meets its contract. The loop's invariant: what was found is the largest of the first numbers.
-- Assumes nothing.
use mathlib.Core.Path.{◌≡◌}
use Prim.Native.Nat.{◌≤◌}
use Rattle.flat.specs.FlatPlan.{most_at}
use Rattle.flat.proofs.most_of.Given as goal

abbrev pub invariant-loop-over : goal.invariant-loop-over
invariant-loop-over l = (l.over-index ≤ l.n) × (l.most ≡ most_at l.at l.over-index l.w)
