-- `add_branch` meets its contract. The loop's invariant: the ends from s up to b have their sum, and `least` is the least cost on the layers passed.
-- Assumes nothing.
use mathlib.Core.Path.{◌≡◌}
use Prim.Native.Nat.{◌-◌, ◌≤◌}
use Rattle.costs.specs.Intervals.{least_over}
use Rattle.costs.proofs.Steps.{AddedUpTo}
use Rattle.costs.proofs.add_branch.Given as goal

abbrev pub invariant-loop-b : goal.invariant-loop-b
invariant-loop-b l = (l.s ≤ l.b) × (l.least ≡ least_over l.w l.at l.s (l.b - l.s)) × AddedUpTo l.initial.v l.v l.w l.at l.layers l.s l.b

abbrev pub decreases-loop-b : goal.decreases-loop-b
decreases-loop-b l = l.layers - l.b
