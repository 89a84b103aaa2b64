-- `vias_from` meets its contract.
-- Assumes nothing.
use Prim.Native.Nat.{◌-◌, ◌≤◌}
use Rattle.costs.specs.Rows.{Eight}
use Rattle.costs.proofs.vias_from.Given as goal

abbrev pub invariant-loop-b : goal.invariant-loop-b
invariant-loop-b l = (l.s ≤ l.b) × Eight l.v (λ t. t - l.s) l.s l.b

abbrev pub decreases-loop-b : goal.decreases-loop-b
decreases-loop-b l = l.layers - l.b
