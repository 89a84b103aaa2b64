-- `interval_costs` meets its contract. The loop's invariant: c has the least cost of the intervals that start below s.
-- Assumes nothing.
use Prim.Native.Nat.{◌-◌, ◌≤◌}
use Rattle.costs.specs.Rows.{Eight}
use Rattle.costs.specs.Intervals.{around}
use Rattle.costs.proofs.interval_costs.Given as goal

abbrev pub invariant-loop-s : goal.invariant-loop-s
invariant-loop-s l = (l.s ≤ l.starts) × Eight l.c (around l.w l.b.rows l.b.first l.b.count l.layers l.s l.high) 0 l.layers

abbrev pub decreases-loop-s : goal.decreases-loop-s
decreases-loop-s l = l.starts - l.s
