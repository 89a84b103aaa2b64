-- `intervals_from` meets its contract. The loop's invariant: v has the costs of the intervals with the first c branches.
-- Assumes nothing.
use Prim.Native.Nat.{◌-◌, ◌≤◌}
use Rattle.costs.specs.Rows.{Eight}
use Rattle.costs.specs.Intervals.{interval}
use Rattle.costs.proofs.intervals_from.Given as goal

abbrev pub invariant-loop-c : goal.invariant-loop-c
invariant-loop-c l = (l.c ≤ l.b.count) × Eight l.v (interval l.w l.b.rows l.b.first l.c l.s) l.s l.layers

abbrev pub decreases-loop-c : goal.decreases-loop-c
decreases-loop-c l = l.b.count - l.c
