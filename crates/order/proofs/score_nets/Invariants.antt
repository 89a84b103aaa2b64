-- `score_nets` meets its contract. The loop's invariant: the first i scores are stored, the other rows still have the tiles of their pins, and the marks and the
-- links are of the first i stamps; n - i falls.
-- Assumes nothing.
use Prim.Native.Nat.{◌-◌}
use Rattle.order.proofs.Scoring.{Scoring}
use Rattle.order.proofs.score_nets.Given as goal

abbrev pub invariant-loop-i : goal.invariant-loop-i
invariant-loop-i l = Scoring l.s l.g l.a l.initial.w l.initial.table l.n l.w l.table l.i

abbrev pub decreases-loop-i : goal.decreases-loop-i
decreases-loop-i l = l.n - l.i
