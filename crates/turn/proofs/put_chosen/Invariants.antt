-- `put_chosen` meets its contract. The loop's invariant: what is left of the net's edges, with their layers put from here, gives the whole answer.
-- Assumes nothing.
use Prim.Native.Nat.{◌-◌, ◌≤◌}
use Rattle.turn.proofs.Answer.{Putting}
use Rattle.turn.proofs.put_chosen.Given as goal

abbrev pub invariant-loop-i : goal.invariant-loop-i
invariant-loop-i l = (1 ≤ l.i) × Putting l.above l.layers l.chosen l.n l.initial.w l.w l.i

abbrev pub decreases-loop-i : goal.decreases-loop-i
decreases-loop-i l = l.n - l.i
