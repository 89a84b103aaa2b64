-- `clear_chosen` meets its contract. The loop's invariant: nothing stands any more for the first i edges listed.
-- Assumes nothing.
use Prim.Native.Nat.{◌-◌, ◌≤◌}
use Rattle.turn.proofs.Answer.{Clearing}
use Rattle.turn.proofs.clear_chosen.Given as goal

-- the part of what is chosen by edge has g.t * 2 numbers; where it ends the list begins
abbrev pub invariant-loop-i : goal.invariant-loop-i
invariant-loop-i l = (l.i ≤ l.n) × Clearing l.list l.chosen (l.list - l.chosen) l.initial.w l.w l.i

abbrev pub decreases-loop-i : goal.decreases-loop-i
decreases-loop-i l = l.n - l.i
