-- `put_answer` meets its contract. The loop's invariant: the first i layers are written.
-- Assumes nothing.
use Prim.Native.Nat.{◌≤◌}
use lib.ListN.{length}
use Rattle.turn.proofs.Answer.{Answering}
use Rattle.turn.proofs.put_answer.Given as goal

abbrev pub invariant-loop-i : goal.invariant-loop-i
invariant-loop-i l = (l.i ≤ length l.initial.out) × Answering l.list l.chosen l.w l.initial.out l.out l.i
