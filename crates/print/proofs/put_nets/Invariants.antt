-- `put_nets` meets its contract. The loop's invariant: the lines of the nets left, written from here, give the whole.
-- Assumes nothing.
use Prim.Native.Nat.{◌-◌, ◌≤◌}
use Rattle.print.specs.Texts.{nets_text}
use Rattle.put.specs.Wrote.{Left}
use Rattle.print.proofs.put_nets.Given as goal

abbrev pub invariant-loop-i : goal.invariant-loop-i
invariant-loop-i l = (l.i ≤ l.n) × Left l.initial.w (nets_text l.table l.answer 0 l.n) l.w (nets_text l.table l.answer l.i (l.n - l.i))

abbrev pub decreases-loop-i : goal.decreases-loop-i
decreases-loop-i l = l.n - l.i
