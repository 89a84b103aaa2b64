-- `put_legal` meets its contract. The loop's invariant: the masks of the places before i stand, and the rest is as it was.
-- Assumes nothing.
use Prim.Native.Nat.{◌-◌, ◌≤◌}
use Rattle.turn.proofs.Masks.{Masking}
use Rattle.flat.specs.Limited.{limit_at}
use Rattle.turn.proofs.put_legal.Given as goal

abbrev pub invariant-loop-i : goal.invariant-loop-i
invariant-loop-i l = (1 ≤ l.i) × (l.i ≤ l.n) × Masking l.g l.above l.masks (limit_at l.limits) l.initial.w l.w l.i

abbrev pub decreases-loop-i : goal.decreases-loop-i
decreases-loop-i l = l.n - l.i
