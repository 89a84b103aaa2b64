-- `letters` meets its contract. The loop's invariant: the letters before i are the digits of the mask, and with those that are left they are all k.
-- Assumes nothing.
use Prim.Native.Nat.{◌-◌}
use Rattle.dirs.proofs.Going.{Going}
use Rattle.dirs.proofs.letters.Given as goal

abbrev pub invariant-loop-i : goal.invariant-loop-i
invariant-loop-i l = Going l.s l.from l.k l.i l.at l.mask l.value

abbrev pub decreases-loop-i : goal.decreases-loop-i
decreases-loop-i l = l.k - l.i
