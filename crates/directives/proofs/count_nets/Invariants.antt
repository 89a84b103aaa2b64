-- `count_nets` meets its contract. The loop's invariant: the first i nets are counted (`Nets.antt`).
-- Assumes nothing.
use Prim.Native.Nat.{◌-◌}
use Rattle.directives.proofs.Nets.{Counted}
use Rattle.directives.proofs.count_nets.Given as goal

abbrev pub invariant-loop-i : goal.invariant-loop-i
invariant-loop-i l = Counted l.s l.g l.table l.n l.i l.initial.w l.w

abbrev pub decreases-loop-i : goal.decreases-loop-i
decreases-loop-i l = l.n - l.i
