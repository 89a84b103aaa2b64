-- `entries` meets its contract. The loop's invariant: the entries read so far, and what they have shown.
-- Assumes nothing.
use Prim.Native.Nat.{◌-◌}
use lib.ListN.{length}
use Rattle.edges.proofs.Loop.{Passed}
use Rattle.edges.proofs.entries.Given as goal

abbrev pub invariant-loop-e : goal.invariant-loop-e
invariant-loop-e l = Passed l.g l.stamp l.parts l.s l.c l.initial.w l.w l.i l.v

abbrev pub decreases-loop-e : goal.decreases-loop-e
decreases-loop-e l = length l.s - l.i
