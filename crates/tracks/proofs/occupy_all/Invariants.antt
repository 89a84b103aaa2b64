-- `occupy_all` meets its contract. The loop's invariant: what is left of the net's edges, put on their layers from here, gives the whole answer.
-- Assumes nothing.
use Prim.Native.Nat.{◌-◌, ◌≤◌}
use Rattle.tracks.proofs.Occupying.{Occupying}
use Rattle.tracks.proofs.occupy_all.Given as goal

abbrev pub invariant-loop-i : goal.invariant-loop-i
invariant-loop-i l = (1 ≤ l.i) × Occupying l.g l.above l.layers l.n l.initial.w l.w l.i

abbrev pub decreases-loop-i : goal.decreases-loop-i
decreases-loop-i l = l.n - l.i
