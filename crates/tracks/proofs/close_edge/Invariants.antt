-- `close_edge` meets its contract. The loop's invariant: the nets of the first l layers are as they should be, and the rest is as it was.
-- Assumes nothing.
use Prim.Native.Nat.{◌-◌, ◌≤◌}
use Rattle.layout.specs.Dirs.{heading_number}
use Rattle.layout.specs.Fill.{Filled}
use Rattle.tracks.specs.Shut.{shut_from}
use Rattle.tracks.proofs.close_edge.Given as goal

abbrev pub invariant-loop-l : goal.invariant-loop-l
invariant-loop-l l = (l.l ≤ l.l-end) × Filled l.at l.l (shut_from l.l-end l.dirs (heading_number l.heading) l.initial.w l.at) l.initial.w l.w

abbrev pub decreases-loop-l : goal.decreases-loop-l
decreases-loop-l l = l.l-end - l.l
