-- `close_edges` meets its contract: edge after edge (`Shut.antt`).
-- Assumes nothing.
use Prim.Native.Nat.{◌-◌, ◌≤◌}
use Rattle.layout.specs.Dirs.{heading_number}
use Rattle.tracks.specs.Shut.{Shut}
use Rattle.tracks.proofs.close_edges.Given as goal

abbrev pub invariant-loop-e : goal.invariant-loop-e
invariant-loop-e l = (l.from ≤ l.e) × (l.e ≤ l.to) × Shut l.g l.from l.e (heading_number l.heading) l.initial.w l.w

abbrev pub decreases-loop-e : goal.decreases-loop-e
decreases-loop-e l = l.to - l.e
