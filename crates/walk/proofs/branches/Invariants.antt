-- `branches` meets its contract. The loop's invariant: the ways from d on, done from here, give the whole answer.
-- Assumes nothing.
use mathlib.Core.Path.{◌≡◌}
use Prim.Native.Nat.{◌+◌, ◌-◌, ◌≤◌}
use lib.ListN.{length}
use Rattle.layout.specs.Areas.{stops_at}
use Rattle.walk.specs.Steps.{onward, four_ways, put_ways}
use Rattle.walk.proofs.Turns.{Left}
use Rattle.walk.proofs.branches.Given as goal

abbrev pub invariant-loop-d : goal.invariant-loop-d
invariant-loop-d l = (l.d ≤ 4) × (length l.w ≡ length l.initial.w)
    × Left l.g l.x.tile l.x.marks l.x.above l.d l.end l.w (l.n + length (onward l.g l.x.tile l.x.marks l.x.above four_ways)) (put_ways (stops_at l.g) l.g.m l.initial.w l.n (onward l.g l.x.tile l.x.marks l.x.above four_ways))

abbrev pub decreases-loop-d : goal.decreases-loop-d
decreases-loop-d l = 4 - l.d
