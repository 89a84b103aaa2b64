-- `entries` meets its contract. The loop's invariant: what is left of the line, done from here, gives the whole answer.
-- Assumes nothing.
use mathlib.Core.Path.{◌≡◌}
use Prim.Native.Nat.{◌+◌, ◌-◌, ◌≤◌}
use lib.ListN.{length, drop}
use Rattle.scan.specs.Pins.{pins_of}
use Rattle.pins.specs.Pins.{start, finish}
use Rattle.pins.proofs.entries.Given as goal

abbrev pub invariant-loop-e : goal.invariant-loop-e
invariant-loop-e l = (length l.a ≡ length l.initial.a) × (l.v.tiles + l.c.at ≤ l.i) × (l.v.tiles ≤ length l.s)
    × (finish l.g l.stamp l.c.line start l.initial.a (pins_of (drop l.c.at l.s)) ≡ finish l.g l.stamp l.c.line l.v l.a (pins_of (drop l.i l.s)))

abbrev pub decreases-loop-e : goal.decreases-loop-e
decreases-loop-e l = length l.s - l.i
