-- `bytes` meets its contract. The loop's invariant: the numbers left, written from here, give all behind the first.
-- Assumes nothing.
use mathlib.Core.Path.{◌≡◌}
use Prim.Native.Nat.{◌-◌, ◌≤◌}
use lib.ListN.{length, drop}
use Rattle.put.specs.Lists.{others}
use Rattle.put.specs.Wrote.{Left, Room}
use Rattle.put.proofs.Writer.bytes.Given as goal

abbrev pub invariant-loop-i : goal.invariant-loop-i
invariant-loop-i l = (l.i ≤ length l.xs) × (l.i-end ≡ length l.xs) × Room l.initial.self (others (drop 1 l.xs)) × Left l.initial.self (others (drop 1 l.xs)) l.self (others (drop l.i l.xs))

abbrev pub decreases-loop-i : goal.decreases-loop-i
decreases-loop-i l = length l.xs - l.i
