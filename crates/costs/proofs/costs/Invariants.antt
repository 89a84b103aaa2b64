-- `costs` meets its contract. The loop's invariant: the rows of the tiles from tile i on are written.
-- Assumes nothing.
use mathlib.Core.Path.{◌≡◌}
use Prim.Native.Nat.{◌≤◌}
use lib.ListN.{length}
use Rattle.costs.specs.Rows.{RowsFrom}
use Rattle.costs.proofs.costs.Given as goal

abbrev pub invariant-loop-i : goal.invariant-loop-i
invariant-loop-i l = (1 ≤ l.i) × (l.i ≤ l.n) × (length l.w ≡ length l.initial.w) × RowsFrom l.initial.w l.w l.m l.n l.layers l.i
