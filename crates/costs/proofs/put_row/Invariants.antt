-- `put_row` meets its contract.
-- Assumes nothing.
use mathlib.Core.Path.{◌≡◌}
use Prim.Native.Nat.{◌-◌}
use lib.ListN.{length}
use Rattle.costs.specs.Rows.{RowPut}
use Rattle.costs.proofs.put_row.Given as goal

abbrev pub invariant-loop-l : goal.invariant-loop-l
invariant-loop-l l = (length l.w ≡ length l.initial.w) × RowPut l.initial.w l.w l.c l.at l.l l.legal

abbrev pub decreases-loop-l : goal.decreases-loop-l
decreases-loop-l l = 8 - l.l
