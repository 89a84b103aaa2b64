-- `put_turns` meets its contract. The loop's invariant: the nets left, written from here, give all behind the first.
-- Assumes nothing.
use Prim.Native.Nat.{◌-◌, ◌≤◌}
use lib.ListN.{drop}
use Rattle.put.specs.Lists.{others}
use Rattle.print.specs.Texts.{turns_of}
use Rattle.put.specs.Wrote.{Left, Room}
use Rattle.print.proofs.put_turns.Given as goal

abbrev pub invariant-loop-k : goal.invariant-loop-k
invariant-loop-k l = (l.k ≤ l.n) × Room l.initial.w (others (drop 1 (turns_of l.table l.n))) × Left l.initial.w (others (drop 1 (turns_of l.table l.n))) l.w (others (drop l.k (turns_of l.table l.n)))

abbrev pub decreases-loop-k : goal.decreases-loop-k
decreases-loop-k l = l.n - l.k
