-- `all_zero` meets its contract: what is left of the column decides, number after number (`Judged.antt`).
-- Assumes nothing.
use mathlib.Core.Path.{◌≡◌}
use Prim.Native.Nat.{◌-◌}
use lib.ListN.{length}
use Rattle.capacities.specs.Capacities.{column}
use Rattle.capacities.specs.Reads.{zeros}
use Rattle.capacities.specs.Spread.{Room}
use Rattle.capacities.proofs.all_zero.Given as goal

abbrev pub invariant-loop : goal.invariant-loop
invariant-loop l = record {
  room : Room l.of.k l.at (l.of.count - l.counter) (length l.w);
  same : zeros (column l.of.k l.w l.of.first l.of.count) ≡ zeros (column l.of.k l.w l.at (l.of.count - l.counter));
}
