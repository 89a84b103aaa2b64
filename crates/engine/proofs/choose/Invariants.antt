-- `choose` meets its contract. The loop's invariant: over the list v before the root's branches were chosen, the branches of the tiles before tile i
-- have their layers.
-- Assumes nothing.
use mathlib.Core.Path.{◌≡◌}
use mathlib.Core.List.{List}
use Prim.Native.Nat.{ℕ, ◌≤◌, ◌<◌}
use lib.ListN.{length}
use Rattle.costs.specs.Rows.{illegal_cost, Shape, RowsFrom}
use Rattle.engine.specs.Layers.{ChosenUpTo}
use Rattle.engine.proofs.choose.Given as goal

abbrev pub invariant-loop-i : goal.invariant-loop-i
invariant-loop-i l = (1 ≤ l.i) × (l.i ≤ l.n) × (length l.w ≡ length l.initial.w)
    × ((v : List ℕ) → Shape v l.m l.n l.layers → RowsFrom v v l.m l.n l.layers 1 → l.least < illegal_cost → ChosenUpTo v l.initial.w l.m l.n l.layers l.least 1
    → ChosenUpTo v l.w l.m l.n l.layers l.least l.i)
