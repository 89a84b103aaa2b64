-- `sweep_down` meets its contract.
-- Assumes nothing.
use mathlib.Core.Path.{◌≡◌}
use Prim.Native.Nat.{◌-◌, ◌≤◌}
use lib.ListN.{get_or}
use Rattle.costs.specs.Sweeps.{swept_down}
use Rattle.costs.proofs.Steps.{FilledDown}
use Rattle.costs.proofs.sweep_down.Given as goal

abbrev pub invariant-loop-l : goal.invariant-loop-l
invariant-loop-l l = (l.l ≤ l.layers) × (l.x ≡ swept_down (λ t. get_or l.initial.c t 0) l.layers (l.layers - l.l)) × FilledDown l.initial.c l.c (λ t. swept_down (λ u. get_or l.initial.c u 0) l.layers (l.layers - t)) l.layers l.l
