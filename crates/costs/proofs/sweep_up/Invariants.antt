-- `sweep_up` meets its contract.
-- Assumes nothing.
use mathlib.Core.Path.{◌≡◌}
use Prim.Native.Nat.{suc, ◌+◌, ◌-◌}
use lib.ListN.{get_or}
use Rattle.costs.specs.Rows.{Eight}
use Rattle.costs.specs.Sweeps.{swept_up}
use Rattle.costs.proofs.sweep_up.Given as goal

abbrev pub invariant-loop-l : goal.invariant-loop-l
invariant-loop-l l = (l.x ≡ swept_up (λ t. get_or l.w (l.at + t) 0) l.l) × Eight l.c (λ t. swept_up (λ u. get_or l.w (l.at + u) 0) (suc t)) 0 l.l

abbrev pub decreases-loop-l : goal.decreases-loop-l
decreases-loop-l l = l.layers - l.l
