-- `least_sum` meets its contract.
-- Assumes nothing.
use Prim.Native.Nat.{◌+◌, ◌-◌, min}
use lib.ListN.{get_or}
use Rattle.costs.specs.Rows.{Eight}
use Rattle.costs.proofs.least_sum.Given as goal

abbrev pub invariant-loop-l : goal.invariant-loop-l
invariant-loop-l l = Eight l.d (λ t. min (get_or l.c t 0) (get_or l.a t 0 + get_or l.b t 0)) 0 l.l

abbrev pub decreases-loop-l : goal.decreases-loop-l
decreases-loop-l l = 8 - l.l
