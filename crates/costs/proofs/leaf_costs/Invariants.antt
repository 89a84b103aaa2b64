-- `leaf_costs` meets its contract. The loop's invariant: the layers below l have the vias of the pins with that layer.
-- Assumes nothing.
use Prim.Native.Nat.{suc, ◌-◌}
use Rattle.sets.specs.Mask.{with_layer, span_of}
use Rattle.costs.specs.Rows.{Eight}
use Rattle.costs.proofs.leaf_costs.Given as goal

abbrev pub invariant-loop-l : goal.invariant-loop-l
invariant-loop-l l = Eight l.c (λ t. span_of (with_layer l.pins (suc t))) 0 l.l

abbrev pub decreases-loop-l : goal.decreases-loop-l
decreases-loop-l l = 8 - l.l
