-- `pin_costs` meets its contract.
-- Assumes nothing.
use Prim.Native.Nat.{suc, ◌+◌}
use lib.ListN.{get_or}
use Rattle.sets.specs.Mask.{with_layer, span_of}
use Rattle.costs.specs.Sweeps.{swept}
use Rattle.costs.proofs.Steps.{small-swept, small-leaf, pair-list}
use Rattle.costs.proofs.pin_costs.Goals as goal

pub meet-requires : goal.meet-requires
meet-requires c =
    record { small = small-swept _ _ c.sweep_costs-a.ensures; small_2 = small-leaf _ _ c.requires.pins_bound c.leaf_costs-p.ensures }

pub returns : goal.returns
returns c =
    let g = c.args in
    pair-list (swept (λ u. get_or g.w.now (g.at + u) 0) 8) (λ l. span_of (with_layer g.pins (suc l))) c.sweep_costs-a.result c.leaf_costs-p.result c.meet.result
    c.sweep_costs-a.ensures c.leaf_costs-p.ensures c.meet.ensures
