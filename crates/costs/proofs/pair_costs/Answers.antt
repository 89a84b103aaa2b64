-- `pair_costs` meets its contract.
-- Assumes nothing.
use Prim.Native.Nat.{◌+◌}
use lib.ListN.{get_or}
use Rattle.costs.specs.Sweeps.{swept}
use Rattle.costs.proofs.Steps.{small-swept, pair-list}
use Rattle.costs.proofs.pair_costs.Goals as goal

pub meet-requires : goal.meet-requires
meet-requires c =
    record { small = small-swept _ _ c.sweep_costs-a.ensures; small_2 = small-swept _ _ c.sweep_costs-b.ensures }

pub returns : goal.returns
returns c =
    let g = c.args in
    pair-list (swept (λ u. get_or g.w.now (g.at + u) 0) 8) (swept (λ u. get_or g.w.now (g.at + 8 + u) 0) 8) c.sweep_costs-a.result c.sweep_costs-b.result c.meet.result
    c.sweep_costs-a.ensures c.sweep_costs-b.ensures c.meet.ensures
