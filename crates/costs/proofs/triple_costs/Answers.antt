-- `triple_costs` meets its contract.
-- Assumes nothing.
use Prim.Native.Nat.{ℕ, ◌+◌}
use lib.ListN.{get_or}
use Rattle.costs.specs.Sweeps.{swept}
use Rattle.costs.proofs.Steps.{small-swept, small-met, pair-list, triple-list}
use Rattle.costs.proofs.triple_costs.Goals as goal

pub meet-yz-requires : goal.meet-yz-requires
meet-yz-requires c =
    record { small = small-swept _ _ c.sweep_costs-y.ensures; small_2 = small-swept _ _ c.sweep_costs-z.ensures }

pub sum_of-c-requires : goal.sum_of-c-requires
sum_of-c-requires c =
    record { small = small-swept _ _ c.sweep_costs-x.ensures; small_2 = small-met _ _ _ c.meet-yz.ensures }

pub meet-xz-requires : goal.meet-xz-requires
meet-xz-requires c =
    record { small = small-swept _ _ c.sweep_costs-x.ensures; small_2 = small-swept _ _ c.sweep_costs-z.ensures }

pub least_sum-d-requires : goal.least_sum-d-requires
least_sum-d-requires c =
    record { small = small-swept _ _ c.sweep_costs-y.ensures; small_2 = small-met _ _ _ c.meet-xz.ensures }

pub meet-xy-requires : goal.meet-xy-requires
meet-xy-requires c =
    record { small = small-swept _ _ c.sweep_costs-x.ensures; small_2 = small-swept _ _ c.sweep_costs-y.ensures }

pub least_sum-e-requires : goal.least_sum-e-requires
least_sum-e-requires c =
    record { small = small-swept _ _ c.sweep_costs-z.ensures; small_2 = small-met _ _ _ c.meet-xy.ensures }

pub returns : goal.returns
returns c =
    let g = c.args in
    let x : ℕ → ℕ = swept (λ u. get_or g.w.now (g.at + u) 0) 8 in
    let y : ℕ → ℕ = swept (λ u. get_or g.w.now (g.at + 8 + u) 0) 8 in
    let z : ℕ → ℕ = swept (λ u. get_or g.w.now (g.at + 16 + u) 0) 8 in
    triple-list x y z c.sweep_costs-x.result c.sweep_costs-y.result c.sweep_costs-z.result c.meet-yz.result c.meet-xz.result c.meet-xy.result
    c.sum_of-c.result c.least_sum-d.result c.least_sum-e.result c.sweep_costs.result
    c.sweep_costs-x.ensures c.sweep_costs-y.ensures c.sweep_costs-z.ensures
    (pair-list y z c.sweep_costs-y.result c.sweep_costs-z.result c.meet-yz.result c.sweep_costs-y.ensures c.sweep_costs-z.ensures c.meet-yz.ensures)
    (pair-list x z c.sweep_costs-x.result c.sweep_costs-z.result c.meet-xz.result c.sweep_costs-x.ensures c.sweep_costs-z.ensures c.meet-xz.ensures)
    (pair-list x y c.sweep_costs-x.result c.sweep_costs-y.result c.meet-xy.result c.sweep_costs-x.ensures c.sweep_costs-y.ensures c.meet-xy.ensures)
    c.sum_of-c.ensures c.least_sum-d.ensures c.least_sum-e.ensures c.sweep_costs.ensures
