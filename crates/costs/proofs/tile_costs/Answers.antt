-- `tile_costs` meets its contract.
-- Assumes nothing.
use mathlib.Core.Path.{sym, subst}
use Prim.Native.Nat.{ℕ}
use native.Mathlib.Omega.{arith}
use Rattle.costs.specs.Rows.{TileCosts, LayerMask}
use Rattle.costs.proofs.Tiles.{leaf-costs, sweep-costs, interval-costs}
use Rattle.costs.proofs.tile_costs.Goals as goal

pub leaf_costs-requires : goal.leaf_costs-requires
leaf_costs-requires c =
    c.requires.layer_mask.small

pub returns-then-b-eq0 : goal.returns-then-b-eq0
returns-then-b-eq0 c =
    let g = c.args in
    leaf-costs g.w.now g.b.rows g.b.first g.b.count g.layers g.pins c.leaf_costs.result (omega arith) (omega arith) (omega arith) c.leaf_costs.ensures

pub eight_costs-requires : goal.eight_costs-requires
eight_costs-requires c =
    record { le_k = (omega arith, omega arith); layer_mask = subst (λ (x : ℕ). LayerMask x c.args.pins) c.if-layers-eq8.true c.requires.layer_mask; first_bound = (omega arith, omega arith); k_in_bounds = omega arith }

pub returns-then-layers-eq8 : goal.returns-then-layers-eq8
returns-then-layers-eq8 c =
    let g = c.args in
    subst (λ (x : ℕ). TileCosts g.w.now g.b.rows g.b.first g.b.count x g.pins c.eight_costs.result) (sym c.if-layers-eq8.true) c.eight_costs.ensures

pub returns-then-b-eq1 : goal.returns-then-b-eq1
returns-then-b-eq1 c =
    let g = c.args in
    sweep-costs g.w.now g.b.rows g.b.first g.b.count g.layers g.pins c.sweep_costs.result (omega arith) (omega arith) (omega arith) c.sweep_costs.ensures

pub pin_ends-e-requires : goal.pin_ends-e-requires
pin_ends-e-requires c =
    record { le_layers = (omega arith, omega arith); layer_mask = c.requires.layer_mask }

pub interval_costs-requires : goal.interval_costs-requires
interval_costs-requires c =
    record { count_bound = (omega arith, c.pin_ends-e.ensures.deep, omega arith); first_bound = (omega arith, omega arith); count_in_bounds = omega arith }

pub returns : goal.returns
returns c =
    let g = c.args in
    interval-costs g.w.now g.b.rows g.b.first g.b.count g.layers g.pins _ _ c.interval_costs.result (omega arith) (omega arith) (omega arith) c.requires.layer_mask
    c.pin_ends-e.ensures c.interval_costs.ensures
