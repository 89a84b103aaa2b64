-- `eight_costs` meets its contract: without pins the branches meet; with pins on one layer the one branch meets them; else over intervals.
-- Assumes nothing.
use mathlib.Core.Path.{◌≡◌}
use mathlib.Core.List.{List}
use Prim.Native.Nat.{ℕ, ◌≤◌}
use native.Mathlib.Omega.{arith}
use Rattle.costs.specs.Rows.{Eight, TileCosts, LayerMask}
use Rattle.costs.specs.Intervals.{around, PinEnds}
use Rattle.costs.proofs.Tiles.{sweep-costs, pair-costs, triple-costs, pin-costs, interval-costs-of}
use Rattle.costs.proofs.eight_costs.Goals as goal
use Rattle.costs.proofs.eight_costs.Goals.{After-pin_ends-e}

-- a tile with pins
module _ (b : After-pin_ends-e) where
  abbrev ends : PinEnds 8 b.args.pins b.pin_ends-e.result.starts b.pin_ends-e.result.high
  ends = b.pin_ends-e.ensures

  abbrev mask : LayerMask 8 b.args.pins
  mask = b.requires.layer_mask

  over : (n : ℕ) → b.args.k ≡ n → n ≤ 3 → (c : List ℕ) → Eight c (around b.args.w.now b.args.o b.args.first n 8 b.pin_ends-e.result.starts b.pin_ends-e.result.high) 0 8
      → TileCosts b.args.w.now b.args.o b.args.first b.args.k 8 b.args.pins c
  over n e few c = interval-costs-of b.args.w.now b.args.o b.args.first b.args.k n b.args.pins _ _ c e few mask ends

pub returns-then-k-eq1 : goal.returns-then-k-eq1
returns-then-k-eq1 c =
    let g = c.args in
    sweep-costs g.w.now g.o g.first g.k 8 g.pins c.sweep_costs.result (omega arith) (omega arith) (omega arith) c.sweep_costs.ensures

pub returns-then-k-eq2 : goal.returns-then-k-eq2
returns-then-k-eq2 c =
    let g = c.args in
    pair-costs g.w.now g.o g.first g.k 8 g.pins c.pair_costs.result (omega arith) (omega arith) (omega arith) c.pair_costs.ensures

pub returns-then-pins-eq0 : goal.returns-then-pins-eq0
returns-then-pins-eq0 c =
    let g = c.args in
    triple-costs g.w.now g.o g.first g.k 8 g.pins c.triple_costs.result (omega arith) (omega arith) (omega arith) c.triple_costs.ensures

pub pin_ends-e-requires : goal.pin_ends-e-requires
pin_ends-e-requires c =
    record { le_layers = (omega arith, omega arith); layer_mask = c.requires.layer_mask }

pub pin_costs-requires : goal.pin_costs-requires
pin_costs-requires c =
    record { at_bound = omega arith; at_in_bounds = omega arith; pins_bound = (mask (goal.at.pin_costs-requires c).After-pin_ends-e).small }

pub returns-then-e : goal.returns-then-e
returns-then-e c =
    let g = c.args in
    pin-costs g.w.now g.o g.first g.k g.pins _ _ c.pin_costs.result (omega arith) (mask (goal.at.returns-then-e c).After-pin_ends-e) (ends (goal.at.returns-then-e c).After-pin_ends-e) c.if-e.true c.pin_costs.ensures

pub eight_intervals-requires : goal.eight_intervals-requires
eight_intervals-requires c =
    record { k_bound = (omega arith, (ends (goal.at.eight_intervals-requires c).After-pin_ends-e).some, (ends (goal.at.eight_intervals-requires c).After-pin_ends-e).deep); first_bound = (omega arith, omega arith); k_in_bounds = omega arith }

pub returns-then-k-eq1-2 : goal.returns-then-k-eq1-2
returns-then-k-eq1-2 c =
    over (goal.at.returns-then-k-eq1-2 c).After-pin_ends-e 1 (omega arith) (omega arith) c.eight_intervals.result c.eight_intervals.ensures

pub eight_intervals-requires-then-k-eq2-2 : goal.eight_intervals-requires-then-k-eq2-2
eight_intervals-requires-then-k-eq2-2 c =
    record { k_bound = (omega arith, (ends (goal.at.eight_intervals-requires-then-k-eq2-2 c).After-pin_ends-e).some, (ends (goal.at.eight_intervals-requires-then-k-eq2-2 c).After-pin_ends-e).deep); first_bound = (omega arith, omega arith); k_in_bounds = omega arith }

pub returns-then-k-eq2-2 : goal.returns-then-k-eq2-2
returns-then-k-eq2-2 c =
    over (goal.at.returns-then-k-eq2-2 c).After-pin_ends-e 2 (omega arith) (omega arith) c.eight_intervals-then-k-eq2-2.result c.eight_intervals-then-k-eq2-2.ensures

pub eight_intervals-requires-2 : goal.eight_intervals-requires-2
eight_intervals-requires-2 c =
    record { k_bound = (omega arith, (ends (goal.at.eight_intervals-requires-2 c).After-pin_ends-e).some, (ends (goal.at.eight_intervals-requires-2 c).After-pin_ends-e).deep); first_bound = (omega arith, omega arith); k_in_bounds = omega arith }

pub returns : goal.returns
returns c =
    over (goal.at.returns c).After-pin_ends-e 3 (omega arith) (omega arith) c.eight_intervals-2.result c.eight_intervals-2.ensures
