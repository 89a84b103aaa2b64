-- `root_least` meets its contract.
-- Assumes nothing.
use native.Mathlib.Omega.{arith}
use Rattle.costs.proofs.Written.{root-asks}
use Rattle.costs.proofs.Root.{root-least-is}
use Rattle.costs.proofs.root_least.Goals as goal

pub tile_costs-c-requires : goal.tile_costs-c-requires
tile_costs-c-requires c =
    let r = root-asks c.args.w.now c.args.m c.args.n c.args.layers c.requires.shape c.at-end.result c.at-pins.result (omega arith) (omega arith) in record { count_bound = r.0; layer_mask = r.1.0; le_layers = r.1.1.0; first_bound = r.1.1.1.0; count_in_bounds = r.1.1.1.1 }

pub returns : goal.returns
returns c =
    root-least-is c.args.w.now c.tile_costs-c.result c.args.m c.args.n c.args.layers c.at-end.result c.at-pins.result c.least_cost.result c.requires.shape
    (omega arith) (omega arith) c.tile_costs-c.ensures c.least_cost.ensures
