-- `sweep_costs` meets its contract.
-- Assumes nothing.
use Prim.Native.Nat.{suc, ◌+◌}
use native.Mathlib.Omega.{arith}
use lib.ListN.{get_or}
use Rattle.costs.proofs.Steps.{up_small, swept-both}
use Rattle.costs.proofs.sweep_costs.Goals as goal

pub sweep_down-requires : goal.sweep_down-requires
sweep_down-requires c =
    let g = c.args in record { layers_bound = c.requires.layers_bound; c_len = c.sweep_up-c.ensures.long; by_index = λ l h. omega (arith, c.sweep_up-c.ensures.at l (omega arith) h, up_small (λ t. get_or g.w.now (g.at + t) 0) (suc l)) }

pub returns : goal.returns
returns c =
    let g = c.args in
    swept-both (λ t. get_or g.w.now (g.at + t) 0) g.layers c.sweep_up-c.result c.sweep_down.new.c c.sweep_up-c.ensures c.sweep_down.ensures
