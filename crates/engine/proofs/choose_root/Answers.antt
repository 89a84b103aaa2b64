-- `choose_root` meets its contract: what it reads of the root is what `choose_branches` asks.
-- Assumes nothing.
use Rattle.engine.proofs.Layers.{root-attained, root-chosen}
use native.Mathlib.Omega.{arith}
use Rattle.engine.proofs.choose_root.Goals as goal

pub choose_branches-requires : goal.choose_branches-requires
choose_branches-requires c =
    let g = c.args in
    let ok = c.requires.root_ready in
    let attained = root-attained g.w.now g.m g.layers g.goal c.at-end.result c.at-pins.result ok (omega arith) (omega arith) in record { k_bound = omega (arith, ok.few); base_bound = omega (arith, ok.pins); le_layers = (omega arith, omega arith); k_bound_2 = (omega (arith, ok.start, ok.within), omega arith); m_in_bounds = omega arith; attained = attained }

pub returns : goal.returns
returns c =
    let g = c.args in
    root-chosen g.w.now c.choose_branches.new.w g.m g.layers g.goal c.at-end.result c.at-pins.result (omega arith) (omega arith) c.choose_branches.ensures
