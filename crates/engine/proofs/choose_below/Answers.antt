-- `choose_below` meets its contract: what it reads of the tile is what `choose_branches` asks.
-- Assumes nothing.
use mathlib.Core.Path.{◌≡◌}
use Prim.Native.Nat.{ℕ, ◌-◌, ◌*◌}
use Rattle.sets.specs.Mask.{with_layer}
use Rattle.costs.specs.Rows.{row_at, first_in, branches_in, pins_in}
use Rattle.engine.specs.Layers.{layer_in, TileReady}
use Rattle.engine.proofs.Layers.{none_written, tile-attained, tile-chosen, base-is, goal-is}
use native.Mathlib.Omega.{arith}
use Rattle.engine.proofs.choose_below.Goals as goal
use Rattle.engine.proofs.choose_below.Goals.{After-with_layer-base, Start}

-- the numbers of the tile are read, and its set is made
module _ (b : After-with_layer-base) where
  abbrev ready : TileReady b.args.w.now b.args.m b.args.i b.args.layers
  ready = b.requires.tile_ready

  abbrev first : ℕ
  first = b.at-first.result

  abbrev end : ℕ
  end = b.at-end.result

  abbrev layer : ℕ
  layer = b.at-l.result

  abbrev aim : ℕ
  aim = b.at-goal.result

  abbrev base : ℕ
  base = b.with_layer-base.result

  first-here : first ≡ first_in b.args.w.now b.args.i
  first-here = omega (arith, (goal.at.After-with_layer-base b).Start)

  count-here : end - first ≡ branches_in b.args.w.now b.args.i
  count-here = omega (arith, (goal.at.After-with_layer-base b).Start, first-here)

  base-here : base ≡ with_layer (pins_in b.args.w.now b.args.m b.args.i) (layer_in b.args.w.now b.args.m b.args.i)
  base-here = base-is b.args.w.now b.args.m b.args.i b.at.result layer base (omega arith) (omega arith) (omega arith)

  goal-here : aim ≡ row_at b.args.w.now (4 * b.args.m) b.args.i (layer_in b.args.w.now b.args.m b.args.i)
  goal-here = goal-is b.args.w.now b.args.m b.args.i layer aim (omega arith) (omega arith)

pub returns-then-first-end : goal.returns-then-first-end
returns-then-first-end c =
    let w = c.args.w.now in
    let m = c.args.m in
    let i = c.args.i in
    none_written w m (first_in w i) (branches_in w i) c.args.layers (with_layer (pins_in w m i) (layer_in w m i)) (row_at w (4 * m) i (layer_in w m i)) (omega arith) c.requires.tile_ready.attained

pub choose_branches-requires : goal.choose_branches-requires
choose_branches-requires c =
    let g = c.args in
    let ok = ready (goal.at.choose_branches-requires c).After-with_layer-base in
    let attained = tile-attained g.w.now g.m g.i g.layers (first (goal.at.choose_branches-requires c).After-with_layer-base) (end (goal.at.choose_branches-requires c).After-with_layer-base - first (goal.at.choose_branches-requires c).After-with_layer-base) (base (goal.at.choose_branches-requires c).After-with_layer-base) (aim (goal.at.choose_branches-requires c).After-with_layer-base) ok (first-here (goal.at.choose_branches-requires c).After-with_layer-base) (count-here (goal.at.choose_branches-requires c).After-with_layer-base) (base-here (goal.at.choose_branches-requires c).After-with_layer-base) (goal-here (goal.at.choose_branches-requires c).After-with_layer-base) in record { k_bound = omega (arith, count-here (goal.at.choose_branches-requires c).After-with_layer-base, ok.few); base_bound = omega arith; le_layers = (omega (arith, (goal.at.choose_branches-requires c).Start), omega (arith, (goal.at.choose_branches-requires c).Start)); k_bound_2 = (omega (arith, first-here (goal.at.choose_branches-requires c).After-with_layer-base, count-here (goal.at.choose_branches-requires c).After-with_layer-base, ok.rising, ok.within), omega (arith, (goal.at.choose_branches-requires c).Start)); m_in_bounds = omega (arith, (goal.at.choose_branches-requires c).Start); attained = attained }

pub returns : goal.returns
returns c =
    let g = c.args in
    tile-chosen g.w.now g.m g.i g.layers (first (goal.at.returns c).After-with_layer-base) (end (goal.at.returns c).After-with_layer-base - first (goal.at.returns c).After-with_layer-base) (base (goal.at.returns c).After-with_layer-base) (aim (goal.at.returns c).After-with_layer-base) (ready (goal.at.returns c).After-with_layer-base) (first-here (goal.at.returns c).After-with_layer-base) (count-here (goal.at.returns c).After-with_layer-base) (base-here (goal.at.returns c).After-with_layer-base) (goal-here (goal.at.returns c).After-with_layer-base) c.choose_branches.new.w c.choose_branches.ensures
