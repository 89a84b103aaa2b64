-- `choose` meets its contract. The loop's invariant: over the list v before the root's branches were chosen, the branches of the tiles before tile i
-- have their layers.
-- Assumes nothing.
use mathlib.Core.Path.{refl, ◌∙◌}
use Prim.Native.Nat.{◌<◌}
use native.Mathlib.Omega.{arith}
use Rattle.costs.specs.Rows.{illegal_cost, Shape, RowsFrom}
use Rattle.engine.specs.Layers.{ChosenUpTo}
use Rattle.engine.proofs.Layers.{root-ready, chosen-start, chosen-step, tile-ready, chosen-all}
use Rattle.engine.proofs.choose.Goals as goal
use Rattle.engine.proofs.choose.Goals.{After-choose_root, After-root_least-least}

-- the root's least cost is found
module _ (r : After-root_least-least) where
  abbrev shape : Shape r.args.w.now r.args.m r.args.n r.args.layers
  shape = r.requires.shape

  abbrev rows : RowsFrom r.args.w.now r.args.w.now r.args.m r.args.n r.args.layers 1
  rows = r.requires.rows_from

  small : r.root_least-least.result < illegal_cost
  small = r.requires.by_index r.root_least-least.result r.root_least-least.ensures

-- the root's branches have their layers
module _ (b : After-choose_root) where
  started : ChosenUpTo b.args.w.now b.choose_root.new.w b.args.m b.args.n b.args.layers b.root_least-least.result 1
  started =
      let g = b.args in
      chosen-start g.w.now g.m g.n g.layers b.root_least-least.result (shape (goal.at.After-choose_root b).After-root_least-least) (rows (goal.at.After-choose_root b).After-root_least-least) (small (goal.at.After-choose_root b).After-root_least-least) b.choose_root.new.w b.choose_root.ensures

pub choose_root-requires : goal.choose_root-requires
choose_root-requires c =
    let g = c.args in
    let h = shape (goal.at.choose_root-requires c).After-root_least-least in record { root_ready = root-ready g.w.now g.m g.n g.layers c.root_least-least.result h c.root_least-least.ensures (small (goal.at.choose_root-requires c).After-root_least-least); m_bound = (h.small, omega (arith, h.tiles, h.fits), h.some, h.deep); m_in_bounds = h.room }

pub loop-i-init : goal.loop-i-init
loop-i-init c =
    (omega arith, omega (arith, (shape (goal.at.loop-i-init c).After-root_least-least).tiles), refl, λ v s r l p. p)

pub choose_below-requires : goal.choose_below-requires
choose_below-requires c =
    let g = c.args in
    let h = shape (goal.at.choose_below-requires c).After-root_least-least in
    let q = c.loop-i.invariant.3 g.w.now h (rows (goal.at.choose_below-requires c).After-root_least-least) (small (goal.at.choose_below-requires c).After-root_least-least) (started (goal.at.choose_below-requires c).After-choose_root) in record { tile_ready = tile-ready g.w.now g.m g.n g.layers c.root_least-least.result h (rows (goal.at.choose_below-requires c).After-root_least-least) (small (goal.at.choose_below-requires c).After-root_least-least) c.loop-i.w c.loop-i.i q (omega arith) (omega arith); m_bound = (h.small, omega arith, omega (arith, h.fits), h.some, h.deep); m_in_bounds = omega (arith, h.room, q.long) }

pub loop-i-preserved : goal.loop-i-preserved
loop-i-preserved c =
    let g = c.args in (
      omega arith,
      omega arith,
      c.choose_below.auto.w ∙ c.loop-i.invariant.2,
      λ v e t k q. chosen-step v g.m g.n g.layers c.root_least-least.result e t k c.loop-i.w c.loop-i.i (c.loop-i.invariant.3 v e t k q) (omega arith) (omega arith) c.choose_below.new.w c.choose_below.ensures,
    )

pub returns : goal.returns
returns c =
    let g = c.args in record { root_least = c.root_least-least.ensures; chosen_up_to = chosen-all g.w.now c.loop-i.w g.m g.n g.layers c.root_least-least.result c.loop-i.i (omega arith) (c.loop-i.invariant.3 g.w.now (shape (goal.at.returns c).After-root_least-least) (rows (goal.at.returns c).After-root_least-least) (small (goal.at.returns c).After-root_least-least) (started (goal.at.returns c).After-choose_root)) }
