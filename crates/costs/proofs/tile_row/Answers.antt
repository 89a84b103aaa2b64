-- `tile_row` meets its contract: what it reads of the tile is what `tile_costs` asks, and the costs are put as its row.
-- Assumes nothing.
use Prim.Native.Nat.{ℕ, ◌-◌, ◌≤◌}
use lib.ListN.{get_or}
use native.Mathlib.Omega.{arith}
use Rattle.costs.proofs.Written.{put_all, row-asks, tile-written}
use Rattle.costs.proofs.tile_row.Goals as goal
use Rattle.costs.proofs.tile_row.Goals.{After-at-legal}

-- the numbers of tile i are read
module _ (b : After-at-legal) where
  abbrev first : ℕ
  first = b.at-first.result

  abbrev end : ℕ
  end = b.at-end.result

  abbrev pins : ℕ
  pins = b.at-pins.result

  rising : get_or b.args.w.now (b.args.i - 1) 0 ≤ get_or b.args.w.now b.args.i 0
  rising = b.requires.shape.rising b.args.i b.requires.le_i.0 b.requires.le_i.1

pub overflow_sub-b : goal.overflow_sub-b
overflow_sub-b c =
    omega (arith, rising (goal.at.overflow_sub-b c).After-at-legal)

pub tile_costs-c-requires : goal.tile_costs-c-requires
tile_costs-c-requires c =
    let g = c.args in let r = row-asks g.w.now g.m g.n g.layers c.requires.shape g.i c.requires.le_i.0 c.requires.le_i.1 (first (goal.at.tile_costs-c-requires c).After-at-legal) (end (goal.at.tile_costs-c-requires c).After-at-legal) (pins (goal.at.tile_costs-c-requires c).After-at-legal) (omega arith) (omega arith) (omega arith) in record { count_bound = r.0; layer_mask = r.1.0; le_layers = r.1.1.0; first_bound = r.1.1.1.0; count_in_bounds = r.1.1.1.1 }

pub returns : goal.returns
returns c =
    let g = c.args in
    tile-written g.w.now c.put_row.new.w c.tile_costs-c.result g.m g.i g.layers (first (goal.at.returns c).After-at-legal) (end (goal.at.returns c).After-at-legal) (pins (goal.at.returns c).After-at-legal) c.at-legal.result (omega arith) (omega arith) (omega arith) (omega arith) c.tile_costs-c.ensures
    (put_all _ _ _ _ g.layers 8 _ c.requires.shape.deep c.put_row.ensures)
