-- `costs` meets its contract. The loop's invariant: the rows of the tiles from tile i on are written.
-- Assumes nothing.
use mathlib.Core.Path.{refl, ◌∙◌}
use Prim.Native.Nat.{◌-◌}
use native.Mathlib.Omega.{arith}
use Rattle.costs.specs.Kept.{shape-kept}
use Rattle.costs.proofs.Written.{rows_start, rows_next, rows_all}
use Rattle.costs.proofs.costs.Goals as goal

pub loop-i-init : goal.loop-i-init
loop-i-init c =
    (c.requires.shape.tiles, omega arith, refl, rows_start _ _ _ _)

pub tile_row-requires : goal.tile_row-requires
tile_row-requires c =
    let g = c.args in record { shape = shape-kept g.w.now c.loop-i.w g.m g.n g.layers c.loop-i.i c.requires.shape c.loop-i.invariant.3; le_i = (omega arith, omega arith) }

pub loop-i-preserved : goal.loop-i-preserved
loop-i-preserved c =
    let g = c.args in (
      omega arith,
      omega arith,
      c.tile_row.auto.w ∙ c.loop-i.invariant.2,
      rows_next g.w.now c.loop-i.w c.tile_row.new.w g.m g.n g.layers c.loop-i.i (c.loop-i.i - 1) refl c.requires.shape c.loop-i.invariant.3 (omega arith) (omega arith) c.tile_row.ensures,
    )

pub returns : goal.returns
returns c =
    rows_all _ _ _ _ _ c.loop-i.i (omega arith) c.loop-i.invariant.3
