-- `tile_at` meets its contract.
-- Assumes nothing.
use mathlib.Core.Path.{refl}
use native.Mathlib.Omega.{arith}
use Rattle.layout.specs.Shapes.{tile-below}
use Rattle.layout.proofs.tile_at.Goals as goal

pub overflow_mul-result : goal.overflow_mul-result
overflow_mul-result c =
    omega (arith, tile-below c.args.g.w c.args.g.h c.args.x c.args.y (omega arith) (omega arith))

pub overflow_add-result : goal.overflow_add-result
overflow_add-result c =
    omega (arith, tile-below c.args.g.w c.args.g.h c.args.x c.args.y (omega arith) (omega arith))

pub returns : goal.returns
returns c =
    (refl, omega (arith, tile-below c.args.g.w c.args.g.h c.args.x c.args.y (omega arith) (omega arith)))
