-- `shape_of` meets its contract.
-- Assumes nothing.
use native.Mathlib.Omega.{arith}
use Rattle.layout.proofs.Sizes.{product, less_one, one_less}
use Rattle.layout.proofs.shape_of.Goals as goal

pub overflow_mul-east : goal.overflow_mul-east
overflow_mul-east c =
    omega (arith, less_one c.args.w c.args.h (omega arith) (omega arith))

pub overflow_mul-north : goal.overflow_mul-north
overflow_mul-north c =
    omega (arith, one_less c.args.w c.args.h (omega arith) (omega arith))

pub overflow_mul-tiles : goal.overflow_mul-tiles
overflow_mul-tiles c =
    omega (arith, product c.args.w c.args.h (omega arith) (omega arith))

pub overflow_add-result : goal.overflow_add-result
overflow_add-result c =
    omega (arith, less_one c.args.w c.args.h (omega arith) (omega arith), one_less c.args.w c.args.h (omega arith) (omega arith))
