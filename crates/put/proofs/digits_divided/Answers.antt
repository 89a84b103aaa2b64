-- `digits_divided` meets its contract. The loop's invariant: the digits counted, and those of what is left.
-- Assumes nothing.
use native.Mathlib.Omega.{arith}
use Rattle.put.specs.Lists.{digits-most}
use Rattle.put.proofs.Steps.{tenth-long, one-long}
use Rattle.put.proofs.digits_divided.Goals as goal

pub overflow_add-count : goal.overflow_add-count
overflow_add-count c =
    omega (arith, digits-most c.args.n (omega arith))

pub loop-left-preserved : goal.loop-left-preserved
loop-left-preserved c =
    omega (arith, tenth-long c.loop-left.left (omega arith))

pub returns : goal.returns
returns c =
    omega (arith, one-long c.loop-left.left (omega arith))
