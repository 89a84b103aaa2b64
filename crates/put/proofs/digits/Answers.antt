-- `digits` meets its contract.
-- Assumes nothing.
use native.Mathlib.Omega.{arith}
use Rattle.put.specs.Lists.{digits-most}
use Rattle.put.proofs.Steps.{one-long, two-long, three-long, four-long, four-more}
use Rattle.put.proofs.digits.Goals as goal

pub returns-then-n-lt10 : goal.returns-then-n-lt10
returns-then-n-lt10 c =
    omega (arith, one-long c.args.n (omega arith))

pub returns-then-n-lt100 : goal.returns-then-n-lt100
returns-then-n-lt100 c =
    omega (arith, two-long c.args.n (omega arith) (omega arith))

pub returns-then-n-lt1000 : goal.returns-then-n-lt1000
returns-then-n-lt1000 c =
    omega (arith, three-long c.args.n (omega arith) (omega arith))

pub returns-then-n-lt10000 : goal.returns-then-n-lt10000
returns-then-n-lt10000 c =
    omega (arith, four-long c.args.n (omega arith) (omega arith))

pub overflow_add-result : goal.overflow_add-result
overflow_add-result c =
    omega (arith, digits-most c.args.n (omega arith), four-more c.args.n (omega arith))

pub returns : goal.returns
returns c =
    omega (arith, four-more c.args.n (omega arith))
