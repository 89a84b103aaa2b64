-- `number` meets its contract.
-- Assumes nothing.
use mathlib.Core.Path.{sym}
use native.Mathlib.Omega.{arith}
use Rattle.theory.specs.links.Decimals.{decimal-one}
use Rattle.put.specs.Wrote.{wrote_as}
use Rattle.put.proofs.Steps.{one-long}
use Rattle.put.proofs.Writer.number.Goals as goal

pub byte-requires : goal.byte-requires
byte-requires c =
    omega (arith, one-long c.args.n (omega arith))

pub returns-then-n-lt10 : goal.returns-then-n-lt10
returns-then-n-lt10 c =
    wrote_as c.byte.ensures (sym (decimal-one c.args.n (omega arith)))
