-- `bit` meets its contract.
-- Assumes nothing.
use Rattle.marks.specs.Words.{bit_is}
use Rattle.marks.proofs.bit.Goals as goal

pub returns : goal.returns
returns c =
    bit_is c.args.m c.args.i
