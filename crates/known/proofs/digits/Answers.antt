-- `digits` meets its contract.
-- Assumes nothing.
use native.Mathlib.Omega.{arith}
use borrow.Author.Tests.{lt-ltb, le-ltb}
use Rattle.known.proofs.digits.Goals as goal

pub returns-then-b-lt48 : goal.returns-then-b-lt48
returns-then-b-lt48 c =
    rw (lt-ltb _ _ c.if-b-lt48.true)

pub returns : goal.returns
returns c =
    rw (le-ltb _ _ c.if-b-lt48.false) (omega (arith, c.digit-second.ensures.0))
