-- `bits` meets its contract.
-- Assumes nothing.
use native.Mathlib.Omega.{arith}
use borrow.Author.Tests.{eq-eqb, ne_eqb}
use Rattle.marks.specs.Words.{bits_in}
use Rattle.marks.proofs.bits.Goals as goal

pub returns-then-word-stamp : goal.returns-then-word-stamp
unfolding bits_in
returns-then-word-stamp c =
    record { value = rw (eq-eqb _ _ c.if-word-stamp.true); upper_bound = omega arith }

pub returns : goal.returns
unfolding bits_in
returns c =
    record { value = rw (ne_eqb _ _ c.if-word-stamp.false); upper_bound = omega arith }
