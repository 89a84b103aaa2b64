-- `past_digits` meets its contract: a loop over digits.
-- The invariant: the digits found so far and the run of digits from here on make the run from `at` on; what is left of the text falls.
-- Assumes nothing.
use mathlib.Core.Path.{ap, sym, ◌∙◌}
use lib.ListN.{length}
use Rattle.text.proofs.Digits.{digits_more, digits-stop, digits-end}
use native.Mathlib.Omega.{arith}
use Rattle.text.proofs.past_digits.Goals as goal

pub loop-i-preserved : goal.loop-i-preserved
loop-i-preserved c =
    omega (arith, ap length (digits_more c.args.s.now c.loop-i.i c.loop-i-test.true (sym c.is_ascii_digit.ensures.value ∙ c.if-is_ascii_digit.true)))

pub returns-else-is_ascii_digit : goal.returns-else-is_ascii_digit
returns-else-is_ascii_digit c =
    omega (arith, ap length (digits-stop c.args.s.now c.loop-i.i c.loop-i-test.true (sym c.is_ascii_digit.ensures.value ∙ c.if-is_ascii_digit.false)))

pub returns-after-loop-i : goal.returns-after-loop-i
returns-after-loop-i c =
    omega (arith, ap length (digits-end c.args.s.now c.loop-i.i c.loop-i-test.false))
