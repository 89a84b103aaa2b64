-- `short` meets its contract.
-- Assumes nothing.
use mathlib.Core.Path.{sym, ◌∙◌}
use Rattle.text.proofs.Spelt.{short-one, short-two}
use Rattle.text.proofs.short.Goals as goal

pub returns-then-b-end : goal.returns-then-b-end
returns-then-b-end c =
    let a = c.args in
    short-one a.s.now a.at a.end c.requires.1 c.requires.0 (sym c.is_ascii_digit.ensures.value ∙ c.if-not-is_ascii_digit.false)
    c.digit_value-value.result c.digit_value-value.ensures.value c.if-b-end.true

pub returns : goal.returns
returns c =
    let a = c.args in
    short-two a.s.now a.at a.end c.requires.1 c.requires.0 (sym c.is_ascii_digit.ensures.value ∙ c.if-not-is_ascii_digit.false)
    c.two_digits-value.result c.two_digits-value.ensures.0 c.if-a-eq48.false (sym c.is_ascii_digit-else-s-at.ensures.value ∙ c.if-not-is_ascii_digit-2.false) c.if-s-at.false
