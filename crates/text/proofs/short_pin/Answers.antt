-- `short_pin` meets its contract.
-- Assumes nothing.
use mathlib.Core.Path.{sym, ◌∙◌}
use Rattle.text.proofs.Spelt.{pin-told}
use Rattle.text.proofs.short_pin.Goals as goal

pub returns : goal.returns
returns c =
    pin-told c.args.s.now c.args.at c.in_ok-p.p c.in_ok-p.ensures c.digit_value.result
    (sym c.is_ascii_digit.ensures.value ∙ c.if-not-is_ascii_digit.false) c.digit_value.ensures.value
    c.break_in.result c.break_in.ensures
