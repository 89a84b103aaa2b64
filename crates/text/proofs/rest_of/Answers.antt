-- `rest_of` meets its contract.
-- Assumes nothing.
use mathlib.Core.Path.{refl, sym, ap, ◌∙◌}
use Prim.Native.Nat.{ℕ, ◌+◌, ◌*◌}
use Rattle.text.proofs.Spelt.{brief-four, brief-five}
use Rattle.text.proofs.rest_of.Goals as goal

pub returns-then-e-end : goal.returns-then-e-end
returns-then-e-end c =
    let a = c.args in
    let p = c.requires in
    brief-four a.s.now a.at a.end p.1 p.0 a.u p.2 (sym c.is_ascii_digit.ensures.value ∙ c.if-not-is_ascii_digit.false) c.if-e-end.true
    (10 * a.u + c.digit_value.result) (ap (λ (d : ℕ). 10 * a.u + d) c.digit_value.ensures.value)

pub returns : goal.returns
returns c =
    let a = c.args in
    let p = c.requires in
    brief-five a.s.now a.at a.end p.1 p.0 a.u p.2 (sym c.is_ascii_digit.ensures.value ∙ c.if-not-is_ascii_digit.false)
    (sym c.is_ascii_digit-2.ensures.value ∙ c.if-not-is_ascii_digit-2.false) c.if-s-at.false c.two_digits.result (100 * a.u + c.two_digits.result) c.two_digits.ensures.0 refl
