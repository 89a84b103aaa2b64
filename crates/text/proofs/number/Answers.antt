-- `number` meets its contract.
-- Assumes nothing.
use mathlib.Core.Logic.{⊎_elim}
use native.Mathlib.Omega.{arith}
use Rattle.text.proofs.Digits.{within, few, many, padded, good}
use Rattle.text.proofs.number.Goals as goal
use Rattle.text.proofs.number.Goals.{else-s-at-eq48-via-then-s-at-eq48+else-n-ne1, else-s-at-eq48-via-else-s-at-eq48}

pub returns-then-n-lt1 : goal.returns-then-n-lt1
returns-then-n-lt1 c =
    let e = c.past_digits-next.ensures in
    ⊎_elim (few c.args.s.now c.args.at c.past_digits-next.result e) (λ h. many c.args.s.now c.args.at c.past_digits-next.result e h.1) c.then-n-lt1.either

pub bounds-s-at : goal.bounds-s-at
bounds-s-at c =
    omega (arith, within c.args.s.now c.args.at c.past_digits-next.result c.past_digits-next.ensures c.if-n-lt1.false)

pub returns-then-n-ne1 : goal.returns-then-n-ne1
returns-then-n-ne1 c =
    padded c.args.s.now c.args.at c.past_digits-next.result c.past_digits-next.ensures c.if-n-lt1.false c.if-n-gt5.false c.if-n-ne1.true c.if-s-at-eq48.true

pub value-value-requires : goal.value-value-requires
value-value-requires c =
    (omega arith, omega arith, within c.args.s.now c.args.at c.past_digits-next.result c.past_digits-next.ensures c.if-n-lt1.false)

pub returns : goal.returns
returns c =
    good c.args.s.now c.args.at c.past_digits-next.result c.past_digits-next.ensures c.value-value.result c.if-n-lt1.false c.if-n-gt5.false
    (λ x. elim c.else-s-at-eq48.branch [
      | else-s-at-eq48-via-then-s-at-eq48+else-n-ne1 w ↦ w.if-n-ne1.false
      | else-s-at-eq48-via-else-s-at-eq48 w ↦ absurd (w.if-s-at-eq48.false x)
    ])
    c.value-value.ensures
