-- `ended` meets its contract.
-- Assumes nothing.
use mathlib.Core.Path.{refl}
use Rattle.costs.proofs.Steps.{ended-yes, ended-no}
use Rattle.costs.proofs.ended.Goals as goal

pub returns-then-high-b : goal.returns-then-high-b
returns-then-high-b c =
    ended-yes _ _ _ _ _ c.if-high-b.true refl

pub returns : goal.returns
returns c =
    ended-no _ _ _ _ _ c.if-high-b.false refl
