-- `legal_cost` meets its contract.
-- Assumes nothing.
use mathlib.Core.Path.{refl}
use Rattle.costs.proofs.Written.{legal-yes, legal-no}
use Rattle.costs.proofs.legal_cost.Goals as goal

pub returns-then-legal-l-eq1 : goal.returns-then-legal-l-eq1
returns-then-legal-l-eq1 c =
    legal-yes _ _ _ _ c.if-legal-l-eq1.true refl

pub returns : goal.returns
returns c =
    legal-no _ _ _ _ c.if-legal-l-eq1.false refl
