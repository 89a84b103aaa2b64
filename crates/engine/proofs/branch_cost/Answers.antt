-- `branch_cost` meets its contract.
-- Assumes nothing.
use mathlib.Core.Path.{refl}
use Rattle.engine.proofs.Branches.{there, not_there}
use Rattle.engine.proofs.branch_cost.Goals as goal

pub returns-then-c-k : goal.returns-then-c-k
returns-then-c-k c =
    there _ _ _ _ _ c.if-c-k.true refl

pub returns : goal.returns
returns c =
    not_there _ _ _ _ _ c.if-c-k.false refl
