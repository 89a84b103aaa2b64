-- `branch_mask` meets its contract.
-- Assumes nothing.
use mathlib.Core.Path.{refl}
use Rattle.engine.proofs.Branches.{there, not_there}
use Rattle.engine.proofs.branch_mask.Goals as goal

pub returns-then-c-k : goal.returns-then-c-k
returns-then-c-k c =
    record { value = there _ _ _ _ _ c.if-c-k.true c.with_layer.ensures.value; upper_bound = c.with_layer.ensures.upper_bound }

pub returns : goal.returns
returns c =
    record { value = not_there _ _ _ _ _ c.if-c-k.false refl; upper_bound = c.requires.mask_bound }
