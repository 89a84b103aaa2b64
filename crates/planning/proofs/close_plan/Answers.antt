-- `close_plan` meets its contract: the nets are placed, then all working numbers are zero.
-- Assumes nothing.
use mathlib.Core.Path.{ap, ◌∙◌}
use Prim.Native.Nat.{ℕ}
use lib.ListN.{replicate}
use Rattle.planning.proofs.close_plan.Goals as goal

pub returns : goal.returns
returns c =
    record { plan_closed = c.plan_opened-r.ensures.plan_closed; w_after = c.clear.ensures ∙ ap (λ (k : ℕ). replicate k 0) c.plan_opened-r.ensures.w_len_unchanged }
