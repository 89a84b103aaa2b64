-- `close_print` meets its contract: the nets are placed and printed, then all working numbers are zero.
-- Assumes nothing.
use mathlib.Core.Path.{ap, ◌∙◌}
use Prim.Native.Nat.{ℕ}
use lib.ListN.{replicate}
use Rattle.planning.proofs.close_print.Goals as goal

pub returns : goal.returns
returns c =
    record { print_closed = c.print_opened-r.ensures.print_closed; w_after = c.clear.ensures ∙ ap (λ (k : ℕ). replicate k 0) c.print_opened-r.ensures.w_len_unchanged }
