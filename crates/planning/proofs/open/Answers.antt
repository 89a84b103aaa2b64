-- `open` meets its contract.
-- Assumes nothing.
use Prim.Native.Nat.{ℕ}
use mathlib.Core.Path.{sym, subst}
use Rattle.reader.specs.Whole.{lent_by, HeadTold}
use Rattle.planning.specs.Opening.{OpenTold}
use Rattle.planning.proofs.open.Goals as goal

pub open_job-requires : goal.open_job-requires
open_job-requires c =
    let x = c.args in record { head_told = subst (λ (n : ℕ). HeadTold x.s.now n x.lists.order c.open_head-head.new.w c.open_head-head.result) (sym c.open_head-head.ensures.w_len_unchanged) c.open_head-head.ensures.head_told; table_size_in_bounds = c.requires }

pub returns : goal.returns
returns c =
    let x = c.args in
    subst (λ (n : ℕ). OpenTold x.s.now (lent_by n x.lists.order x.lists.answer x.lists.print) c.open_job.new.w c.open_job.new.table c.open_job.result) c.open_head-head.ensures.w_len_unchanged c.open_job.ensures
