-- `read_job` meets its contract: where the head is refused so is the text, and behind a head that is found the rest decides (`Job.antt`).
-- Assumes nothing.
use mathlib.Core.Path.{subst}
use lib.ListN.{length}
use Rattle.reader.specs.Whole.{HeadTold, HeadFound}
use Rattle.reader.proofs.Job.{nets-may-start, job-told}
use Rattle.reader.proofs.read_job.Goals as goal
use Rattle.reader.proofs.read_job.Goals.{In_ok-h}

-- the head that is found
module _ (c : In_ok-h) where
  found : HeadFound c.args.s.now (length c.args.w.now) c.args.lists.order c.args.w.now c.in_ok-h.h c.in_ok-h.c
  found = subst (HeadTold c.args.s.now (length c.args.w.now) c.args.lists.order c.args.w.now) c.in_ok-h.was c.requires.head_told

pub read_rest-requires : goal.read_rest-requires
read_rest-requires c =
    let k = found (goal.at.read_rest-requires c).In_ok-h in
    let x = c.args in record { at_in_bounds = (k.place, k.lines, k.short, k.nets); nets_ready = nets-may-start x.s.now (length x.w.now) x.lists.order x.w.now c.in_ok-h.h c.in_ok-h.c k x.table.now c.requires.table_size_in_bounds }

pub returns : goal.returns
returns c =
    let x = c.args in record { job_told = job-told x.s.now (length x.w.now) x.lists.order x.w.now c.in_ok-h.h c.in_ok-h.c (found (goal.at.returns c).In_ok-h) x.lists.answer x.lists.print c.read_rest.new.w c.read_rest.new.table c.read_rest.result c.read_rest.ensures.rest_told; w_len_unchanged = c.read_rest.ensures.w_len_unchanged }
