-- `open_head` meets its contract.
-- Assumes nothing.
use mathlib.Core.Path.{◌∙◌}
use native.Mathlib.Omega.{arith}
use Rattle.std.proofs.lemmas.Result.{err_from_is_err_and}
use Rattle.reader.proofs.Job.{no-head, areas-fit, head-found}
use Rattle.reader.proofs.open_head.Goals as goal

pub clear_counts-requires : goal.clear_counts-requires
clear_counts-requires c =
    let x = c.args in
    let k = c.in_ok-h.ensures in
    record { g_in_bounds = omega (arith, areas-fit x.s.now x.order x.w.now c.read_head.new.w c.in_ok-h.h c.in_ok-h.c k.result_after k.head_holds k.w_len_unchanged) }

pub returns-in_err-h : goal.returns-in_err-h
returns-in_err-h c =
    let x = c.args in
    let k = c.in_err-h.ensures in
    let p = err_from_is_err_and c.from_residual.result c.from_residual.ensures.1 in
    rw (p.1, p.2) (record { head_told = no-head x.s.now x.order x.w.now c.read_head.new.w _ k.result_after; w_len_unchanged = k.w_len_unchanged })

pub returns : goal.returns
returns c =
    let x = c.args in
    let k = c.in_ok-h.ensures in
    record {
      head_told = head-found x.s.now x.order x.w.now c.read_head.new.w c.in_ok-h.h c.in_ok-h.c k.result_after k.head_holds k.w_len_unchanged c.clear_counts.new.w c.clear_counts.ensures;
      w_len_unchanged = c.clear_counts.ensures.long ∙ k.w_len_unchanged;
    }
