-- `read_head` meets its contract.
-- Assumes nothing.
use mathlib.Core.Path.{refl, sym}
use Prim.Native.Nat.{◌≤◌, ◌<◌}
use borrow.Author.Tests.{le-leb, lt-leb}
use lib.ListN.{length}
use Rattle.std.proofs.lemmas.Result.{err_from_is_err_and}
use Rattle.model.specs.Read.{working_need}
use Rattle.head.specs.Reads.{head_in}
use native.Mathlib.Omega.{arith}
use Rattle.head.proofs.read_head.Goals as goal

pub returns-then-s-gt-MOST_TEXT : goal.returns-then-s-gt-MOST_TEXT
unfolding head_in
returns-then-s-gt-MOST_TEXT c =
    record { result_after = sym (rw (lt-leb (length c.args.s.now) 1048576 c.if-s-gt-MOST_TEXT.true)); head_holds = tt; w_len_unchanged = refl }

pub returns-then-w-need : goal.returns-then-w-need
unfolding head_in
returns-then-w-need c =
    let a = c.args in
    let g = c.in_ok-g.g in
    let short : length a.w.now < working_need g.w g.h g.k = omega (arith, c.need.ensures.value, c.if-w-need.true) in record { result_after = sym (rw (le-leb (length a.s.now) 1048576 c.if-s-gt-MOST_TEXT.false, sym c.in_ok-g.ensures.result_value, lt-leb _ _ short)); head_holds = tt; w_len_unchanged = refl }

pub read_body-requires : goal.read_body-requires
read_body-requires c =
    let x = c.in_ok-g.ensures.sizes_hold in record { at_in_bounds = (x.1.place, x.1.lines); k_in_bounds = omega (arith, c.need.ensures.value, c.if-w-need.false) }

pub returns-in_err-g-clause-result_after : goal.returns-in_err-g-clause-result_after
unfolding head_in
returns-in_err-g-clause-result_after c =
    let p = err_from_is_err_and c.from_residual.result c.from_residual.ensures.1 in
    rw (p.1, p.2) (sym (rw (le-leb (length c.args.s.now) 1048576 c.if-s-gt-MOST_TEXT.false, sym c.in_err-g.ensures.result_value)))

pub returns : goal.returns
unfolding head_in
returns c =
    let a = c.args in
    let g = c.in_ok-g.g in
    let long : working_need g.w g.h g.k ≤ length a.w.now = omega (arith, c.need.ensures.value, c.if-w-need.false) in record { result_after = rw (le-leb (length a.s.now) 1048576 c.if-s-gt-MOST_TEXT.false, sym c.in_ok-g.ensures.result_value, le-leb _ _ long) c.read_body.ensures.result_after; head_holds = c.read_body.ensures.head_holds; w_len_unchanged = c.read_body.ensures.w_len_unchanged }
