-- `nets_line` meets its contract.
-- Assumes nothing.
use mathlib.Core.Path.{sym}
use borrow.Author.Tests.{le-leb, lt-leb}
use Rattle.std.proofs.lemmas.Result.{err_from_is_err_and}
use Rattle.head.specs.Reads.{nets_in}
use Rattle.head.proofs.Fields.{not-got, got}
use Rattle.model.specs.Limits.{most_nets}
use Rattle.head.proofs.nets_line.Goals as goal

pub returns-in_err-n-clause-result_value : goal.returns-in_err-n-clause-result_value
unfolding nets_in
returns-in_err-n-clause-result_value c =
    let p = err_from_is_err_and c.from_residual.result c.from_residual.ensures.1 in
    rw (p.1, p.2) (sym (rw (not-got "nets" 0 most_nets c.args.s.now c.args.c c.in_err-n.field-0.0 c.in_err-n.ensures.result_value)))

pub returns-then-order-n : goal.returns-then-order-n
unfolding nets_in
returns-then-order-n c =
    let a = c.args in
    let x = got "nets" 0 most_nets a.s.now a.c c.in_ok-n.n c.in_ok-n.d c.in_ok-n.ensures.result_value c.in_ok-n.ensures.field_in in
    record { result_value = sym (rw (x.read, lt-leb c.in_ok-n.n a.order c.if-order-n.true)); nets_hold = tt }

pub returns : goal.returns
unfolding nets_in
returns c =
    let a = c.args in
    let x = got "nets" 0 most_nets a.s.now a.c c.in_ok-n.n c.in_ok-n.d c.in_ok-n.ensures.result_value c.in_ok-n.ensures.field_in in
    record { result_value = sym (rw (x.read, le-leb c.in_ok-n.n a.order c.if-order-n.false)); nets_hold = (x.most, c.if-order-n.false, x.after) }
