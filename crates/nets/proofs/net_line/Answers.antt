-- `net_line` meets its contract.
-- Assumes nothing.
use Prim.Native.Nat.{◌+◌}
use lib.ListN.{length}
use Rattle.std.proofs.lemmas.Result.{err_from_is_err_and}
use Rattle.lines.specs.Told.{field-after}
use Rattle.nets.proofs.Turns.{turn-refused, turn-other, turn-next}
use Rattle.nets.proofs.net_line.Goals as goal

pub returns-in_err-n : goal.returns-in_err-n
returns-in_err-n c =
    let a = c.args in
    let p = err_from_is_err_and c.from_residual.result c.from_residual.ensures.1 in
    rw (p.1, p.2) (record { result_value = turn-refused a.s.now a.c a.turn c.number_line.result c.number_line.ensures.result_value _ c.in_err-n.was; list_in = tt })

pub returns-then-n-turn : goal.returns-then-n-turn
returns-then-n-turn c =
    let a = c.args in record { result_value = turn-other a.s.now a.c a.turn c.number_line.result c.number_line.ensures.result_value c.in_ok-n.n c.in_ok-n.d c.in_ok-n.was c.if-n-turn.true; list_in = tt }

pub returns : goal.returns
returns c =
    let a = c.args in record { result_value = turn-next a.s.now a.c a.turn c.number_line.result c.number_line.ensures.result_value c.in_ok-n.n c.in_ok-n.d c.in_ok-n.was c.if-n-turn.false; list_in = field-after c.number_line.result (length a.s.now) (a.c.line + 1) c.in_ok-n.n c.in_ok-n.d c.in_ok-n.was c.number_line.ensures.field_in }
