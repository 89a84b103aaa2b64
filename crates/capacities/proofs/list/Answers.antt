-- `list` meets its contract.
-- Assumes nothing.
use mathlib.Core.Path.{sym, ap, ◌∙◌}
use mathlib.Core.Bool.{true}
use Rattle.capacities.specs.Entries.{finish}
use Rattle.capacities.proofs.Steps.{line-some, line-out, line-empty, line_other}
use Rattle.capacities.proofs.list.Goals as goal
use Rattle.capacities.proofs.list.Goals.{then-s-c-via-then-s-c, then-s-c-via-else-s-c+then-s-c-ne10}

pub returns-then-to-gt0 : goal.returns-then-to-gt0
returns-then-to-gt0 c =
    let a = c.args in record { result_after = c.entries.ensures.result_after ∙ ap (finish a.to.k a.c.line true a.w.now a.to.first) (sym (line-some a.s.now a.c.at a.to.count c.if-to-gt0.true)); list_in = c.entries.ensures.list_in; w_len_unchanged = c.entries.ensures.w_len_unchanged }

pub returns-then-s-c-clause-result_after : goal.returns-then-s-c-clause-result_after
returns-then-s-c-clause-result_after c =
    let a = c.args in
    elim c.then-s-c.branch [
      | then-s-c-via-then-s-c w ↦ sym (rw (line-out a.s.now a.c.at a.to.count c.if-to-gt0.false w.if-s-c.true))
      | then-s-c-via-else-s-c+then-s-c-ne10 w ↦ sym (rw (line_other a.s.now a.c.at a.to.count c.if-to-gt0.false w.if-s-c-ne10.true))
    ]

pub returns-clause-result_after : goal.returns-clause-result_after
returns-clause-result_after c =
    let a = c.args in
    sym (rw (line-empty a.s.now a.c.at a.to.count c.if-to-gt0.false c.if-s-c-ne10.false))
