-- `list` meets its contract: the text ends, or the line has no entries, or it has some.
-- Assumes nothing.
use mathlib.Core.Path.{refl}
use Rattle.edges.proofs.Law.{list-short, list-empty, list_full}
use Rattle.edges.proofs.list.Goals as goal

pub returns-then-s-at : goal.returns-then-s-at
returns-then-s-at c =
    let x = c.args in record { entries_read = λ ps w₀ h r. list-short x.g x.stamp x.s.now x.c ps w₀ x.w.now c.if-s-at.true; w_len_unchanged = refl }

pub returns-then-s-at-eq10 : goal.returns-then-s-at-eq10
returns-then-s-at-eq10 c =
    let x = c.args in record { entries_read = λ ps w₀ h r. list-empty x.g x.stamp x.s.now x.c ps w₀ x.w.now c.if-s-at-eq10.true x.parts h r c.verdict.result c.verdict.ensures; w_len_unchanged = refl }

pub returns : goal.returns
returns c =
    let x = c.args in record { entries_read = λ ps w₀ h r. list_full x.g x.stamp x.s.now x.c ps w₀ c.entries.new.w c.if-s-at-eq10.false c.entries.result (c.entries.ensures.entries_read ps w₀ h r); w_len_unchanged = c.entries.ensures.w_len_unchanged }
