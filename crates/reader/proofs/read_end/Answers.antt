-- `read_end` meets its contract.
-- Assumes nothing.
use mathlib.Core.Path.{sym, ◌∙◌}
use Rattle.reader.proofs.Ends.{end_more, end_short, end-narrow, end_fits}
use Rattle.reader.proofs.read_end.Goals as goal
use Rattle.reader.proofs.read_end.Goals.{Else-c-s}

pub returns-then-c-s : goal.returns-then-c-s
returns-then-c-s c =
    let x = c.args in
    end_more x.s.now x.c x.n x.entries x.lists.answer x.lists.print c.if-c-s.true

pub returns-then-lists-entries : goal.returns-then-lists-entries
returns-then-lists-entries c =
    let x = c.args in
    end_short x.s.now x.c x.n x.entries x.lists.answer x.lists.print c.if-c-s.false c.if-lists-entries.true

pub returns-then-not-print_fits : goal.returns-then-not-print_fits
returns-then-not-print_fits c =
    let x = c.args in
    end-narrow x.s.now x.c x.n x.entries x.lists.answer x.lists.print c.if-c-s.false c.if-lists-entries.false (sym c.print_fits.ensures ∙ c.if-not-print_fits.true)

pub returns : goal.returns
returns c =
    let x = c.args in
    end_fits x.s.now x.c x.n x.entries x.lists.answer x.lists.print c.if-c-s.false c.if-lists-entries.false (sym c.print_fits.ensures ∙ c.if-not-print_fits.false)
