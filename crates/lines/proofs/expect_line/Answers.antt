-- `expect_line` meets its contract: what opening the line gave is what is expected of it, with its place or its refusal.
-- Assumes nothing.
use mathlib.Core.Path.{sym, ap, ◌∙◌}
use Rattle.lines.specs.Opens.{expected-opening, expected-lacking}
use Rattle.lines.specs.Told.{line_told}
use Rattle.lines.specs.Values.{expected-told}
use Rattle.lines.proofs.expect_line.Goals as goal

pub returns-in-Ok-clause-result_value : goal.returns-in-Ok-clause-result_value
returns-in-Ok-clause-result_value c =
    let a = c.args in
    let e = expected-opening a.s.now a.c a.key.now c.in-Ok.place (sym c.open_line.ensures ∙ c.in-Ok.is) in
    ap (line_told a.s.now) (sym e) ∙ expected-told a.s.now a.c a.key.now c.requires.2

pub returns-in-Err-clause-result_value : goal.returns-in-Err-clause-result_value
returns-in-Err-clause-result_value c =
    let a = c.args in
    let e = expected-lacking a.s.now a.c a.key.now c.in-Err.place (sym c.open_line.ensures ∙ c.in-Err.is) in
    ap (line_told a.s.now) (sym e) ∙ expected-told a.s.now a.c a.key.now c.requires.2
