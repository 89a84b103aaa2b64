-- `respond` meets its contract.
-- Assumes nothing.
use mathlib.Core.Path.{sym, ap, ap₂, ◌∙◌}
use lib.ListN.{length}
use Rattle.model.specs.Calls.{overwrite}
use Rattle.model.specs.Program.{program}
use Rattle.respond.proofs.Written.{program-refused, program-printed, inside}
use Rattle.respond.proofs.respond.Goals as goal

pub returns-in-Err : goal.returns-in-Err
returns-in-Err c =
    let x = c.args in
    let p = c.print_input in
    let f = c.refuse-in-Err in
    let k = program-refused x.input.now x.out.now c.told-out c.if-input-gt-MOST_INPUT.false p.new.out p.result p.ensures c.in-Err.r c.in-Err.is in
    let w = f.ensures.out_after ∙ ap₂ overwrite (sym k.0) k.1 in
    let n = f.ensures.value ∙ ap length (sym k.0) in
    let same = f.auto.out ∙ p.auto.out ∙ c.told-out in
    record { out_after = w; value = (n, inside (program x.input.now) x.out.now f.new.out f.result w n same); out_len = same }

pub returns-in-Ok : goal.returns-in-Ok
returns-in-Ok c =
    let x = c.args in
    let p = c.print_input in
    let g = c.in-Ok in
    let k = program-printed x.input.now x.out.now c.told-out c.if-input-gt-MOST_INPUT.false p.new.out p.result p.ensures _ g.size g.is in
    let same = p.auto.out ∙ c.told-out in
    record { out_after = k.0; value = (k.1, inside (program x.input.now) x.out.now p.new.out g.size k.0 k.1 same); out_len = same }
