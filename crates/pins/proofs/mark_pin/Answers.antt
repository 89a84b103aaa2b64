-- `mark_pin` meets its contract.
-- Assumes nothing.
use mathlib.Core.Path.{sym, ◌∙◌}
use Rattle.pins.proofs.Entry.{seen_twice, seen-fresh, seen-known}
use Rattle.pins.proofs.mark_pin.Goals as goal

pub returns-in-Twice : goal.returns-in-Twice
returns-in-Twice c =
    let x = c.args in record { value = seen_twice x.stamp x.a.now x.here x.l x.v (sym c.in-Twice.is ∙ c.set_mark.ensures.value); a_after = c.set_mark.ensures.a_after }

pub returns-in-Fresh : goal.returns-in-Fresh
returns-in-Fresh c =
    let x = c.args in record { value = seen-fresh x.stamp x.a.now x.here x.l x.v (sym c.in-Fresh.is ∙ c.set_mark.ensures.value); a_after = c.set_mark.ensures.a_after }

pub returns-in-Known : goal.returns-in-Known
returns-in-Known c =
    let x = c.args in record { value = seen-known x.stamp x.a.now x.here x.l x.v (sym c.in-Known.is ∙ c.set_mark.ensures.value); a_after = c.set_mark.ensures.a_after }
