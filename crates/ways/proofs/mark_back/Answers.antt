-- `mark_back` meets its contract.
-- Assumes nothing.
use mathlib.Core.Path.{sym, ◌∙◌}
use Prim.Native.Nat.{◌+◌}
use Rattle.ways.proofs.Puts.{first-twice, first-fresh, first-known}
use Rattle.ways.proofs.mark_back.Goals as goal

pub returns-in-Twice : goal.returns-in-Twice
returns-in-Twice c =
    let x = c.args in record { value = first-twice x.stamp x.a.now x.there (10 + x.d) (sym c.in-Twice.is ∙ c.set_mark.ensures.value); a_after = c.set_mark.ensures.a_after }

pub returns-in-Fresh : goal.returns-in-Fresh
returns-in-Fresh c =
    let x = c.args in record { value = first-fresh x.stamp x.a.now x.there (10 + x.d) (sym c.in-Fresh.is ∙ c.set_mark.ensures.value); a_after = c.set_mark.ensures.a_after }

pub returns-in-Known : goal.returns-in-Known
returns-in-Known c =
    let x = c.args in record { value = first-known x.stamp x.a.now x.there (10 + x.d) (sym c.in-Known.is ∙ c.set_mark.ensures.value); a_after = c.set_mark.ensures.a_after }
