-- `letters` meets its contract. The loop's invariant: the letters before i are the digits of the mask, and with those that are left they are all k.
-- Assumes nothing.
use mathlib.Core.Path.{sym, ap, ◌∙◌}
use native.Mathlib.Omega.{arith}
use Rattle.dirs.specs.Letters.{letter_at}
use Rattle.dirs.proofs.Going.{going_more}
use Rattle.dirs.proofs.letters.Goals as goal

pub loop-i-preserved : goal.loop-i-preserved
loop-i-preserved c =
    let a = c.args in
    going_more a.s.now a.from a.k c.loop-i.i c.loop-i.at c.loop-i.mask c.loop-i.value c.loop-i.invariant (omega arith) c.in_ok-way.way
    (ap (letter_at a.s.now c.loop-i.at) (sym c.end_of.ensures) ∙ sym c.letter_at.ensures ∙ c.in_ok-way.was)
