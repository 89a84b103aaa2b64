-- `value` meets its contract: a loop over the digits.
-- Assumes nothing.
use mathlib.Core.Path.{sym, ap, ◌∙◌}
use Prim.Native.Nat.{◌-◌}
use lib.ListN.{take, drop, drop_of_length-le}
use Rattle.model.specs.Text.{value_from}
use Rattle.text.proofs.Digits.{slice_is}
use Rattle.text.proofs.value.Goals as goal

pub returns : goal.returns
returns c =
    let a = c.args in
    let v = c.loop-b.v in
    let i = c.loop-b.b-index in
    let items = take (a.end - a.at) (drop a.at a.s.now) in
    sym (ap (value_from 0) (slice_is a.at a.end a.s.now c.requires.0) ∙ c.loop-b.invariant.1 ∙ ap (value_from v) (drop_of_length-le items {i = i} c.loop-b-test.false))
