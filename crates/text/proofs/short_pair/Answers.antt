-- `short_pair` meets its contract.
-- Assumes nothing.
use mathlib.Core.Path.{sym, ◌∙◌}
use Prim.Native.Nat.{◌+◌, ◌≤◌}
use native.Mathlib.Omega.{arith}
use borrow.Author.Tests.{leb-true}
use lib.ListN.{length}
use Rattle.text.proofs.Spelt.{comma-is}
use Rattle.text.proofs.short_pair.Goals as goal

pub returns : goal.returns
returns c =
    let x = c.args in
    let r : x.at + 8 ≤ length x.s.now = leb-true _ _ (sym c.room.ensures ∙ c.if-not-room.false) in
    (c.in_ok-x.x.next, sym (comma-is x.s.now x.at) ∙ c.in_ok-x.ensures.0, sym (comma-is x.s.now c.in_ok-x.x.next) ∙ c.in_ok-y.ensures.0, omega (arith, r, c.in_ok-x.ensures.1, c.in_ok-y.ensures.1))
