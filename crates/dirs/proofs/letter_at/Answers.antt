-- `letter_at` meets its contract: two bytes are there, the second is the one asked for, and the first is `h`, `v` or neither.
-- Assumes nothing.
use mathlib.Core.Path.{sym, ◌∙◌}
use Prim.Native.Nat.{◌+◌, ◌≤◌}
use native.Mathlib.Omega.{arith}
use lib.ListN.{length}
use borrow.Author.Tests.{leb-true, ne_eqb}
use Rattle.dirs.proofs.Going.{letter-out}
use Rattle.dirs.proofs.letter_at.Goals as goal
use Rattle.dirs.proofs.letter_at.Goals.{Else-not-room}

-- two bytes are there
module _ (c : Else-not-room) where
  two : c.args.at + 2 ≤ length c.args.s.now
  two = leb-true (c.args.at + 2) (length c.args.s.now) (sym c.room.ensures ∙ c.if-not-room.false)

pub returns-then-not-room : goal.returns-then-not-room
returns-then-not-room c =
    letter-out c.args.s.now c.args.at c.args.end c.requires (sym c.room.ensures ∙ c.if-not-room.true)

pub overflow_add-at : goal.overflow_add-at
overflow_add-at c =
    omega (arith, two (goal.at.overflow_add-at c).Else-not-room)

pub bounds-s-at : goal.bounds-s-at
bounds-s-at c =
    omega (arith, two (goal.at.bounds-s-at c).Else-not-room)

pub returns-then-s-at : goal.returns-then-s-at
returns-then-s-at c =
    rw (ne_eqb _ _ c.if-s-at.true)

pub bounds-s-at-2 : goal.bounds-s-at-2
bounds-s-at-2 c =
    omega (arith, two (goal.at.bounds-s-at-2 c).Else-not-room)
