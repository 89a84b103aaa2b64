-- `room_of` meets its contract.
-- Assumes nothing.
use borrow.Author.Tests.{lt-ltb, le-ltb}
use Rattle.tracks.proofs.room_of.Goals as goal

pub returns-then-left-gt0 : goal.returns-then-left-gt0
returns-then-left-gt0 c =
    rw (lt-ltb _ _ c.if-left-gt0.true)

pub returns : goal.returns
returns c =
    rw (le-ltb _ _ c.if-left-gt0.false)
