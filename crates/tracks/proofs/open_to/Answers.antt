-- `open_to` meets its contract.
-- Assumes nothing.
use borrow.Author.Tests.{lt-ltb, le-ltb}
use Rattle.tracks.proofs.open_to.Goals as goal

pub returns-then-load-cap : goal.returns-then-load-cap
returns-then-load-cap c =
    rw (lt-ltb _ _ c.if-load-cap.true)

pub returns : goal.returns
returns c =
    rw (le-ltb _ _ c.if-load-cap.false)
