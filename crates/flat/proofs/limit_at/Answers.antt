-- `limit_at` meets its contract.
-- Assumes nothing.
use mathlib.Core.Path.{sym}
use borrow.Author.Tests.{lt-ltb, le-ltb}
use Rattle.flat.proofs.limit_at.Goals as goal

pub returns-then-edge-m : goal.returns-then-edge-m
returns-then-edge-m c =
    sym (rw (lt-ltb _ _ c.if-edge-m.true))

pub returns : goal.returns
returns c =
    sym (rw (le-ltb _ _ c.if-edge-m.false))
