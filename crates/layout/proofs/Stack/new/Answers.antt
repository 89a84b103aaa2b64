-- `Stack::new` meets its contract.
-- Assumes nothing.
use borrow.Author.Tests.{lt-ltb, le-ltb}
use Rattle.layout.proofs.Stack.new.Goals as goal
use Rattle.layout.proofs.Stack.new.Goals.{then-k-lt-LEAST-via-then-k-lt-LEAST, then-k-lt-LEAST-via-else-k-lt-LEAST+then-k-gt-MOST}

pub returns-then-k-lt-LEAST : goal.returns-then-k-lt-LEAST
returns-then-k-lt-LEAST c =
    elim c.then-k-lt-LEAST.branch [
      | then-k-lt-LEAST-via-then-k-lt-LEAST w ↦ simp (lt-ltb _ _ w.if-k-lt-LEAST.true)
      | then-k-lt-LEAST-via-else-k-lt-LEAST+then-k-gt-MOST w ↦ simp (le-ltb _ _ w.if-k-lt-LEAST.false, lt-ltb _ _ w.if-k-gt-MOST.true)
    ]

pub returns : goal.returns
returns c =
    simp (le-ltb _ _ c.if-k-lt-LEAST.false, le-ltb _ _ c.if-k-gt-MOST.false)
