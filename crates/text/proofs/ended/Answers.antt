-- `ended` meets its contract.
-- Assumes nothing.
use Rattle.text.proofs.Ends.{ended-bad, ended-out, ended-good, ended-other}
use Rattle.text.proofs.ended.Goals as goal
use Rattle.text.proofs.ended.Goals.{then-s-n-via-then-s-n, then-s-n-via-else-s-n+then-s-n-2}

pub returns-in_err-n : goal.returns-in_err-n
returns-in_err-n c =
    rw c.from_residual.ensures (ended-bad c.args.s.now c.args.at c.args.end c.in_err-n.ensures)

pub returns-then-s-n : goal.returns-then-s-n
returns-then-s-n c =
    let a = c.args in
    elim c.then-s-n.branch [
      | then-s-n-via-then-s-n w ↦ ended-out a.s.now a.at a.end c.in_ok-n.n c.in_ok-n.ensures w.if-s-n.true c.requires
      | then-s-n-via-else-s-n+then-s-n-2 w ↦ ended-other a.s.now a.at a.end c.in_ok-n.n c.in_ok-n.ensures w.if-s-n-2.true
    ]

pub returns : goal.returns
returns c =
    ended-good c.args.s.now c.args.at c.args.end c.in_ok-n.n c.in_ok-n.ensures c.if-s-n-2.false
