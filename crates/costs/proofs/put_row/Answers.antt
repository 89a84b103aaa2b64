-- `put_row` meets its contract.
-- Assumes nothing.
use mathlib.Core.Path.{refl}
use native.Mathlib.Omega.{arith}
use Rattle.costs.proofs.Written.{put-none, put-more, put_all}
use Rattle.costs.proofs.put_row.Goals as goal

pub loop-l-init : goal.loop-l-init
loop-l-init c =
    (refl, put-none _ _ _ _)

pub loop-l-preserved : goal.loop-l-preserved
loop-l-preserved c =
    let g = c.args in
    let r = put-more g.w.now c.loop-l.w g.c.now g.at g.legal c.loop-l.l c.legal_cost.result (omega arith) (omega arith) c.legal_cost.ensures c.loop-l.invariant.1 in
    (r.long, r)

pub returns : goal.returns
returns c =
    put_all _ _ _ _ _ _ _ (omega arith) c.loop-l.invariant.1
