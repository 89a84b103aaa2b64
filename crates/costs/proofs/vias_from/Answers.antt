-- `vias_from` meets its contract.
-- Assumes nothing.
use mathlib.Core.Path.{refl}
use native.Mathlib.Omega.{arith}
use Rattle.costs.proofs.Steps.{eight-none, eight-more, eight-all}
use Rattle.costs.proofs.vias_from.Goals as goal

pub loop-b-init : goal.loop-b-init
loop-b-init c =
    (omega arith, eight-none _ _ _ refl)

pub loop-b-preserved : goal.loop-b-preserved
loop-b-preserved c =
    (omega arith, eight-more _ _ _ _ _ (omega arith) refl c.loop-b.invariant.1)

pub returns : goal.returns
returns c =
    eight-all _ _ _ _ _ (omega arith) c.loop-b.invariant.1
