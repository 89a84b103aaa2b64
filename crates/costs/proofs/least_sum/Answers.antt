-- `least_sum` meets its contract.
-- Assumes nothing.
use mathlib.Core.Path.{refl}
use native.Mathlib.Omega.{arith}
use Rattle.costs.proofs.Steps.{eight-none, eight-more, eight-all}
use Rattle.costs.proofs.least_sum.Goals as goal

pub loop-l-init : goal.loop-l-init
loop-l-init c =
    eight-none _ _ _ refl

pub overflow_add-a : goal.overflow_add-a
overflow_add-a c =
    omega (arith, c.requires.small c.loop-l.l (omega arith), c.requires.small_2 c.loop-l.l (omega arith))

pub loop-l-preserved : goal.loop-l-preserved
loop-l-preserved c =
    eight-more _ _ _ _ _ (omega arith) c.min.ensures c.loop-l.invariant

pub returns : goal.returns
returns c =
    eight-all _ _ _ _ _ (omega arith) c.loop-l.invariant
