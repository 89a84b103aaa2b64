-- `share` meets its contract: a quotient by 0 is 0.
-- Assumes nothing.
use mathlib.Core.Path.{refl, sym}
use native.Mathlib.Omega.{arith}
use Rattle.model.specs.Overflow.{ceil_div}
use Rattle.theory.specs.congestion.Edge.{ceil-zero}
use Rattle.flat.proofs.share.Goals as goal

pub returns-then-layers-eq0 : goal.returns-then-layers-eq0
returns-then-layers-eq0 c =
    rw c.if-layers-eq0.true (sym (ceil-zero c.args.most))

pub overflow_sub-result : goal.overflow_sub-result
overflow_sub-result c =
    omega (arith, c.if-layers-eq0.false)

pub nonzero_div-result : goal.nonzero_div-result
nonzero_div-result c =
    omega (arith, c.if-layers-eq0.false)

pub returns : goal.returns
unfolding ceil_div
returns c =
    refl
