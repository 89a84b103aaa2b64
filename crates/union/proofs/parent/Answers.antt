-- `union::parent` meets its contract.
-- Assumes nothing.
use mathlib.Core.Path.{sym}
use native.Mathlib.Omega.{arith}
use Rattle.union.specs.Links.{parent-new, parent-old}
use Rattle.union.proofs.parent.Goals as goal

pub overflow_cast-w : goal.overflow_cast-w
overflow_cast-w c =
    omega (arith, c.shared_slice_known-1.given c.args.x)

pub returns-then-w-stamp : goal.returns-then-w-stamp
returns-then-w-stamp c =
    let a = c.args in
    sym (parent-new a.stamp a.a.now a.x c.if-w-stamp.true)

pub returns-else-w-stamp : goal.returns-else-w-stamp
returns-else-w-stamp c =
    let a = c.args in
    sym (parent-old a.stamp a.a.now a.x c.if-w-stamp.false)
