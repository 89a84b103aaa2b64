-- `digits_at` meets its contract. The loop's invariant: the digits of what is left, written from the start, give the whole.
-- Assumes nothing.
use mathlib.Core.Path.{refl, sym, ◌∙◌}
use Prim.Native.Nat.{◌≤◌}
use native.Mathlib.Omega.{arith}
use lib.ListN.{length-set}
use Rattle.put.proofs.Steps.{tenth-long, digit-more, digit-one}
use Rattle.put.proofs.Writer.digits_at.Goals as goal

pub loop-left-init : goal.loop-left-init
loop-left-init c =
    (refl, omega arith, omega arith, refl, refl)

pub overflow_sub-i : goal.overflow_sub-i
overflow_sub-i c =
    omega (arith, tenth-long c.loop-left.left (omega arith))

pub bounds-self-i : goal.bounds-self-i
bounds-self-i c =
    omega (arith, tenth-long c.loop-left.left (omega arith))

pub loop-left-preserved : goal.loop-left-preserved
loop-left-preserved c =
    let a = c.args.self.now in
    let l = c.loop-left in
    let h : 10 ≤ l.left = omega arith in (
      length-set l.self.buf.now _ _ ∙ l.invariant.0,
      omega (arith, tenth-long l.left h),
      omega arith,
      l.invariant.3 ∙ digit-more l.self.buf.now a.at l.i l.left h l.invariant.1,
      l.invariant.4,
    )

pub returns : goal.returns
returns c =
    record {
      buffer = sym (c.loop-left.invariant.3 ∙ digit-one c.loop-left.self.buf.now c.args.self.now.at c.loop-left.left (omega arith));
      next = omega arith;
      lent = c.loop-left.invariant.4;
    }
