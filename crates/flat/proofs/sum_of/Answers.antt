-- `sum_of` meets its contract. The loop's invariant: what was summed is the sum of the first numbers.
-- Assumes nothing.
use mathlib.Core.Path.{◌≡◌, refl, ap, ◌∙◌}
use Prim.Native.Nat.{ℕ, ◌<◌}
use native.Mathlib.Omega.{arith}
use Rattle.flat.specs.FlatPlan.{sum_at}
use Rattle.flat.proofs.Turns.{sum_at_next, stretch-long, stretch_at}
use Rattle.flat.proofs.sum_of.Goals as goal
use Rattle.flat.proofs.sum_of.Goals.{In-loop-capacity}

-- the next capacity is there
module _ (l : In-loop-capacity) where
  inside : l.loop-capacity.capacity-index < l.args.k
  inside = omega (arith, l.loop-capacity-test.true, stretch-long l.args.at l.args.k l.args.w.now l.requires.k_in_bounds.0)

pub loop-capacity-init : goal.loop-capacity-init
loop-capacity-init c =
    (omega arith, omega arith, refl)

pub overflow_add-sum : goal.overflow_add-sum
overflow_add-sum c =
    let a = c.args in
    let l = (goal.at.overflow_add-sum c).In-loop-capacity in
    omega (arith, stretch_at a.at a.k a.w.now c.requires.k_in_bounds.0 c.loop-capacity.capacity-index (inside l), c.requires.by_index c.loop-capacity.capacity-index (inside l), c.loop-capacity.invariant.1, c.requires.k_in_bounds.1)

pub loop-capacity-preserved : goal.loop-capacity-preserved
loop-capacity-preserved c =
    let a = c.args in
    let i = c.loop-capacity.capacity-index in
    let h = inside (goal.at.loop-capacity-preserved c).In-loop-capacity in
    let item = stretch_at a.at a.k a.w.now c.requires.k_in_bounds.0 i h in
    (omega (arith, h), omega (arith, item, c.requires.by_index i h, c.loop-capacity.invariant.1), omega (arith, item, sum_at_next a.at i a.w.now, c.loop-capacity.invariant.2))

pub returns : goal.returns
returns c =
    let a = c.args in
    let e : c.loop-capacity.capacity-index ≡ a.k = omega (arith, stretch-long a.at a.k a.w.now c.requires.k_in_bounds.0, c.loop-capacity-test.false, c.loop-capacity.invariant.0) in
    c.loop-capacity.invariant.2 ∙ ap (λ (n : ℕ). sum_at a.at n a.w.now) e
