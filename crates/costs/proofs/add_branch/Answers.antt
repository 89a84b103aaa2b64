-- `add_branch` meets its contract. The loop's invariant: the ends from s up to b have their sum, and `least` is the least cost on the layers passed.
-- Assumes nothing.
use mathlib.Core.Path.{◌≡◌, refl, ◌∙◌}
use Prim.Native.Nat.{◌+◌, ◌-◌}
use native.Mathlib.Omega.{arith}
use Rattle.costs.specs.Intervals.{within}
use Rattle.costs.proofs.Around.{over-top}
use Rattle.costs.proofs.Steps.{over_none, over-more, added_none, added_more, added-all}
use Rattle.costs.proofs.add_branch.Goals as goal
use Rattle.costs.proofs.add_branch.Goals.{After-v-1}

-- the least cost with layer b
least-is : (c : After-v-1) → c.min-least.result ≡ within c.args.w.now c.args.at c.args.s c.loop-b.b
least-is c =
    c.min-least.ensures
    ∙ over-more c.args.w.now c.args.at c.args.s c.loop-b.b c.loop-b.least c.loop-b.invariant.0 c.loop-b.invariant.1

pub loop-b-init : goal.loop-b-init
loop-b-init c =
    (omega arith, over_none _ _ _, added_none _ _ _ _ _ c.requires.v_len)

pub overflow_add-v : goal.overflow_add-v
overflow_add-v c =
    let g = c.args in
    omega (
      arith,
      least-is (goal.at.overflow_add-v c).After-v-1,
      over-top g.w.now g.at g.s (c.loop-b.b + 1 - g.s),
      c.loop-b.invariant.2.rest c.loop-b.b (omega arith),
      c.requires.by_index c.loop-b.b c.loop-b.invariant.0 (omega arith),
    )

pub loop-b-preserved : goal.loop-b-preserved
loop-b-preserved c =
    let g = c.args in
    (omega arith, least-is (goal.at.loop-b-preserved c).After-v-1, added_more g.v.now c.loop-b.v g.w.now g.at g.layers g.s c.loop-b.b _ _ (omega arith) c.loop-b.invariant.0 refl (least-is (goal.at.loop-b-preserved c).After-v-1) c.loop-b.invariant.2)

pub returns : goal.returns
returns c =
    let g = c.args in
    added-all g.v.now c.loop-b.v g.w.now g.at g.layers g.s c.loop-b.b (omega arith) c.loop-b.invariant.2
