-- `branches` meets its contract. The loop's invariant: the ways from d on, done from here, give the whole answer.
-- Assumes nothing.
use mathlib.Core.Path.{refl, ◌∙◌}
use native.Mathlib.Omega.{arith}
use Rattle.walk.proofs.Turns.{step-long, left-all, left-room, left-next, left-done}
use Rattle.walk.proofs.branches.Goals as goal

pub loop-d-init : goal.loop-d-init
loop-d-init c =
    let x = c.args in (omega arith, refl, left-all x.g x.x.tile x.x.marks x.x.above x.n x.w.now)

pub step-end-requires : goal.step-end-requires
step-end-requires c =
    let x = c.args in
    let h = c.loop-d-test.true in record { g_in_bounds = omega (arith, c.requires.g_in_bounds, c.loop-d.invariant.1); d_bound = h; way_room = c.requires.by_index c.loop-d.d h; d_bound_2 = omega (arith, c.requires.four_ways_bound, left-room x.g x.x.tile x.x.marks x.x.above c.loop-d.d c.loop-d.end c.loop-d.w _ _ h c.loop-d.invariant.2) }

pub loop-d-preserved : goal.loop-d-preserved
loop-d-preserved c =
    let x = c.args in
    let h = c.loop-d-test.true in (
      omega arith,
      step-long x.g x.x.tile x.x.marks x.x.above c.loop-d.d c.loop-d.end c.loop-d.w c.step-end.new.w c.step-end.result (c.step-end.ensures.value, c.step-end.ensures.w_after) ∙ c.loop-d.invariant.1,
      left-next x.g x.x.tile x.x.marks x.x.above c.loop-d.d c.loop-d.end c.loop-d.w _ _ h c.loop-d.invariant.2 c.step-end.new.w c.step-end.result (c.step-end.ensures.value, c.step-end.ensures.w_after),
    )

pub returns : goal.returns
returns c =
    let x = c.args in let r = left-done x.g x.x.tile x.x.marks x.x.above c.loop-d.d c.loop-d.end c.loop-d.w _ _ c.loop-d-test.false c.loop-d.invariant.2 in record { value = r.0; w_after = r.1 }
