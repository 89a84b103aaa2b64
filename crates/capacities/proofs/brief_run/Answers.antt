-- `brief_run` meets its contract. The loop's invariant: what was read so far leads from the first place to the one at hand.
-- Assumes nothing.
use Rattle.capacities.specs.declared.Run.{Run}
use Rattle.capacities.proofs.Going.{ran-start, ran_then, next-in, next_small, one_more}
use native.Mathlib.Omega.{arith}
use Rattle.capacities.proofs.brief_run.Goals as goal
use Rattle.capacities.proofs.brief_run.Goals.{At-loop-left}

-- the place at hand
abbrev here : (c : At-loop-left) → Run
here c = record { at = c.loop-left.at; to = c.loop-left.to; left = c.loop-left.left; inside = c.loop-left.inside }

pub loop-left-init : goal.loop-left-init
loop-left-init c =
    ran-start c.args.s.now c.args.k c.requires

pub put-inside-requires : goal.put-inside-requires
put-inside-requires c =
    let a = c.args in
    next-in a.s.now a.k c.loop-left.w (here (goal.at.put-inside-requires c).At-loop-left) c.loop-left.invariant.stands

pub overflow_add-to : goal.overflow_add-to
overflow_add-to c =
    let a = c.args in
    omega (arith, next_small a.s.now a.k c.loop-left.w (here (goal.at.overflow_add-to c).At-loop-left) c.loop-left.invariant.stands)

pub loop-left-preserved : goal.loop-left-preserved
loop-left-preserved c =
    let a = c.args in
    ran_then a.s.now a.k c.loop-left.invariant
    (one_more a.s.now a.k c.loop-left.w (here (goal.at.loop-left-preserved c).At-loop-left) c.loop-left.invariant.stands c.loop-left-test.true c.in-Some.n c.put-inside.result c.put-inside.new.w c.in-Some.ensures c.put-inside.ensures.value c.put-inside.ensures.w_after)
