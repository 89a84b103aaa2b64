-- `entries` meets its contract. The loop's invariant: what was read so far leads from the first run's end to the one at hand.
-- Assumes nothing.
use mathlib.Core.Bool.{true}
use mathlib.Core.Path.{◌≡◌, refl, sym, ap, ◌∙◌}
use Prim.Native.Nat.{◌+◌, ◌-◌}
use lib.ListN.{length}
use Rattle.capacities.specs.Entries.{list_at, finish}
use Rattle.capacities.specs.Ran.{onward, Ran}
use Rattle.capacities.proofs.Steps.{kept-length, answer-told, answer-in}
use Rattle.capacities.proofs.Going.{ran-start, ran_then, next-in, next_small, one-bad, one_more, last-bad, last_told, last_in, start, start-stands, start-onward}
use native.Mathlib.Omega.{arith}
use Rattle.capacities.proofs.entries.Goals as goal
use Rattle.capacities.proofs.entries.Goals.{After-answer-2, After-put, At-loop-r}

-- from the first capacity on, and from the place at hand, the line's answer is the same
module _ (l : At-loop-r) where
  so_far : let a = l.args in Ran a.s.now a.to.k a.w.now (start a.s.now a.to.k a.w.now a.c.at a.to.first a.to.count l.if-to-eq0.false) l.loop-r.w l.loop-r.r
  so_far = ran_then l.args.s.now l.args.to.k l.brief_run-r.ensures l.loop-r.invariant

  same_answer : let a = l.args in finish a.to.k a.c.line true a.w.now a.to.first (list_at a.to.count a.s.now a.c.at) ≡ onward a.to.k a.c.line a.s.now l.loop-r.w l.loop-r.r
  same_answer =
      let a = l.args in
      sym (start-onward a.s.now a.to.k a.w.now a.c.at a.to.first a.to.count l.if-to-eq0.false a.c.line) ∙ so_far.same a.c.line

-- one capacity of any length, with a comma behind it
one : (p : After-put) → let a = p.args in
    Ran a.s.now a.to.k p.loop-r.w p.loop-r.r p.put.new.w
    (record { at = p.in-Some.n.next; to = p.loop-r.r.to + a.to.k; left = p.loop-r.r.left - 1; inside = p.put.result })
one p =
    let a = p.args in
    one_more a.s.now a.to.k p.loop-r.w p.loop-r.r p.loop-r.invariant.stands p.loop-r-test.true p.in-Some.n p.put.result p.put.new.w (sym p.ended.ensures ∙ p.in-Some.is) p.put.ensures.value p.put.ensures.w_after

pub returns-then-to-eq0 : goal.returns-then-to-eq0
returns-then-to-eq0 c =
    let a = c.args in record { result_after = answer-told a.c.line a.s.now a.c.at true c.answer.result c.answer.ensures a.to.k a.w.now a.to.first a.to.count (omega arith); list_in = answer-in a.c.line a.s.now a.c.at true c.answer.result c.answer.ensures c.requires.at_in_bounds; w_len_unchanged = refl }

pub brief_run-r-requires : goal.brief_run-r-requires
brief_run-r-requires c =
    start-stands c.args.s.now c.args.to.k c.args.w.now c.args.c.at c.args.to.first c.args.to.count c.if-to-eq0.false c.requires.at_in_bounds c.requires.room

pub loop-r-init : goal.loop-r-init
loop-r-init c =
    let a = c.args in
    ran-start a.s.now a.to.k c.brief_run-r.ensures.stands

pub shape_of-w-in_default : goal.shape_of-w-in_default
shape_of-w-in_default c =
    (so_far (goal.at.shape_of-w-in_default c).At-loop-r).long

pub returns-in_default : goal.returns-in_default
returns-in_default c =
    let a = c.args in record { result_after = sym (same_answer (goal.at.returns-in_default c).At-loop-r ∙ one-bad a.s.now a.to.k c.loop-r.w c.loop-r.r c.loop-r.invariant.stands c.loop-r-test.true a.c.line (sym c.ended.ensures ∙ c.in_default.is)); list_in = tt; w_len_unchanged = (so_far (goal.at.returns-in_default c).At-loop-r).long }

pub overflow_add-more : goal.overflow_add-more
overflow_add-more c =
    let a = c.args in
    omega (arith, next_small a.s.now a.to.k c.loop-r.w c.loop-r.r c.loop-r.invariant.stands)

pub overflow_sub-more : goal.overflow_sub-more
overflow_sub-more c =
    omega (arith, c.loop-r-test.true)

pub put-requires : goal.put-requires
put-requires c =
    let a = c.args in
    next-in a.s.now a.to.k c.loop-r.w c.loop-r.r c.loop-r.invariant.stands

pub brief_run-r-requires-in-loop-r : goal.brief_run-r-requires-in-loop-r
brief_run-r-requires-in-loop-r c =
    (one (goal.at.brief_run-r-requires-in-loop-r c).After-put).stands

pub loop-r-smaller : goal.loop-r-smaller
loop-r-smaller c =
    omega (arith, c.brief_run-r-in-loop-r.ensures.fewer, c.loop-r-test.true)

pub loop-r-preserved : goal.loop-r-preserved
loop-r-preserved c =
    let a = c.args in
    ran_then a.s.now a.to.k c.loop-r.invariant (ran_then a.s.now a.to.k (one (goal.at.loop-r-preserved c).After-put) c.brief_run-r-in-loop-r.ensures)

pub shape_of-w-in_default-ended : goal.shape_of-w-in_default-ended
shape_of-w-in_default-ended c =
    (so_far (goal.at.shape_of-w-in_default-ended c).At-loop-r).long

pub returns-in_default-ended : goal.returns-in_default-ended
returns-in_default-ended c =
    let a = c.args in record { result_after = sym (same_answer (goal.at.returns-in_default-ended c).At-loop-r ∙ last-bad a.s.now a.to.k c.loop-r.w c.loop-r.r c.loop-r.invariant.stands c.loop-r-test.false a.c.line (sym c.ended-2.ensures ∙ c.in_default-ended.is)); list_in = tt; w_len_unchanged = (so_far (goal.at.returns-in_default-ended c).At-loop-r).long }

pub put-all-requires : goal.put-all-requires
put-all-requires c =
    let a = c.args in
    next-in a.s.now a.to.k c.loop-r.w c.loop-r.r c.loop-r.invariant.stands

pub shape_of-w : goal.shape_of-w
shape_of-w c =
    ap length c.put-all.ensures.w_after ∙ kept-length c.loop-r.w c.loop-r.r.to c.in-Some-ended.n.value ∙ (so_far (goal.at.shape_of-w c).At-loop-r).long

pub returns : goal.returns
returns c =
    let a = c.args in
    let e = sym c.ended-2.ensures ∙ c.in-Some-ended.is in record {
      result_after = last_told a.s.now a.to.k c.loop-r.w c.loop-r.r c.loop-r.invariant.stands c.loop-r-test.false a.c.line c.in-Some-ended.n c.put-all.result c.put-all.new.w e c.put-all.ensures.value c.put-all.ensures.w_after c.answer-2.result c.answer-2.ensures
          ∙ sym (same_answer (goal.at.returns c).At-loop-r);
      list_in = last_in a.s.now a.to.k c.loop-r.w c.loop-r.r c.loop-r.invariant.stands c.loop-r-test.false a.c.line c.in-Some-ended.n c.put-all.result c.put-all.new.w e c.put-all.ensures.value c.put-all.ensures.w_after c.answer-2.result c.answer-2.ensures;
      w_len_unchanged = shape_of-w (goal.at.returns c).After-answer-2;
    }
