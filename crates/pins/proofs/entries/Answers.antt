-- `entries` meets its contract. The loop's invariant: what is left of the line, done from here, gives the whole answer.
-- Assumes nothing.
use mathlib.Core.Path.{sym, ap, ◌∙◌}
use native.Mathlib.Omega.{arith}
use lib.ListN.{length}
use Rattle.scan.specs.Pins.{triple}
use Rattle.pins.specs.declared.Seen.{Seen}
use Rattle.pins.proofs.Entry.{work-long, seen-counts}
use Rattle.pins.proofs.Turns.{turn-bad, turn_more, turn_last, turn-place, last-place}
use Rattle.pins.proofs.entries.Goals as goal
use Rattle.pins.proofs.entries.Goals.{After-verdict}

pub returns-in_default : goal.returns-in_default
returns-in_default c =
    let x = c.args in
    record { result_after = sym (c.loop-e.invariant.3 ∙ turn-bad x.g x.stamp x.c.line x.s.now c.loop-e.i c.loop-e.v c.loop-e.a c.in_default.ensures); pins_in = tt; a_len_unchanged = c.loop-e.invariant.0 }

pub shape_of-a-then-e : goal.shape_of-a-then-e
shape_of-a-then-e c =
    let x = c.args in
    let r = c.in-Some.e in
    ap length c.put_pin-v.ensures.a_after ∙ work-long x.g x.stamp c.loop-e.a (triple r.x r.y r.third) ∙ c.loop-e.invariant.0

pub returns-then-e : goal.returns-then-e
returns-then-e c =
    let x = c.args in
    let r = c.in-Some.e in record {
      result_after = sym (c.loop-e.invariant.3 ∙ turn_last x.g x.stamp x.c.line x.s.now c.loop-e.i c.loop-e.v c.loop-e.a
          r c.in-Some.ensures c.put_pin-v.result c.put_pin-v.new.a c.put_pin-v.ensures.value c.put_pin-v.ensures.a_after c.if-e.true x.c.at c.verdict.result c.verdict.ensures);
      pins_in = last-place x.s.now c.loop-e.i r c.in-Some.ensures c.if-e.true c.put_pin-v.result x.c.at x.c.line c.verdict.result c.verdict.ensures;
      a_len_unchanged = shape_of-a-then-e (goal.at.returns-then-e c).After-verdict;
    }

pub loop-e-smaller : goal.loop-e-smaller
loop-e-smaller c =
    let r = c.in-Some.e in
    let t = turn-place c.args.s.now c.loop-e.i r c.in-Some.ensures c.if-e.false in
    omega (arith, t.0, t.1)

pub loop-e-preserved : goal.loop-e-preserved
loop-e-preserved c =
    let x = c.args in
    let r = c.in-Some.e in
    let y = triple r.x r.y r.third in
    let t = turn-place x.s.now c.loop-e.i r c.in-Some.ensures c.if-e.false in
    let k = seen-counts x.g x.stamp c.loop-e.a c.loop-e.v y in (
      ap length c.put_pin-v.ensures.a_after ∙ work-long x.g x.stamp c.loop-e.a y ∙ c.loop-e.invariant.0,
      omega (arith, t.0, k, ap (λ (z : Seen). z.tiles) c.put_pin-v.ensures.value, c.loop-e.invariant.1),
      omega (arith, t.0, t.1, k, ap (λ (z : Seen). z.tiles) c.put_pin-v.ensures.value, c.loop-e.invariant.1),
      c.loop-e.invariant.3
          ∙ turn_more x.g x.stamp x.c.line x.s.now c.loop-e.i c.loop-e.v c.loop-e.a r c.in-Some.ensures c.put_pin-v.result c.put_pin-v.new.a c.put_pin-v.ensures.value c.put_pin-v.ensures.a_after c.if-e.false,
    )
