-- `mark_pins` meets its contract. The loop's invariant: what is left of the line, done from here, gives the whole answer.
-- Assumes nothing.
use native.Mathlib.Omega.{arith}
use Rattle.netread.proofs.PinTurns.{pins-start, pin-inside, pins_more}
use Rattle.netread.proofs.mark_pins.Goals as goal

pub loop-p-init : goal.loop-p-init
loop-p-init c =
    let x = c.args in
    pins-start x.s.now x.g x.stamp x.at x.g.shaped c.requires.pins_there c.into_iter-p-iterator.result (rw c.into_iter-p-iterator.ensures.into_iter_gives c.pins_from-p-items.ensures) x.a.now

pub mark_pin-low-requires : goal.mark_pin-low-requires
mark_pin-low-requires c =
    let x = c.args in
    let i = pin-inside x.s.now x.g x.stamp x.at x.g.shaped c.loop-p.p-iterator x.a.now c.loop-p.a c.loop-p.low c.loop-p.invariant.2 c.in-Some.p c.next.new.self c.in-Some.ensures.steps in
    record { t_in_bounds = (omega (arith, c.requires.t_in_bounds.0, c.loop-p.auto.a), c.requires.t_in_bounds.1, i.0, i.1, i.2, omega (arith, i.3, x.g.shaped.k_most)) }

pub loop-p-preserved : goal.loop-p-preserved
loop-p-preserved c =
    let x = c.args in
    pins_more x.s.now x.g x.stamp x.at x.g.shaped c.loop-p.p-iterator x.a.now c.loop-p.a c.loop-p.low c.loop-p.invariant.2 c.in-Some.p c.next.new.self c.in-Some.ensures.steps
    c.mark_pin-low.new.a c.mark_pin-low.result c.mark_pin-low.ensures.a_after c.mark_pin-low.ensures.value

pub returns : goal.returns
returns c = c.loop-p.invariant.2.done c.in-None.ensures.steps
