-- `mark_pins` meets its contract. The loop's invariant: what is left of the line, done from here, gives the whole answer.
-- Assumes nothing.
use Rattle.netread.specs.Pins.{PinsTaking}
use Rattle.netread.proofs.mark_pins.Given as goal

abbrev pub invariant-loop-p : goal.invariant-loop-p
invariant-loop-p l = PinsTaking l.s l.g l.stamp l.at l.p-iterator l.initial.a l.a l.low
