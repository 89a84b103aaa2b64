-- `bytes` meets its contract. The loop's invariant: the numbers left, written from here, give all behind the first.
-- Assumes nothing.
use mathlib.Core.Path.{refl}
use Prim.Native.Nat.{◌<◌}
use native.Mathlib.Omega.{arith}
use lib.ListN.{length}
use Rattle.put.specs.Wrote.{left-start}
use Rattle.put.proofs.Steps.{list-none, first-room, others-room, list-whole, turn-room, turn_more, others-done}
use Rattle.put.proofs.Writer.bytes.Goals as goal

pub returns-then-xs-eq0 : goal.returns-then-xs-eq0
returns-then-xs-eq0 c =
    list-none c.args.xs.now c.args.self.now c.if-xs-eq0.true

pub number-requires : goal.number-requires
number-requires c =
    first-room c.args.xs.now (omega arith) c.args.self.now c.requires

pub loop-i-init : goal.loop-i-init
loop-i-init c =
    (omega arith, refl, others-room c.args.xs.now (omega arith) c.number.ensures c.requires, left-start _ _)

pub next_number-requires : goal.next_number-requires
next_number-requires c =
    turn-room c.args.xs.now c.loop-i.i (omega arith) c.loop-i.invariant.3 c.loop-i.invariant.2

pub loop-i-preserved : goal.loop-i-preserved
loop-i-preserved c =
    let h : c.loop-i.i < length c.args.xs.now = omega arith in
    (omega arith, refl, c.loop-i.invariant.2, turn_more c.args.xs.now c.loop-i.i h c.loop-i.invariant.3 c.next_number.ensures)

pub returns : goal.returns
returns c =
    list-whole c.args.xs.now (omega arith) c.number.ensures (others-done c.args.xs.now c.loop-i.i (omega arith) c.loop-i.invariant.3)
