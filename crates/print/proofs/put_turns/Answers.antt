-- `put_turns` meets its contract. The loop's invariant: the nets left, written from here, give all behind the first.
-- Assumes nothing.
use Prim.Native.Nat.{◌<◌}
use native.Mathlib.Omega.{arith}
use Rattle.put.specs.Wrote.{left-start}
use Rattle.print.proofs.Turns.{turns-none, turn-room, turn_more, first-room, others-room, turns-whole, turns-end}
use Rattle.print.proofs.put_turns.Goals as goal

pub returns-then-n-eq0 : goal.returns-then-n-eq0
returns-then-n-eq0 c =
    turns-none c.args.table.now c.args.n c.if-n-eq0.true c.args.w.now

pub number-requires : goal.number-requires
number-requires c =
    first-room c.args.table.now c.args.n c.turn_of.result (omega arith) c.turn_of.ensures c.args.w.now c.requires.n_in_bounds

pub loop-k-init : goal.loop-k-init
loop-k-init c = (
  omega arith,
  others-room c.args.table.now c.args.n c.turn_of.result (omega arith) c.turn_of.ensures c.number.ensures c.requires.n_in_bounds,
  left-start _ _,
)

pub next_number-requires : goal.next_number-requires
next_number-requires c =
    turn-room c.args.table.now c.args.n c.loop-k.k c.turn_of-in-loop-k.result (omega arith) c.turn_of-in-loop-k.ensures c.loop-k.invariant.2 c.loop-k.invariant.1

pub loop-k-preserved : goal.loop-k-preserved
loop-k-preserved c =
    let h : c.loop-k.k < c.args.n = omega arith in (
      omega arith,
      c.loop-k.invariant.1,
      turn_more c.args.table.now c.args.n c.loop-k.k c.turn_of-in-loop-k.result h c.turn_of-in-loop-k.ensures c.loop-k.invariant.2 c.next_number.ensures,
    )

pub returns : goal.returns
returns c =
    turns-whole c.args.table.now c.args.n c.turn_of.result (omega arith) c.turn_of.ensures c.number.ensures
    (turns-end c.args.table.now c.args.n c.loop-k.k (omega arith) c.loop-k.invariant.2)
