-- `all_zero` meets its contract: what is left of the column decides, number after number (`Judged.antt`).
-- Assumes nothing.
use mathlib.Core.Path.{◌≡◌, refl, sym, ◌∙◌}
use Prim.Native.Nat.{◌+◌, ◌-◌}
use native.Mathlib.Nat.{sub-zero}
use lib.ListN.{length}
use Rattle.capacities.proofs.Judged.{zeros-none, zeros-end, zeros-next}
use Rattle.capacities.proofs.Steps.{room_in, room_next, room_small}
use native.Mathlib.Omega.{arith}
use Rattle.capacities.proofs.all_zero.Goals as goal

pub loop-init : goal.loop-init
loop-init c =
    rw (sub-zero c.args.of.count) (record { room = c.requires; same = refl })

pub bounds-w-at : goal.bounds-w-at
bounds-w-at c =
    room_in c.args.of.k c.loop.at (length c.args.w.now) (c.args.of.count - c.loop.counter) (omega arith) c.loop.invariant.room

pub offset_bounds-w-at : goal.offset_bounds-w-at
offset_bounds-w-at c =
    omega (arith, c.loop.invariant.room.small)

pub returns-then-w-at-ne0 : goal.returns-then-w-at-ne0
returns-then-w-at-ne0 c =
    sym (c.loop.invariant.same ∙ zeros-end c.args.of.k c.args.w.now c.loop.at (c.args.of.count - c.loop.counter) (omega arith) c.if-w-at-ne0.true)

pub overflow_add-at : goal.overflow_add-at
overflow_add-at c =
    omega (arith, room_small c.args.of.k c.loop.at (length c.args.w.now) (c.args.of.count - c.loop.counter) (omega arith) c.loop.invariant.room)

pub loop-preserved : goal.loop-preserved
loop-preserved c =
    let n : c.args.of.count - (c.loop.counter + 1) ≡ c.args.of.count - c.loop.counter - 1 = omega arith in
    rw n (record {
      room = room_next c.args.of.k c.loop.at (length c.args.w.now) (c.args.of.count - c.loop.counter) (omega arith) c.loop.invariant.room;
      same = c.loop.invariant.same ∙ zeros-next c.args.of.k c.args.w.now c.loop.at (c.args.of.count - c.loop.counter) (omega arith) c.if-w-at-ne0.false;
    })

pub returns : goal.returns
returns c =
    sym (c.loop.invariant.same ∙ zeros-none c.args.of.k c.args.w.now c.loop.at (c.args.of.count - c.loop.counter) (omega arith))
