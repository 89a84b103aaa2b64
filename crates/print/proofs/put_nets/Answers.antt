-- `put_nets` meets its contract. The loop's invariant: the lines of the nets left, written from here, give the whole.
-- Assumes nothing.
use Prim.Native.Nat.{◌<◌}
use native.Mathlib.Omega.{arith}
use Rattle.print.proofs.Nets.{nets-start, net-room, net-more, nets-end}
use Rattle.print.proofs.put_nets.Goals as goal

pub loop-i-init : goal.loop-i-init
loop-i-init c =
    (omega arith, nets-start c.args.table.now c.args.answer.now c.args.w.now c.args.n)

pub put_row-requires : goal.put_row-requires
put_row-requires c =
    let h : c.loop-i.i < c.args.n = omega arith in record { row_inside = c.requires.rows c.loop-i.i h; i_in_bounds = net-room c.args.table.now c.args.answer.now c.loop-i.i c.args.n h c.loop-i.invariant.1 c.requires.n_in_bounds }

pub loop-i-preserved : goal.loop-i-preserved
loop-i-preserved c =
    let h : c.loop-i.i < c.args.n = omega arith in
    (omega arith, net-more c.args.table.now c.args.answer.now c.loop-i.i c.args.n h c.loop-i.invariant.1 c.put_row.ensures)

pub returns : goal.returns
returns c =
    nets-end c.args.table.now c.args.answer.now c.loop-i.i c.args.n (omega arith) c.loop-i.invariant.1
