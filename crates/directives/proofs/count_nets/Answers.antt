-- `count_nets` meets its contract. The loop's invariant: the first i nets are counted (`Nets.antt`).
-- Assumes nothing.
use Prim.Native.Nat.{◌≤◌}
use native.Mathlib.Omega.{arith}
use lib.ListN.{length}
use Rattle.layout.specs.Areas.{demand_at}
use Rattle.directives.proofs.Nets.{counted_start, next-there, next-stamp, counted_next, counted-done}
use Rattle.directives.proofs.count_nets.Goals as goal
use Rattle.directives.proofs.count_nets.Goals.{At-loop-i}

-- the loop
module _ (m : At-loop-i) where
  room : demand_at m.args.g ≤ length m.args.w.now
  room = omega (arith, m.requires.g_in_bounds.0)

  few : m.args.n ≤ 4096
  few = let o = m.requires.asked_some in omega (arith, o.count, o.asked.accepted.count_of_nets)

pub loop-i-init : goal.loop-i-init
loop-i-init c =
    let x = c.args in
    counted_start x.s.now x.g c.args.g.shaped x.table.now x.n x.w.now c.requires.g_in_bounds.1

pub overflow_mul-n : goal.overflow_mul-n
overflow_mul-n c =
    omega (arith, few (goal.at.overflow_mul-n c).At-loop-i)

pub overflow_add-n : goal.overflow_add-n
overflow_add-n c =
    omega (arith, few (goal.at.overflow_add-n c).At-loop-i)

pub overflow_cast-n : goal.overflow_cast-n
overflow_cast-n c =
    omega (arith, few (goal.at.overflow_cast-n c).At-loop-i)

pub count_net-requires : goal.count_net-requires
count_net-requires c =
    let x = c.args in
    let t = next-stamp x.s.now x.g c.args.g.shaped x.table.now x.n x.w.now c.loop-i.i c.loop-i.w c.loop-i.invariant (room (goal.at.count_net-requires c).At-loop-i) c.requires.asked_some c.loop-i-test.true in record { g_in_bounds = (omega (arith, c.requires.g_in_bounds.0, c.loop-i.invariant.long), t.0, t.1); some_net = next-there x.s.now x.g c.args.g.shaped x.table.now x.n x.w.now c.loop-i.i c.loop-i.w c.loop-i.invariant (room (goal.at.count_net-requires c).At-loop-i) c.requires.asked_some c.loop-i-test.true }

pub loop-i-smaller : goal.loop-i-smaller
loop-i-smaller c =
    omega (arith, c.loop-i-test.true)

pub loop-i-preserved : goal.loop-i-preserved
loop-i-preserved c =
    let x = c.args in
    counted_next x.s.now x.g c.args.g.shaped x.table.now x.n x.w.now c.loop-i.i c.loop-i.w c.loop-i.invariant (room (goal.at.loop-i-preserved c).At-loop-i) c.loop-i-test.true
    c.count_net.new.w c.count_net.ensures.w_len_unchanged c.count_net.ensures.remarked

pub shape_of-w : goal.shape_of-w
shape_of-w c =
    c.loop-i.invariant.long

pub returns : goal.returns
returns c =
    let x = c.args in record { remarked = counted-done x.s.now x.g c.args.g.shaped x.table.now x.n x.w.now c.loop-i.i c.loop-i.w c.loop-i.invariant (room (goal.at.returns c).At-loop-i) c.loop-i-test.false; w_len_unchanged = c.loop-i.invariant.long }
