-- `kept_density` meets its contract. The loop's invariant: of the entries that came those are summed that are marked.
-- Assumes nothing.
use native.Mathlib.Omega.{arith}
use Rattle.known.specs.Taken.{taken_start, taken_all, taken-inside, taken-room, taken_more}
use Rattle.order.specs.Sums.{kept-none, kept-job}
use Rattle.order.proofs.kept_density.Goals as goal

pub loop-e-init : goal.loop-e-init
loop-e-init c =
    taken_start c.args.g.shaped c.requires.edges_there.0 c.requires.edges_there.1 (rw c.into_iter-e-iterator.ensures.into_iter_gives c.edges_from-e-items.ensures)
    (kept-none c.args.g c.args.stamp c.args.w.now)

pub add_kept-v-requires : goal.add_kept-v-requires
add_kept-v-requires c =
    let l = c.loop-e.invariant.2 in
    let k = taken-inside l c.in-Some.e c.next.new.self c.in-Some.ensures.steps in
    let few = taken-room l c.in-Some.e c.next.new.self c.in-Some.ensures.steps c.requires.edges_there.0 in
    let most = c.args.g.shaped.e_most in
    record { g_in_bounds = (c.requires.g_in_bounds, omega (arith, few, most, l.holds.demand_most), omega (arith, few, most, l.holds.capacity_most), k.0, k.1) }

pub loop-e-preserved : goal.loop-e-preserved
loop-e-preserved c =
    let l = c.loop-e.invariant.2 in
    taken_more l c.in-Some.e c.next.new.self c.in-Some.ensures.steps c.args.g.shaped (c.add_kept-v.ensures l.so_far l.holds)

pub returns : goal.returns
returns c =
    let x = c.args in
    λ j n there. kept-job x.s.now x.g x.at x.stamp x.w.now n there c.loop-e.v (taken_all c.loop-e.invariant.2 c.in-None.ensures.steps n there.edges) j
