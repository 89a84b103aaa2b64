-- `entries_density` meets its contract. The loop's invariant: the entries that came are summed.
-- Assumes nothing.
use native.Mathlib.Omega.{arith}
use Rattle.known.specs.Taken.{taken_start, taken_all, taken-inside, taken-room, taken_more}
use Rattle.scan.specs.Pins.{triple}
use Rattle.ways.specs.Entry.{edge_of, placed}
use Rattle.order.specs.Sums.{sums_none, sums-more, sums-job}
use Rattle.order.proofs.entries_density.Goals as goal

pub loop-e-init : goal.loop-e-init
loop-e-init c =
    taken_start c.args.g.shaped c.requires.edges_there.0 c.requires.edges_there.1 (rw c.into_iter-e-iterator.ensures.into_iter_gives c.edges_from-e-items.ensures)
    (sums_none c.args.g c.args.w.now)

pub add_entry-v-requires : goal.add_entry-v-requires
add_entry-v-requires c =
    let l = c.loop-e.invariant.2 in
    let k = taken-inside l c.in-Some.e c.next.new.self c.in-Some.ensures.steps in
    let few = taken-room l c.in-Some.e c.next.new.self c.in-Some.ensures.steps c.requires.edges_there.0 in
    let most = c.args.g.shaped.e_most in
    record { g_in_bounds = (c.requires.g_in_bounds, omega (arith, few, most, l.holds.demand_most), omega (arith, few, most, l.holds.capacity_most), k.0, k.1) }

pub loop-e-preserved : goal.loop-e-preserved
loop-e-preserved c =
    let x = c.args in
    let l = c.loop-e.invariant.2 in
    let n = c.in-Some.e in
    let k = taken-inside l n c.next.new.self c.in-Some.ensures.steps in
    taken_more l n c.next.new.self c.in-Some.ensures.steps x.g.shaped
    (sums-more x.g x.w.now l.so_far c.loop-e.v l.holds (edge_of x.g (triple n.x n.y n.third))
    (placed x.g x.g.shaped (triple n.x n.y n.third) k.1 k.0).known c.add_entry-v.result c.add_entry-v.ensures)

pub returns : goal.returns
returns c =
    λ j n there. sums-job c.args.g c.args.w.now n.entries c.loop-e.v (taken_all c.loop-e.invariant.2 c.in-None.ensures.steps n there) j
