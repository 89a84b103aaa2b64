-- `count_kept` meets its contract. The loop's invariant: of the entries that came those are counted that are marked.
-- Assumes nothing.
use native.Mathlib.Omega.{arith}
use Rattle.known.specs.Taken.{taken_start, taken_all, taken-inside, taken-new, taken_more}
use Rattle.scan.specs.Pins.{triple}
use Rattle.ways.specs.Entry.{edge_of, placed}
use Rattle.directives.specs.Counting.{kept-none, next-room, kept-net}
use Rattle.directives.proofs.count_kept.Goals as goal

pub loop-e-init : goal.loop-e-init
loop-e-init c =
    taken_start c.args.g.shaped c.requires.edges_there.0 c.requires.edges_there.1 (rw c.into_iter-e-iterator.ensures.into_iter_gives c.edges_from-e-items.ensures)
    (kept-none c.args.g c.args.low c.requires.le_low.0 c.requires.le_low.1 c.args.w.now c.args.stamp)

pub count_if_kept-requires : goal.count_if_kept-requires
count_if_kept-requires c =
    let x = c.args in
    let l = c.loop-e.invariant.2 in
    let k = c.in-Some.e in
    let h = taken-inside l k c.next.new.self c.in-Some.ensures.steps in
    let new = taken-new l k c.next.new.self c.in-Some.ensures.steps c.requires.edges_there.0 in
    let known = (placed x.g x.g.shaped (triple k.x k.y k.third) h.1 h.0).known in
    record {
      le_low = (c.requires.le_low.0, c.requires.le_low.1, omega (arith, c.requires.le_low.2, l.holds.some.out.long), h.0, h.1);
      low_bound = next-room x.g x.low c.requires.le_low.0 c.requires.le_low.1 x.w.now l.so_far c.loop-e.w l.holds.some (edge_of x.g (triple k.x k.y k.third)) new known c.requires.le_low.3;
    }

pub loop-e-preserved : goal.loop-e-preserved
loop-e-preserved c =
    let l = c.loop-e.invariant.2 in
    taken_more l c.in-Some.e c.next.new.self c.in-Some.ensures.steps c.args.g.shaped (c.count_if_kept.ensures.by_index c.args.w.now l.so_far l.holds)

pub returns-clause-w_after : goal.returns-clause-w_after
returns-clause-w_after c =
    let x = c.args in
    λ n there. kept-net x.s.now x.g x.at x.low x.stamp x.w.now c.loop-e.w n there (taken_all c.loop-e.invariant.2 c.in-None.ensures.steps n there.edges)
