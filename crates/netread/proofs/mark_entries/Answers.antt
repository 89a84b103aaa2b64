-- `mark_entries` meets its contract. The loop's invariant: the edges that came are marked and listed.
-- Assumes nothing.
use native.Mathlib.Omega.{arith}
use Rattle.known.specs.Taken.{taken_start, taken_all, taken-inside, taken-new, taken-room, taken_more}
use Rattle.scan.specs.Pins.{triple}
use Rattle.netread.specs.Hand.{edges-start, edges_more, fits_more}
use Rattle.netread.proofs.mark_entries.Goals as goal

pub loop-e-init : goal.loop-e-init
loop-e-init c =
    taken_start c.args.g.shaped c.requires.edges_there.0 c.requires.edges_there.1 (rw c.into_iter-e-iterator.ensures.into_iter_gives c.edges_from-e-items.ensures)
    (edges-start c.args.g c.args.stamp c.args.low c.args.w.now, c.requires.g_in_bounds.2)

pub mark_edge-v-requires : goal.mark_edge-v-requires
mark_edge-v-requires c =
    let l = c.loop-e.invariant.2 in
    let k = taken-inside l c.in-Some.e c.next.new.self c.in-Some.ensures.steps in
    let few = taken-room l c.in-Some.e c.next.new.self c.in-Some.ensures.steps c.requires.edges_there.0 in
    record {
      g_in_bounds = (omega (arith, c.requires.g_in_bounds.0, l.holds.0.elsewhere.long), c.requires.g_in_bounds.1, omega (arith, l.holds.0.count, few), k.0, k.1);
      fits = l.holds.1;
    }

pub loop-e-preserved : goal.loop-e-preserved
loop-e-preserved c =
    let g = c.args.g in
    let n = c.args.stamp in
    let l = c.loop-e.invariant.2 in
    let e = c.in-Some.e in
    let k = taken-inside l e c.next.new.self c.in-Some.ensures.steps in
    let new = taken-new l e c.next.new.self c.in-Some.ensures.steps c.requires.edges_there.0 in
    let t = triple e.x e.y e.third in
    let w = c.loop-e.w in
    let after = c.mark_edge-v.new.w in
    let r = c.mark_edge-v.result in
    let one = c.mark_edge-v.ensures in
    taken_more l e c.next.new.self c.in-Some.ensures.steps g.shaped (
      edges_more g g.shaped n l.so_far w after (omega (arith, c.requires.g_in_bounds.0, l.holds.0.elsewhere.long)) t k.1 k.0 new c.loop-e.v r one l.holds.0.count c.args.low c.args.w.now l.holds.0,
      fits_more g g.shaped n l.so_far w after (omega (arith, c.requires.g_in_bounds.0, l.holds.0.elsewhere.long)) t k.1 k.0 new c.loop-e.v r one l.holds.0.count l.holds.1,
    )

pub returns : goal.returns
returns c =
    λ n there. (taken_all c.loop-e.invariant.2 c.in-None.ensures.steps n there).0
