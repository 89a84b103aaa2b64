-- `join_entries` meets its contract. The loop's invariant: the entries that came are joined.
-- Assumes nothing.
use native.Mathlib.Omega.{arith}
use Rattle.known.specs.Taken.{taken_start, taken_all, taken-inside, taken-new, taken_more}
use Rattle.cut.specs.Joining.{joined-start}
use Rattle.cut.proofs.join_entries.Goals as goal

pub loop-e-init : goal.loop-e-init
loop-e-init c =
    taken_start c.args.g.shaped c.requires.edges_there.0 c.requires.edges_there.1 (rw c.into_iter-e-iterator.ensures.into_iter_gives c.edges_from-e-items.ensures)
    (joined-start c.args.g c.args.stamp c.args.w.now c.requires.g_in_bounds.2 c.requires.g_in_bounds.3)

pub join_edge-requires : goal.join_edge-requires
join_edge-requires c =
    let l = c.loop-e.invariant.2 in
    let k = taken-inside l c.in-Some.e c.next.new.self c.in-Some.ensures.steps in
    record { g_in_bounds = (omega (arith, c.requires.g_in_bounds.0, l.holds.around.long), c.requires.g_in_bounds.1, k.0, k.1); fits = (l.holds.fits, l.holds.links) }

pub loop-e-preserved : goal.loop-e-preserved
loop-e-preserved c =
    let l = c.loop-e.invariant.2 in
    let gives = c.in-Some.ensures.steps in
    taken_more l c.in-Some.e c.next.new.self gives c.args.g.shaped
    (c.join_edge.ensures.by_index l.so_far c.args.w.now (taken-new l c.in-Some.e c.next.new.self gives c.requires.edges_there.0) l.holds)

pub returns-clause-joined : goal.returns-clause-joined
returns-clause-joined c = taken_all c.loop-e.invariant.2 c.in-None.ensures.steps
