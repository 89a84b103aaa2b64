-- `drop_entries` meets its contract. The loop's invariant: the entries that came are taken out where they are not marked.
-- Assumes nothing.
use mathlib.Core.Bool.{not}
use mathlib.Core.Path.{sym, subst}
use native.Mathlib.Omega.{arith}
use Rattle.known.specs.Taken.{taken_start, taken_all, taken-inside, taken-new, taken_in, taken-room, taken_more}
use Rattle.model.specs.Lists.{has}
use Rattle.net.specs.AtHand.{Drawn}
use Rattle.scan.specs.Pins.{triple}
use Rattle.theory.specs.congestion.Sums.{keep-shorter}
use Rattle.ways.specs.Entry.{edge_of, placed}
use Rattle.cut.specs.Dropped.{Uncounted, uncounted-none, tiles-kept, still-counted}
use Rattle.cut.proofs.drop_entries.Goals as goal
use Rattle.cut.proofs.drop_entries.Goals.{At-loop-e}

-- what came, for the pins and edges that are marked
module _ (l : At-loop-e) where
  so_far : Uncounted l.args.g l.requires.g_in_bounds.1.edges l.loop-e.invariant.2.so_far l.args.w.now l.loop-e.w l.loop-e.dropped
  so_far = let m = l.requires.g_in_bounds.1 in l.loop-e.invariant.2.holds m.pins m.edges m.drawn

pub loop-e-init : goal.loop-e-init
loop-e-init c =
    taken_start c.args.g.shaped c.requires.edges_there.0 c.requires.edges_there.1 (rw c.into_iter-e-iterator.ensures.into_iter_gives c.edges_from-e-items.ensures)
    (λ ps es drawn. uncounted-none c.args.g es c.args.w.now)

pub drop_edge-dropped-requires : goal.drop_edge-dropped-requires
drop_edge-dropped-requires c =
    let g = c.args.g in
    let n = c.in-Some.e in
    let l = c.loop-e.invariant.2 in
    let u = c.next.new.self in
    let gives = c.in-Some.ensures.steps in
    let counts = c.requires.entries_counted in
    let before = so_far (goal.at.drop_edge-dropped-requires c).At-loop-e in
    let k = taken-inside l n u gives in
    let x = edge_of g (triple n.x n.y n.third) in
    let still = still-counted g c.requires.g_in_bounds.1.edges l.so_far c.args.w.now c.loop-e.w c.loop-e.dropped before x (taken-new l n u gives c.requires.edges_there.0) (placed g g.shaped (triple n.x n.y n.third) k.1 k.0).known in
    record {
      g_in_bounds = (omega (arith, c.requires.g_in_bounds.0, before.out.long), k.0, k.1);
      bound = omega (arith, still, counts.counted x (taken_in l n u gives counts.net counts.edges));
    }

pub overflow_add-dropped : goal.overflow_add-dropped
overflow_add-dropped c =
    let l = c.loop-e.invariant.2 in
    let before = so_far (goal.at.overflow_add-dropped c).At-loop-e in
    let few = taken-room l c.in-Some.e c.next.new.self c.in-Some.ensures.steps c.requires.edges_there.0 in
    omega (arith, before.count, few, keep-shorter (λ x. not (has c.requires.g_in_bounds.1.edges x)) l.so_far, c.drop_edge-dropped.ensures.upper_bound.0, c.args.g.shaped.e_most)

pub loop-e-preserved : goal.loop-e-preserved
loop-e-preserved c =
    let l = c.loop-e.invariant.2 in
    let before = so_far (goal.at.loop-e-preserved c).At-loop-e in
    taken_more l c.in-Some.e c.next.new.self c.in-Some.ensures.steps c.args.g.shaped
    (λ ps es drawn.
    c.drop_edge-dropped.ensures.uncounted ps es l.so_far c.args.w.now c.loop-e.dropped
    (subst (Drawn c.args.g c.args.stamp ps es) (sym (tiles-kept c.args.g c.args.w.now c.loop-e.w before.out)) drawn)
    (l.holds ps es drawn))

pub returns-clause-dropping : goal.returns-clause-dropping
returns-clause-dropping c = taken_all c.loop-e.invariant.2 c.in-None.ensures.steps
