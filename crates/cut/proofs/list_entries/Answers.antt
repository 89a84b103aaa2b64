-- `list_entries` meets its contract. The loop's invariant: the entries that came are listed.
-- Assumes nothing.
use mathlib.Core.Logic.{inl}
use mathlib.Core.Path.{◌≡◌, sym, subst}
use Prim.Native.Nat.{◌*◌}
use native.Mathlib.Omega.{arith}
use Rattle.known.specs.Taken.{taken_start, taken_all, taken-inside, taken-room, taken_more}
use Rattle.layout.specs.Areas.{tiles_at, list_at, tiles_of}
use Rattle.layout.specs.Parts.{part-outside}
use Rattle.net.specs.AtHand.{Drawn}
use Rattle.cut.specs.Listing.{Listed, listed-none}
use Rattle.cut.proofs.list_entries.Goals as goal
use Rattle.cut.proofs.list_entries.Goals.{At-loop-e}

-- what came, for the pins and edges that are marked
module _ (l : At-loop-e) where
  so_far : Listed l.args.g l.requires.g_in_bounds.1.edges l.loop-e.invariant.2.so_far l.args.low l.args.w.now l.loop-e.w l.loop-e.v
  so_far = let m = l.requires.g_in_bounds.1 in l.loop-e.invariant.2.holds m.pins m.edges m.drawn

  tiles-same : tiles_of l.args.g l.loop-e.w ≡ tiles_of l.args.g l.args.w.now
  tiles-same = let g = l.args.g in part-outside (list_at g) (2 * g.t) l.args.w.now l.loop-e.w so_far.out (tiles_at g) g.t (inl (omega arith))

pub loop-e-init : goal.loop-e-init
loop-e-init c =
    taken_start c.args.g.shaped c.requires.edges_there.0 c.requires.edges_there.1 (rw c.into_iter-e-iterator.ensures.into_iter_gives c.edges_from-e-items.ensures)
    (λ ps es drawn. listed-none c.args.g es c.args.low c.args.w.now)

pub list_edge-v-requires : goal.list_edge-v-requires
list_edge-v-requires c =
    let l = c.loop-e.invariant.2 in
    let before = so_far (goal.at.list_edge-v-requires c).At-loop-e in
    let k = taken-inside l c.in-Some.e c.next.new.self c.in-Some.ensures.steps in
    let few = taken-room l c.in-Some.e c.next.new.self c.in-Some.ensures.steps c.requires.edges_there.0 in
    record { g_in_bounds = (omega (arith, c.requires.g_in_bounds.0, before.out.long), omega (arith, before.count, few), k.0, k.1) }

pub loop-e-preserved : goal.loop-e-preserved
loop-e-preserved c =
    let l = c.loop-e.invariant.2 in
    taken_more l c.in-Some.e c.next.new.self c.in-Some.ensures.steps c.args.g.shaped
    (λ ps es drawn.
    c.list_edge-v.ensures.listed ps es l.so_far c.args.w.now c.args.low
    (subst (Drawn c.args.g c.args.stamp ps es) (sym (tiles-same (goal.at.loop-e-preserved c).At-loop-e)) drawn)
    (l.holds ps es drawn))

pub returns-clause-listing : goal.returns-clause-listing
returns-clause-listing c = taken_all c.loop-e.invariant.2 c.in-None.ensures.steps
