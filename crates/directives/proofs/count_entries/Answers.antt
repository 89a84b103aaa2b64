-- `count_entries` meets its contract. The loop's invariant: the entries that came are counted.
-- Assumes nothing.
use Prim.Native.Nat.{ℕ, ◌≤◌, ◌<◌}
use native.Mathlib.Omega.{arith}
use lib.ListN.{length}
use Rattle.known.specs.Taken.{taken_start, taken_all, taken-inside, taken-new, taken_more}
use Rattle.layout.specs.Areas.{demand_at}
use Rattle.scan.specs.Pins.{triple}
use Rattle.ways.specs.Entry.{edge_of, placed}
use Rattle.directives.specs.Counting.{all_none, next-room, all_more}
use Rattle.directives.proofs.count_entries.Goals as goal
use Rattle.directives.proofs.count_entries.Goals.{In-Some}

-- the edge of the entry that came, inside the grid
module _ (c : In-Some) where
  abbrev edge : ℕ
  edge = let k = c.in-Some.e in edge_of c.args.g (triple k.x k.y k.third)

  known : edge < c.args.g.e
  known =
      let k = c.in-Some.e in
      let h = taken-inside c.loop-e.invariant.2 k c.next.new.self c.in-Some.ensures.steps in
      (placed c.args.g c.args.g.shaped (triple k.x k.y k.third) h.1 h.0).known

  room : demand_at c.args.g ≤ length c.loop-e.w
  room = omega (arith, c.requires.le_low.2, c.loop-e.invariant.2.holds.some.out.long)

pub loop-e-init : goal.loop-e-init
loop-e-init c =
    taken_start c.args.g.shaped c.requires.edges_there.0 c.requires.edges_there.1 (rw c.into_iter-e-iterator.ensures.into_iter_gives c.edges_from-e-items.ensures)
    (all_none c.args.g c.args.low c.requires.le_low.0 c.requires.le_low.1 c.args.w.now)

pub count_entry-requires : goal.count_entry-requires
count_entry-requires c =
    let x = c.args in
    let l = c.loop-e.invariant.2 in
    let in_grid = (goal.at.count_entry-requires c).In-Some in
    let h = taken-inside l c.in-Some.e c.next.new.self c.in-Some.ensures.steps in
    let new = taken-new l c.in-Some.e c.next.new.self c.in-Some.ensures.steps c.requires.edges_there.0 in
    record {
      le_low = (c.requires.le_low.0, c.requires.le_low.1, room in_grid, h.0, h.1);
      low_bound = next-room x.g x.low c.requires.le_low.0 c.requires.le_low.1 x.w.now l.so_far c.loop-e.w l.holds.some (edge in_grid) new (known in_grid) c.requires.le_low.3;
    }

pub loop-e-preserved : goal.loop-e-preserved
loop-e-preserved c =
    let x = c.args in
    let l = c.loop-e.invariant.2 in
    let in_grid = (goal.at.loop-e-preserved c).In-Some in
    taken_more l c.in-Some.e c.next.new.self c.in-Some.ensures.steps x.g.shaped
    (all_more x.g x.low c.requires.le_low.0 c.requires.le_low.1 x.w.now l.so_far c.loop-e.w l.holds (edge in_grid) (known in_grid) (room in_grid) c.count_entry.new.w c.count_entry.ensures)

pub returns-clause-w_after : goal.returns-clause-w_after
returns-clause-w_after c =
    λ n there. (taken_all c.loop-e.invariant.2 c.in-None.ensures.steps n there).w_is
