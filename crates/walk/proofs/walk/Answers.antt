-- `walk` meets its contract. The loop's invariant: of the n places written, those below i are taken out, and what stands there is the walk up to there.
-- The measure is what is left of the grid's tiles.
-- Assumes nothing.
use mathlib.Core.Path.{ap₂}
use Prim.Native.Nat.{ℕ, ◌<◌}
use native.Mathlib.Omega.{arith}
use lib.ListN.{set, length-set}
use Rattle.model.specs.Job.{Job, Net}
use Rattle.walk.specs.Steps.{tile_in}
use Rattle.walk.specs.Walked.{Walks, WalkReady}
use Rattle.walk.proofs.Going.{Going, root_in, going_start, visit-tile, visit-ways, visit-room, visit-fits, going_next, going_end}
use Rattle.walk.proofs.walk.Goals as goal
use Rattle.walk.proofs.walk.Goals.{At-loop-i}

-- at the loop's test: the walk of any net that is at hand, and of the one that is
module _ (l : At-loop-i) where
  going : (j : Job) (net : Net) → Walks l.args.g l.args.stamp j net l.args.root l.args.w.now
      → Going l.args.g l.args.stamp j net l.args.w.now l.loop-i.w l.loop-i.i l.loop-i.n
  going j net h =
      l.loop-i.invariant j net l.args.w.now
      (record { room = l.requires.g_in_bounds; walks = h; first = ap₂ (λ (a b : ℕ). set (set l.args.w.now a l.args.root) b l.args.g.e) l.stops_at.ensures.value l.above_at.ensures.value })

  abbrev ready : WalkReady l.args.g l.args.stamp l.args.root l.args.w.now
  ready = l.requires.walk_ready

  now-going : Going l.args.g l.args.stamp ready.job ready.net l.args.w.now l.loop-i.w l.loop-i.i l.loop-i.n
  now-going = going ready.job ready.net ready.walks

  in-grid : l.loop-i.i < l.loop-i.n → (l.loop-i.i < l.args.g.m) × (tile_in l.args.g l.loop-i.w l.loop-i.i < l.args.g.t)
  in-grid = visit-tile l.args.g l.args.g.shaped l.args.stamp ready.job ready.net l.args.root l.args.w.now l.requires.g_in_bounds ready.walks l.loop-i.w l.loop-i.i l.loop-i.n now-going

pub overflow_cast-w : goal.overflow_cast-w
overflow_cast-w c =
    let n = c.requires.walk_ready in
    omega (arith, c.args.g.shaped, root_in c.args.g c.args.g.shaped c.args.stamp n.job n.net c.args.root c.args.w.now c.requires.g_in_bounds n.walks)

pub bounds-w-above_at : goal.bounds-w-above_at
bounds-w-above_at c =
    omega (arith, c.args.g.shaped, c.requires.g_in_bounds, c.above_at.ensures.value, length-set c.args.w.now c.stops_at.result c.args.root)

pub loop-i-init : goal.loop-i-init
loop-i-init c =
    λ j net e b. going_start c.args.g c.args.g.shaped c.args.stamp j net c.args.root e b.room b.walks _ b.first

pub visit-n-requires : goal.visit-n-requires
visit-n-requires c =
    let h = c.loop-i-test.true in
    let x = c.args in
    let n = ready (goal.at.visit-n-requires c).At-loop-i in record { g_in_bounds = omega (arith, c.requires.g_in_bounds, (now-going (goal.at.visit-n-requires c).At-loop-i).outside.long); i_lt_m = in-grid (goal.at.visit-n-requires c).At-loop-i h; by_index = visit-ways x.g c.args.g.shaped x.stamp n.job n.net x.root x.w.now c.requires.g_in_bounds n.walks c.loop-i.w c.loop-i.i c.loop-i.n (now-going (goal.at.visit-n-requires c).At-loop-i) h; i_bound = visit-room x.g c.args.g.shaped x.stamp n.job n.net x.root x.w.now c.requires.g_in_bounds n.walks c.loop-i.w c.loop-i.i c.loop-i.n (now-going (goal.at.visit-n-requires c).At-loop-i) h; stamp_le_most_stamp = (c.requires.stamp_le_most_stamp, visit-fits x.g c.args.g.shaped x.stamp n.job n.net x.root x.w.now c.requires.g_in_bounds n.walks c.loop-i.w c.loop-i.i c.loop-i.n (now-going (goal.at.visit-n-requires c).At-loop-i) h) }

pub overflow_add-i : goal.overflow_add-i
overflow_add-i c =
    omega (arith, in-grid (goal.at.overflow_add-i c).At-loop-i c.loop-i-test.true, c.args.g.shaped)

pub loop-i-smaller : goal.loop-i-smaller
loop-i-smaller c =
    omega (arith, in-grid (goal.at.loop-i-smaller c).At-loop-i c.loop-i-test.true)

pub loop-i-preserved : goal.loop-i-preserved
loop-i-preserved c =
    let x = c.args in
    λ j net w₀ b.
    going_next x.g c.args.g.shaped x.stamp j net x.root w₀ b.room b.walks c.loop-i.w c.loop-i.i c.loop-i.n (c.loop-i.invariant j net w₀ b) c.loop-i-test.true
    c.visit-n.new.w c.visit-n.result c.visit-n.ensures.value c.visit-n.ensures.w_after

pub shape_of-w : goal.shape_of-w
shape_of-w c =
    (now-going (goal.at.shape_of-w c).At-loop-i).outside.long

pub returns : goal.returns
returns c =
    let x = c.args in
    λ j net h. going_end x.g c.args.g.shaped x.stamp j net x.root x.w.now c.requires.g_in_bounds h c.loop-i.w c.loop-i.i c.loop-i.n (going (goal.at.returns c).At-loop-i j net h) c.loop-i-test.false
