-- `visit` meets its contract.
-- Assumes nothing.
use mathlib.Core.Path.{◌≡◌, refl}
use Prim.Native.Nat.{ℕ, ◌+◌, ◌%◌, ◌<◌}
use native.Mathlib.Omega.{arith}
use lib.ListN.{length, get_or, set, length-set}
use Rattle.layout.specs.Areas.{engine_at}
use Rattle.walk.specs.Steps.{branches_in, visited}
use Rattle.walk.proofs.Visits.{visit-asked, visit-done}
use Rattle.walk.proofs.visit.Goals as goal
use Rattle.walk.proofs.visit.Goals.{After-branches-end, After-slice_known-2-1, After-w-1}

-- the tile that is read is one of the grid
tile-small : (k : After-slice_known-2-1) → get_or k.args.w.now (k.stops_at.result + k.args.i) 0 < k.args.g.t
tile-small k = rw k.stops_at.ensures.value k.requires.i_lt_m.1

-- after the branches are written
module _ (p : After-branches-end) where
  done : (v v' : ℕ) → v ≡ engine_at p.args.g → v' ≡ engine_at p.args.g
      → (p.branches-end.result ≡ p.args.n + length (branches_in p.args.g p.args.stamp p.args.w.now p.args.i))
      × (set (set p.branches-end.new.w (v + p.args.i) p.branches-end.result) (v' + p.args.g.m + p.args.i) (p.latest_bits-m.result % 256) ≡ visited p.args.g p.args.stamp p.args.w.now p.args.i p.args.n)
  done =
      visit-done p.args.g p.args.stamp p.args.w.now p.args.i p.args.n
      p.stops_at.result p.above_at.result p.tiles_at.result p.latest_bits-m.result p.stops_at.ensures.value p.above_at.ensures.value p.tiles_at.ensures.value p.latest_bits-m.ensures.value
      p.branches-end.result p.branches-end.new.w p.branches-end.ensures.value p.branches-end.ensures.w_after

pub overflow_cast-x : goal.overflow_cast-x
overflow_cast-x c =
    omega (arith, tile-small (goal.at.overflow_cast-x c).After-slice_known-2-1)

pub overflow_cast-above : goal.overflow_cast-above
overflow_cast-above c =
    omega (arith, c.slice_known-3-1.given (c.above_at.result + c.args.i))

pub overflow_add-tiles_at : goal.overflow_add-tiles_at
overflow_add-tiles_at c =
    omega (arith, tile-small (goal.at.overflow_add-tiles_at c).After-slice_known-2-1)

pub offset_bounds-w-tiles_at : goal.offset_bounds-w-tiles_at
offset_bounds-w-tiles_at c =
    omega (arith, tile-small (goal.at.offset_bounds-w-tiles_at c).After-slice_known-2-1)

pub bounds-w-tiles_at : goal.bounds-w-tiles_at
bounds-w-tiles_at c =
    omega (arith, tile-small (goal.at.bounds-w-tiles_at c).After-slice_known-2-1)

pub latest_bits-m-requires : goal.latest_bits-m-requires
latest_bits-m-requires c =
    (c.requires.stamp_le_most_stamp.0, rw (c.stops_at.ensures.value, c.tiles_at.ensures.value) c.requires.stamp_le_most_stamp.1)

pub branches-end-requires : goal.branches-end-requires
branches-end-requires c =
    let r = visit-asked c.args.g c.args.stamp c.args.w.now c.args.i c.args.n
    c.stops_at.result c.above_at.result c.tiles_at.result c.latest_bits-m.result c.stops_at.ensures.value c.above_at.ensures.value c.tiles_at.ensures.value c.latest_bits-m.ensures.value
    c.requires.by_index c.requires.i_bound in record { g_in_bounds = c.requires.g_in_bounds; by_index = r.0; four_ways_bound = r.1 }

pub overflow_cast-w : goal.overflow_cast-w
overflow_cast-w c =
    omega (arith, (done (goal.at.overflow_cast-w c).After-branches-end _ _ refl refl).0, c.args.g.shaped, c.requires.i_bound)

pub bounds-w-engine_at-2 : goal.bounds-w-engine_at-2
bounds-w-engine_at-2 c =
    omega (arith, c.args.g.shaped, c.requires.g_in_bounds, c.requires.i_lt_m, c.requires.by_index, c.requires.i_bound, c.requires.stamp_le_most_stamp, (goal.at.bounds-w-engine_at-2 c).After-w-1, c.engine_at-2.ensures.value, length-set c.branches-end.new.w (c.engine_at.result + c.args.i) c.branches-end.result)

pub returns : goal.returns
returns c =
    let r = done (goal.at.returns c).After-branches-end c.engine_at.result c.engine_at-2.result c.engine_at.ensures.value c.engine_at-2.ensures.value in record { value = r.0; w_after = r.1 }
