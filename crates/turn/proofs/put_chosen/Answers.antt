-- `put_chosen` meets its contract. The loop's invariant: what is left of the net's edges, with their layers put from here, gives the whole answer.
-- Assumes nothing.
use mathlib.Core.Path.{◌≡◌}
use Prim.Native.Nat.{ℕ, ◌+◌, ◌*◌, ◌≤◌, ◌<◌}
use native.Mathlib.Omega.{arith}
use lib.ListN.{length, get_or}
use Rattle.layout.specs.Areas.{above_at}
use Rattle.tracks.specs.OccupiedAll.{layers_at}
use Rattle.turn.proofs.Answer.{putting-start, put-known, putting-next, putting-done}
use Rattle.turn.proofs.put_chosen.Goals as goal
use Rattle.turn.proofs.put_chosen.Goals.{After-chosen_at-chosen, At-loop-i}

-- where the edges and their layers stand, and where the layers go
module _ (d : After-chosen_at-chosen) where
  abbrev a : ℕ
  a = d.above_at-above.result

  abbrev b : ℕ
  b = d.engine_at.result + 3 * d.args.g.m

  a-is : a ≡ above_at d.args.g
  a-is = d.above_at-above.ensures.value

  b-is : b ≡ layers_at d.args.g
  b-is = omega (arith, d.engine_at.ensures.value, d.engine_at.ensures.upper_bound)

  a-room : a + d.args.n ≤ length d.args.w.now
  a-room = omega (arith, a-is, d.requires.g_in_bounds)

  b-room : b + d.args.n ≤ length d.args.w.now
  b-room = omega (arith, b-is, d.requires.g_in_bounds)

-- the next edge is one of the grid's, and there is room for its layer
module _ (l : At-loop-i) (h : l.loop-i.i < l.args.n) where
  edge_in : get_or l.loop-i.w (a (goal.at.At-loop-i l).After-chosen_at-chosen + l.loop-i.i) 0 < l.args.g.e
  edge_in =
      let x = l.args in
      put-known x.g l.args.g.shaped (a (goal.at.At-loop-i l).After-chosen_at-chosen) (b (goal.at.At-loop-i l).After-chosen_at-chosen) l.chosen_at-chosen.result x.n x.w.now (a-is (goal.at.At-loop-i l).After-chosen_at-chosen) (b-is (goal.at.At-loop-i l).After-chosen_at-chosen) l.chosen_at-chosen.ensures.value l.requires.g_in_bounds.2 l.loop-i.w l.loop-i.i l.loop-i.invariant.1
      l.loop-i.invariant.0 h

  layer-room : l.chosen_at-chosen.result + get_or l.loop-i.w (a (goal.at.At-loop-i l).After-chosen_at-chosen + l.loop-i.i) 0 < length l.loop-i.w
  layer-room = omega (arith, edge_in, l.args.g.shaped.e_tiles, l.chosen_at-chosen.ensures.value, l.requires.g_in_bounds.0, l.loop-i.invariant.1.long)

pub loop-i-init : goal.loop-i-init
loop-i-init c =
    (omega arith, putting-start (a (goal.at.loop-i-init c).After-chosen_at-chosen) (b (goal.at.loop-i-init c).After-chosen_at-chosen) c.chosen_at-chosen.result c.args.n c.args.w.now)

pub overflow_add-edge : goal.overflow_add-edge
overflow_add-edge c =
    omega (arith, a-room (goal.at.overflow_add-edge c).After-chosen_at-chosen)

pub bounds-w-above : goal.bounds-w-above
bounds-w-above c =
    omega (arith, a-room (goal.at.bounds-w-above c).After-chosen_at-chosen, c.loop-i.invariant.1.long)

pub overflow_cast-edge : goal.overflow_cast-edge
overflow_cast-edge c =
    omega (arith, c.slice_known-in-loop-i-1.given (a (goal.at.overflow_cast-edge c).After-chosen_at-chosen + c.loop-i.i))

pub overflow_add-layer : goal.overflow_add-layer
overflow_add-layer c =
    omega (arith, b-room (goal.at.overflow_add-layer c).After-chosen_at-chosen)

pub bounds-w-layers : goal.bounds-w-layers
bounds-w-layers c =
    omega (arith, b-room (goal.at.bounds-w-layers c).After-chosen_at-chosen, c.loop-i.invariant.1.long)

pub overflow_add-w : goal.overflow_add-w
overflow_add-w c =
    omega (arith, edge_in (goal.at.overflow_add-w c).At-loop-i (omega arith), c.args.g.shaped.e_most, c.chosen_at-chosen.ensures.upper_bound)

pub offset_bounds-w-chosen : goal.offset_bounds-w-chosen
offset_bounds-w-chosen c =
    omega (arith, edge_in (goal.at.offset_bounds-w-chosen c).At-loop-i (omega arith), c.args.g.shaped.e_most, c.chosen_at-chosen.ensures.upper_bound)

pub bounds-w-chosen : goal.bounds-w-chosen
bounds-w-chosen c =
    layer-room (goal.at.bounds-w-chosen c).At-loop-i (omega arith)

pub loop-i-preserved : goal.loop-i-preserved
loop-i-preserved c =
    let x = c.args in (
      omega arith,
      putting-next x.g c.args.g.shaped (a (goal.at.loop-i-preserved c).After-chosen_at-chosen) (b (goal.at.loop-i-preserved c).After-chosen_at-chosen) c.chosen_at-chosen.result x.n x.w.now (a-is (goal.at.loop-i-preserved c).After-chosen_at-chosen) (b-is (goal.at.loop-i-preserved c).After-chosen_at-chosen) c.chosen_at-chosen.ensures.value c.requires.g_in_bounds.2 c.loop-i.w c.loop-i.i c.loop-i.invariant.1
          c.loop-i.invariant.0 (omega arith) (a-room (goal.at.loop-i-preserved c).After-chosen_at-chosen) (b-room (goal.at.loop-i-preserved c).After-chosen_at-chosen),
    )

pub shape_of-w : goal.shape_of-w
shape_of-w c =
    c.loop-i.invariant.1.long

pub returns : goal.returns
returns c =
    let x = c.args in
    putting-done x.g c.args.g.shaped (a (goal.at.returns c).After-chosen_at-chosen) (b (goal.at.returns c).After-chosen_at-chosen) c.chosen_at-chosen.result x.n x.w.now (a-is (goal.at.returns c).After-chosen_at-chosen) (b-is (goal.at.returns c).After-chosen_at-chosen) c.chosen_at-chosen.ensures.value c.requires.g_in_bounds.2 c.loop-i.w c.loop-i.i c.loop-i.invariant.1
    (omega arith)
