-- `occupy_all` meets its contract. The loop's invariant: what is left of the net's edges, put on their layers from here, gives the whole answer.
-- Assumes nothing.
use mathlib.Core.Path.{◌≡◌}
use Prim.Native.Nat.{ℕ, ◌+◌, ◌*◌, ◌≤◌}
use native.Mathlib.Omega.{arith}
use lib.ListN.{length}
use Rattle.layout.specs.Areas.{flat_at, above_at}
use Rattle.tracks.specs.OccupiedAll.{layers_at}
use Rattle.tracks.proofs.Occupying.{occupying-start, occupying-done, turn-takes, occupying-next}
use Rattle.tracks.proofs.occupy_all.Goals as goal
use Rattle.tracks.proofs.occupy_all.Goals.{After-struct_known-1}

-- where the edges and their layers stand
module _ (c : After-struct_known-1) where
  abbrev a : ℕ
  a = c.above_at-above.result

  abbrev b : ℕ
  b = c.engine_at.result + 3 * c.args.g.m

  a-is : a ≡ above_at c.args.g
  a-is = c.above_at-above.ensures.value

  b-is : b ≡ layers_at c.args.g
  b-is = omega (arith, c.engine_at.ensures)

  a-room : a + c.args.n ≤ length c.args.w.now
  a-room = omega (arith, a-is, c.requires.n_le_m)

  b-room : b + c.args.n ≤ length c.args.w.now
  b-room = omega (arith, b-is, c.requires.n_le_m)

  a-high : flat_at c.args.g ≤ a
  a-high = omega (arith, a-is)

  b-high : flat_at c.args.g ≤ b
  b-high = omega (arith, b-is)

pub loop-i-init : goal.loop-i-init
loop-i-init c =
    (omega arith, occupying-start c.args.g (a (goal.at.loop-i-init c).After-struct_known-1) (b (goal.at.loop-i-init c).After-struct_known-1) c.args.n c.args.w.now (a-is (goal.at.loop-i-init c).After-struct_known-1) (b-is (goal.at.loop-i-init c).After-struct_known-1) c.requires.can_take)

pub overflow_add-edge : goal.overflow_add-edge
overflow_add-edge c =
    omega (arith, a-room (goal.at.overflow_add-edge c).After-struct_known-1)

pub bounds-w-above : goal.bounds-w-above
bounds-w-above c =
    omega (arith, a-room (goal.at.bounds-w-above c).After-struct_known-1, c.loop-i.invariant.1.long)

pub overflow_cast-edge : goal.overflow_cast-edge
overflow_cast-edge c =
    omega (arith, c.slice_known-in-loop-i-1.given (a (goal.at.overflow_cast-edge c).After-struct_known-1 + c.loop-i.i))

pub overflow_add-layer : goal.overflow_add-layer
overflow_add-layer c =
    omega (arith, b-room (goal.at.overflow_add-layer c).After-struct_known-1)

pub bounds-w-layers : goal.bounds-w-layers
bounds-w-layers c =
    omega (arith, b-room (goal.at.bounds-w-layers c).After-struct_known-1, c.loop-i.invariant.1.long)

pub overflow_cast-layer : goal.overflow_cast-layer
overflow_cast-layer c =
    omega (arith, c.slice_known-in-loop-i-2-1.given (b (goal.at.overflow_cast-layer c).After-struct_known-1 + c.loop-i.i))

pub occupy-requires : goal.occupy-requires
occupy-requires c =
    let t = turn-takes c.args.g (a (goal.at.occupy-requires c).After-struct_known-1) (b (goal.at.occupy-requires c).After-struct_known-1) c.args.n c.args.w.now (a-room (goal.at.occupy-requires c).After-struct_known-1) (b-room (goal.at.occupy-requires c).After-struct_known-1) (a-high (goal.at.occupy-requires c).After-struct_known-1) (b-high (goal.at.occupy-requires c).After-struct_known-1) c.loop-i.w c.loop-i.i c.loop-i.invariant.1 (omega arith) in record { edge_lt_e = (t.edge, t.low, t.high, omega (arith, c.loop-i.invariant.1.long, a-high (goal.at.occupy-requires c).After-struct_known-1, a-room (goal.at.occupy-requires c).After-struct_known-1)); free = t.free }

pub loop-i-preserved : goal.loop-i-preserved
loop-i-preserved c = (
  omega arith,
  occupying-next c.args.g (a (goal.at.loop-i-preserved c).After-struct_known-1) (b (goal.at.loop-i-preserved c).After-struct_known-1) c.args.n c.args.w.now (a-room (goal.at.loop-i-preserved c).After-struct_known-1) (b-room (goal.at.loop-i-preserved c).After-struct_known-1) (a-high (goal.at.loop-i-preserved c).After-struct_known-1) (b-high (goal.at.loop-i-preserved c).After-struct_known-1) c.loop-i.w c.loop-i.i c.loop-i.invariant.1 (omega arith)
      c.occupy.new.w c.occupy.ensures,
)

pub shape_of-w : goal.shape_of-w
shape_of-w c =
    c.loop-i.invariant.1.long

pub returns : goal.returns
returns c =
    occupying-done c.args.g (a (goal.at.returns c).After-struct_known-1) (b (goal.at.returns c).After-struct_known-1) c.args.n c.args.w.now (a-is (goal.at.returns c).After-struct_known-1) (b-is (goal.at.returns c).After-struct_known-1) c.loop-i.w c.loop-i.i (omega arith) c.loop-i.invariant.1
