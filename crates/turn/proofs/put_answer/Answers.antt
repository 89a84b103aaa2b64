-- `put_answer` meets its contract. The loop's invariant: the first i layers are written.
-- Assumes nothing.
use mathlib.Core.Path.{◌≡◌, ap, ap₂}
use Prim.Native.Nat.{ℕ, ◌+◌, ◌≤◌, ◌<◌}
use native.Mathlib.Omega.{arith}
use lib.ListN.{length, get_or}
use Rattle.layout.specs.Areas.{chosen_at, list_at}
use Rattle.turn.proofs.Answer.{answering-start, answering-next, answering-done}
use Rattle.turn.proofs.put_answer.Goals as goal
use Rattle.turn.proofs.put_answer.Goals.{After-chosen_at-chosen, At-loop-i}

-- the edges and the layers by edge stand in the working numbers
module _ (d : After-chosen_at-chosen) where
  abbrev a : ℕ
  a = d.list_at-list.result

  abbrev b : ℕ
  b = d.chosen_at-chosen.result

  a-is : a ≡ list_at d.args.g
  a-is = omega (arith, d.list_at-list.ensures.value)

  b-is : b ≡ chosen_at d.args.g
  b-is = d.chosen_at-chosen.ensures.value

  a-room : a + length d.args.out.now ≤ length d.args.w.now
  a-room = omega (arith, a-is, d.requires.g_in_bounds)

-- the next edge is one of the grid's, and its layer is small
module _ (l : At-loop-i) (h : l.loop-i.i < length l.args.out.now) where
  edge_in : get_or l.args.w.now (a (goal.at.At-loop-i l).After-chosen_at-chosen + l.loop-i.i) 0 < l.args.g.e
  edge_in =
      omega (arith, ap (λ (x : ℕ). get_or l.args.w.now (x + l.loop-i.i) 0) (a-is (goal.at.At-loop-i l).After-chosen_at-chosen), l.requires.can_answer.known l.loop-i.i h)

  layer-in : b (goal.at.At-loop-i l).After-chosen_at-chosen + get_or l.args.w.now (a (goal.at.At-loop-i l).After-chosen_at-chosen + l.loop-i.i) 0 < length l.args.w.now
  layer-in = omega (arith, edge_in, l.args.g.shaped.e_tiles, b-is (goal.at.At-loop-i l).After-chosen_at-chosen, l.requires.g_in_bounds.0)

  layer-byte : get_or l.args.w.now (b (goal.at.At-loop-i l).After-chosen_at-chosen + get_or l.args.w.now (a (goal.at.At-loop-i l).After-chosen_at-chosen + l.loop-i.i) 0) 0 < 256
  layer-byte =
      omega (
        arith,
        ap₂ (λ (x y : ℕ). get_or l.args.w.now (y + get_or l.args.w.now (x + l.loop-i.i) 0) 0) (a-is (goal.at.At-loop-i l).After-chosen_at-chosen) (b-is (goal.at.At-loop-i l).After-chosen_at-chosen),
        l.requires.can_answer.small l.loop-i.i h,
      )

pub loop-i-init : goal.loop-i-init
loop-i-init c =
    (omega arith, answering-start (a (goal.at.loop-i-init c).After-chosen_at-chosen) (b (goal.at.loop-i-init c).After-chosen_at-chosen) c.args.w.now c.args.out.now)

pub overflow_add-edge : goal.overflow_add-edge
overflow_add-edge c =
    omega (arith, a-room (goal.at.overflow_add-edge c).After-chosen_at-chosen)

pub bounds-w-list : goal.bounds-w-list
bounds-w-list c =
    omega (arith, a-room (goal.at.bounds-w-list c).After-chosen_at-chosen)

pub overflow_cast-edge : goal.overflow_cast-edge
overflow_cast-edge c =
    omega (arith, edge_in (goal.at.overflow_cast-edge c).At-loop-i (omega arith), c.args.g.shaped.e_most)

pub overflow_add-byte : goal.overflow_add-byte
overflow_add-byte c =
    omega (arith, edge_in (goal.at.overflow_add-byte c).At-loop-i (omega arith), c.args.g.shaped.e_most, c.chosen_at-chosen.ensures.upper_bound)

pub offset_bounds-w-chosen : goal.offset_bounds-w-chosen
offset_bounds-w-chosen c =
    omega (arith, edge_in (goal.at.offset_bounds-w-chosen c).At-loop-i (omega arith), c.args.g.shaped.e_most, c.chosen_at-chosen.ensures.upper_bound)

pub bounds-w-chosen : goal.bounds-w-chosen
bounds-w-chosen c =
    layer-in (goal.at.bounds-w-chosen c).At-loop-i (omega arith)

pub overflow_cast-byte : goal.overflow_cast-byte
overflow_cast-byte c =
    omega (arith, layer-byte (goal.at.overflow_cast-byte c).At-loop-i (omega arith))

pub bounds-out-i : goal.bounds-out-i
bounds-out-i c =
    omega (arith, c.loop-i.invariant.1.long)

pub loop-i-preserved : goal.loop-i-preserved
loop-i-preserved c =
    let x = c.args in (
      omega arith,
      answering-next (a (goal.at.loop-i-preserved c).After-chosen_at-chosen) (b (goal.at.loop-i-preserved c).After-chosen_at-chosen) x.w.now x.out.now c.loop-i.out c.loop-i.i c.loop-i.invariant.1 (omega arith),
    )

pub shape_of-out : goal.shape_of-out
shape_of-out c =
    c.loop-i.invariant.1.long

pub returns : goal.returns
returns c =
    let x = c.args in
    answering-done x.g (a (goal.at.returns c).After-chosen_at-chosen) (b (goal.at.returns c).After-chosen_at-chosen) x.w.now x.out.now c.loop-i.out c.loop-i.i (a-is (goal.at.returns c).After-chosen_at-chosen) (b-is (goal.at.returns c).After-chosen_at-chosen) (omega (arith, a-is (goal.at.returns c).After-chosen_at-chosen, a-room (goal.at.returns c).After-chosen_at-chosen)) c.loop-i.invariant.1 (omega arith)
