-- `clear_chosen` meets its contract. The loop's invariant: nothing stands any more for the first i edges listed.
-- Assumes nothing.
use mathlib.Core.Path.{◌≡◌, sym, ap, ap₂, ◌∙◌}
use Prim.Native.Nat.{ℕ, ◌+◌, ◌-◌, ◌*◌, ◌<◌}
use native.Mathlib.Omega.{arith}
use lib.ListN.{length, get_or}
use Rattle.layout.specs.Areas.{chosen_at, list_at}
use Rattle.layout.specs.Parts.{outside_wider}
use Rattle.turn.proofs.Answer.{clearing-start, clearing-next}
use Rattle.turn.proofs.clear_chosen.Goals as goal
use Rattle.turn.proofs.clear_chosen.Goals.{After-chosen_at-chosen, At-loop-i}

-- the edges stand in the list, and what is chosen for them by edge
module _ (d : After-chosen_at-chosen) where
  abbrev a : ℕ
  a = d.list_at-list.result

  abbrev b : ℕ
  b = d.chosen_at-chosen.result

  a-is : a ≡ list_at d.args.g
  a-is = omega (arith, d.list_at-list.ensures.value)

  b-is : b ≡ chosen_at d.args.g
  b-is = d.chosen_at-chosen.ensures.value

-- the next edge is one of the grid's
module _ (l : At-loop-i) (h : l.loop-i.i < l.args.n) where
  edge_in : get_or l.loop-i.w (a (goal.at.At-loop-i l).After-chosen_at-chosen + l.loop-i.i) 0 < l.args.g.e
  edge_in =
      omega (
        arith,
        l.loop-i.invariant.1.outside.high (a (goal.at.At-loop-i l).After-chosen_at-chosen + l.loop-i.i) (omega (arith, a-is (goal.at.At-loop-i l).After-chosen_at-chosen, b-is (goal.at.At-loop-i l).After-chosen_at-chosen)),
        ap (λ (x : ℕ). get_or l.args.w.now (x + l.loop-i.i) 0) (a-is (goal.at.At-loop-i l).After-chosen_at-chosen),
        l.requires.g_in_bounds.2 l.loop-i.i h,
      )

  edge-room : b (goal.at.At-loop-i l).After-chosen_at-chosen + get_or l.loop-i.w (a (goal.at.At-loop-i l).After-chosen_at-chosen + l.loop-i.i) 0 < length l.loop-i.w
  edge-room = omega (arith, edge_in, l.args.g.shaped.e_tiles, b-is (goal.at.At-loop-i l).After-chosen_at-chosen, l.requires.g_in_bounds.0, l.loop-i.invariant.1.outside.long)

pub loop-i-init : goal.loop-i-init
loop-i-init c =
    (omega arith, clearing-start (a (goal.at.loop-i-init c).After-chosen_at-chosen) (b (goal.at.loop-i-init c).After-chosen_at-chosen) (a (goal.at.loop-i-init c).After-chosen_at-chosen - b (goal.at.loop-i-init c).After-chosen_at-chosen) c.args.w.now)

pub overflow_add-edge : goal.overflow_add-edge
overflow_add-edge c =
    omega (arith, a-is (goal.at.overflow_add-edge c).After-chosen_at-chosen, c.requires.g_in_bounds.0, c.requires.g_in_bounds.1)

pub bounds-w-list : goal.bounds-w-list
bounds-w-list c =
    omega (arith, a-is (goal.at.bounds-w-list c).After-chosen_at-chosen, c.requires.g_in_bounds.0, c.requires.g_in_bounds.1, c.loop-i.invariant.1.outside.long)

pub overflow_cast-edge : goal.overflow_cast-edge
overflow_cast-edge c =
    omega (arith, edge_in (goal.at.overflow_cast-edge c).At-loop-i (omega arith), c.args.g.shaped.e_most)

pub overflow_add-w : goal.overflow_add-w
overflow_add-w c =
    omega (arith, edge_in (goal.at.overflow_add-w c).At-loop-i (omega arith), c.args.g.shaped.e_most, c.chosen_at-chosen.ensures.upper_bound)

pub offset_bounds-w-chosen : goal.offset_bounds-w-chosen
offset_bounds-w-chosen c =
    omega (arith, edge_in (goal.at.offset_bounds-w-chosen c).At-loop-i (omega arith), c.args.g.shaped.e_most, c.chosen_at-chosen.ensures.upper_bound)

pub bounds-w-chosen : goal.bounds-w-chosen
bounds-w-chosen c =
    edge-room (goal.at.bounds-w-chosen c).At-loop-i (omega arith)

pub loop-i-preserved : goal.loop-i-preserved
loop-i-preserved c =
    let x = c.args in (
      omega arith,
      clearing-next (a (goal.at.loop-i-preserved c).After-chosen_at-chosen) (b (goal.at.loop-i-preserved c).After-chosen_at-chosen) (a (goal.at.loop-i-preserved c).After-chosen_at-chosen - b (goal.at.loop-i-preserved c).After-chosen_at-chosen) x.w.now c.loop-i.w c.loop-i.i c.loop-i.invariant.1 (omega (arith, a-is (goal.at.loop-i-preserved c).After-chosen_at-chosen, b-is (goal.at.loop-i-preserved c).After-chosen_at-chosen))
          (omega (arith, edge_in (goal.at.loop-i-preserved c).At-loop-i (omega arith), c.args.g.shaped.e_tiles, a-is (goal.at.loop-i-preserved c).After-chosen_at-chosen, b-is (goal.at.loop-i-preserved c).After-chosen_at-chosen)) (omega (arith, a-is (goal.at.loop-i-preserved c).After-chosen_at-chosen, b-is (goal.at.loop-i-preserved c).After-chosen_at-chosen, c.requires.g_in_bounds.0, c.loop-i.invariant.1.outside.long)),
    )

pub shape_of-w : goal.shape_of-w
shape_of-w c =
    c.loop-i.invariant.1.outside.long

pub returns : goal.returns
returns c =
    let x = c.args in
    record {
      each = λ i h. ap₂ (λ (p q : ℕ). get_or c.loop-i.w (q + get_or x.w.now (p + i) 0) 0) (sym (a-is (goal.at.returns c).After-chosen_at-chosen)) (sym (b-is (goal.at.returns c).After-chosen_at-chosen)) ∙ c.loop-i.invariant.1.each i (omega arith);
      outside = outside_wider (b (goal.at.returns c).After-chosen_at-chosen) (a (goal.at.returns c).After-chosen_at-chosen - b (goal.at.returns c).After-chosen_at-chosen) (chosen_at x.g) (2 * x.g.t) x.w.now c.loop-i.w c.loop-i.invariant.1.outside (omega (arith, b-is (goal.at.returns c).After-chosen_at-chosen)) (omega (arith, a-is (goal.at.returns c).After-chosen_at-chosen, b-is (goal.at.returns c).After-chosen_at-chosen));
    }
