-- `turn_of` meets its contract: the net's row says where its lines and its stretch are, and its turn is taken there.
-- Assumes nothing.
use mathlib.Core.Path.{ap}
use Prim.Native.Nat.{ℕ, ◌+◌, ◌-◌}
use lib.ListN.{length, take, drop, set}
use Rattle.turn.specs.Turn.{Turn, TurnAt}
use Rattle.placing.specs.Turns.{RowTurn}
use Rattle.placing.proofs.Row.{lent-inside, turn_at, answer_long, row_done}
use Rattle.flat.specs.Limited.{limit_at}
use Rattle.placing.proofs.turn_of.Goals as goal
use Rattle.placing.proofs.turn_of.Goals.{After-row_of-row}

-- the net's row is read
module _ (b : After-row_of-row) where
  abbrev Here : Turn → Type 0
  Here u = let x = b.args in RowTurn x.s.now x.turn.frame.shape x.turn.stamp (limit_at x.turn.frame.limits) x.w.now x.table.now (length x.answer.now) x.turn.net u

  at_row : (u : Turn) → Here u
      → TurnAt b.args.s.now b.row_of-row.result.pins b.row_of-row.result.edges b.row_of-row.result.dropped b.args.turn.frame.shape b.args.turn.stamp (limit_at b.args.turn.frame.limits) b.args.w.now
      (length (take (b.row_of-row.result.first + b.row_of-row.result.count - b.row_of-row.result.first) (drop b.row_of-row.result.first b.args.answer.now))) u
  at_row u k =
      let x = b.args in
      turn_at x.s.now x.turn.frame.shape x.turn.stamp (limit_at x.turn.frame.limits) x.w.now x.table.now x.answer.now x.turn.net u b.args.turn.frame.shape.shaped k b.row_of-row.result b.row_of-row.ensures.value

pub slice_bounds-take_turn-end : goal.slice_bounds-take_turn-end
slice_bounds-take_turn-end c =
    let x = c.args in
    let o = c.requires.row_turn_some in
    lent-inside x.s.now x.turn.frame.shape x.turn.stamp (limit_at x.turn.frame.limits) x.w.now x.table.now x.answer.now x.turn.net o.turn c.args.turn.frame.shape.shaped o.at c.row_of-row.result c.row_of-row.ensures.value

pub take_turn-vias-requires : goal.take_turn-vias-requires
take_turn-vias-requires c =
    let o = c.requires.row_turn_some in record { shape_in_bounds = (c.requires.shape_in_bounds.0, c.requires.shape_in_bounds.1); turn_some = record { turn = o.turn; at = at_row (goal.at.take_turn-vias-requires c).After-row_of-row o.turn o.at } }

pub returns : goal.returns
returns c =
    let x = c.args in
    let o = c.requires.row_turn_some in
    let w = c.take_turn-vias.new.w in
    let out = c.take_turn-vias.new.out in record {
      row_done = λ u k.
          row_done x.s.now x.turn.frame.shape x.turn.stamp (limit_at x.turn.frame.limits) x.w.now x.table.now x.answer.now x.turn.net u c.args.turn.frame.shape.shaped k c.row_of-row.result c.row_of-row.ensures.value w out c.take_turn-vias.result
          (c.take_turn-vias.ensures.turn_done u (at_row (goal.at.returns c).After-row_of-row u k));
      table_after = ap (λ (k : ℕ). set x.table.now k c.take_turn-vias.result) c.at.ensures.value;
      w_len_unchanged = (
        c.take_turn-vias.ensures.w_len_unchanged,
        answer_long x.s.now x.turn.frame.shape x.turn.stamp (limit_at x.turn.frame.limits) x.w.now x.table.now x.answer.now x.turn.net o.turn c.args.turn.frame.shape.shaped o.at c.row_of-row.result c.row_of-row.ensures.value w out c.take_turn-vias.result
            (c.take_turn-vias.ensures.turn_done o.turn (at_row (goal.at.returns c).After-row_of-row o.turn o.at)),
      );
    }
