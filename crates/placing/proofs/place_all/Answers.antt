-- `place_all` meets its contract. The loop's invariant: k nets have had their turns (`Mid`), and no length has changed; n - k falls.
-- Assumes nothing.
use mathlib.Core.Path.{◌≡◌, refl, sym, ap, ◌∙◌, subst}
use mathlib.Core.List.{List}
use Prim.Native.Nat.{ℕ, ◌+◌, ◌-◌, ◌*◌, ◌<◌, ◌≤◌}
use native.Mathlib.Omega.{arith}
use lib.ListN.{length, get_or, length-set}
use Rattle.layout.specs.Table.{turn_column, vias_column}
use Rattle.model.specs.Job.{Job}
use Rattle.model.specs.Limits.{most_nets}
use Rattle.model.specs.Read.{Lent}
use Rattle.turn.specs.Turn.{Turn}
use Rattle.placing.specs.Turns.{Start, RowTurn}
use Rattle.placing.proofs.Loop.{Mid, mid_start, mid-end, turn, net-counted, net-number, row-turn, mid-next}
use Rattle.flat.specs.Limited.{limit_at}
use Rattle.placing.proofs.place_all.Goals as goal
use Rattle.placing.proofs.place_all.Goals.{After-at, After-turn_of, Start as Begin}

module _ (z : Begin) where
  -- what the job's start is here
  abbrev StartHere : Lent → Job → Type 0
  StartHere lent j =
      let x = z.args in
      Start x.s.now x.job.frame.shape x.job.nets (limit_at x.job.frame.limits) x.w.now x.table.now (length x.answer.now) lent j

-- net i takes its turn
module _ (c : After-at) where
  abbrev entry : ℕ
  entry = get_or c.loop-k.table c.at.result 0

  told : entry ≡ get_or c.loop-k.table (turn_column c.loop-k.k) 0
  told = ap (λ (q : ℕ). get_or c.loop-k.table q 0) c.at.ensures.value

  module _ (lent : Lent) (j : Job) (start : StartHere (goal.at.After-at c).Start lent j) where
    counted : 1 ≤ entry
    counted =
        let x = c.args in
        omega (
          arith,
          told,
          net-counted x.s.now x.job.frame.shape x.job.nets (limit_at x.job.frame.limits) x.w.now x.table.now (length x.answer.now) lent j start
              c.loop-k.w c.loop-k.table x.answer.now c.loop-k.answer c.loop-k.vias c.loop-k.k (c.loop-k.invariant.5 lent j start) c.loop-k-test.true,
        )

    number : get_or c.loop-k.table (turn_column c.loop-k.k) 0 - 1 < most_nets
    number =
        let x = c.args in
        net-number x.s.now x.job.frame.shape x.job.nets (limit_at x.job.frame.limits) x.w.now x.table.now (length x.answer.now) lent j start
        c.loop-k.w c.loop-k.table x.answer.now c.loop-k.answer c.loop-k.vias c.loop-k.k (c.loop-k.invariant.5 lent j start) c.loop-k-test.true

    abbrev its_turn : Turn
    its_turn =
        let x = c.args in
        turn x.s.now x.job.frame.shape x.job.nets (limit_at x.job.frame.limits) x.w.now x.table.now (length x.answer.now) lent j start
        c.loop-k.w c.loop-k.table x.answer.now c.loop-k.answer c.loop-k.vias c.loop-k.k (c.loop-k.invariant.5 lent j start) c.loop-k-test.true

    its-row : RowTurn c.args.s.now c.args.job.frame.shape (4 * c.args.job.nets + 1 + c.loop-k.k) (limit_at c.args.job.frame.limits) c.loop-k.w c.loop-k.table (length c.loop-k.answer) (entry - 1) its_turn
    its-row =
        let x = c.args in
        row-turn x.s.now x.job.frame.shape x.job.nets (limit_at x.job.frame.limits) x.w.now x.table.now (length x.answer.now) lent j start
        c.loop-k.w c.loop-k.table x.answer.now c.loop-k.answer c.loop-k.vias c.loop-k.k (c.loop-k.invariant.5 lent j start) c.loop-k-test.true
        (entry - 1) (4 * x.job.nets + 1 + c.loop-k.k) (ap (λ (q : ℕ). q - 1) told) refl c.loop-k.invariant.2

-- it has had its turn
module _ (t : After-turn_of) where
  mid : (lent : Lent) (j : Job) (start : StartHere (goal.at.After-turn_of t).Start lent j)
      → Mid t.args.s.now t.args.job.frame.shape t.args.job.nets t.turn_of.new.w t.turn_of.new.table t.args.answer.now t.turn_of.new.answer
      (t.loop-k.vias + t.turn_of.result) (t.loop-k.k + 1) lent j start.accepted
  mid lent j start =
      let x = t.args in
      subst (λ (q : List ℕ). Mid x.s.now x.job.frame.shape x.job.nets t.turn_of.new.w q x.answer.now t.turn_of.new.answer (t.loop-k.vias + t.turn_of.result) (t.loop-k.k + 1) lent j start.accepted) (sym t.turn_of.ensures.table_after)
      (mid-next x.s.now x.job.frame.shape x.job.nets (limit_at x.job.frame.limits) x.w.now x.table.now (length x.answer.now) lent j start
      t.loop-k.w t.loop-k.table x.answer.now t.loop-k.answer t.loop-k.vias t.loop-k.k (t.loop-k.invariant.5 lent j start) t.loop-k-test.true
      (entry (goal.at.After-turn_of t).After-at - 1) (4 * x.job.nets + 1 + t.loop-k.k) (ap (λ (q : ℕ). q - 1) (told (goal.at.After-turn_of t).After-at)) refl t.turn_of.new.w t.turn_of.new.answer t.turn_of.result
      (t.turn_of.ensures.row_done (its_turn (goal.at.After-turn_of t).After-at lent j start) (its-row (goal.at.After-turn_of t).After-at lent j start)))

pub loop-k-init : goal.loop-k-init
loop-k-init c =
    let x = c.args in (
      refl,
      refl,
      refl,
      omega arith,
      omega arith,
      λ lent j start. mid_start x.s.now x.job.frame.shape x.job.nets (limit_at x.job.frame.limits) x.w.now x.table.now (length x.answer.now) lent j start x.answer.now,
    )

pub overflow_sub-i : goal.overflow_sub-i
overflow_sub-i c =
    let o = c.requires.start_some in counted (goal.at.overflow_sub-i c).After-at o.lent o.job o.start

pub turn_of-requires : goal.turn_of-requires
turn_of-requires c =
    let o = c.requires.start_some in
    let h = c.loop-k-test.true in record {
      shape_in_bounds = (
        omega (arith, c.requires.shape_in_bounds.0, c.loop-k.invariant.0),
        omega (arith, h, c.requires.shape_in_bounds.1),
        omega (arith, told (goal.at.turn_of-requires c).After-at, number (goal.at.turn_of-requires c).After-at o.lent o.job o.start),
        omega (arith, c.requires.shape_in_bounds.2, c.loop-k.invariant.1),
      );
      row_turn_some = record { turn = its_turn (goal.at.turn_of-requires c).After-at o.lent o.job o.start; at = its-row (goal.at.turn_of-requires c).After-at o.lent o.job o.start };
    }

pub overflow_add-vias : goal.overflow_add-vias
overflow_add-vias c =
    omega (arith, c.loop-k.invariant.4, c.loop-k.invariant.3, c.requires.shape_in_bounds.1)

pub loop-k-smaller : goal.loop-k-smaller
loop-k-smaller c =
    omega (arith, c.loop-k-test.true)

pub loop-k-preserved : goal.loop-k-preserved
loop-k-preserved c = (
  c.turn_of.ensures.w_len_unchanged.0 ∙ c.loop-k.invariant.0,
  ap length c.turn_of.ensures.table_after ∙ length-set c.loop-k.table (vias_column (entry (goal.at.loop-k-preserved c).After-at - 1)) c.turn_of.result ∙ c.loop-k.invariant.1,
  c.turn_of.ensures.w_len_unchanged.1 ∙ c.loop-k.invariant.2,
  omega (arith, c.loop-k-test.true),
  omega (arith, c.loop-k.invariant.4, c.turn_of.type_inv),
  mid (goal.at.loop-k-preserved c).After-turn_of,
)

pub returns : goal.returns
returns c =
    let x = c.args in record {
      all_placed = λ lent j start.
          mid-end x.s.now x.job.frame.shape x.job.nets (limit_at x.job.frame.limits) x.w.now x.table.now (length x.answer.now) lent j start
          c.loop-k.w c.loop-k.table x.answer.now c.loop-k.answer c.loop-k.vias c.loop-k.k (c.loop-k.invariant.5 lent j start) c.args.job.frame.shape.shaped c.loop-k-test.false c.loop-k.invariant.2;
      w_len_unchanged = (c.loop-k.invariant.0, c.loop-k.invariant.1, c.loop-k.invariant.2);
    }
