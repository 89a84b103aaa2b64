-- `judged_line` meets its contract: the line is read and stored, and on a layer that runs the other way its column is looked through (`Judged.antt`).
-- Assumes nothing.
use mathlib.Core.Path.{◌≡◌, sym, subst, ◌∙◌}
use mathlib.Core.Bool.{Bool, true, false, ◌||◌}
use mathlib.Core.List.{List}
use Prim.Native.Nat.{ℕ, ◌+◌}
use lib.ListN.{length}
use Rattle.std.proofs.lemmas.Result.{err_from_is_err_and}
use Rattle.model.specs.Read.{refused, found}
use Rattle.text.specs.Refusals.{place_of}
use Rattle.lines.specs.Told.{mapped, After}
use Rattle.capacities.specs.Capacities.{column}
use Rattle.capacities.specs.Reads.{zeros, judged_line_by}
use Rattle.capacities.specs.Spread.{spread, Room}
use Rattle.capacities.proofs.Judged.{first-true, either_true, neither-true, judged-refused, judged-fine, judged-closed}
use Rattle.capacities.proofs.judged_line.Goals as goal
use Rattle.capacities.proofs.judged_line.Goals.{In_ok-d, then-along-via-then-along, then-along-via-else-along+then-all_zero}

-- the line is read and stored
module _ (c : In_ok-d) where
  behind : After (length c.args.s.now) (c.args.c.line + 1) c.in_ok-d.d
  behind = c.in_ok-d.ensures.list_in

-- and as it should be, or not
module _ (d : In_ok-d) where
  abbrev x : List ℕ
  x = d.capacity_line.new.w

  abbrev test : Bool
  test = d.args.along || zeros (column d.args.to.k x d.args.to.first d.args.to.count)

  fine : test ≡ true
      → found x (place_of d.args.s.now d.in_ok-d.d)
      ≡ mapped (spread d.args.to.k d.args.w.now d.args.to.first) (judged_line_by d.args.key.now d.args.to.count d.args.along (place_of d.args.s.now d.args.c))
  fine =
      let a = d.args in
      judged-fine a.s.now x a.to.k a.w.now a.to.first a.to.count d.requires.room a.key.now a.along (place_of a.s.now a.c) d.capacity_line.result d.capacity_line.ensures.result_after
      d.in_ok-d.d d.in_ok-d.was

  closed : test ≡ false
      → refused 12 d.in_ok-d.d.line
      ≡ mapped (spread d.args.to.k d.args.w.now d.args.to.first) (judged_line_by d.args.key.now d.args.to.count d.args.along (place_of d.args.s.now d.args.c))
  closed =
      let a = d.args in
      judged-closed a.s.now x a.to.k a.w.now a.to.first a.to.count d.requires.room a.key.now a.along (place_of a.s.now a.c) d.capacity_line.result d.capacity_line.ensures.result_after
      d.in_ok-d.d d.in_ok-d.was

pub returns-in_err-d-clause-result_after : goal.returns-in_err-d-clause-result_after
returns-in_err-d-clause-result_after c =
    let a = c.args in
    let p = err_from_is_err_and c.from_residual.result c.from_residual.ensures.1 in
    rw (p.1, p.2) (judged-refused a.s.now c.capacity_line.new.w a.to.k a.w.now a.to.first a.to.count c.requires.room a.key.now a.along (place_of a.s.now a.c) c.capacity_line.result c.capacity_line.ensures.result_after
    c.in_err-d.field-0.0 c.in_err-d.was)

pub all_zero-requires : goal.all_zero-requires
all_zero-requires c =
    subst (λ (n : ℕ). Room c.args.to.k c.args.to.first c.args.to.count n) (sym c.capacity_line.ensures.w_len_unchanged) c.requires.room

pub returns-then-along : goal.returns-then-along
returns-then-along c =
    let open_or_zero : test (goal.at.returns-then-along c).In_ok-d ≡ true =
    elim c.then-along.branch [
      | then-along-via-then-along w ↦ first-true _ _ w.if-along.true
      | then-along-via-else-along+then-all_zero w ↦ either_true c.args.along _ (sym w.all_zero.ensures ∙ w.if-all_zero.true)
    ] in
    record { result_after = fine (goal.at.returns-then-along c).In_ok-d open_or_zero; list_in = behind (goal.at.returns-then-along c).In_ok-d; w_len_unchanged = c.capacity_line.ensures.w_len_unchanged }

pub returns : goal.returns
returns c =
    record { result_after = closed (goal.at.returns c).In_ok-d (neither-true c.args.along _ c.if-along.false (sym c.all_zero.ensures ∙ c.if-all_zero.false)); list_in = tt; w_len_unchanged = c.capacity_line.ensures.w_len_unchanged }
