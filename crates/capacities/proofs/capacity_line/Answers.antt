-- `capacity_line` meets its contract: the line is opened, and its list is read from behind the key on.
-- Assumes nothing.
use mathlib.Core.Path.{sym, subst, ◌∙◌}
use Prim.Native.Nat.{ℕ, ◌+◌}
use lib.ListN.{length}
use Rattle.std.proofs.lemmas.Result.{err_from_is_err_and}
use Rattle.lines.specs.Opens.{expected-there, place-after}
use Rattle.lines.specs.Told.{After, list_in}
use Rattle.capacities.proofs.Keys.{capacities-none, capacities-key}
use Rattle.capacities.proofs.capacity_line.Goals as goal
use Rattle.capacities.proofs.capacity_line.Goals.{In_ok-d}

-- the line is there
module _ (c : In_ok-d) where
  behind : After (length c.args.s.now) (c.args.c.line + 1) c.in_ok-d.d
  behind =
      let a = c.args in
      place-after a.s.now a.c a.key.now c.in_ok-d.d (expected-there a.s.now a.c a.key.now c.in_ok-d.d (sym c.expect_line.ensures.opened ∙ c.in_ok-d.was)) c.requires.at_in_bounds.0

pub returns-in_err-d-clause-result_after : goal.returns-in_err-d-clause-result_after
returns-in_err-d-clause-result_after c =
    let a = c.args in
    let p = err_from_is_err_and c.from_residual.result c.from_residual.ensures.1 in
    rw (p.1, p.2) (sym (capacities-none a.s.now a.c a.key.now c.expect_line.result c.expect_line.ensures.result_value a.to.k a.to.count a.w.now a.to.first c.in_err-d.field-0.0 c.in_err-d.was))

pub list-requires : goal.list-requires
list-requires c =
    record { at_in_bounds = (behind (goal.at.list-requires c).In_ok-d).place; room = c.requires.room }

pub returns : goal.returns
returns c =
    let a = c.args in record {
      result_after = c.list.ensures.result_after
          ∙ sym (capacities-key a.s.now a.c a.key.now c.expect_line.result c.expect_line.ensures.result_value a.to.k a.to.count a.w.now a.to.first c.in_ok-d.d c.in_ok-d.was);
      list_in = subst (λ (m : ℕ). list_in (length a.s.now) m c.list.result) (behind (goal.at.returns c).In_ok-d).lines c.list.ensures.list_in;
      w_len_unchanged = c.list.ensures.w_len_unchanged;
    }
