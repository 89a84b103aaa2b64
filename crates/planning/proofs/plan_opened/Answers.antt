-- `plan_opened` meets its contract: a refusal is passed on, and a job is planned.
-- Assumes nothing.
use Rattle.std.specs.Prelude.{Ok, Result as Outcome}
use mathlib.Core.Path.{refl, sym, subst}
use lib.ListN.{length}
use Rattle.head.specs.declared.Head.{Head}
use Rattle.planning.specs.Closing.{turned-to-place, ToClose, PlanClosed}
use Rattle.text.specs.declared.Refusal.{Refusal}
use Rattle.planning.proofs.plan_opened.Goals as goal

pub place_nets-requires : goal.place_nets-requires
place_nets-requires c =
    let x = c.args in
    let k = subst (ToClose x.s.now x.w.now x.table.now (length x.answer.now)) c.in_ok-h.was c.requires in
    record { lent = k.lent; job = k.job; turned = turned-to-place x.s.now c.in_ok-h.h x.w.now x.table.now (length x.answer.now) k.lent k.job k.turned }

pub returns : goal.returns
returns c =
    let x = c.args in record {
      plan_closed = subst (λ (v : Outcome Head Refusal). PlanClosed x.s.now x.w.now x.table.now x.answer.now c.place_nets.new.answer v (Ok c.place_nets.result)) (sym c.in_ok-h.was)
          (record { totals = c.place_nets.result; is = refl; table' = c.place_nets.new.table; made = λ lent j at. c.place_nets.ensures.plan_made lent j (turned-to-place x.s.now c.in_ok-h.h x.w.now x.table.now (length x.answer.now) lent j at) });
      w_len_unchanged = c.place_nets.ensures.w_len_unchanged;
    }
