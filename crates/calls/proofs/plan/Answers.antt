-- `plan` meets its contract: what its steps say is what the definitions say of the call (`Calls.antt`).
use Rattle.std.specs.Prelude.{None}
use Rattle.std.proofs.Common.{◌≤◌, ℕ, refl, ap, ◌∙◌, subst, arith, length}
use lib.ListN.{replicate}
use Rattle.std.proofs.lemmas.List.{length-replicate}
use Rattle.layout.specs.Table.{table_size}
use Rattle.model.specs.Read.{Lent}
use Rattle.planning.specs.Opening.{nets_of}
use Rattle.reader.specs.Whole.{lent_by}
use Rattle.sort.specs.Sorted.{Arranged}
use Rattle.calls.proofs.Calls.{close-asked, plan-whole}
use Rattle.calls.proofs.plan.Goals as goal
use Rattle.calls.proofs.plan.Goals.{After-arrange}

-- the text is read and the order list is made
module _ (c : After-arrange) where
  abbrev lent : Lent
  lent = lent_by (length c.args.work.now) (length c.args.order.now) (length c.args.answer.now) None

  wide : table_size ≤ length c.open-job.new.table
  wide = omega (arith, c.open-job.auto.table, length-replicate {A = ℕ} 24576 0)

  made : Arranged (nets_of c.open-job.result) c.args.order.now c.arrange.new.order c.open-job.new.table c.arrange.new.table
  made = subst (λ (n : ℕ). Arranged n c.args.order.now c.arrange.new.order c.open-job.new.table c.arrange.new.table) c.nets_of-nets.ensures c.arrange.ensures

pub close_plan-requires : goal.close_plan-requires
close_plan-requires c =
    let a = (goal.at.close_plan-requires c).After-arrange in
    close-asked c.args.text.now (lent a) c.open-job.new.w c.open-job.new.table c.args.order.now c.arrange.new.order c.arrange.auto.order refl (wide a)
    c.open-job.result c.arrange.new.table (length c.args.answer.now) refl c.open-job.ensures (made a)

pub returns : goal.returns
returns c =
    let a = (goal.at.returns c).After-arrange in
    let again = c.close_plan.ensures.w_after ∙ ap (λ (n : ℕ). replicate n 0) c.open-job.auto.w in
    let whole = plan-whole c.args.text.now c.args.work.now c.open-job.new.w c.close_plan.new.w c.args.order.now c.arrange.new.order c.open-job.new.table c.arrange.new.table c.args.answer.now c.close_plan.new.answer
    c.arrange.auto.order (wide a) again c.open-job.result c.close_plan.result c.open-job.ensures (made a) c.close_plan.ensures.plan_closed in
    record { answer_after = whole.0; met = whole.1 }
