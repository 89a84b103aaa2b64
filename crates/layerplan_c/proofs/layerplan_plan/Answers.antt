-- `layerplan_plan` meets its contract: its result tells what `plan` returned (`Cases.antt`).
-- Assumes nothing.
use Rattle.calls.specs.Calls.{buffers_of}
use Rattle.layerplan_c.proofs.Cases.{plan-result-told}
use Rattle.layerplan_c.proofs.layerplan_plan.Goals as goal

pub returns-clause-met : goal.returns-clause-met
returns-clause-met c =
    (plan-result-told c.args.text.now (buffers_of c.args.work.now c.args.order.now c.args.answer.now) (buffers_of c.plan.new.work c.plan.new.order c.plan.new.answer) c.plan.result c.plan_result.result c.plan_result.ensures
    c.plan.ensures.answer_after c.plan.ensures.met).1.1
