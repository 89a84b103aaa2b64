-- `layerplan_print` meets its contract: its result tells what `print` returned (`Cases.antt`).
-- Assumes nothing.
use Rattle.calls.specs.Calls.{buffers_of}
use Rattle.layerplan_c.proofs.Cases.{print-result-told}
use Rattle.layerplan_c.proofs.layerplan_print.Goals as goal

pub returns-clause-met : goal.returns-clause-met
returns-clause-met c =
    (print-result-told c.args.text.now (buffers_of c.args.work.now c.args.order.now c.args.answer.now) (buffers_of c.print.new.work c.print.new.order c.print.new.answer) c.args.out.now c.print.new.out c.print.result c.print_result.result
    c.print_result.ensures c.print.ensures.out_after c.print.ensures.met).1
