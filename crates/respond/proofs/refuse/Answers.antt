-- `refuse` meets its contract.
-- Assumes nothing.
use Rattle.respond.proofs.Written.{refusal-fits, refusal-written}
use Rattle.respond.proofs.refuse.Goals as goal

pub put_refusal-requires : goal.put_refusal-requires
put_refusal-requires c =
    refusal-fits c.args.out.now c.requires c.args.r c.number-number.result c.line-line.result c.number-number.ensures c.line-line.ensures c.number-number.type_inv c.line-line.type_inv

pub returns : goal.returns
returns c =
    let w = refusal-written c.args.out.now c.requires c.args.r c.number-number.result c.line-line.result c.number-number.ensures c.line-line.ensures c.number-number.type_inv c.line-line.type_inv
    c.put_refusal.new.b c.put_refusal.result c.put_refusal.ensures.b_after c.put_refusal.ensures.value in
    record { out_after = w.0; value = w.1 }
