-- `short_edge` meets its contract.
-- Assumes nothing.
use Rattle.text.proofs.Spelt.{edge-told}
use Rattle.text.proofs.short_edge.Goals as goal

pub returns : goal.returns
returns c =
    edge-told c.args.s.now c.args.at c.in_ok-p.p c.in_ok-p.ensures c.way_in.result c.way_in.ensures
