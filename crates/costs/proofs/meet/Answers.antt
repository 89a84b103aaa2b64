-- `meet` meets its contract.
-- Assumes nothing.
use Rattle.costs.proofs.Steps.{met-list}
use Rattle.costs.proofs.meet.Goals as goal

pub returns : goal.returns
returns c =
    let g = c.args in
    met-list g.a.now g.b.now c.sum_of-s.result c.sweep_costs.result c.sum_of-s.ensures c.sweep_costs.ensures
