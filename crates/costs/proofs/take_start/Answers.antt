-- `take_start` meets its contract.
-- Assumes nothing.
use Rattle.costs.proofs.Steps.{around-more}
use Rattle.costs.proofs.take_start.Goals as goal

pub returns : goal.returns
returns c =
    let g = c.args in
    around-more g.w.now g.b.rows g.b.first g.b.count g.layers 0 g.high g.c.now c.take_intervals.new.c c.intervals_from-v.result g.s c.requires.eight
    c.intervals_from-v.ensures c.take_intervals.ensures
