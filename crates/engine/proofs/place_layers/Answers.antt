-- `place_layers` meets its contract: the net's rows are written, and its layers chosen from them.
-- Assumes nothing.
use Rattle.engine.proofs.Best.{net-shape, rows_self, holds_kept, net-small, net-placed}
use Rattle.costs.specs.Kept.{shape-kept}
use Rattle.engine.proofs.place_layers.Goals as goal

pub costs-requires : goal.costs-requires
costs-requires c =
    let g = c.args in
    let h = c.requires in record { shape = net-shape h.job h.net h.allowed g.w.now g.m g.n g.layers h.holds }

pub choose-requires : goal.choose-requires
choose-requires c =
    let g = c.args in
    let h = c.requires in
    let u = c.costs.new.w in
    let r = c.costs.ensures in
    let shape = net-shape h.job h.net h.allowed g.w.now g.m g.n g.layers h.holds in
    let own = rows_self g.w.now u g.m g.n g.layers shape r in record { shape = shape-kept g.w.now u g.m g.n g.layers 1 shape r; rows_from = own; by_index = net-small h.job h.net h.allowed u g.m g.n g.layers (holds_kept h.job h.net h.allowed g.w.now u g.m g.n g.layers h.holds r) own }

pub returns : goal.returns
returns c =
    let g = c.args in
    λ j net allowed h.
    net-placed j net allowed g.w.now c.costs.new.w c.choose.new.w g.m g.n g.layers c.choose.result h c.costs.ensures c.choose.ensures.root_least c.choose.ensures.chosen_up_to
