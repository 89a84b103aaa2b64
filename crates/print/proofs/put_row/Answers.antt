-- `put_row` meets its contract.
-- Assumes nothing.
use Rattle.put.specs.Wrote.{wrote_as}
use Rattle.print.proofs.Nets.{row_is, row_room}
use Rattle.print.proofs.put_row.Goals as goal

pub put_net-requires : goal.put_net-requires
put_net-requires c =
    row_room c.args.table.now c.args.answer.now c.args.i c.first_of-first.result c.entries_in-count.result c.vias_of-vias.result
    c.first_of-first.ensures c.entries_in-count.ensures.0 c.vias_of-vias.ensures c.args.w.now c.requires.i_in_bounds

pub returns : goal.returns
returns c =
    wrote_as c.put_net.ensures
    (row_is c.args.table.now c.args.answer.now c.args.i c.first_of-first.result c.entries_in-count.result c.vias_of-vias.result
    c.first_of-first.ensures c.entries_in-count.ensures.0 c.vias_of-vias.ensures)
