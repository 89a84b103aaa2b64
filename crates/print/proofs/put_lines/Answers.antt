-- `put_lines` meets its contract.
-- Assumes nothing.
use Rattle.model.specs.Print.{print_line}
use Rattle.print.specs.Texts.{nets_text, turns_of, rows-turns, totals_text}
use Rattle.put.specs.Wrote.{room-one, room-two, room-three, wrote_then}
use Rattle.print.proofs.put_lines.Goals as goal

pub put_order-requires : goal.put_order-requires
put_order-requires c =
    record {
      n_le_most_nets = rows-turns c.args.p.nets c.args.table.now c.args.answer.now c.requires.rows;
      n_in_bounds = room-one c.args.w.now (print_line "order" (turns_of c.args.table.now c.args.p.nets)) (nets_text c.args.table.now c.args.answer.now 0 c.args.p.nets)
          (totals_text c.args.p.vias c.args.p.total c.args.p.most) c.requires.most_in_bounds;
    }

pub put_nets-requires : goal.put_nets-requires
put_nets-requires c =
    record {
      rows = c.requires.rows;
      n_in_bounds = room-two c.args.w.now (print_line "order" (turns_of c.args.table.now c.args.p.nets)) (nets_text c.args.table.now c.args.answer.now 0 c.args.p.nets)
          (totals_text c.args.p.vias c.args.p.total c.args.p.most) c.requires.most_in_bounds c.put_order.ensures;
    }

pub put_totals-requires : goal.put_totals-requires
put_totals-requires c =
    room-three c.args.w.now (print_line "order" (turns_of c.args.table.now c.args.p.nets)) (nets_text c.args.table.now c.args.answer.now 0 c.args.p.nets)
    (totals_text c.args.p.vias c.args.p.total c.args.p.most) c.requires.most_in_bounds c.put_order.ensures c.put_nets.ensures

pub returns : goal.returns
returns c =
    wrote_then (wrote_then c.put_order.ensures c.put_nets.ensures) c.put_totals.ensures
