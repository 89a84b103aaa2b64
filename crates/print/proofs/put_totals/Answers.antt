-- `put_totals` meets its contract.
-- Assumes nothing.
use mathlib.Core.List.{[], ◌∷◌}
use Rattle.model.specs.Print.{print_line}
use Rattle.put.specs.Wrote.{room-one, room-two, room-three, wrote_then}
use Rattle.print.proofs.put_totals.Goals as goal

pub line-requires : goal.line-requires
line-requires c =
    room-one c.args.w.now (print_line "total_vias" (c.args.vias ∷ [])) (print_line "total_overflow" (c.args.total ∷ [])) (print_line "max_overflow" (c.args.most ∷ [])) c.requires

pub line-requires-2 : goal.line-requires-2
line-requires-2 c =
    room-two c.args.w.now (print_line "total_vias" (c.args.vias ∷ [])) (print_line "total_overflow" (c.args.total ∷ [])) (print_line "max_overflow" (c.args.most ∷ [])) c.requires c.line.ensures

pub line-requires-3 : goal.line-requires-3
line-requires-3 c =
    room-three c.args.w.now (print_line "total_vias" (c.args.vias ∷ [])) (print_line "total_overflow" (c.args.total ∷ [])) (print_line "max_overflow" (c.args.most ∷ [])) c.requires c.line.ensures c.line-2.ensures

pub returns : goal.returns
returns c =
    wrote_then (wrote_then c.line.ensures c.line-2.ensures) c.line-3.ensures
