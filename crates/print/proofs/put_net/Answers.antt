-- `put_net` meets its contract.
-- Assumes nothing.
use mathlib.Core.List.{[], ◌∷◌}
use Rattle.model.specs.Print.{print_line}
use Rattle.put.specs.Wrote.{room-one, room-two, room-three, wrote_then}
use Rattle.print.proofs.put_net.Goals as goal

pub line-requires : goal.line-requires
line-requires c =
    room-one c.args.w.now (print_line "net" (c.args.i ∷ [])) (print_line "vias" (c.args.vias ∷ [])) (print_line "layers" c.args.layers.now) c.requires

pub line-requires-2 : goal.line-requires-2
line-requires-2 c =
    room-two c.args.w.now (print_line "net" (c.args.i ∷ [])) (print_line "vias" (c.args.vias ∷ [])) (print_line "layers" c.args.layers.now) c.requires c.line.ensures

pub put_layers-requires : goal.put_layers-requires
put_layers-requires c =
    room-three c.args.w.now (print_line "net" (c.args.i ∷ [])) (print_line "vias" (c.args.vias ∷ [])) (print_line "layers" c.args.layers.now) c.requires c.line.ensures c.line-2.ensures

pub returns : goal.returns
returns c =
    wrote_then (wrote_then c.line.ensures c.line-2.ensures) c.put_layers.ensures
