-- `put_layers` meets its contract.
-- Assumes nothing.
use mathlib.Core.List.{[], ◌∷◌}
use Rattle.model.specs.Text.{bytes, decimals}
use Rattle.put.specs.Wrote.{room-one, room-two, room-three, wrote_then}
use Rattle.print.proofs.put_layers.Goals as goal

pub text-requires : goal.text-requires
text-requires c =
    room-one c.args.w.now (bytes "layers=") (decimals c.args.layers.now) (10 ∷ []) c.requires

pub bytes-requires : goal.bytes-requires
bytes-requires c =
    room-two c.args.w.now (bytes "layers=") (decimals c.args.layers.now) (10 ∷ []) c.requires c.text.ensures

pub byte-requires : goal.byte-requires
byte-requires c =
    room-three c.args.w.now (bytes "layers=") (decimals c.args.layers.now) (10 ∷ []) c.requires c.text.ensures c.bytes.ensures

pub returns : goal.returns
returns c =
    wrote_then (wrote_then c.text.ensures c.bytes.ensures) c.byte.ensures
