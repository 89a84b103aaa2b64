-- `line` meets its contract.
-- Assumes nothing.
use mathlib.Core.List.{[], ◌∷◌}
use Rattle.model.specs.Text.{decimal}
use Rattle.put.specs.Wrote.{room-one, room-two, room-three, wrote_then}
use Rattle.put.proofs.Writer.line.Goals as goal

pub text-requires : goal.text-requires
text-requires c =
    room-one c.args.self.now c.args.key.now (decimal c.args.n) (10 ∷ []) c.requires

pub number-requires : goal.number-requires
number-requires c =
    room-two c.args.self.now c.args.key.now (decimal c.args.n) (10 ∷ []) c.requires c.text.ensures

pub byte-requires : goal.byte-requires
byte-requires c =
    room-three c.args.self.now c.args.key.now (decimal c.args.n) (10 ∷ []) c.requires c.text.ensures c.number.ensures

pub returns : goal.returns
returns c =
    wrote_then (wrote_then c.text.ensures c.number.ensures) c.byte.ensures
