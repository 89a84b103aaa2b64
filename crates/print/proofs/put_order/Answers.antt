-- `put_order` meets its contract.
-- Assumes nothing.
use mathlib.Core.List.{[], ◌∷◌}
use Rattle.model.specs.Text.{bytes, decimals}
use Rattle.print.specs.Texts.{turns_of}
use Rattle.put.specs.Wrote.{room-one, room-two, room-three, wrote_then}
use Rattle.print.proofs.put_order.Goals as goal

pub text-requires : goal.text-requires
text-requires c =
    room-one c.args.w.now (bytes "order=") (decimals (turns_of c.args.table.now c.args.n)) (10 ∷ []) c.requires.n_in_bounds

pub put_turns-requires : goal.put_turns-requires
put_turns-requires c =
    record { n_le_most_nets = c.requires.n_le_most_nets; n_in_bounds = room-two c.args.w.now (bytes "order=") (decimals (turns_of c.args.table.now c.args.n)) (10 ∷ []) c.requires.n_in_bounds c.text.ensures }

pub byte-requires : goal.byte-requires
byte-requires c =
    room-three c.args.w.now (bytes "order=") (decimals (turns_of c.args.table.now c.args.n)) (10 ∷ []) c.requires.n_in_bounds c.text.ensures c.put_turns.ensures

pub returns : goal.returns
returns c =
    wrote_then (wrote_then c.text.ensures c.put_turns.ensures) c.byte.ensures
