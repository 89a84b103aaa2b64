-- `place` meets its contract.
-- Assumes nothing.
use Prim.Native.Nat.{◌+◌, ◌*◌}
use native.Mathlib.Omega.{arith}
use Rattle.turn.proofs.Engine.{lent-holds, put_back}
use Rattle.turn.proofs.place.Goals as goal

pub place_layers-requires : goal.place_layers-requires
place_layers-requires c =
    let x = c.args in lent-holds x.g x.n x.w.now c.requires.g_in_bounds c.requires.holds_net c.engine_at-from.result (c.engine_at-from.result + 12 * x.g.m) c.engine_at-from.ensures.value (omega (arith, c.engine_at-from.ensures.value))

pub returns : goal.returns
returns c =
    let x = c.args in let r = put_back x.g x.n x.w.now c.requires.g_in_bounds c.requires.holds_net c.engine_at-from.result (c.engine_at-from.result + 12 * x.g.m) c.engine_at-from.ensures.value (omega (arith, c.engine_at-from.ensures.value))
    c.place_layers.new.w c.place_layers.result c.place_layers.ensures in record { placed = r.0; outside = r.1 }
