-- `pin_ends` meets its contract.
-- Assumes nothing.
use native.Mathlib.Omega.{arith}
use Rattle.costs.proofs.Steps.{ends-none, ends_some}
use Rattle.costs.proofs.pin_ends.Goals as goal

pub returns-then-pins-eq0 : goal.returns-then-pins-eq0
returns-then-pins-eq0 c =
    ends-none c.args.layers c.args.pins c.requires.le_layers.0 c.if-pins-eq0.true

pub lowest-requires : goal.lowest-requires
lowest-requires c =
    (omega arith, c.requires.layer_mask.small)

pub highest-requires : goal.highest-requires
highest-requires c =
    (omega arith, c.requires.layer_mask.small)

pub returns : goal.returns
returns c =
    ends_some c.args.layers c.args.pins _ _ (omega arith) c.requires.le_layers.1 c.requires.layer_mask (omega (arith, c.lowest.ensures.result_value)) c.highest.ensures.result_value
