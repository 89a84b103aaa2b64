-- `layers_tried` meets its contract.
-- Assumes nothing.
use Rattle.costs.specs.Kept.{tried-all, tried-one}
use native.Mathlib.Omega.{arith}
use Rattle.engine.proofs.layers_tried.Goals as goal

pub returns-then-j-k : goal.returns-then-j-k
returns-then-j-k c =
    record { value = tried-all c.args.j c.args.k c.args.layers (omega arith); upper_bound = omega arith }

pub returns : goal.returns
returns c =
    record { value = tried-one c.args.j c.args.k c.args.layers (omega arith); upper_bound = omega arith }
