-- `least_cost` meets its contract.
-- Assumes nothing.
use mathlib.Core.Path.{refl, ◌∙◌}
use native.Mathlib.Omega.{arith}
use lib.ListN.{get_or}
use Rattle.costs.specs.Rows.{illegal_cost}
use Rattle.costs.proofs.Runs.{run-next, run-all}
use Rattle.costs.proofs.least_cost.Goals as goal

pub loop-l-init : goal.loop-l-init
loop-l-init c =
    (omega arith, refl)

pub loop-l-preserved : goal.loop-l-preserved
loop-l-preserved c =
    (omega arith, c.min-least.ensures ∙ run-next illegal_cost (λ t. get_or c.args.c.now t 0) c.loop-l.l c.loop-l.least c.loop-l.invariant.1)

pub returns : goal.returns
returns c =
    run-all illegal_cost (λ t. get_or c.args.c.now t 0) c.loop-l.l c.args.layers c.loop-l.least (omega arith) c.loop-l.invariant.1
