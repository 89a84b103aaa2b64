-- `reaches` meets its contract.
-- Assumes nothing.
use mathlib.Core.Path.{ap, ◌∙◌}
use Prim.Native.Nat.{ℕ, ◌-◌}
use lib.Dec.{eqb}
use Rattle.sets.specs.Mask.{span_of}
use Rattle.engine.proofs.Branches.{reaches-no, reaches-test}
use Rattle.engine.proofs.reaches.Goals as goal

pub returns-then-goal-cost : goal.returns-then-goal-cost
returns-then-goal-cost c =
    reaches-no c.args.goal c.args.cost (span_of c.args.mask) c.if-goal-cost.true

pub returns : goal.returns
returns c =
    let g = c.args in
    ap (λ (s : ℕ). eqb s (g.goal - g.cost)) c.span.ensures.value ∙ reaches-test g.goal g.cost (span_of g.mask) c.if-goal-cost.false
