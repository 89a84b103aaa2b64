-- `exceeds` meets its contract.
-- Assumes nothing.
use mathlib.Core.Path.{ap, ◌∙◌}
use Prim.Native.Nat.{ℕ, ◌-◌}
use lib.Dec.{ltb}
use Rattle.sets.specs.Mask.{span_of}
use Rattle.engine.proofs.Branches.{exceeds-yes, exceeds-test}
use Rattle.engine.proofs.exceeds.Goals as goal

pub returns-then-goal-cost : goal.returns-then-goal-cost
returns-then-goal-cost c =
    exceeds-yes c.args.goal c.args.cost (span_of c.args.mask) c.if-goal-cost.true

pub returns : goal.returns
returns c =
    let g = c.args in
    ap (λ (s : ℕ). ltb (g.goal - g.cost) s) c.span.ensures.value ∙ exceeds-test g.goal g.cost (span_of g.mask) c.if-goal-cost.false
