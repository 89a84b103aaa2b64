-- `leaf_costs` meets its contract. The loop's invariant: the layers below l have the vias of the pins with that layer.
-- Assumes nothing.
use mathlib.Core.Path.{refl, ◌∙◌, ap}
use native.Mathlib.Omega.{arith}
use native.Mathlib.Numerals.{add-one}
use lib.ListN.{get_or-replicate}
use Rattle.sets.specs.Mask.{with_layer, span_of}
use Rattle.costs.proofs.Steps.{eight-none, eight-more, eight-all, leaf-none}
use Rattle.costs.proofs.leaf_costs.Goals as goal

pub returns-then-pins-eq0 : goal.returns-then-pins-eq0
returns-then-pins-eq0 c =
    leaf-none _ _ c.if-pins-eq0.true refl (λ b h. get_or-replicate 8 b 0 0 h)

pub loop-l-init : goal.loop-l-init
loop-l-init c =
    eight-none _ _ _ refl

pub loop-l-preserved : goal.loop-l-preserved
loop-l-preserved c =
    eight-more _ _ _ _ _ (omega arith)
    (c.span.ensures.value ∙ ap span_of (c.with_layer.ensures.value ∙ ap (with_layer c.args.pins) (add-one c.loop-l.l))) c.loop-l.invariant

pub returns : goal.returns
returns c =
    eight-all _ _ _ _ _ (omega arith) c.loop-l.invariant
