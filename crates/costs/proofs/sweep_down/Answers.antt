-- `sweep_down` meets its contract.
-- Assumes nothing.
use mathlib.Core.Path.{◌≡◌, ◌∙◌}
use Prim.Native.Nat.{◌-◌}
use native.Mathlib.Omega.{arith}
use lib.ListN.{get_or}
use Rattle.costs.specs.Sweeps.{swept_down}
use Rattle.costs.proofs.Steps.{down-none, down-more, down-all, swept-down-none, swept-down-more, swept-down-top}
use Rattle.costs.proofs.sweep_down.Goals as goal
use Rattle.costs.proofs.sweep_down.Goals.{After-min-x}

-- the cost with layer l - 1
swept : (c : After-min-x) → c.min-x.result ≡ swept_down (λ t. get_or c.args.c.now t 0) c.args.layers (c.args.layers - (c.loop-l.l - 1))
swept c =
    c.min-x.ensures
    ∙ swept-down-more (λ t. get_or c.args.c.now t 0) c.args.layers c.loop-l.l c.loop-l.x _ (omega arith) (omega arith) c.loop-l.invariant.1
    (c.loop-l.invariant.2.rest (c.loop-l.l - 1) (omega arith))

pub loop-l-init : goal.loop-l-init
loop-l-init c =
    (omega arith, swept-down-none (λ t. get_or c.args.c.now t 0) c.args.layers, down-none _ _ _ c.requires.c_len)

pub overflow_add-x : goal.overflow_add-x
overflow_add-x c =
    let g = c.args in
    omega (
      arith,
      c.loop-l.invariant.1,
      swept-down-top (λ t. get_or g.c.now t 0) g.layers (g.layers - c.loop-l.l) c.requires.by_index (omega arith),
    )

pub loop-l-preserved : goal.loop-l-preserved
loop-l-preserved c =
    (omega arith, swept (goal.at.loop-l-preserved c).After-min-x, down-more _ _ _ _ c.loop-l.l _ (omega arith) (omega arith) (omega arith) (swept (goal.at.loop-l-preserved c).After-min-x) c.loop-l.invariant.2)

pub returns : goal.returns
returns c =
    down-all _ _ _ _ _ (omega arith) c.loop-l.invariant.2
