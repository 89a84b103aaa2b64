-- `sweep_up` meets its contract.
-- Assumes nothing.
use mathlib.Core.Path.{◌≡◌, refl, ◌∙◌, ap}
use Prim.Native.Nat.{ℕ, suc, ◌+◌, min}
use native.Mathlib.Omega.{arith}
use native.Mathlib.Numerals.{add-one}
use lib.ListN.{get_or}
use Rattle.costs.specs.Rows.{illegal_cost}
use Rattle.costs.specs.Sweeps.{swept_up}
use Rattle.costs.proofs.Steps.{eight-none, eight-more, eight-all, up_small, swept-up-more}
use Rattle.costs.proofs.sweep_up.Goals as goal
use Rattle.costs.proofs.sweep_up.Goals.{After-min-x}

-- the cost with layer l
swept : (c : After-min-x) → c.min-x.result ≡ swept_up (λ t. get_or c.args.w.now (c.args.at + t) 0) (suc c.loop-l.l)
swept c =
    c.min-x.ensures
    ∙ ap (λ (t : ℕ). min t illegal_cost) c.min.ensures
    ∙ swept-up-more (λ t. get_or c.args.w.now (c.args.at + t) 0) c.loop-l.l c.loop-l.x c.loop-l.invariant.0

pub loop-l-init : goal.loop-l-init
loop-l-init c =
    (refl, eight-none _ _ _ refl)

pub overflow_add-x : goal.overflow_add-x
overflow_add-x c =
    omega (arith, c.loop-l.invariant.0, up_small (λ t. get_or c.args.w.now (c.args.at + t) 0) c.loop-l.l)

pub loop-l-preserved : goal.loop-l-preserved
loop-l-preserved c =
    (rw (add-one c.loop-l.l) (swept (goal.at.loop-l-preserved c).After-min-x), eight-more _ _ _ _ _ (omega arith) (swept (goal.at.loop-l-preserved c).After-min-x) c.loop-l.invariant.1)

pub returns : goal.returns
returns c =
    eight-all _ _ _ _ _ (omega arith) c.loop-l.invariant.1
