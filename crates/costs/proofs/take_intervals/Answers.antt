-- `take_intervals` meets its contract. The loop's invariant: the layers from b on have taken the least of the ends, and `least` is the least so far.
-- Assumes nothing.
use mathlib.Core.Path.{◌≡◌, ◌∙◌, ap₂}
use Prim.Native.Nat.{ℕ, ◌-◌, min}
use native.Mathlib.Omega.{arith}
use lib.ListN.{get_or}
use Rattle.costs.specs.Intervals.{least_end}
use Rattle.costs.proofs.Steps.{down-none, down-more, end_none, end_more}
use Rattle.costs.proofs.take_intervals.Goals as goal
use Rattle.costs.proofs.take_intervals.Goals.{After-min}

-- the least of the ends from b - 1 on
least-is : (c : After-min) → c.min-least.result ≡ least_end (λ e. get_or c.args.v.now e 0) c.args.layers c.args.high (c.loop-b.b - 1)
least-is c =
    c.min-least.ensures
    ∙ end_more (λ e. get_or c.args.v.now e 0) c.args.layers c.args.high c.loop-b.b c.loop-b.least c.ended.result
    (omega arith) c.loop-b.invariant.1 c.loop-b.invariant.2 c.ended.ensures

pub loop-b-init : goal.loop-b-init
loop-b-init c =
    (omega arith, omega arith, end_none _ _ _, down-none _ _ _ c.requires.c_len)

pub loop-b-preserved : goal.loop-b-preserved
loop-b-preserved c = (
  omega arith,
  omega arith,
  least-is (goal.at.loop-b-preserved c).After-min,
  down-more _ _ _ _ c.loop-b.b _ (omega arith) (omega arith) c.loop-b.invariant.1
      (c.min.ensures ∙ ap₂ (λ (x y : ℕ). min x y) (c.loop-b.invariant.3.rest (c.loop-b.b - 1) (omega arith)) (least-is (goal.at.loop-b-preserved c).After-min))
      c.loop-b.invariant.3,
)

pub returns : goal.returns
returns c =
    record { long = c.loop-b.invariant.3.long; kept = λ b h. c.loop-b.invariant.3.rest b (omega arith); taken = λ b q r. c.loop-b.invariant.3.done b (omega arith) r }
