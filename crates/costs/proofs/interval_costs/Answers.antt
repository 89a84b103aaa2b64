-- `interval_costs` meets its contract. The loop's invariant: c has the least cost of the intervals that start below s.
-- Assumes nothing.
use mathlib.Core.Path.{◌≡◌, refl, subst}
use Prim.Native.Nat.{ℕ}
use native.Mathlib.Omega.{arith}
use lib.ListN.{get_or-replicate}
use Rattle.costs.specs.Rows.{illegal_cost, Eight}
use Rattle.costs.specs.Intervals.{around}
use Rattle.costs.proofs.Steps.{around-none}
use Rattle.costs.proofs.interval_costs.Goals as goal

pub loop-s-init : goal.loop-s-init
loop-s-init c =
    let g = c.args in
    (omega arith, around-none g.w.now g.b.rows g.b.first g.b.count g.layers g.starts g.high _ refl (λ b h. get_or-replicate 8 b illegal_cost 0 h) (omega arith))

pub take_start-requires : goal.take_start-requires
take_start-requires c =
    record { count_bound = (omega arith, omega arith, omega arith); first_bound = (omega arith, omega arith); count_in_bounds = omega arith; eight = c.loop-s.invariant.1 }

pub loop-s-preserved : goal.loop-s-preserved
loop-s-preserved c =
    (omega arith, c.take_start.ensures)

pub returns : goal.returns
returns c =
    let g = c.args in
    let e : c.loop-s.s ≡ g.starts = omega arith in
    subst (λ (x : ℕ). Eight c.loop-s.c (around g.w.now g.b.rows g.b.first g.b.count g.layers x g.high) 0 g.layers) e c.loop-s.invariant.1
