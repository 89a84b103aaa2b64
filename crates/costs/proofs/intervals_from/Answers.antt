-- `intervals_from` meets its contract. The loop's invariant: v has the costs of the intervals with the first c branches.
-- Assumes nothing.
use mathlib.Core.Path.{◌≡◌, subst}
use Prim.Native.Nat.{ℕ}
use native.Mathlib.Omega.{arith}
use Rattle.costs.specs.Rows.{Eight}
use Rattle.costs.specs.Intervals.{interval}
use Rattle.costs.proofs.Steps.{intervals-none, intervals-more, intervals-small}
use Rattle.costs.proofs.intervals_from.Goals as goal
use Rattle.costs.proofs.intervals_from.Goals.{After-struct_known-in-loop-c-1}

pub loop-c-init : goal.loop-c-init
loop-c-init c =
    let g = c.args in
    (omega arith, intervals-none g.w.now g.b.rows g.b.first g.layers g.s c.vias_from-v.result c.vias_from-v.ensures)

pub add_branch-requires : goal.add_branch-requires
add_branch-requires c =
    let g = c.args in record { layers_bound = omega arith; at_bound = omega arith; layers_in_bounds = omega arith; v_len = c.loop-c.invariant.1.long; by_index = intervals-small g.w.now g.b.rows g.b.first g.layers g.s c.loop-c.c c.loop-c.v (omega arith) (omega arith) c.loop-c.invariant.1 }

pub loop-c-preserved : goal.loop-c-preserved
loop-c-preserved c =
    let g = c.args in
    (omega arith, intervals-more g.w.now g.b.rows g.b.first g.layers g.s c.loop-c.c c.loop-c.v c.add_branch.new.v c.loop-c.invariant.1 c.add_branch.ensures)

pub returns : goal.returns
returns c =
    let g = c.args in
    let e : c.loop-c.c ≡ g.b.count = omega arith in
    subst (λ (x : ℕ). Eight c.loop-c.v (interval g.w.now g.b.rows g.b.first x g.s) g.s g.layers) e c.loop-c.invariant.1
