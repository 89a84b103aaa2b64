-- `flat_capacities` meets its contract. The loop's invariant: c(e) stands in its place for the first e edges, and the rest is as it was.
-- Assumes nothing.
use mathlib.Core.Path.{◌∙◌}
use Prim.Native.Nat.{◌≤◌}
use native.Mathlib.Omega.{arith}
use Rattle.layout.specs.Areas.{loads_at}
use Rattle.flat.specs.FlatPlan.{capacity_sum}
use Rattle.layout.specs.Fill.{filled_none, filled_next}
use Rattle.flat.proofs.Turns.{small-kept, sum_kept, summed}
use Rattle.flat.proofs.flat_capacities.Goals as goal
use Rattle.flat.proofs.flat_capacities.Goals.{At-loop-e}

-- the capacities lie below what is written
above : (l : At-loop-e) → loads_at l.args.g ≤ l.flat_at-flat.result
above l = omega (arith, l.flat_at-flat.ensures)

pub loop-e-init : goal.loop-e-init
loop-e-init c =
    (omega arith, filled_none _ _ _)

pub edge_capacity-c-requires : goal.edge_capacity-c-requires
edge_capacity-c-requires c =
    let o = c.loop-e.invariant.1.outside in record { edge_lt_e = (omega arith, omega (arith, o.long, c.requires.g_in_bounds)); small_capacities = small-kept c.args.g c.flat_at-flat.result c.loop-e.e c.args.w.now c.loop-e.w o (above (goal.at.edge_capacity-c-requires c).At-loop-e) c.requires.small_capacities }

pub bounds-w-flat : goal.bounds-w-flat
bounds-w-flat c =
    omega (arith, c.loop-e.invariant.1.outside.long)

pub loop-e-preserved : goal.loop-e-preserved
loop-e-preserved c =
    let f = c.flat_at-flat.result in (
      omega arith,
      filled_next f c.loop-e.e (capacity_sum c.args.g c.args.w.now) c.args.w.now c.loop-e.w c.edge_capacity-c.result c.loop-e.invariant.1
          (omega (arith, c.flat_at-flat.ensures, c.requires.g_in_bounds))
          (c.edge_capacity-c.ensures ∙ sum_kept c.args.g f c.loop-e.e c.args.w.now c.loop-e.w c.loop-e.invariant.1.outside (above (goal.at.loop-e-preserved c).At-loop-e) c.loop-e.e (omega arith)),
    )

pub shape_of-w : goal.shape_of-w
shape_of-w c =
    c.loop-e.invariant.1.outside.long

pub returns : goal.returns
returns c =
    let x = c.args in let r = summed x.g x.w.now c.loop-e.w c.flat_at-flat.result c.loop-e.e c.flat_at-flat.ensures.value (omega arith) c.loop-e.invariant.1 in record { flat_capacities = r.0; outside = r.1 }
