-- `overflows` meets its contract. The loop's invariant: o(e) stands in the place of d(e) for the first e edges, and total and most are theirs.
-- Assumes nothing.
use mathlib.Core.Path.{◌≡◌, refl, sym, ◌∙◌, subst}
use Prim.Native.Nat.{ℕ, ◌+◌, ◌≤◌}
use native.Mathlib.Omega.{arith}
use lib.ListN.{get_or}
use Rattle.model.specs.Limits.{most_nets}
use Rattle.flat.specs.FlatPlan.{over_in}
use Rattle.layout.specs.Fill.{filled_none, filled_next}
use Rattle.flat.proofs.Turns.{sum-next, most-next, over-kept, over-small, overflowed}
use Rattle.flat.proofs.overflows.Goals as goal
use Rattle.flat.proofs.overflows.Goals.{After-saturating_sub-o}

-- the overflow that a turn finds
module _ (c : After-saturating_sub-o) where
  abbrev f : ℕ
  f = c.flat_at-flat.result

  abbrev d : ℕ
  d = c.demand_at-demand.result

  found : c.saturating_sub-o.result ≡ over_in d f c.args.w.now c.loop-e.e
  found =
      c.saturating_sub-o.ensures
      ∙ over-kept d f c.loop-e.e c.args.w.now c.loop-e.w c.loop-e.invariant.1.outside (omega (arith, c.flat_at-flat.ensures, c.demand_at-demand.ensures))

  few : c.saturating_sub-o.result ≤ most_nets
  few =
      omega (
        arith,
        found,
        over-small d f c.loop-e.e most_nets c.args.w.now
            (subst (λ (a : ℕ). get_or c.args.w.now (a + c.loop-e.e) 0 ≤ most_nets) (sym c.demand_at-demand.ensures.value) (c.requires.by_index c.loop-e.e (omega arith))),
      )

pub loop-e-init : goal.loop-e-init
loop-e-init c =
    (omega arith, filled_none _ _ _, omega arith, refl, refl)

pub overflow_add-total : goal.overflow_add-total
overflow_add-total c =
    omega (arith, few (goal.at.overflow_add-total c).After-saturating_sub-o)

pub loop-e-preserved : goal.loop-e-preserved
loop-e-preserved c =
    let v = over_in (d (goal.at.loop-e-preserved c).After-saturating_sub-o) (f (goal.at.loop-e-preserved c).After-saturating_sub-o) c.args.w.now in (
      omega arith,
      filled_next (d (goal.at.loop-e-preserved c).After-saturating_sub-o) c.loop-e.e v c.args.w.now c.loop-e.w c.saturating_sub-o.result c.loop-e.invariant.1
          (omega (arith, c.requires.g_in_bounds, c.demand_at-demand.ensures)) (found (goal.at.loop-e-preserved c).After-saturating_sub-o),
      omega (arith, few (goal.at.loop-e-preserved c).After-saturating_sub-o),
      omega (arith, found (goal.at.loop-e-preserved c).After-saturating_sub-o, c.loop-e.invariant.3, sum-next v c.loop-e.e),
      omega (arith, found (goal.at.loop-e-preserved c).After-saturating_sub-o, c.loop-e.invariant.4, most-next v c.loop-e.e),
    )

pub shape_of-w : goal.shape_of-w
shape_of-w c =
    c.loop-e.invariant.1.outside.long

pub returns : goal.returns
returns c =
    let x = c.args in
    let i = c.loop-e.invariant in let r = overflowed x.g x.w.now c.loop-e.w c.demand_at-demand.result c.flat_at-flat.result c.loop-e.e _
    c.demand_at-demand.ensures.value c.flat_at-flat.ensures.value (omega arith) i.1 i.3 i.4 in record { overflows = r.0; outside = r.1 }
