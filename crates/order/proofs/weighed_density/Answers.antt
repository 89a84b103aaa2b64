-- `weighed_density` meets its contract.
-- Assumes nothing.
use mathlib.Core.List.{List}
use mathlib.Core.Path.{sym, subst}
use Prim.Native.Nat.{ℕ}
use Rattle.order.specs.Density.{DensityOf, Weighed, weighed-none, weighed-sums}
use Rattle.order.proofs.weighed_density.Goals as goal

pub returns-then-gamma-eq0 : goal.returns-then-gamma-eq0
returns-then-gamma-eq0 c =
    λ j n at all demands capacities. subst (λ (k : ℕ). Weighed k j n (record { demand = 0; capacity = 0 })) (sym c.if-gamma-eq0.true) (weighed-none j n)

pub returns : goal.returns
returns c =
    λ j n at all demands capacities.
    weighed-sums c.args.gamma j n c.net_density.result
    (subst (λ (es : List ℕ). DensityOf j es c.net_density.result) (sym all) (c.net_density.ensures j n at demands capacities))
