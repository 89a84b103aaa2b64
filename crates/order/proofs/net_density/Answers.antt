-- `net_density` meets its contract.
-- Assumes nothing.
use mathlib.Core.List.{List, []}
use mathlib.Core.Path.{sym, subst}
use Prim.Native.Nat.{ℕ}
use Rattle.net.specs.Left.{edges-place, edges_none}
use Rattle.order.specs.Density.{DensityOf}
use Rattle.order.specs.Sums.{sums_none, sums-job}
use Rattle.order.proofs.net_density.Goals as goal

pub bounds-s-at : goal.bounds-s-at
bounds-s-at c =
    let x = c.args in
    let h = c.requires.edges_there in
    edges-place x.s.now x.g.w x.g.h x.at h.net h.edges

pub returns-then-s-at-eq10 : goal.returns-then-s-at-eq10
returns-then-s-at-eq10 c =
    let x = c.args in
    λ j n k d e.
    subst (λ (es : List ℕ). DensityOf j es (record { demand = 0; capacity = 0 })) (sym (edges_none x.s.now x.g.w x.g.h x.at n k c.if-s-at-eq10.true))
    (sums-job x.g x.w.now [] (record { demand = 0; capacity = 0 }) (sums_none x.g x.w.now) j d e)
