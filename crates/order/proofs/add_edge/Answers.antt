-- `add_edge` meets its contract.
-- Assumes nothing.
use Prim.Native.Nat.{◌+◌}
use native.Mathlib.Omega.{arith}
use Rattle.order.specs.Sums.{added}
use Rattle.order.proofs.add_edge.Goals as goal

pub returns : goal.returns
returns c =
    let s = c.args in
    added s.g s.w.now s.edge s.v c.demand_at.result c.flat_at.result c.demand_at.ensures.value c.flat_at.ensures.value c.from-demand.result c.from-capacity.result
    (c.from-demand.ensures, omega (arith, c.from-demand.ensures, c.type_inv.w (c.demand_at.result + s.edge))) (c.from-capacity.ensures, omega (arith, c.from-capacity.ensures, c.type_inv.w (c.flat_at.result + s.edge)))
