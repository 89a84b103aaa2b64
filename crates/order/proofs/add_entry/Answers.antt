-- `add_entry` meets its contract.
-- Assumes nothing.
use mathlib.Core.Path.{subst}
use Prim.Native.Nat.{ℕ}
use Rattle.order.specs.Density.{Added}
use Rattle.order.proofs.add_entry.Goals as goal

pub returns : goal.returns
returns c =
    let x = c.args in
    subst (λ (e : ℕ). Added x.g x.w.now e x.v c.add_edge.result) c.edge_of-edge.ensures.0 c.add_edge.ensures
