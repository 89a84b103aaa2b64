-- `count_entry` meets its contract.
-- Assumes nothing.
use mathlib.Core.Path.{ap}
use Prim.Native.Nat.{ℕ}
use native.Mathlib.Omega.{arith}
use lib.ListN.{get_or}
use Rattle.directives.specs.Counts.{cell, one_more}
use Rattle.directives.proofs.count_entry.Goals as goal

pub edge_of-edge-requires : goal.edge_of-edge-requires
edge_of-edge-requires c =
    record { d_bound = (c.requires.le_low.3, c.requires.le_low.4) }

pub count_edge-requires : goal.count_edge-requires
count_edge-requires c =
    let x = c.args in record { edge_lt_e = (c.edge_of-edge.ensures.1, c.requires.le_low.0, c.requires.le_low.1, c.requires.le_low.2, omega (arith, c.requires.low_bound, ap (λ (e : ℕ). get_or x.w.now (cell x.g e x.low) 0) c.edge_of-edge.ensures.0)) }

pub returns : goal.returns
returns c =
    let x = c.args in
    rw c.count_edge.ensures (ap (λ (e : ℕ). one_more x.g x.low e x.w.now) c.edge_of-edge.ensures.0)
