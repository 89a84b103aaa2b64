-- The number is read where it stands.
-- Assumes nothing.
use mathlib.Core.Path.{ap}
use Prim.Native.Nat.{ℕ, ◌/◌}
use native.Mathlib.Omega.{arith}
use lib.ListN.{get_or}
use Rattle.layout.proofs.dropped_in.Goals as goal

pub returns : goal.returns
returns c =
    (ap (λ (k : ℕ). k / 65_536) (ap (λ (k : ℕ). get_or c.args.table.now k 0) c.at.ensures.value), omega (arith, c.type_inv.table c.at.result))
