-- The last four bits of the place of the vias are read where it stands.
-- Assumes nothing.
use mathlib.Core.Path.{ap}
use Prim.Native.Nat.{ℕ, ◌%◌}
use native.Mathlib.Omega.{arith}
use lib.ListN.{get_or}
use Rattle.layout.proofs.low_in.Goals as goal

pub returns : goal.returns
returns c =
    record { value = ap (λ (k : ℕ). get_or c.args.table.now k 0 % 16) c.at.ensures.value; upper_bound = omega arith }
