-- `brief_comma` meets its contract.
-- Assumes nothing.
use native.Mathlib.Omega.{arith}
use Rattle.capacities.proofs.brief_comma.Goals as goal

pub brief-requires : goal.brief-requires
brief-requires c =
    (omega arith, omega arith)

pub returns : goal.returns
returns c =
    c.brief.ensures
