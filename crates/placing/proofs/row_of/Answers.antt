-- `row_of` meets its contract.
-- Assumes nothing.
use native.Mathlib.Omega.{arith}
use Rattle.placing.proofs.row_of.Goals as goal

pub returns : goal.returns
returns c =
    record {
      value = rw (
        c.at.ensures.value,
        c.at-2.ensures.value,
        c.at-3.ensures.value,
        c.entries_in.ensures.0,
        c.dropped_in.ensures.0,
      );
      first_bound = (omega (arith, c.type_inv.table c.at-3.result), omega (arith, c.entries_in.ensures.1));
    }
