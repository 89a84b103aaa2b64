-- `next_number` meets its contract.
-- Assumes nothing.
use Rattle.put.proofs.Steps.{comma-then}
use Rattle.std.proofs.Common.{rules}
use Rattle.put.proofs.Writer.next_number.Goals as goal

pub returns : goal.returns
returns c =
    search (comma-then, rules)
