-- `vias_of` meets its contract.
-- Assumes nothing.
use Rattle.print.proofs.Nets.{same_place}
use Rattle.std.proofs.Common.{rules}
use Rattle.print.proofs.vias_of.Goals as goal

pub returns : goal.returns
returns c =
    search (same_place, rules)
