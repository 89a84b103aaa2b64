-- `print_fits` meets its contract.
-- Assumes nothing.
use Rattle.reader.proofs.Ends.{fits-bytes}
use Rattle.reader.proofs.print_fits.Goals as goal

pub returns-in-Some : goal.returns-in-Some
returns-in-Some c =
    let x = c.args in
    fits-bytes x.n x.entries c.in-Some.m x.print c.in-Some.is
