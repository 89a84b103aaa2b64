-- `runs` meets its contract: the bit of the layer, by division.
-- Assumes nothing.
use Rattle.layout.specs.Dirs.{any_runs, given-runs}
use Rattle.layout.proofs.runs.Goals as goal

pub returns-in-None : goal.returns-in-None
returns-in-None c k h =
    let a = c.args in any_runs a.d c.in-None.is k a.way a.layer

pub returns-in-Some : goal.returns-in-Some
returns-in-Some c k h =
    let a = c.args in given-runs a.d c.in-Some.dirs c.in-Some.is k a.way a.layer h
