-- `add_mark` meets its contract.
-- Assumes nothing.
use Rattle.netread.proofs.Adds.{bit_added}
use Rattle.netread.proofs.add_mark.Goals as goal

pub returns : goal.returns
returns c =
    let x = c.args in
    λ i h e. bit_added x.stamp x.a.now x.t c.requires.fits i h c.max-kept.result x.b c.max-kept.ensures e
