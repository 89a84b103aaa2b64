-- `end_of` meets its contract: byte 10 behind the last letter, and a comma behind each other.
-- Assumes nothing.
use Rattle.dirs.proofs.Going.{ender-comma}
use Rattle.dirs.proofs.end_of.Goals as goal

pub returns : goal.returns
returns c =
    ender-comma c.args.more c.if-more-eq0.false
