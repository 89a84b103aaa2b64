-- `has_layer` meets its contract: below 2 to the power k a mask of north bits is not 0, or not all ones.
-- Assumes nothing.
use Rattle.layout.specs.Dirs.{full_is, east-has, north-has}
use Rattle.layout.proofs.has_layer.Goals as goal

pub returns-in-East : goal.returns-in-East
returns-in-East c =
    rw (full_is c.args.k c.requires.1, c.in-East.is) (east-has c.args.d c.in-Some.dirs c.in-Some.is c.args.k)

pub returns-in-North : goal.returns-in-North
returns-in-North c =
    rw (full_is c.args.k c.requires.1, c.in-North.is) (north-has c.args.d c.in-Some.dirs c.in-Some.is c.args.k)
