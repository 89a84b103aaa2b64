-- `lowest` meets its contract.
-- Assumes nothing.
use mathlib.Core.Path.{refl}
use native.Mathlib.Omega.{arith}
use Rattle.sets.specs.Mask.{ends_of}
use Rattle.sets.proofs.lowest.Goals as goal

pub returns : goal.returns
returns c =
    let e = ends_of c.args.mask c.requires.0 c.requires.1 in record { result_value = refl; upper_bound = omega (arith, e.lead, e.trail, e.high) }
