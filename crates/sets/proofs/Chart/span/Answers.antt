-- `Chart::span` meets its contract: the chart has the vias of the set.
-- Assumes nothing.
use native.Mathlib.Omega.{arith}
use Rattle.sets.specs.Mask.{span-le-7}
use Rattle.sets.proofs.Chart.span.Goals as goal

pub returns : goal.returns
returns c =
    let e = c.args.self.now.charted.at c.args.mask c.requires in record { value = e; upper_bound = omega (arith, e, span-le-7 c.args.mask c.requires) }
