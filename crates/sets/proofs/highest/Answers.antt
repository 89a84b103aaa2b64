-- `highest` meets its contract.
-- Assumes nothing.
use native.Mathlib.Omega.{arith}
use Rattle.sets.specs.Mask.{ends_of}
use Rattle.sets.proofs.highest.Goals as goal

pub overflow_sub-result : goal.overflow_sub-result
overflow_sub-result c =
    (ends_of c.args.mask c.requires.0 c.requires.1).lead

pub returns : goal.returns
returns c =
    let e = ends_of c.args.mask c.requires.0 c.requires.1 in record { result_value = omega (arith, e.lead); upper_bound = omega (arith, e.lead, e.high) }
