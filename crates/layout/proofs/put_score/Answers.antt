-- Both halves are written where they belong, one after the other, the upper one beside the lowest wanted layer.
-- Assumes nothing.
use native.Mathlib.Omega.{arith}
use lib.ListN.{length-set}
use Rattle.layout.proofs.put_score.Goals as goal

pub overflow_cast-high : goal.overflow_cast-high
overflow_cast-high c =
    omega (arith, c.before.requires.2)

pub overflow_mul-table : goal.overflow_mul-table
overflow_mul-table c =
    omega (arith, c.before.requires.2)

pub overflow_add-table : goal.overflow_add-table
overflow_add-table c =
    omega (arith, c.before.requires.2, c.low_in-wanted.ensures.upper_bound)

pub bounds-table-at-2 : goal.bounds-table-at-2
bounds-table-at-2 c =
    simp length-set (omega arith)

pub returns : goal.returns
returns c =
    let z = c.before in
    let a = z.args in
    rw (c.at.ensures.value, c.at-2.ensures.value, c.low_in-wanted.ensures.value)
