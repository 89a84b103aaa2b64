-- `clear_mark` meets its contract: where the bit is marked, the word is no smaller than it.
-- Assumes nothing.
use mathlib.Core.Path.{ap}
use Prim.Native.Nat.{ℕ, ◌-◌}
use native.Mathlib.Omega.{arith}
use lib.ListN.{get_or, set}
use Rattle.marks.specs.Marks.{unmark-least}
use Rattle.marks.proofs.clear_mark.Goals as goal

pub overflow_sub-a : goal.overflow_sub-a
overflow_sub-a c =
    let a = c.args in
    omega (arith, unmark-least a.stamp a.a.now a.t a.i c.requires.0 c.requires.2, c.power.ensures.value)

pub returns : goal.returns
returns c =
    let a = c.args in
    ap (λ (x : ℕ). set a.a.now a.t (get_or a.a.now a.t 0 - x)) c.power.ensures.value
