-- `mark_pin` meets its contract.
-- Assumes nothing.
use mathlib.Core.Path.{ap, ◌∙◌}
use Prim.Native.Nat.{ℕ, ◌-◌}
use native.Mathlib.Omega.{arith}
use Rattle.marks.specs.Marks.{marks_after}
use Rattle.netread.proofs.mark_pin.Goals as goal
use Rattle.netread.proofs.mark_pin.Goals.{After-set_mark}

pub returns : goal.returns
returns c =
    let x = c.args in record { value = omega (arith, c.tile_at-here.ensures.0); a_after = c.set_mark.ensures.a_after ∙ ap (λ (k : ℕ). marks_after x.stamp x.a.now k (x.p.third - 1)) c.tile_at-here.ensures.0 }
