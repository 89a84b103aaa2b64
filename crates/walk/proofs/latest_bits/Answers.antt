-- `latest_bits` meets its contract.
-- Assumes nothing.
use mathlib.Core.Path.{◌≡◌, sym, ap, ◌∙◌}
use Prim.Native.Nat.{ℕ, ◌+◌, ◌-◌, ◌*◌, ◌≤◌, ◌<◌}
use native.Mathlib.Omega.{arith}
use Rattle.marks.specs.Words.{bits_in, bits-new, bits-old, stamp_unit}
use Rattle.walk.proofs.latest_bits.Goals as goal

-- a word at the stamp
at-stamp : (n w : ℕ) → n * stamp_unit ≤ w → w < (n + 1) * stamp_unit → w - n * stamp_unit ≡ bits_in n w
at-stamp n w h l =
    let e : w ≡ n * stamp_unit + (w - n * stamp_unit) = omega arith in
    sym (ap (bits_in n) e ∙ bits-new n (w - n * stamp_unit) (omega arith))

pub returns-then-word-first : goal.returns-then-word-first
returns-then-word-first c =
    record { value = sym (bits-old c.args.stamp c.args.word (omega arith)); upper_bound = omega arith }

pub returns : goal.returns
returns c =
    record { value = at-stamp c.args.stamp c.args.word (omega arith) c.requires.1; upper_bound = omega (arith, c.requires.1) }
