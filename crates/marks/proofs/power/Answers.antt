-- `power` meets its contract.
-- Assumes nothing.
use mathlib.Core.Path.{◌≡◌, ◌∙◌, subst, sym}
use Prim.Native.Nat.{ℕ, ◌*◌, ◌%◌, ◌^◌, ◌≤◌, ◌<◌}
use native.Mathlib.Nat.{one-mul, pow-le-pow_right}
use native.Mathlib.Numerals.{one-add}
use native.Mathlib.Omega.{arith}
use lib.Dec.{lit<}
use lib.Pow.{shl_exact}
use Rattle.marks.specs.Words.{stamp_unit}
use Rattle.marks.proofs.power.Goals as goal

one_shl : (l : ℕ) → l < 32 → (1 * 2 ^ l) % 2 ^ 32 ≡ 2 ^ l
one_shl l h = shl_exact {a = 1} 1 l 32 (lit< tt) (subst (λ (x : ℕ). x ≤ 32) (sym (one-add l)) h) ∙ one-mul (2 ^ l)

small : (l : ℕ) → l < 12 → 2 ^ l < stamp_unit
small l h =
    let k : l ≤ 11 = omega arith in
    let p : 2 ^ l ≤ 2 ^ 11 = pow-le-pow_right (lit< tt) k in
    omega arith

pub returns : goal.returns
returns c =
    record { value = one_shl c.args.i (omega arith); upper_bound = rw (one_shl c.args.i (omega arith)) (small c.args.i (omega arith)) }
