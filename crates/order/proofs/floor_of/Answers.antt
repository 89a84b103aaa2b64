-- `floor_of` meets its contract.
-- Assumes nothing.
use mathlib.Core.Path.{◌≡◌, ap}
use Prim.Native.Nat.{ℕ, ◌/◌, max}
use native.Mathlib.Nat.{div-le_self}
use native.Mathlib.Omega.{arith}
use Rattle.order.proofs.floor_of.Goals as goal

by_one : (n d : ℕ) → d ≡ 0 → n ≡ n / max d 1
by_one n d e = rw e (omega arith)

by_itself : (n d : ℕ) → (d ≡ 0 → ⊥) → n / d ≡ n / max d 1
by_itself n d h = let e : d ≡ max d 1 = omega arith in ap (λ (k : ℕ). n / k) e

pub returns-then-d-eq0 : goal.returns-then-d-eq0
returns-then-d-eq0 c =
    record { value = by_one c.args.n c.args.d c.if-d-eq0.true; upper_bound = omega arith }

pub returns : goal.returns
returns c =
    record { value = by_itself c.args.n c.args.d c.if-d-eq0.false; upper_bound = div-le_self c.args.n c.args.d }
