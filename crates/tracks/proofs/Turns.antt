-- The bits of an edge's layers, from the first one up: what a turn of the loop adds.
-- Assumes nothing.
use mathlib.Core.Bool.{Bool, true, false, cond}
use mathlib.Core.Path.{◌≡◌, refl, ap}
use Prim.Native.Nat.{ℕ, zero, suc, ◌+◌, ◌*◌, ◌^◌, ◌≤◌}
use native.Mathlib.Nat.{pow-suc, pow-le-pow_right}
use native.Mathlib.Numerals.{add-one}
use native.Mathlib.Omega.{arith}
use lib.Dec.{lit<}
use Rattle.model.specs.Lists.{bit}
use Rattle.tracks.specs.Masks.{bits_up}

twice : (b : Bool) (n : ℕ) → 2 * cond b (2 ^ n) 0 ≡ cond b (2 ^ suc n) 0
twice true n = omega (arith, pow-suc 2 n)
twice false n = omega arith

first_bit : (b : Bool) → bit b ≡ cond b (2 ^ 0) 0
first_bit true = refl
first_bit false = refl

bits-suc : (f : ℕ → Bool) (a n : ℕ) → bits_up f a (suc n) ≡ bits_up f a n + cond (f (a + n)) (2 ^ n) 0
bits-suc f a zero = let e : a ≡ a + 0 = omega arith in omega (arith, first_bit (f a), ap (λ (i : ℕ). cond (f i) (2 ^ 0) 0) e)
bits-suc f a (suc n) =
    let e : suc a + n ≡ a + suc n = omega arith in
    omega (arith, bits-suc f (suc a) n, twice (f (suc a + n)) n, ap (λ (i : ℕ). cond (f i) (2 ^ suc n) 0) e)

pub bits-next : (f : ℕ → Bool) (n : ℕ) → bits_up f 0 (n + 1) ≡ bits_up f 0 n + cond (f n) (2 ^ n) 0
bits-next f n = let z : 0 + n ≡ n = omega arith in rw add-one (omega (arith, bits-suc f 0 n, ap (λ (i : ℕ). cond (f i) (2 ^ n) 0) z))

-- the value of the next layer's bit
pub value-next : (n : ℕ) → 2 * 2 ^ n ≡ 2 ^ (n + 1)
value-next n = rw add-one (omega (arith, pow-suc 2 n))

pub value-small : (n : ℕ) → n ≤ 8 → 2 ^ n ≤ 256
value-small n h = let p : 2 ^ n ≤ 2 ^ 8 = pow-le-pow_right (lit< tt) h in omega (arith, p)

pub part_small : (b : Bool) (v : ℕ) → cond b v 0 ≤ v
part_small true v = omega arith
part_small false v = omega arith

-- eight layers as two fours
pub bits-halves : (f h : ℕ → Bool) → ((i : ℕ) → h i ≡ f (4 + i)) → bits_up f 0 4 + 16 * bits_up h 0 4 ≡ bits_up f 0 8
bits-halves f h e = omega (arith, ap bit (e 0), ap bit (e 1), ap bit (e 2), ap bit (e 3))
