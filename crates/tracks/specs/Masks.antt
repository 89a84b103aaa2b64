-- Tests as the bits of a number.
-- Assumes nothing.
use Rattle.std.specs.Prelude.{Bool, true, false, ◌≡◌, ℕ, zero, suc, ◌+◌, ◌*◌, ◌/◌, ◌%◌, ◌^◌, ◌≤◌, ◌<◌}
use Rattle.std.proofs.Common.{ap, ◌∙◌, pow-suc, arith, lit<}
use Rattle.std.proofs.Math.Nat.{pow-le-pow_right}
use Rattle.marks.specs.Words.{bit_of}
use Rattle.model.specs.Lists.{bit}

-- bit i is f (a + i), for i below n
abbrev pub bits_up : (ℕ → Bool) → ℕ → ℕ → ℕ
bits_up f a zero = 0
bits_up f a (suc n) = bit (f a) + 2 * bits_up f (suc a) n

low : (b : Bool) (m : ℕ) → bit_of (bit b + 2 * m) 0 ≡ b
low true m = let h : (1 + 2 * m) % 2 ≡ 1 = omega arith in rw h
low false m = let h : (0 + 2 * m) % 2 ≡ 0 = omega arith in rw h

high : (b : Bool) (m : ℕ) → (bit b + 2 * m) / 2 ≡ m
high true m = omega arith
high false m = omega arith

pub bit-small : (b : Bool) → bit b ≤ 1
bit-small true = omega arith
bit-small false = omega arith

pub bits_up_lem : (f : ℕ → Bool) (a n i : ℕ) → i < n → bit_of (bits_up f a n) i ≡ f (a + i)
bits_up_lem f a zero i h = absurd (omega arith)
bits_up_lem f a (suc n) zero h = let e : a ≡ a + 0 = omega arith in low (f a) (bits_up f (suc a) n) ∙ ap f e
bits_up_lem f a (suc n) (suc i) h =
    let e : suc a + i ≡ a + suc i = omega arith in
    ap (λ (m : ℕ). bit_of m i) (high (f a) (bits_up f (suc a) n)) ∙ bits_up_lem f (suc a) n i (omega arith) ∙ ap f e

bits_small : (f : ℕ → Bool) (a n : ℕ) → bits_up f a n < 2 ^ n
bits_small f a zero = omega arith
bits_small f a (suc n) = let p : 2 ^ suc n ≡ 2 ^ n * 2 = pow-suc 2 n in omega (arith, bits_small f (suc a) n, bit-small (f a))

-- eight bits
pub bits-few : (f : ℕ → Bool) (a n : ℕ) → n ≤ 8 → bits_up f a n < 256
bits-few f a n h = let p : 2 ^ n ≤ 2 ^ 8 = pow-le-pow_right (lit< tt) h in omega (arith, bits_small f a n, p)
