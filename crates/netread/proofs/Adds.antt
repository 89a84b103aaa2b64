-- A mark that is added by the bits of a word: where no stamp is above n, the larger of a tile's word and n × 4,096 is n × 4,096 and the bits of the net at hand.
-- Assumes nothing.
use mathlib.Core.Bool.{Bool, true, false, cond}
use mathlib.Core.List.{List}
use mathlib.Core.Logic.{⊎_elim}
use mathlib.Core.Path.{◌≡◌, refl, sym, ap, ap₂, ◌∙◌}
use Prim.Native.Nat.{ℕ, zero, suc, ◌+◌, ◌-◌, ◌*◌, ◌/◌, ◌%◌, ◌^◌, ◌≤◌, ◌<◌, max}
use native.Mathlib.Nat.{pow-suc, mul_assoc}
use native.Mathlib.Omega.{arith}
use borrow.Author.Tests.{eqb-true, eqb-false}
use lib.Bits.{bit_or, or_step, or_zero_r}
use lib.Dec.{eqb}
use lib.ListN.{get_or, set}
use lib.Seq.{set-get_or}
use Rattle.marks.specs.Marks.{bits_at, marked, marks_after}
use Rattle.marks.specs.Words.{bits_in, bit_of, Fits, bits-new, bits-old, bit-some, stamp_unit}
use Rattle.theory.specs.congestion.Sums.{lt-or-ge}

-- m with bit i
or-bit : (i m : ℕ) → bit_or m (2 ^ i) ≡ cond (bit_of m i) m (m + 2 ^ i)
or-bit zero m = or_step m 1 ∙ ap (λ (h : ℕ). h * 2 + max (m % 2) 1) (or_zero_r (m / 2)) ∙ go (eqb (m % 2) 1) refl
  where
    go : (q : Bool) → eqb (m % 2) 1 ≡ q → m / 2 * 2 + max (m % 2) 1 ≡ cond q m (m + 1)
    go true e = omega (arith, eqb-true (m % 2) 1 e)
    go false e = omega (arith, eqb-false (m % 2) 1 e)
or-bit (suc i) m =
    let p : 2 ^ suc i ≡ 2 ^ i * 2 = pow-suc 2 i in
    let h : 2 ^ suc i / 2 ≡ 2 ^ i = omega arith in
    let r : 2 ^ suc i % 2 ≡ 0 = omega arith in
    or_step m (2 ^ suc i)
    ∙ ap₂ (λ (a b : ℕ). bit_or (m / 2) a * 2 + max (m % 2) b) h r
    ∙ ap (λ (a : ℕ). a * 2 + max (m % 2) 0) (or-bit i (m / 2))
    ∙ go (bit_of (m / 2) i) p
  where
    go : (q : Bool) → 2 ^ suc i ≡ 2 ^ i * 2 → cond q (m / 2) (m / 2 + 2 ^ i) * 2 + max (m % 2) 0 ≡ cond q m (m + 2 ^ suc i)
    go true p = omega arith
    go false p = omega arith

-- the bits below k are those of the lower part
bit-low : (i k n m : ℕ) → i < k → bit_of (n * 2 ^ k + m) i ≡ bit_of m i
bit-low i zero n m h = absurd (omega arith)
bit-low zero (suc k) n m h =
    let p : n * 2 ^ suc k ≡ n * 2 ^ k * 2 = ap (λ (a : ℕ). n * a) (pow-suc 2 k) ∙ sym (mul_assoc n (2 ^ k) 2) in
    let r : (n * 2 ^ suc k + m) % 2 ≡ m % 2 = omega arith in
    ap (λ (a : ℕ). eqb a 1) r
bit-low (suc i) (suc k) n m h =
    let p : n * 2 ^ suc k ≡ n * 2 ^ k * 2 = ap (λ (a : ℕ). n * a) (pow-suc 2 k) ∙ sym (mul_assoc n (2 ^ k) 2) in
    let r : (n * 2 ^ suc k + m) / 2 ≡ n * 2 ^ k + m / 2 = omega arith in
    ap (λ (a : ℕ). bit_of a i) r ∙ bit-low i k n (m / 2) (omega arith)

module _ (n : ℕ) (a : List ℕ) (t : ℕ) (fits : Fits n a) where
  kept-is : max (get_or a t 0) (n * stamp_unit) ≡ n * stamp_unit + bits_at n a t
  kept-is = ⊎_elim older current (lt-or-ge (get_or a t 0) (n * stamp_unit))
    where
      older : get_or a t 0 < n * stamp_unit → max (get_or a t 0) (n * stamp_unit) ≡ n * stamp_unit + bits_at n a t
      older h = omega (arith, bits-old n (get_or a t 0) h)

      current : n * stamp_unit ≤ get_or a t 0 → max (get_or a t 0) (n * stamp_unit) ≡ n * stamp_unit + bits_at n a t
      current h =
          let e : get_or a t 0 ≡ n * stamp_unit + (get_or a t 0 - n * stamp_unit) = omega arith in
          let b : bits_at n a t ≡ get_or a t 0 - n * stamp_unit = ap (bits_in n) e ∙ bits-new n (get_or a t 0 - n * stamp_unit) (omega (arith, fits t)) in
          omega (arith, b)

  -- where a bit of the net at hand is marked, the word is the larger
  kept_same : (i : ℕ) → marked n a t i ≡ true → max (get_or a t 0) (n * stamp_unit) ≡ get_or a t 0
  kept_same i e = ⊎_elim (λ h. absurd (bit-some (bits_at n a t) i e (bits-old n (get_or a t 0) h))) (λ h. omega arith) (lt-or-ge (get_or a t 0) (n * stamp_unit))

  pub bit_added : (i : ℕ) → i < 12 → (kept b : ℕ) → kept ≡ max (get_or a t 0) (n * stamp_unit) → b ≡ 2 ^ i → set a t (bit_or kept b) ≡ marks_after n a t i
  unfolding marks_after
  bit_added i h kept b e f = ap₂ (λ (k c : ℕ). set a t (bit_or k c)) e f ∙ ap (set a t) (or-bit i (max (get_or a t 0) (n * stamp_unit)) ∙ ap (λ (q : Bool). cond q top (top + 2 ^ i)) bit) ∙ go (marked n a t i) refl
    where
      top : ℕ
      top = max (get_or a t 0) (n * stamp_unit)

      bit : bit_of top i ≡ marked n a t i
      bit = ap (λ (k : ℕ). bit_of k i) kept-is ∙ bit-low i 12 n (bits_at n a t) h

      go : (q : Bool) → marked n a t i ≡ q → set a t (cond q top (top + 2 ^ i)) ≡ cond q a (set a t (n * stamp_unit + (bits_at n a t + 2 ^ i)))
      go true m = ap (set a t) (kept_same i m) ∙ set-get_or a t 0
      go false m = ap (set a t) (omega (arith, kept-is))

-- the bits of the way on and of the way back
pub way-bits : (d : ℕ) → d ≤ 1 → (256 * (1 + d) ≡ 2 ^ (8 + d)) × (4 * (256 * (1 + d)) ≡ 2 ^ (10 + d))
way-bits zero h = (refl, refl)
way-bits (suc zero) h = (refl, refl)
way-bits (suc (suc d)) h = absurd (omega arith)
