-- A word of the tiles' marks: stamp × 4,096 + bits.
-- Assumes nothing.
use Rattle.std.specs.Prelude.{Bool, true, false, not, ◌&&◌, ◌||◌, cond, List, ◌≡◌, refl, ℕ, zero, suc, ◌+◌, ◌-◌, ◌*◌, ◌/◌, ◌%◌, ◌^◌, ◌≤◌, ◌<◌, eqb, get_or}
use Rattle.std.proofs.Common.{sym, ap, ◌∙◌, pow-suc, eq-eqb, ne_eqb, eqb-true, arith}
use Rattle.std.proofs.Math.Nat.{pow-succ', div-div-eq-div-mul}
use Rattle.std.proofs.lemmas.Bool.{eqb-false}
use Rattle.std.proofs.Math.Decide.{ℕ_discrete}
use Rattle.model.specs.Limits.{most_nets}
use Rattle.model.specs.Lists.{bit}

-- the bits of a word are a number below this one, and its stamp stands above them
abbrev pub stamp_unit : ℕ
stamp_unit = 4_096

-- a net has five stamps: two when it is read first, the second of them where its rings are cut; one when it is scored, one when its directive is counted, and one when
-- it is placed
abbrev pub most_stamp : ℕ
most_stamp = 5 * most_nets

-- the bits of a word at a stamp, none where its stamp is another one
unfoldable pub bits_in : ℕ → ℕ → ℕ
bits_in n w = cond (eqb (w / stamp_unit) n) (w % stamp_unit) 0

-- bit i of m
abbrev pub bit_of : ℕ → ℕ → Bool
bit_of m zero = eqb (m % 2) 1
bit_of m (suc i) = bit_of (m / 2) i

-- no word has a stamp above n
abbrev pub Fits : ℕ → List ℕ → Type 0
Fits n a = (t : ℕ) → get_or a t 0 < (n + 1) * stamp_unit

-- ---- laws of a word

pub bits_small : (n w : ℕ) → bits_in n w < stamp_unit
unfolding bits_in
bits_small n w = go (eqb (w / stamp_unit) n)
  where
    go : (q : Bool) → cond q (w % stamp_unit) 0 < stamp_unit
    go true = omega arith
    go false = omega arith

-- a word that was written at the stamp has just the bits written
pub bits-new : (n m : ℕ) → m < stamp_unit → bits_in n (n * stamp_unit + m) ≡ m
unfolding bits_in
bits-new n m h =
    let q : (n * stamp_unit + m) / stamp_unit ≡ n = omega arith in
    let r : (n * stamp_unit + m) % stamp_unit ≡ m = omega arith in
    rw (eq-eqb _ _ q) r

-- a word of an earlier stamp has none
pub bits-old : (n w : ℕ) → w < n * stamp_unit → bits_in n w ≡ 0
unfolding bits_in
bits-old n w h = rw (ne_eqb (w / stamp_unit) n (λ e. omega arith))

-- ---- laws of bits

even : (m : ℕ) → eqb (m % 2) 1 ≡ false → m % 2 ≡ 0
even m e = go (ℕ_discrete (m % 2) 1)
  where
    go : Dec (m % 2 ≡ 1) → m % 2 ≡ 0
    go (yes q) = absurd (eqb-false (m % 2) 1 e q)
    go (no n) = omega (arith, rest m n)
      where
        rest : (k : ℕ) → (k % 2 ≡ 1 → ⊥) → k % 2 ≡ 0
        rest k h = omega arith

same-suc : (a b : ℕ) → eqb (suc a) (suc b) ≡ eqb a b
same-suc a b = go (ℕ_discrete a b)
  where
    go : Dec (a ≡ b) → eqb (suc a) (suc b) ≡ eqb a b
    go (yes e) = rw (eq-eqb a b e, eq-eqb (suc a) (suc b) (omega arith))
    go (no n) = rw (ne_eqb a b n, ne_eqb (suc a) (suc b) (λ q. n (omega arith)))

pub bit-zero : (i : ℕ) → bit_of 0 i ≡ false
bit-zero zero = refl
bit-zero (suc i) = bit-zero i

-- a bit that was not there is added
pub bit-add : (m j i : ℕ) → bit_of m j ≡ false → bit_of (m + 2 ^ j) i ≡ (eqb j i || bit_of m i)
bit-add m zero zero e =
    let h : m % 2 ≡ 0 = even m e in
    let k : (m + 1) % 2 ≡ 1 = omega arith in
    rw k
bit-add m zero (suc i) e =
    let h : m % 2 ≡ 0 = even m e in
    let k : (m + 1) / 2 ≡ m / 2 = omega arith in
    rw (k, ne_eqb zero (suc i) (λ q. omega arith))
bit-add m (suc j) zero e =
    let p : 2 ^ suc j ≡ 2 ^ j * 2 = pow-suc 2 j in
    let k : (m + 2 ^ suc j) % 2 ≡ m % 2 = omega arith in
    rw (k, ne_eqb (suc j) zero (λ q. omega arith))
bit-add m (suc j) (suc i) e =
    let p : 2 ^ suc j ≡ 2 ^ j * 2 = pow-suc 2 j in
    let k : (m + 2 ^ suc j) / 2 ≡ m / 2 + 2 ^ j = omega arith in
    rw (k, same-suc j i) (bit-add (m / 2) j i e)

odd : (m : ℕ) → eqb (m % 2) 1 ≡ true → m % 2 ≡ 1
odd m e = eqb-true (m % 2) 1 e

-- a bit that was there is taken away
pub bit-least : (m j : ℕ) → bit_of m j ≡ true → 2 ^ j ≤ m
bit-least m zero e = omega (arith, odd m e)
bit-least m (suc j) e = let p : 2 ^ suc j ≡ 2 ^ j * 2 = pow-suc 2 j in omega (arith, bit-least (m / 2) j e)

pub bit-take : (m j i : ℕ) → bit_of m j ≡ true → bit_of (m - 2 ^ j) i ≡ (not (eqb j i) && bit_of m i)
bit-take m zero zero e =
    let h : m % 2 ≡ 1 = odd m e in
    let k : (m - 1) % 2 ≡ 0 = omega arith in
    rw k
bit-take m zero (suc i) e =
    let h : m % 2 ≡ 1 = odd m e in
    let k : (m - 1) / 2 ≡ m / 2 = omega arith in
    rw (k, ne_eqb zero (suc i) (λ q. omega arith))
bit-take m (suc j) zero e =
    let p : 2 ^ suc j ≡ 2 ^ j * 2 = pow-suc 2 j in
    let k : (m - 2 ^ suc j) % 2 ≡ m % 2 = omega (arith, bit-least m (suc j) e) in
    rw (k, ne_eqb (suc j) zero (λ q. omega arith))
bit-take m (suc j) (suc i) e =
    let p : 2 ^ suc j ≡ 2 ^ j * 2 = pow-suc 2 j in
    let k : (m - 2 ^ suc j) / 2 ≡ m / 2 - 2 ^ j = omega (arith, bit-least m (suc j) e) in
    rw (k, same-suc j i) (bit-take (m / 2) j i e)

pub bit-room : (m j k : ℕ) → bit_of m j ≡ false → m < 2 ^ k → j < k → m + 2 ^ j < 2 ^ k
bit-room m j zero e h l = absurd (omega arith)
bit-room m zero (suc k) e h l =
    let p : 2 ^ suc k ≡ 2 ^ k * 2 = pow-suc 2 k in
    let q : m % 2 ≡ 0 = even m e in
    omega arith
bit-room m (suc j) (suc k) e h l =
    let p : 2 ^ suc k ≡ 2 ^ k * 2 = pow-suc 2 k in
    let q : 2 ^ suc j ≡ 2 ^ j * 2 = pow-suc 2 j in
    omega (arith, bit-room (m / 2) j k e (omega arith) (omega arith))

-- a number by its last k bits
abbrev pub value_of : ℕ → ℕ → ℕ
value_of zero m = 0
value_of (suc k) m = bit (bit_of m 0) + 2 * value_of k (m / 2)

pub value-is : (k m : ℕ) → m < 2 ^ k → value_of k m ≡ m
value-is zero m h = omega arith
value-is (suc k) m h =
    let p : 2 ^ suc k ≡ 2 ^ k * 2 = pow-suc 2 k in
    last (eqb (m % 2) 1) refl (value-is k (m / 2) (omega arith))
  where
    last : (q : Bool) → eqb (m % 2) 1 ≡ q → value_of k (m / 2) ≡ m / 2 → bit (eqb (m % 2) 1) + 2 * value_of k (m / 2) ≡ m
    last true e v = rw e (omega (arith, v, odd m e))
    last false e v = rw e (omega (arith, v, even m e))

-- bit i by division
pub bit_is : (m i : ℕ) → eqb (m / 2 ^ i % 2) 1 ≡ bit_of m i
bit_is m zero = let k : m / 1 % 2 ≡ m % 2 = omega arith in rw k
bit_is m (suc i) = rw (pow-succ' 2 i, sym (div-div-eq-div-mul m 2 (2 ^ i))) (bit_is (m / 2) i)

-- a bit of m says that m is not 0
pub bit-some : (m i : ℕ) → bit_of m i ≡ true → m ≡ 0 → ⊥
bit-some m i e z = no (sym (bit-zero i) ∙ ap (λ (k : ℕ). bit_of k i) (sym z) ∙ e)
  where
    no : false ≡ true → ⊥
    no q = let y : ◌≡◌ {A = ℕ} 0 1 = cc in omega arith

-- a word with bits at a stamp is the stamp and these
pub bits_of : (n w : ℕ) → (bits_in n w ≡ 0 → ⊥) → w ≡ n * stamp_unit + bits_in n w
unfolding bits_in
bits_of n w h = go (ℕ_discrete (w / stamp_unit) n)
  where
    go : Dec (w / stamp_unit ≡ n) → w ≡ n * stamp_unit + cond (eqb (w / stamp_unit) n) (w % stamp_unit) 0
    go (yes e) = rw (eq-eqb _ _ e) (omega arith)
    go (no k) = absurd (h (rw (ne_eqb _ _ k)))
