-- Letters read one by one into a mask: their ways are its digits.
-- Assumes nothing.
use mathlib.Core.Path.{◌≡◌, refl, sym, ap, ◌∙◌}
use mathlib.Core.Bool.{Bool, true, false, cond}
use mathlib.Core.List.{List, [], ◌∷◌, ◌++◌, append-nil, append_assoc}
use mathlib.Core.Option.{none, some}
use Prim.Native.Nat.{ℕ, zero, suc, ◌+◌, ◌-◌, ◌*◌, ◌^◌, ◌/◌, ◌%◌, ◌≤◌, ◌<◌}
use native.Mathlib.Nat.{pow-suc, pow-le-pow_right, mul_assoc, mul-le-mul_right}
use native.Mathlib.Numerals.{add-one}
use native.Mathlib.Omega.{arith}
use borrow.Author.Tests.{leb-false, eqb-true, ne_eqb}
use lib.Dec.{leb, eqb, lit<}
use lib.ListN.{length, drop, get_or}
use Rattle.std.specs.Prelude.{Some, None}
use Rattle.scan.specs.Places.{get_d-in}
use Rattle.layout.specs.Dirs.{digits_of}
use Rattle.lines.specs.Keyed.{ender}
use Rattle.dirs.specs.Letters.{way_of, letter_at, Lettered, join_to, way_to, letters_from}

-- ---- one letter

-- the byte behind a letter is not 0, which stands for no byte
pub ender-some : (n : ℕ) → 0 < ender n
ender-some zero = omega arith
ender-some (suc n) = omega arith

-- a comma, where more come
pub ender-comma : (n : ℕ) → (n ≡ 0 → ⊥) → 44 ≡ ender n
ender-comma zero h = absurd (h refl)
ender-comma (suc n) h = refl

-- where two bytes are not left, no letter stands
pub letter-out : (s : List ℕ) (at end : ℕ) → 0 < end → leb (at + 2) (length s) ≡ false → None ≡ letter_at s at end
letter-out s at end pos h = rw (ne_eqb (get_or s (at + 1) 0) end (λ q. omega (arith, get_d-in s (at + 1) end q pos, leb-false (at + 2) (length s) h)))

-- a letter with the byte behind it stands in the text, and its way is 0 or 1
letter-within : (s : List ℕ) (at end w : ℕ) → 0 < end → letter_at s at end ≡ Some w → (at + 2 ≤ length s) × (w ≤ 1)
letter-within s at end w pos h = go (eqb (get_or s (at + 1) 0) end) refl h
  where
    few : (p q : Bool) → cond p (Some 0) (cond q (Some 1) None) ≡ Some w → w ≤ 1
    few true q k = let y : 0 ≡ w = cc in omega arith
    few false true k = let y : 1 ≡ w = cc in omega arith
    few false false k = cc

    go : (q : Bool) → eqb (get_or s (at + 1) 0) end ≡ q → cond q (way_of (get_or s at 0)) None ≡ Some w → (at + 2 ≤ length s) × (w ≤ 1)
    go true e k = (omega (arith, get_d-in s (at + 1) end (eqb-true (get_or s (at + 1) 0) end e) pos), few (eqb (get_or s at 0) 104) (eqb (get_or s at 0) 118) k)
    go false e k = cc

-- ---- one digit

-- w as the digit above i others
digits_more : (i m w : ℕ) → m < 2 ^ i → w ≤ 1 → digits_of (suc i) (m + w * 2 ^ i) ≡ digits_of i m ++ (w ∷ [])
digits_more zero m w h b = let e : (m + w * 1) % 2 ≡ w = omega arith in rw e
digits_more (suc i) m w h b =
    let p : 2 ^ suc i ≡ 2 ^ i * 2 = pow-suc 2 i in
    let q : w * 2 ^ suc i ≡ w * 2 ^ i * 2 = ap (λ (v : ℕ). w * v) p ∙ sym (mul_assoc w (2 ^ i) 2) in
    let e : (m + w * 2 ^ suc i) % 2 ≡ m % 2 = omega arith in
    let f : (m + w * 2 ^ suc i) / 2 ≡ m / 2 + w * 2 ^ i = omega arith in
    rw (e, f, digits_more i (m / 2) w (omega arith) b)

-- ---- the letters of a line

join-none : (r : Lettered) → r ≡ join_to [] r
join-none none = refl
join-none (some c) = refl

join-join : (ds ws : List ℕ) (r : Lettered) → join_to ds (join_to ws r) ≡ join_to (ds ++ ws) r
join-join ds ws none = refl
join-join ds ws (some c) = rw append_assoc

-- i of k letters are read from `from` up to `at`, and the next one's bit is `value`
pub record Going (s : List ℕ) (from k i at mask value : ℕ) : Type 0 where
  pub fewer : i ≤ k
  pub place : at ≤ length s
  pub bit : value ≡ 2 ^ i
  pub small : mask < value
  -- the letters that are left, behind those of the mask, are all k
  pub same : letters_from k s from ≡ join_to (digits_of i mask) (letters_from (k - i) s at)

-- nothing is read yet
pub going_start : (s : List ℕ) (from k : ℕ) → from ≤ length s → Going s from k 0 from 0 1
going_start s from k h =
    let z : k - 0 ≡ k = omega arith in
    record { fewer = omega arith; place = h; bit = refl; small = omega arith; same = rw z (join-none (letters_from k s from)) }

module _ (s : List ℕ) (from k i at mask value : ℕ) (g : Going s from k i at mask value) where
  -- the next bit is one of the first nine
  pub bit-few : k ≤ 8 → value ≤ 256
  bit-few h =
      let b : i ≤ 8 = omega (arith, g.fewer) in
      let p : 2 ^ i ≤ 2 ^ 8 = pow-le-pow_right (lit< tt) b in
      omega (arith, g.bit, p)

  -- the next letter
  module _ (h : i < k) where
    left : k - i ≡ suc (k - 1 - i)
    left = omega arith

    here : letters_from (k - i) s at ≡ way_to (letter_at s at (ender (k - 1 - i))) (letters_from (k - 1 - i) s (at + 2))
    here = ap (λ (n : ℕ). letters_from n s at) left

    -- no letter stands here, or another byte behind it
    pub going-bad : letter_at s at (ender (k - 1 - i)) ≡ None → letters_from k s from ≡ none
    going-bad b = g.same ∙ rw (here, b)

    -- a letter stands here, and its way is w
    pub going_more : (w : ℕ) → letter_at s at (ender (k - 1 - i)) ≡ Some w → Going s from k (i + 1) (at + 2) (mask + w * value) (2 * value)
    going_more w e = record {
      fewer = omega arith;
      place = within.0;
      bit = rw add-one (omega (arith, g.bit, pow-suc 2 i));
      small = omega (arith, g.small, mul-le-mul_right value within.1);
      same = all;
    }
      where
        within : (at + 2 ≤ length s) × (w ≤ 1)
        within = letter-within s at (ender (k - 1 - i)) w (ender-some (k - 1 - i)) e

        one : way_to (letter_at s at (ender (k - 1 - i))) (letters_from (k - 1 - i) s (at + 2)) ≡ join_to (w ∷ []) (letters_from (k - 1 - i) s (at + 2))
        one = rw e

        digits : digits_of i mask ++ (w ∷ []) ≡ digits_of (i + 1) (mask + w * value)
        digits = rw (add-one, g.bit) (sym (digits_more i mask w (omega (arith, g.bit, g.small)) within.1))

        fewer-left : k - 1 - i ≡ k - (i + 1)
        fewer-left = omega arith

        all : letters_from k s from ≡ join_to (digits_of (i + 1) (mask + w * value)) (letters_from (k - (i + 1)) s (at + 2))
        all =
            g.same ∙ ap (join_to (digits_of i mask)) (here ∙ one) ∙ join-join (digits_of i mask) (w ∷ []) (letters_from (k - 1 - i) s (at + 2))
            ∙ (λ j. join_to (digits j) (letters_from (fewer-left j) s (at + 2)))

  -- no letter is left
  pub going_done : k ≤ i → some (digits_of k mask, drop at s) ≡ letters_from k s from
  going_done h =
      let e : i ≡ k = omega (arith, g.fewer) in
      let z : k - i ≡ 0 = omega arith in
      sym (g.same ∙ rw (z, e, append-nil (digits_of k mask)))
