-- Marks of tiles at a stamp, over a list of words.
-- Assumes nothing.
use Rattle.std.specs.Prelude.{Bool, true, false, ◌&&◌, ◌||◌, not, cond, List, ◌≡◌, refl, ℕ, zero, suc, ◌+◌, ◌-◌, ◌*◌, ◌^◌, ◌≤◌, ◌<◌, eqb, length, get_or, set}
use Rattle.std.proofs.Common.{sym, ap, ◌∙◌, length-set, get_or-set_same, get_or-set_other, eq-eqb, ne_eqb, arith}
use Rattle.std.proofs.Math.Decide.{ℕ_discrete}
use Rattle.marks.specs.Words.{bits_in, bit_of, Fits, bits_small, bits-new, bits-old, bits_of, bit-add, bit-least, bit-take, bit-room, bit-zero, bit-some, stamp_unit}
use Rattle.marks.specs.declared.Put.{Put}
use Rattle.marks.specs.declared.Put.TheVariants.{Twice, Fresh, Known}

-- the bits of tile t
abbrev pub bits_at : ℕ → List ℕ → ℕ → ℕ
bits_at n a t = bits_in n (get_or a t 0)

-- bit i of tile t is marked
abbrev pub marked : ℕ → List ℕ → ℕ → ℕ → Bool
marked n a t i = bit_of (bits_at n a t) i

-- tile t has some mark
abbrev pub touched : ℕ → List ℕ → ℕ → Bool
touched n a t = not (eqb (bits_at n a t) 0)

-- every stamp is earlier
abbrev pub Older : ℕ → List ℕ → Type 0
Older n a = (t : ℕ) → get_or a t 0 < n * stamp_unit

-- one more mark
abbrev pub mark : ℕ → List ℕ → ℕ → ℕ → List ℕ
mark n a t i = set a t (n * stamp_unit + (bits_at n a t + 2 ^ i))

-- what marking finds, and what it leaves
unfoldable pub put_of : ℕ → List ℕ → ℕ → ℕ → Put
put_of n a t i = cond (marked n a t i) Twice (cond (eqb (bits_at n a t) 0) Fresh Known)

unfoldable pub marks_after : ℕ → List ℕ → ℕ → ℕ → List ℕ
marks_after n a t i = cond (marked n a t i) a (mark n a t i)

-- one mark less
abbrev pub unmark : ℕ → List ℕ → ℕ → ℕ → List ℕ
unmark n a t i = set a t (get_or a t 0 - 2 ^ i)

-- ---- one mark

module _ (n : ℕ) (a : List ℕ) (t i : ℕ) (room : t < length a) (i-small : i < 12) (new : marked n a t i ≡ false) where
  added : bits_at n a t + 2 ^ i < stamp_unit
  added = bit-room (bits_at n a t) i 12 new (bits_small n (get_or a t 0)) i-small

  pub bits-here : bits_at n (mark n a t i) t ≡ bits_at n a t + 2 ^ i
  bits-here = rw (get_or-set_same a t (n * stamp_unit + (bits_at n a t + 2 ^ i)) 0 room) (bits-new n (bits_at n a t + 2 ^ i) added)

  pub bits-there : (u : ℕ) → (u ≡ t → ⊥) → bits_at n (mark n a t i) u ≡ bits_at n a u
  bits-there u h = rw (get_or-set_other a t u (n * stamp_unit + (bits_at n a t + 2 ^ i)) 0 h)

  -- the marks are those before, and the new one
  pub mark-has : (u k : ℕ) → marked n (mark n a t i) u k ≡ ((eqb t u && eqb i k) || marked n a u k)
  mark-has u k = go (ℕ_discrete u t)
    where
      go : Dec (u ≡ t) → marked n (mark n a t i) u k ≡ ((eqb t u && eqb i k) || marked n a u k)
      go (yes e) = rw (e, eq-eqb t t refl) (ap (λ (m : ℕ). bit_of m k) bits-here ∙ bit-add (bits_at n a t) i k new)
      go (no h) = rw (ne_eqb t u (λ q. h (sym q))) (ap (λ (m : ℕ). bit_of m k) (bits-there u h))

  -- and so are the tiles that have one
  pub mark-touches : (u : ℕ) → touched n (mark n a t i) u ≡ (eqb t u || touched n a u)
  mark-touches u = go (ℕ_discrete u t)
    where
      go : Dec (u ≡ t) → touched n (mark n a t i) u ≡ (eqb t u || touched n a u)
      go (yes e) = rw (e, eq-eqb t t refl) (ap (λ (q : Bool). not q) (ne_eqb (bits_at n (mark n a t i) t) 0 (λ z. omega (arith, bits-here, some i))))
        where
          some : (j : ℕ) → 1 ≤ 2 ^ j
          some zero = omega arith
          some (suc j) = omega (arith, some j, pow-two j)
            where
              pow-two : (j : ℕ) → 2 ^ suc j ≡ 2 * 2 ^ j
              pow-two j = omega arith
      go (no h) = rw (ne_eqb t u (λ q. h (sym q))) (ap (λ (m : ℕ). not (eqb m 0)) (bits-there u h))

  -- no stamp is above the current one
  pub mark-fits : Fits n a → Fits n (mark n a t i)
  mark-fits f u = go (ℕ_discrete u t)
    where
      go : Dec (u ≡ t) → get_or (mark n a t i) u 0 < (n + 1) * stamp_unit
      go (yes e) = rw (e, get_or-set_same a t (n * stamp_unit + (bits_at n a t + 2 ^ i)) 0 room) (omega (arith, added))
      go (no h) = rw (get_or-set_other a t u (n * stamp_unit + (bits_at n a t + 2 ^ i)) 0 h) (f u)

pub mark-long : (n : ℕ) (a : List ℕ) (t i : ℕ) → length (mark n a t i) ≡ length a
mark-long n a t i = length-set a t (n * stamp_unit + (bits_at n a t + 2 ^ i))

-- ---- one mark less

module _ (n : ℕ) (a : List ℕ) (t i : ℕ) (room : t < length a) (there : marked n a t i ≡ true) where
  some-bit : bits_at n a t ≡ 0 → ⊥
  some-bit = bit-some (bits_at n a t) i there

  pub unmark-least : 2 ^ i ≤ get_or a t 0
  unmark-least = omega (arith, bits_of n (get_or a t 0) some-bit, bit-least (bits_at n a t) i there)

  left : bits_at n (unmark n a t i) t ≡ bits_at n a t - 2 ^ i
  left =
      let e : get_or a t 0 - 2 ^ i ≡ n * stamp_unit + (bits_at n a t - 2 ^ i) = omega (arith, bits_of n (get_or a t 0) some-bit, bit-least (bits_at n a t) i there) in
      rw (get_or-set_same a t (get_or a t 0 - 2 ^ i) 0 room, e) (bits-new n (bits_at n a t - 2 ^ i) (omega (arith, bits_small n (get_or a t 0))))

  -- the marks are those before, but for the one
  pub unmark-has : (u k : ℕ) → marked n (unmark n a t i) u k ≡ (not (eqb t u && eqb i k) && marked n a u k)
  unmark-has u k = go (ℕ_discrete u t)
    where
      go : Dec (u ≡ t) → marked n (unmark n a t i) u k ≡ (not (eqb t u && eqb i k) && marked n a u k)
      go (yes e) = rw (e, eq-eqb t t refl) (ap (λ (m : ℕ). bit_of m k) left ∙ bit-take (bits_at n a t) i k there)
      go (no h) = rw (ne_eqb t u (λ q. h (sym q))) (ap (λ (x : ℕ). bit_of (bits_in n x) k) (get_or-set_other a t u (get_or a t 0 - 2 ^ i) 0 h))

  pub unmark-fits : Fits n a → Fits n (unmark n a t i)
  unmark-fits f u = go (ℕ_discrete u t)
    where
      go : Dec (u ≡ t) → get_or (unmark n a t i) u 0 < (n + 1) * stamp_unit
      go (yes e) = rw (e, get_or-set_same a t (get_or a t 0 - 2 ^ i) 0 room) (omega (arith, f t))
      go (no h) = rw (get_or-set_other a t u (get_or a t 0 - 2 ^ i) 0 h) (f u)

pub unmark-long : (n : ℕ) (a : List ℕ) (t i : ℕ) → length (unmark n a t i) ≡ length a
unmark-long n a t i = length-set a t (get_or a t 0 - 2 ^ i)

-- the marks of a net are earlier ones to the next
pub fits-older : (n : ℕ) (a : List ℕ) → Fits n a → Older (n + 1) a
fits-older n a f = f

pub older-fits : (n : ℕ) (a : List ℕ) → Older n a → Fits n a
older-fits n a o t = omega (arith, o t)

-- where every stamp is earlier there is no mark yet
pub none_yet : (n : ℕ) (a : List ℕ) → Older n a → (t : ℕ) → bits_at n a t ≡ 0
none_yet n a h t = bits-old n (get_or a t 0) (h t)

pub none-marked : (n : ℕ) (a : List ℕ) → Older n a → (t i : ℕ) → marked n a t i ≡ false
none-marked n a h t i = rw (none_yet n a h t) (bit-zero i)
