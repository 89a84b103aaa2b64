-- Lists that are stored in columns, and read again.
-- Assumes nothing.
use mathlib.Core.Path.{◌≡◌, refl, sym, ap, ◌∙◌}
use mathlib.Core.List.{List, [], ◌∷◌, ◌++◌}
use Prim.Native.Nat.{ℕ, zero, suc, ◌+◌, ◌*◌, ◌≤◌, ◌<◌}
use native.Mathlib.Nat.{suc-mul, zero-mul, add-zero, mul_comm, mul-le-mul_right}
use native.Mathlib.Decide.{dec_lt}
use native.Mathlib.Omega.{arith}
use lib.ListN.{length, get_or, set, drop, length-set}
use lib.Seq.{get_or-set_same, get_or-set_other, drop-set-lt}
use Rattle.theory.specs.links.Reading.{EachCaps}
use Rattle.capacities.specs.Spread.{spread}
use Rattle.capacities.specs.Capacities.{column, columns, spread_all}

module _ (k : ℕ) where
  -- ---- one list

  pub spread-length : (w : List ℕ) (to : ℕ) (vs : List ℕ) → length (spread k w to vs) ≡ length w
  spread-length w to [] = refl
  spread-length w to (v ∷ vs) = spread-length (set w to v) (to + k) vs ∙ length-set w to v

  -- one list and then another go where both together would
  pub spread-append : (w : List ℕ) (to : ℕ) (xs ys : List ℕ) → spread k w to (xs ++ ys) ≡ spread k (spread k w to xs) (to + length xs * k) ys
  spread-append w to [] ys = rw (zero-mul k, add-zero to)
  spread-append w to (x ∷ xs) ys =
      spread-append (set w to x) (to + k) xs ys
      ∙ ap (λ (p : ℕ). spread k (spread k (set w to x) (to + k) xs) p ys) (omega (arith, suc-mul (length xs) k))

  -- a place that no number goes to
  spread-other : (w : List ℕ) (to : ℕ) (vs : List ℕ) (p : ℕ) → ((j : ℕ) → p ≡ to + j * k → ⊥) → get_or (spread k w to vs) p 0 ≡ get_or w p 0
  spread-other w to [] p h = refl
  spread-other w to (v ∷ vs) p h =
      spread-other (set w to v) (to + k) vs p (λ j e. h (suc j) (omega (arith, suc-mul j k)))
      ∙ get_or-set_other w to p v 0 (λ e. h 0 (omega (arith, zero-mul k)))

  -- what lies beyond
  pub spread-drop : (w : List ℕ) (to : ℕ) (vs : List ℕ) (n : ℕ) → to + length vs * k < n + k → drop n (spread k w to vs) ≡ drop n w
  spread-drop w to [] n h = refl
  spread-drop w to (v ∷ vs) n h =
      spread-drop (set w to v) (to + k) vs n (omega (arith, suc-mul (length vs) k))
      ∙ drop-set-lt n w to v (omega (arith, suc-mul (length vs) k))

  -- the list is read again
  pub spread-column : (w : List ℕ) (to : ℕ) (vs : List ℕ) → 1 ≤ k → to + length vs * k < length w + k → column k (spread k w to vs) to (length vs) ≡ vs
  spread-column w to [] one h = refl
  spread-column w to (v ∷ vs) one h = rw (first, spread-column (set w to v) (to + k) vs one room)
    where
      room : to + k + length vs * k < length (set w to v) + k
      room = omega (arith, suc-mul (length vs) k, length-set w to v)

      first : get_or (spread k (set w to v) (to + k) vs) to 0 ≡ v
      first =
          spread-other (set w to v) (to + k) vs to (λ j e. omega arith)
          ∙ get_or-set_same w to v 0 (omega (arith, suc-mul (length vs) k))

  -- ---- columns side by side

  -- no place of the column at a is one of the column at b
  abbrev Apart : ℕ → ℕ → Type 0
  Apart a b = (i j : ℕ) → a + i * k ≡ b + j * k → ⊥

  apart : (a b : ℕ) → a < k → b < k → (a ≡ b → ⊥) → Apart a b
  apart a b h l n i j e = go (dec_lt i j) (dec_lt j i)
    where
      go : Dec (i < j) → Dec (j < i) → ⊥
      go (yes p) q = omega (arith, mul-le-mul_right k p, suc-mul i k)
      go (no p) (yes q) = omega (arith, mul-le-mul_right k q, suc-mul j k)
      go (no p) (no q) = let s : i ≡ j = omega arith in n (omega (arith, ap (λ (x : ℕ). x * k) s))

  column_apart : (w : List ℕ) (b : ℕ) (vs : List ℕ) (a n : ℕ) → Apart a b → column k (spread k w b vs) a n ≡ column k w a n
  column_apart w b vs a zero h = refl
  column_apart w b vs a (suc n) h =
      rw (spread-other w b vs a (λ j e. h 0 j (omega (arith, zero-mul k))), column_apart w b vs (a + k) n (λ i j e. h (suc i) j (omega (arith, suc-mul i k))))

  -- ---- all lists

  -- the lists from l on leave the columns below l
  column-all : (w : List ℕ) (l : ℕ) (cs : List (List ℕ)) (a n : ℕ) → a < l → l + length cs ≤ k → column k (spread_all k w l cs) a n ≡ column k w a n
  column-all w l [] a n h r = refl
  column-all w l (c ∷ cs) a n h r =
      column-all (spread k w l c) (suc l) cs a n (omega arith) (omega arith) ∙ column_apart w l c a n (apart a l (omega arith) (omega arith) (λ e. omega arith))

  pub all-columns : (n : ℕ) (w : List ℕ) (l : ℕ) (cs : List (List ℕ)) → EachCaps n cs → l + length cs ≤ k → k * n ≤ length w → columns k n (spread_all k w l cs) l (length cs) ≡ cs
  all-columns n w l [] e r h = refl
  all-columns n w l (c ∷ cs) e r h = rw (first, all-columns n (spread k w l c) (suc l) cs e.1 (omega arith) (omega (arith, spread-length w l c)))
    where
      first : column k (spread_all k (spread k w l c) (suc l) cs) l n ≡ c
      first =
          column-all (spread k w l c) (suc l) cs l n (omega arith) (omega arith)
          ∙ ap (λ (m : ℕ). column k (spread k w l c) l m) (sym e.0.0)
          ∙ spread-column w l c (omega arith) (omega (arith, mul_comm k n, ap (λ (m : ℕ). m * k) e.0.0))

  pub all_drop : (n : ℕ) (w : List ℕ) (l : ℕ) (cs : List (List ℕ)) → EachCaps n cs → l + length cs ≤ k → drop (k * n) (spread_all k w l cs) ≡ drop (k * n) w
  all_drop n w l [] e r = refl
  all_drop n w l (c ∷ cs) e r =
      all_drop n (spread k w l c) (suc l) cs e.1 (omega arith)
      ∙ spread-drop w l c (k * n) (omega (arith, mul_comm k n, ap (λ (m : ℕ). m * k) e.0.0))
