-- The bytes of a number of one digit or two.
-- Assumes nothing.
use mathlib.Core.Bool.{Bool, true, false, ◌&&◌, not, cond}
use mathlib.Core.List.{List, [], ◌∷◌}
use mathlib.Core.Logic.{◌⊎◌, inl, inr}
use mathlib.Core.Option.{none, some}
use mathlib.Core.Path.{◌≡◌, refl, sym, ap, ◌∙◌}
use Prim.Native.Nat.{ℕ, zero, suc, ◌+◌, ◌-◌, ◌*◌, ◌≤◌, ◌<◌}
use native.Mathlib.Omega.{arith}
use borrow.Author.Tests.{leb-true, eqb-false}
use lib.Dec.{leb, eqb}
use lib.ListN.{length, drop, get_or}
use lib.Seq.{get_or-drop}
use Rattle.model.specs.Lists.{all}
use Rattle.model.specs.Text.{is_digit, is_number, value_from, number}
use Rattle.scan.specs.Inside.{false-true}
use Rattle.scan.specs.Places.{number_is, head-drop}
use Rattle.std.specs.Prelude.{Some}
use Rattle.text.specs.Number.{numeral, digit_run, run, number_at}

both : (p q : Bool) → (p && q) ≡ true → (p ≡ true) × (q ≡ true)
both true q e = (refl, e)
both false q e = absurd (false-true e)

all_first : (p q : Bool) → cond p q false ≡ true → (p ≡ true) × (q ≡ true)
all_first true q e = (refl, e)
all_first false q e = absurd (false-true e)

digit-is : (b : ℕ) → is_digit b ≡ true → (48 ≤ b) × (b ≤ 57)
digit-is b e = let k = both (leb 48 b) (leb b 57) e in (leb-true 48 b k.0, leb-true b 57 k.1)

number-some : (ds : List ℕ) (v : ℕ) → number ds ≡ some v → (is_number ds ≡ true) × (v ≡ value_from 0 ds)
number-some ds v e = go (is_number ds) refl e
  where
    go : (q : Bool) → is_number ds ≡ q → cond q (some (value_from 0 ds)) none ≡ some v → (is_number ds ≡ true) × (v ≡ value_from 0 ds)
    go true h k = (h, cc)
    go false h k = absurd (let y : ◌≡◌ {A = ℕ} 0 1 = cc in omega arith)

value_grows : (ds : List ℕ) (n : ℕ) → n ≤ value_from n ds
value_grows [] n = omega arith
value_grows (b ∷ ds) n = omega (arith, value_grows ds (10 * n + (b - 48)))

-- the digits of a number below 100
abbrev Short : List ℕ → ℕ → Type 0
Short [] v = ⊥
Short (b ∷ []) v = (48 ≤ b) × (b ≤ 57) × (v ≡ b - 48)
Short (b ∷ c ∷ []) v = (49 ≤ b) × (b ≤ 57) × (48 ≤ c) × (c ≤ 57) × (v ≡ 10 * (b - 48) + (c - 48))
Short (b ∷ c ∷ d ∷ ds) v = ⊥

front-digits : (b c : ℕ) (ds : List ℕ) → is_number (b ∷ c ∷ ds) ≡ true → (49 ≤ b) × (b ≤ 57) × (48 ≤ c) × (c ≤ 57)
front-digits b c ds e =
    let f = both (not (eqb b 48) && all is_digit (b ∷ c ∷ ds)) (leb (length (b ∷ c ∷ ds)) 5) e in
    let k = both (not (eqb b 48)) (all is_digit (b ∷ c ∷ ds)) f.0 in
    finish k.0 (all_first (is_digit b) (all is_digit (c ∷ ds)) k.1)
  where
    nonzero : (q : Bool) → eqb b 48 ≡ q → not q ≡ true → b ≡ 48 → ⊥
    nonzero true h l = absurd (false-true l)
    nonzero false h l = eqb-false b 48 h

    finish : not (eqb b 48) ≡ true → (is_digit b ≡ true) × (all is_digit (c ∷ ds) ≡ true) → (49 ≤ b) × (b ≤ 57) × (48 ≤ c) × (c ≤ 57)
    finish l f =
        let d = digit-is b f.0 in
        let g = digit-is c (all_first (is_digit c) (all is_digit ds) f.1).0 in
        (omega (arith, d, nonzero (eqb b 48) refl l), d.1, g.0, g.1)

digits-short : (ds : List ℕ) (v : ℕ) → number ds ≡ some v → v < 100 → Short ds v
digits-short [] v e h = false-true (number-some [] v e).0
digits-short (b ∷ []) v e h = let k = number-some (b ∷ []) v e in let d = digit-is b k.0 in (d.0, d.1, omega (arith, k.1))
digits-short (b ∷ c ∷ []) v e h =
    let k = number-some (b ∷ c ∷ []) v e in
    let f = front-digits b c [] k.0 in
    (f.0, f.1, f.2, f.3, omega (arith, k.1))
digits-short (b ∷ c ∷ d ∷ ds) v e h =
    let k = number-some (b ∷ c ∷ d ∷ ds) v e in
    let f = front-digits b c (d ∷ ds) k.0 in
    omega (arith, k.1, f.0, value_grows ds (10 * (10 * (10 * 0 + (b - 48)) + (c - 48)) + (d - 48)))

-- ---- at a place of the text

-- the digits that a text begins with are its first bytes
run-byte : (t : List ℕ) (i : ℕ) → i < length (digit_run t) → get_or t i 0 ≡ get_or (digit_run t) i 0
unfolding digit_run
run-byte [] i h = refl
run-byte (b ∷ t) i h = go (λ j k. run-byte t j k) (is_digit b) i h
  where
    go : ((j : ℕ) → j < length (digit_run t) → get_or t j 0 ≡ get_or (digit_run t) j 0) → (q : Bool) (j : ℕ) → j < length (cond q (b ∷ digit_run t) []) → get_or (b ∷ t) j 0 ≡ get_or (cond q (b ∷ digit_run t) []) j 0
    go f true zero k = refl
    go f true (suc j) k = f j (omega arith)
    go f false j k = absurd (omega arith)

-- a number below 100 at i, with the place n after it
pub record Spelt (s : List ℕ) (i v n : ℕ) : Type 0 where
  pub first_least : 48 ≤ get_or s i 0
  pub first_most : get_or s i 0 ≤ 57
  pub digits : ((n ≡ i + 1) × (v ≡ get_or s i 0 - 48)) ⊎ ((n ≡ i + 2) × (10 ≤ v) × (48 ≤ get_or s (i + 1) 0) × (get_or s (i + 1) 0 ≤ 57) × (v ≡ 10 * (get_or s i 0 - 48) + (get_or s (i + 1) 0 - 48)))

pub spelt : (s : List ℕ) (i v n : ℕ) → number_at s i ≡ Some (numeral v n) → v < 100 → Spelt s i v n
spelt s i v n e h = go (run s i) refl (digits-short (run s i) v (number_is s i v n e).0 h)
  where
    byte : (k : ℕ) → k < length (run s i) → get_or s (i + k) 0 ≡ get_or (run s i) k 0
    byte k l = sym (get_or-drop i s k 0) ∙ run-byte (drop i s) k l

    go : (ds : List ℕ) → run s i ≡ ds → Short ds v → Spelt s i v n
    go [] q k = absurd k
    go (b ∷ []) q k =
        let z : get_or s i 0 ≡ b = sym (head-drop s i) ∙ run-byte (drop i s) 0 (omega (arith, ap length q)) ∙ ap (λ (l : List ℕ). get_or l 0 0) q in
        record {
          first_least = omega (arith, z, k);
          first_most = omega (arith, z, k);
          digits = inl (omega (arith, (number_is s i v n e).1, ap length q), omega (arith, z, k));
        }
    go (b ∷ c ∷ []) q k =
        let z : get_or s i 0 ≡ b = sym (head-drop s i) ∙ run-byte (drop i s) 0 (omega (arith, ap length q)) ∙ ap (λ (l : List ℕ). get_or l 0 0) q in
        let y : get_or s (i + 1) 0 ≡ c = byte 1 (omega (arith, ap length q)) ∙ ap (λ (l : List ℕ). get_or l 1 0) q in
        record {
          first_least = omega (arith, z, k);
          first_most = omega (arith, z, k);
          digits = inr (omega (arith, (number_is s i v n e).1, ap length q), omega (arith, k), omega (arith, y, k), omega (arith, y, k), omega (arith, z, y, k));
        }
    go (b ∷ c ∷ d ∷ ds) q k = absurd k
