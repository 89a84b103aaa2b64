-- The digit_run from a place on, one step at a time.
use mathlib.Core.Path.{◌≡◌, refl, sym, ap, ◌∙◌}
use mathlib.Core.List.{List, [], ◌∷◌}
use mathlib.Core.Option.{none, some}
use mathlib.Core.Bool.{Bool, true, false, cond, not, ◌&&◌, ◌||◌}
use Prim.Native.Nat.{ℕ, zero, suc, ◌+◌, ◌-◌, ◌≤◌, ◌<◌}
use native.Mathlib.Numerals.{add-one}
use native.Mathlib.Nat.{add-zero, zero-add, suc-add}
use native.Mathlib.Omega.{arith}
use lib.ListN.{length, get_or, take, drop, drop_of_length-le, length-take, length-drop}
use lib.Seq.{slice, drop-cons, take-nil, get_or-take, get_or-drop}
use borrow.Author.Tests.{le-leb, lt-leb, eq-eqb, ne_eqb, eqb-true}
use Rattle.std.specs.Prelude.{Some, None}
use lib.Dec.{eqb, leb}
use Rattle.model.specs.Text.{is_digit, is_number, value_from}
use Rattle.model.specs.Lists.{all}
use Rattle.text.specs.Number.{numeral, digit_run, run, numbered, number_at}

module _ (s : List ℕ) (i : ℕ) where
  pub digits_more : i < length s → is_digit (get_or s i 0) ≡ true → digit_run (drop i s) ≡ get_or s i 0 ∷ digit_run (drop (i + 1) s)
  unfolding digit_run
  digits_more h e = rw (drop-cons s i 0, e, add-one)

  pub digits-stop : i < length s → is_digit (get_or s i 0) ≡ false → digit_run (drop i s) ≡ []
  unfolding digit_run
  digits-stop h e = rw (drop-cons s i 0, e)

  pub digits-end : length s ≤ i → digit_run (drop i s) ≡ []
  unfolding digit_run
  digits-end h = rw drop_of_length-le

-- the run of digits is the start of the text
after : (d : Bool) (b : ℕ) (ds rest : List ℕ) → take (length ds) rest ≡ ds → take (length (cond d (b ∷ ds) [])) (b ∷ rest) ≡ cond d (b ∷ ds) []
after true b ds rest e = ap (λ (l : List ℕ). b ∷ l) e
after false b ds rest e = refl

digits-take : (l : List ℕ) → take (length (digit_run l)) l ≡ digit_run l
unfolding digit_run
digits-take [] = refl
digits-take (b ∷ rest) = after (is_digit b) b (digit_run rest) rest (digits-take rest)

slice-take : (f n : ℕ) (l : List ℕ) → slice f (f + n) l ≡ take n (drop f l)
slice-take zero n l = rw zero-add
slice-take (suc f) n [] = rw (suc-add, take-nil)
slice-take (suc f) n (x ∷ l) = rw suc-add (slice-take f n l)

pub slice_is : (at end : ℕ) (s : List ℕ) → at ≤ end → slice at end s ≡ take (end - at) (drop at s)
slice_is at end s h =
    let e : at + (end - at) ≡ end = omega arith in
    ap (λ (k : ℕ). slice at k s) (sym e) ∙ slice-take at (end - at) s

-- what `is_number` asks of digits: one to five, and no 0 in front of others
well_formed : List ℕ → Bool
well_formed ds = leb 1 (length ds) && leb (length ds) 5 && (not (eqb (get_or ds 0 0) 48) || eqb (length ds) 1)

all_digits : (t : List ℕ) → all is_digit (digit_run t) ≡ true
unfolding digit_run
all_digits [] = refl
all_digits (b ∷ t) = go (is_digit b) refl (all_digits t)
  where
    go : (q : Bool) → is_digit b ≡ q → all is_digit (digit_run t) ≡ true → all is_digit (cond q (b ∷ digit_run t) []) ≡ true
    go true e h = rw (e, h)
    go false e h = refl

formed : (ds : List ℕ) → all is_digit ds ≡ true → is_number ds ≡ well_formed ds
unfolding well_formed
formed [] e = refl
formed (b ∷ []) e = go (is_digit b) (not (eqb b 48)) e
  where
    go : (q r : Bool) → cond q true false ≡ true → q ≡ (r || true)
    go true true h = refl
    go true false h = refl
    go false r h = absurd (let y : ◌≡◌ {A = ℕ} 0 1 = cc in omega arith)
formed (b ∷ c ∷ bs) e =
    rw (e, le-leb 1 (length (b ∷ c ∷ bs)) (omega arith), ne_eqb (length (b ∷ c ∷ bs)) 1 (λ q. omega arith))
    (go (not (eqb b 48)) (leb (length (b ∷ c ∷ bs)) 5))
  where
    go : (q r : Bool) → (q && true && r) ≡ (true && r && (q || false))
    go true true = refl
    go true false = refl
    go false true = refl
    go false false = refl

number_by : (s : List ℕ) (at : ℕ) (q : Bool) → well_formed (run s at) ≡ q
    → number_at s at ≡ cond q (Some (numeral (value_from 0 (run s at)) (at + length (run s at)))) None
unfolding number_at
number_by s at q e = rw (formed (run s at) (all_digits (drop at s)), e) (go q)
  where
    go : (q : Bool) → numbered (at + length (run s at)) (cond q (some (value_from 0 (run s at))) none)
        ≡ cond q (Some (numeral (value_from 0 (run s at)) (at + length (run s at)))) None
    go true = refl
    go false = refl

lead : (b n : ℕ) → (b ≡ 48 → n ≡ 1) → (not (eqb b 48) || eqb n 1) ≡ true
lead b n h = go (eqb b 48) refl
  where
    go : (t : Bool) → eqb b 48 ≡ t → (not t || eqb n 1) ≡ true
    go true e = eq-eqb n 1 (h (eqb-true b 48 e))
    go false e = refl

-- `end` is the place after the digit_run from `at` on
module _ (s : List ℕ) (at end : ℕ) (e : end ≡ at + length (digit_run (drop at s))) where
  pub within : 1 ≤ end - at → end ≤ length s
  within h = omega (arith, length-take (length (digit_run (drop at s))) (drop at s), ap length (digits-take (drop at s)), length-drop at s)

  first : 1 ≤ end - at → get_or (digit_run (drop at s)) 0 0 ≡ get_or s at 0
  first h =
      let p : 0 < length (digit_run (drop at s)) = omega arith in
      ap (λ (l : List ℕ). get_or l 0 0) (sym (digits-take (drop at s))) ∙ get_or-take (length (digit_run (drop at s))) (drop at s) 0 0 p
      ∙ get_or-drop at s 0 0 ∙ ap (λ (k : ℕ). get_or s k 0) (add-zero at)

  pub few : end - at < 1 → None ≡ number_at s at
  unfolding well_formed
  few h = sym (number_by s at false shape)
    where
      shape : well_formed (run s at) ≡ false
      shape = rw (lt-leb 1 (length (digit_run (drop at s))) (omega arith))

  pub many : 5 < end - at → None ≡ number_at s at
  unfolding well_formed
  many h = sym (number_by s at false shape)
    where
      shape : well_formed (run s at) ≡ false
      shape = rw (le-leb 1 (length (digit_run (drop at s))) (omega arith), lt-leb (length (digit_run (drop at s))) 5 (omega arith))

  pub padded : 1 ≤ end - at → end - at ≤ 5 → (end - at ≡ 1 → ⊥) → get_or s at 0 ≡ 48 → None ≡ number_at s at
  unfolding well_formed
  padded h l k b = sym (number_by s at false shape)
    where
      shape : well_formed (run s at) ≡ false
      shape =
          let n = length (digit_run (drop at s)) in
          rw (le-leb 1 n (omega arith), le-leb n 5 (omega arith), first h, b, ne_eqb n 1 (λ q. k (omega arith)))

  pub good : (v : ℕ) → 1 ≤ end - at → end - at ≤ 5 → (get_or s at 0 ≡ 48 → end - at ≡ 1) → v ≡ value_from 0 (slice at end s) → Some (numeral v end) ≡ number_at s at
  unfolding well_formed
  good v h l b q =
      let ds : slice at end s ≡ digit_run (drop at s) = ap (λ (k : ℕ). slice at k s) e ∙ slice-take at (length (digit_run (drop at s))) s ∙ digits-take (drop at s) in
      (λ i. Some (numeral ((q ∙ ap (value_from 0) ds) i) (e i))) ∙ sym (number_by s at true shape)
    where
      shape : well_formed (run s at) ≡ true
      shape =
          let n = length (digit_run (drop at s)) in
          rw (le-leb 1 n (omega arith), le-leb n 5 (omega arith), first h, lead (get_or s at 0) n (λ x. omega (arith, b x)))
