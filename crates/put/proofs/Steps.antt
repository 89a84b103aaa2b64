-- One step of a loop that writes.
-- Assumes nothing.
use mathlib.Core.List.{List, [], ◌∷◌}
use mathlib.Core.Path.{◌≡◌, sym, ap, ◌∙◌}
use Prim.Native.Nat.{ℕ, ◌+◌, ◌-◌, ◌/◌, ◌%◌, ◌≤◌, ◌<◌}
use native.Mathlib.Omega.{arith}
use lib.ListN.{length, drop, get_or, set, length-append}
use lib.Seq.{sets, drop-length}
use Rattle.model.specs.Text.{decimal, decimals}
use Rattle.theory.specs.links.Decimals.{decimal-one, decimal-parts}
use Rattle.put.specs.Lists.{others, first_more, others-more}
use Rattle.put.specs.declared.Writer.{Writer}
use Rattle.put.specs.Wrote.{Wrote, Left, Room, sets_last, wrote-long, wrote_then, wrote_as, wrote-none, left-then, left-done, left_as}

-- ---- the digits of a number

pub tenth-long : (n : ℕ) → 10 ≤ n → length (decimal n) ≡ length (decimal (n / 10)) + 1
tenth-long n h = ap length (decimal-parts n h) ∙ length-append (decimal (n / 10)) ((48 + n % 10) ∷ [])

pub one-long : (n : ℕ) → n < 10 → length (decimal n) ≡ 1
one-long n h = ap length (decimal-one n h)

-- two, three and four digits, and four behind those of the ten-thousandth
pub two-long : (n : ℕ) → 10 ≤ n → n < 100 → length (decimal n) ≡ 2
two-long n h k = omega (arith, tenth-long n h, one-long (n / 10) (omega arith))

pub three-long : (n : ℕ) → 100 ≤ n → n < 1000 → length (decimal n) ≡ 3
three-long n h k = omega (arith, tenth-long n (omega arith), two-long (n / 10) (omega arith) (omega arith))

pub four-long : (n : ℕ) → 1000 ≤ n → n < 10000 → length (decimal n) ≡ 4
four-long n h k = omega (arith, tenth-long n (omega arith), three-long (n / 10) (omega arith) (omega arith))

pub four-more : (n : ℕ) → 10000 ≤ n → length (decimal n) ≡ 4 + length (decimal (n / 10000))
four-more n h =
    let e : n / 10 / 10 / 10 / 10 ≡ n / 10000 = omega arith in
    omega (
      arith,
      tenth-long n (omega arith),
      tenth-long (n / 10) (omega arith),
      tenth-long (n / 10 / 10) (omega arith),
      tenth-long (n / 10 / 10 / 10) (omega arith),
      ap (λ (k : ℕ). length (decimal k)) e,
    )

-- the last digit is stored first
pub digit-more : (w : List ℕ) (a i n : ℕ) → 10 ≤ n → i ≡ a + length (decimal n) → sets w a (decimal n) ≡ sets (set w (i - 1) (48 + n % 10)) a (decimal (n / 10))
digit-more w a i n h e =
    let k : a + length (decimal (n / 10)) ≡ i - 1 = omega (arith, tenth-long n h) in
    ap (sets w a) (decimal-parts n h) ∙ sets_last w a (decimal (n / 10)) (48 + n % 10) ∙ ap (λ (m : ℕ). sets (set w m (48 + n % 10)) a (decimal (n / 10))) k

pub digit-one : (w : List ℕ) (a n : ℕ) → n < 10 → sets w a (decimal n) ≡ set w a (48 + n)
digit-one w a n h = ap (sets w a) (decimal-one n h)

-- ---- numbers with commas between

pub comma-then : {w u v : Writer} {text : List ℕ} → Wrote w (44 ∷ []) u → Wrote u text v → Wrote w (44 ∷ text) v
comma-then one two = wrote_then one two

pub list-none : (xs : List ℕ) (w : Writer) → length xs ≡ 0 → Wrote w (decimals xs) w
list-none [] w e = wrote-none w
list-none (x ∷ xs) w e = absurd (omega arith)

-- the first number, then the others
module _ (xs : List ℕ) (h : 1 ≤ length xs) where
  pub first-room : (w : Writer) → Room w (decimals xs) → Room w (decimal (get_or xs 0 0))
  first-room w k = omega (arith, ap length (first_more xs h), length-append (decimal (get_or xs 0 0)) (others (drop 1 xs)))

  module _ {w u : Writer} (one : Wrote w (decimal (get_or xs 0 0)) u) where
    pub others-room : Room w (decimals xs) → Room u (others (drop 1 xs))
    others-room k =
        omega (arith, one.next, wrote-long one, ap length (first_more xs h), length-append (decimal (get_or xs 0 0)) (others (drop 1 xs)))

    pub list-whole : {v : Writer} → Wrote u (others (drop 1 xs)) v → Wrote w (decimals xs) v
    list-whole two = wrote_as (wrote_then one two) (sym (first_more xs h))

-- one turn of the others
module _ {w u : Writer} {text : List ℕ} (xs : List ℕ) (i : ℕ) (h : i < length xs) (l : Left w text u (others (drop i xs))) where
  pub turn-room : Room w text → Room u (44 ∷ decimal (get_or xs i 0))
  turn-room k = omega (arith, l.next, l.long, ap length (others-more xs i h), length-append (44 ∷ decimal (get_or xs i 0)) (others (drop (i + 1) xs)))

  pub turn_more : {v : Writer} → Wrote u (44 ∷ decimal (get_or xs i 0)) v → Left w text v (others (drop (i + 1) xs))
  turn_more one = left-then {y = others (drop (i + 1) xs)} (left_as (others-more xs i h) l) one

pub others-done : {w u : Writer} {text : List ℕ} (xs : List ℕ) (i : ℕ) → i ≡ length xs → Left w text u (others (drop i xs)) → Wrote w text u
others-done xs i e l = left-done (left_as (ap (λ (k : ℕ). others (drop k xs)) e ∙ ap others (drop-length xs)) l)
