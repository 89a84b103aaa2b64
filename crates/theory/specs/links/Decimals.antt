-- Numbers in base ten: a printed number is read again as it was, and a number that can be read is printed again as it stood.
-- Assumes nothing.
use Rattle.std.specs.Prelude.{◌≡◌, refl, List, [], ◌∷◌, ◌++◌, Bool, true, false, ◌&&◌, not, cond, ◌↔◌, ℕ, zero, suc, ◌+◌, ◌-◌, ◌*◌, ◌/◌, ◌%◌, ◌≤◌, ◌<◌, T, eqb, leb, ltb, length, get_or}
use Rattle.std.proofs.Common.{sym, ap, ◌∙◌, subst, append_assoc, append-nil, ⊎_elim, arith, leb→le, le→leb, ltb→lt, lt→ltb, length-append}
use Rattle.std.proofs.Math.Option.{Option, none, some}
use Rattle.std.proofs.Math.ListN.{get_or-append}
use Rattle.model.specs.Limits.{most_digits}
use Rattle.model.specs.Lists.{all}
use Rattle.model.specs.Text.{is_digit, is_number, value_from, number, digits_in, decimal}
use Rattle.theory.specs.congestion.Sums.{eqb-true, eqb-false, lt-or-ge}
use Rattle.theory.specs.congestion.Tests.{is_true, is_false, and_both, both-and, cond_both}
use Rattle.theory.specs.links.Reading.{all_append}
use Rattle.theory.specs.links.Room.{tens, decimal-few}

-- ---- the steps

below-ten : (n : ℕ) → n < 10 → ltb n 10 ≡ true
below-ten n h = is_true (ltb n 10) (lt→ltb n 10 h)

not-below-ten : (n : ℕ) → 10 ≤ n → ltb n 10 ≡ false
not-below-ten n h = is_false (ltb n 10) (λ t. omega (arith, ltb→lt n 10 t))

tens-more : (n : ℕ) → n < tens n
tens-more zero = omega arith
tens-more (suc n) = omega (arith, tens-more n)

digits_same : (s t n : ℕ) → n < tens s → n < tens t → digits_in (suc s) n ≡ digits_in (suc t) n
digits_same zero t n hs ht = rw (below-ten n hs)
digits_same (suc s) zero n hs ht = rw (below-ten n ht)
digits_same (suc s) (suc t) n hs ht = go (digits_same s t (n / 10) (omega arith) (omega arith)) (ltb n 10) refl
  where
    go : digits_in (suc s) (n / 10) ≡ digits_in (suc t) (n / 10) → (q : Bool) → ltb n 10 ≡ q → digits_in (suc (suc s)) n ≡ digits_in (suc (suc t)) n
    go ih true e = rw e
    go ih false e = rw e (ap (λ (r : List ℕ). r ++ ((48 + n % 10) ∷ [])) ih)

-- s + 1 steps print every number of at most s + 1 digits, and more steps change nothing
pub digits_decimal : (s n : ℕ) → n < tens s → digits_in (suc s) n ≡ decimal n
digits_decimal s n h = digits_same s n n h (tens-more n)

pub digits-enough : (s n : ℕ) → n < s → digits_in s n ≡ decimal n
digits-enough zero n h = absurd (omega arith)
digits-enough (suc s) n h = digits_decimal s n (omega (arith, tens-more s))

-- a number below ten is one digit, and a digit behind a number makes ten times the number and the digit
pub decimal-one : (n : ℕ) → n < 10 → decimal n ≡ (48 + n) ∷ []
decimal-one n h = rw (below-ten n h)

pub decimal-more : (a d : ℕ) → 1 ≤ a → d < 10 → decimal (10 * a + d) ≡ decimal a ++ ((48 + d) ∷ [])
decimal-more a d h k =
    let quot : (10 * a + d) / 10 ≡ a = omega arith in
    let rest : (10 * a + d) % 10 ≡ d = omega arith in
    rw (not-below-ten (10 * a + d) (omega arith), quot, rest) (ap (λ (r : List ℕ). r ++ ((48 + d) ∷ [])) (digits-enough (10 * a + d) a (omega arith)))

pub decimal-parts : (n : ℕ) → 10 ≤ n → decimal n ≡ decimal (n / 10) ++ ((48 + n % 10) ∷ [])
decimal-parts n h =
    let whole : n ≡ 10 * (n / 10) + n % 10 = omega arith in
    ap decimal whole ∙ decimal-more (n / 10) (n % 10) (omega arith) (omega arith)

-- what holds of each number below ten, and of each larger one where it holds of its tenth, holds of every number
by-tens : (P : ℕ → Type 0) → ((n : ℕ) → n < 10 → P n) → ((n : ℕ) → 10 ≤ n → P (n / 10) → P n) → (n : ℕ) → P n
by-tens P small large n = go n n (tens-more n)
  where
    go : (s m : ℕ) → m < tens s → P m
    go zero m h = small m h
    go (suc s) m h = ⊎_elim (λ k. small m k) (λ k. large m k (go s (m / 10) (omega arith))) (lt-or-ge m 10)

-- ---- the value

value-more : (a : ℕ) (bs : List ℕ) (b : ℕ) → value_from a (bs ++ (b ∷ [])) ≡ 10 * value_from a bs + (b - 48)
value-more a [] b = refl
value-more a (c ∷ bs) b = value-more (10 * a + (c - 48)) bs b

-- the digits of a number have its value
pub decimal-value : (n : ℕ) → value_from 0 (decimal n) ≡ n
decimal-value =
    by-tens (λ n. value_from 0 (decimal n) ≡ n)
    (λ n h. rw (decimal-one n h) (omega arith))
    (λ n h ih. rw (decimal-parts n h) (omega (arith, ih, value-more 0 (decimal (n / 10)) (48 + n % 10))))

-- ---- the form

digit : (d : ℕ) → d < 10 → is_digit (48 + d) ≡ true
digit d h = is_true (is_digit (48 + d)) (both-and (leb 48 (48 + d)) (leb (48 + d) 57) (le→leb 48 (48 + d) (omega arith)) (le→leb (48 + d) 57 (omega arith)))

decimal-digits : (n : ℕ) → T (all is_digit (decimal n))
decimal-digits =
    by-tens (λ n. T (all is_digit (decimal n)))
    (λ n h. rw (decimal-one n h, digit n h) tt)
    (λ n h ih. rw (decimal-parts n h) (all_append is_digit (decimal (n / 10)) ((48 + n % 10) ∷ []) ih (rw (digit (n % 10) (omega arith)) tt)))

decimal-some : (n : ℕ) → 1 ≤ length (decimal n)
decimal-some =
    by-tens (λ n. 1 ≤ length (decimal n))
    (λ n h. rw (decimal-one n h) (omega arith))
    (λ n h ih. rw (decimal-parts n h) (omega (arith, length-append (decimal (n / 10)) ((48 + n % 10) ∷ []))))

decimal-first : (n : ℕ) → 1 ≤ n → 49 ≤ get_or (decimal n) 0 0
decimal-first =
    by-tens (λ n. 1 ≤ n → 49 ≤ get_or (decimal n) 0 0)
    (λ n h k. rw (decimal-one n h) (omega arith))
    (λ n h ih k.
    rw (decimal-parts n h, get_or-append (decimal (n / 10)) ((48 + n % 10) ∷ []) 0 0 (decimal-some (n / 10))) (ih (omega arith)))

-- two to five digits, the first of them not 0
number_of : (s : List ℕ) → 2 ≤ length s → length s ≤ most_digits → T (all is_digit s) → 49 ≤ get_or s 0 0 → is_number s ≡ true
number_of [] h k d f = absurd (omega arith)
number_of (b ∷ []) h k d f = absurd (omega arith)
number_of (b ∷ c ∷ bs) h k d f =
    is_true (is_number (b ∷ c ∷ bs))
    (both-and (not (eqb b 48) && all is_digit (b ∷ c ∷ bs)) (leb (length (b ∷ c ∷ bs)) most_digits)
    (both-and (not (eqb b 48)) (all is_digit (b ∷ c ∷ bs)) (rw (eqb-false b 48 (omega arith)) tt) d)
    (le→leb (length (b ∷ c ∷ bs)) most_digits k))

-- what is printed of a number below 100,000 is a number
pub decimal-is-number : (n : ℕ) → n < 100_000 → is_number (decimal n) ≡ true
decimal-is-number n h = ⊎_elim small large (lt-or-ge n 10)
  where
    small : n < 10 → is_number (decimal n) ≡ true
    small k = ap is_number (decimal-one n k) ∙ digit n k

    large : 10 ≤ n → is_number (decimal n) ≡ true
    large k =
        number_of (decimal n)
        (omega (arith, ap length (decimal-parts n k), length-append (decimal (n / 10)) ((48 + n % 10) ∷ []), decimal-some (n / 10)))
        (decimal-few 4 n h) (decimal-digits n) (decimal-first n (omega arith))

-- and it is read as the same number
pub number-decimal : (n : ℕ) → n < 100_000 → number (decimal n) ≡ some n
number-decimal n h = ap (λ (b : Bool). cond b (some (value_from 0 (decimal n))) none) (decimal-is-number n h) ∙ ap {B = Option ℕ} some (decimal-value n)

-- ---- the other way

digit-range : (b : ℕ) → T (is_digit b) → (48 ≤ b) × (b ≤ 57)
digit-range b t = let c = and_both (leb 48 b) (leb b 57) t in (leb→le 48 b c.0, leb→le b 57 c.1)

decimal-from : (a : ℕ) (bs : List ℕ) → 1 ≤ a → T (all is_digit bs) → decimal (value_from a bs) ≡ decimal a ++ bs
decimal-from a [] h t = sym (append-nil (decimal a))
decimal-from a (b ∷ bs) h t =
    let c = cond_both (is_digit b) (all is_digit bs) t in
    let r = digit-range b c.0 in
    let same : 48 + (b - 48) ≡ b = omega arith in
    decimal-from (10 * a + (b - 48)) bs (omega arith) c.1
    ∙ ap (λ (s : List ℕ). s ++ bs) (decimal-more a (b - 48) h (omega arith) ∙ ap (λ (x : ℕ). decimal a ++ (x ∷ [])) same)
    ∙ append_assoc (decimal a) (b ∷ []) bs

not-zero : (b : ℕ) → T (not (eqb b 48)) → 48 ≤ b → 49 ≤ b
not-zero b t h = ⊎_elim (λ k. k) (λ k. absurd (subst (λ (q : Bool). T (not q)) (eqb-true b 48 (omega arith)) t)) (lt-or-ge 48 b)

is-decimal : (s : List ℕ) → T (is_number s) → decimal (value_from 0 s) ≡ s
is-decimal [] t = absurd t
is-decimal (b ∷ []) t =
    let r = digit-range b t in
    decimal-one (10 * 0 + (b - 48)) (omega arith) ∙ ap {B = List ℕ} (λ x. x ∷ []) (omega arith)
is-decimal (b ∷ c ∷ bs) t =
    let u = and_both (not (eqb b 48) && all is_digit (b ∷ c ∷ bs)) (leb (length (b ∷ c ∷ bs)) most_digits) t in
    let v = and_both (not (eqb b 48)) (all is_digit (b ∷ c ∷ bs)) u.0 in
    let w = cond_both (is_digit b) (all is_digit (c ∷ bs)) v.1 in
    let r = digit-range b w.0 in
    decimal-from (10 * 0 + (b - 48)) (c ∷ bs) (omega (arith, not-zero b v.0 r.0)) w.1
    ∙ ap (λ (s : List ℕ). s ++ (c ∷ bs)) (decimal-one (10 * 0 + (b - 48)) (omega arith))
    ∙ ap {B = List ℕ} (λ x. x ∷ c ∷ bs) (omega arith)

-- a number that can be read is printed as it stood
pub decimal-number : (s : List ℕ) (n : ℕ) → number s ≡ some n → decimal n ≡ s
decimal-number s n e = go (is_number s) refl
  where
    go : (b : Bool) → is_number s ≡ b → decimal n ≡ s
    go true k = let v : value_from 0 s ≡ n = cc (rw k at e) in ap decimal (sym v) ∙ is-decimal s (rw k tt)
    go false k = let z : ◌≡◌ {A = ℕ} 0 1 = cc (rw k at e) in absurd (omega arith)

-- ---- how large

tens-ten : (k : ℕ) → 10 ≤ tens k
tens-ten zero = omega arith
tens-ten (suc k) = omega (arith, tens-ten k)

-- beside `decimal-few`: a number from 10, 100, 1000 and so on has at least two, three, four and so on digits
pub decimal-long : (k n : ℕ) → tens k ≤ n → suc (suc k) ≤ length (decimal n)
decimal-long zero n h =
    rw (decimal-parts n h) (omega (arith, length-append (decimal (n / 10)) ((48 + n % 10) ∷ []), decimal-some (n / 10)))
decimal-long (suc k) n h =
    rw (decimal-parts n (omega (arith, tens-ten k))) (omega (arith, length-append (decimal (n / 10)) ((48 + n % 10) ∷ []), decimal-long k (n / 10) (omega arith)))

number-length : (s : List ℕ) → T (is_number s) → length s ≤ most_digits
number-length [] t = absurd t
number-length (b ∷ []) t = omega arith
number-length (b ∷ c ∷ bs) t =
    leb→le (length (b ∷ c ∷ bs)) most_digits (and_both (not (eqb b 48) && all is_digit (b ∷ c ∷ bs)) (leb (length (b ∷ c ∷ bs)) most_digits) t).1

-- a number that can be read is below 100,000
pub number_small : (s : List ℕ) (n : ℕ) → number s ≡ some n → n < 100_000
number_small s n e = go (is_number s) refl
  where
    go : (b : Bool) → is_number s ≡ b → n < 100_000
    go true k =
        ⊎_elim
        (λ h. h)
        (λ h. absurd (omega (arith, decimal-long 4 n h, ap length (decimal-number s n e), number-length s (rw k tt))))
        (lt-or-ge n 100_000)
    go false k = let z : ◌≡◌ {A = ℕ} 0 1 = cc (rw k at e) in absurd (omega arith)

-- the texts that are numbers are what is printed of the numbers below 100,000
pub number-iff : (s : List ℕ) (n : ℕ) → (number s ≡ some n) ↔ ((s ≡ decimal n) × (n < 100_000))
number-iff s n = (λ e. (sym (decimal-number s n e), number_small s n e), λ h. ap number h.0 ∙ number-decimal n h.1)
