-- Which way the layers run, as the code has it.
-- Assumes nothing.
use Rattle.std.specs.Prelude.{Bool, true, false, cond, List, [], ◌∷◌, ◌≡◌, refl, ℕ, zero, suc, ◌+◌, ◌-◌, ◌/◌, ◌%◌, ◌^◌, ◌*◌, ◌≤◌, ◌<◌, eqb, ltb, length, get_or, Some, None, Option as Maybe}
use Rattle.std.proofs.Math.Option.{Option, none, some}
use Rattle.std.proofs.Common.{sym, ap, ◌∙◌, mod-lt, mod-eq_of_lt, arith, lt-ltb, le-ltb, ltb-true, ltb-false, eqb-true, lit<, pow_pos}
use Rattle.std.proofs.Math.Nat.{pow-succ', div-div-eq-div-mul, pow-le-pow_right}
use Rattle.std.proofs.lemmas.Bool.{eqb-false}
use Rattle.std.proofs.lemmas.Nat.{mod-pow-add}
use Rattle.model.specs.Job.{runs}
use Rattle.model.specs.Lists.{up_from, bit, any, keep}
use Rattle.layout.specs.declared.shape.Dirs.{Dirs}
use Rattle.layout.specs.declared.shape.Heading.{Heading}
use Rattle.layout.specs.declared.shape.Heading.TheVariants.{East, North}

-- the digits of a mask to base two, n of them, the lowest first
abbrev pub digits_of : ℕ → ℕ → List ℕ
digits_of zero m = []
digits_of (suc n) m = m % 2 ∷ digits_of n (m / 2)

-- of k layers: "K letters `h` or `v`", 0 or 1
abbrev pub dirs_of : ℕ → Maybe Dirs → Option (List ℕ)
dirs_of k None = none
dirs_of k (Some d) = some (digits_of k d.north)

-- the number of a heading, 0 for east and 1 for north
abbrev pub heading_number : Heading → ℕ
heading_number East = 0
heading_number North = 1

-- ---- a layer runs one way

digit_at : (k m l : ℕ) → l < k → get_or (digits_of k m) l 0 ≡ m / 2 ^ l % 2
digit_at zero m l h = absurd (omega arith)
digit_at (suc k) m zero h = omega arith
digit_at (suc k) m (suc l) h = rw (pow-succ' 2 l, sym (div-div-eq-div-mul m 2 (2 ^ l))) (digit_at k (m / 2) l (omega arith))

pub any_runs : (d : Maybe Dirs) → d ≡ None → (k way l : ℕ) → true ≡ runs (dirs_of k d) way (l + 1)
any_runs d e k way l = rw e refl

pub given-runs : (d : Maybe Dirs) (m : Dirs) → d ≡ Some m → (k way l : ℕ) → l < k → eqb (m.north / 2 ^ l % 2) way ≡ runs (dirs_of k d) way (l + 1)
given-runs d m e k way l h =
    let z : l ≡ l + 1 - 1 = omega arith in
    rw e (ap (λ (x : ℕ). eqb x way) (sym (digit_at k m.north l h) ∙ ap (λ (i : ℕ). get_or (digits_of k m.north) i 0) z))

-- ---- some layer runs one way, and how many do

-- the same over the layers, one further
any-up : (f g : ℕ → Bool) (a n : ℕ) → ((l : ℕ) → a ≤ l → f (suc l) ≡ g l) → any f (up_from (suc a) n) ≡ any g (up_from a n)
any-up f g a zero h = refl
any-up f g a (suc n) h = rw (h a (omega arith), any-up f g (suc a) n (λ l b. h l (omega arith)))

-- over the letters themselves
any-letter : (ds : List ℕ) (way : ℕ) → any (runs (some ds) way) (up_from 1 (length ds)) ≡ any (λ d. eqb d way) ds
any-letter [] way = refl
any-letter (d ∷ ds) way = ap (λ (b : Bool). cond (eqb d way) true b) (any-up (runs (some (d ∷ ds)) way) (runs (some ds) way) 1 (length ds) next ∙ any-letter ds way)
  where
    next : (l : ℕ) → 1 ≤ l → runs (some (d ∷ ds)) way (suc l) ≡ runs (some ds) way l
    next zero h = absurd (omega arith)
    next (suc l) h =
        let p : suc (suc l) - 1 ≡ suc l = omega arith in
        let q : suc l - 1 ≡ l = omega arith in
        rw (p, q)

length_digits : (k m : ℕ) → length (digits_of k m) ≡ k
length_digits zero m = refl
length_digits (suc k) m = ap suc (length_digits k (m / 2))

-- the lowest digit and the others, below 2 to the power k + 1
split-digit : (k m : ℕ) → m % 2 ^ suc k ≡ m / 2 % 2 ^ k * 2 + m % 2
split-digit k m = let e : suc k ≡ k + 1 = omega arith in ap (λ (i : ℕ). m % 2 ^ i) e ∙ mod-pow-add m k 1

some_of : (a b : Bool) (x : ℕ) → (a ≡ true → 0 < x) → (a ≡ false → b ≡ ltb 0 x) → cond a true b ≡ ltb 0 x
some_of true b x h k = sym (lt-ltb 0 x (h refl))
some_of false b x h k = k refl

any-north : (k m : ℕ) → any (λ d. eqb d 1) (digits_of k m) ≡ ltb 0 (m % 2 ^ k)
any-north zero m = let z : m % 1 ≡ 0 = omega arith in rw z
any-north (suc k) m =
    rw (split-digit k m)
    (some_of (eqb (m % 2) 1) (any (λ d. eqb d 1) (digits_of k (m / 2))) (m / 2 % 2 ^ k * 2 + m % 2)
    (λ e. omega (arith, eqb-true (m % 2) 1 e))
    (λ e. any-north k (m / 2) ∙ same (ltb 0 (m / 2 % 2 ^ k)) refl (omega_zero e)))
  where
    omega_zero : eqb (m % 2) 1 ≡ false → m % 2 ≡ 0
    omega_zero e = let n = eqb-false (m % 2) 1 e in omega arith

    x : ℕ
    x = m / 2 % 2 ^ k * 2 + m % 2

    same : (b : Bool) → ltb 0 (m / 2 % 2 ^ k) ≡ b → m % 2 ≡ 0 → b ≡ ltb 0 (m / 2 % 2 ^ k * 2 + m % 2)
    same true e z = sym (lt-ltb 0 x (omega (arith, ltb-true 0 (m / 2 % 2 ^ k) e)))
    same false e z = sym (le-ltb 0 x (omega (arith, ltb-false 0 (m / 2 % 2 ^ k) e)))

any-east : (k m : ℕ) → any (λ d. eqb d 0) (digits_of k m) ≡ ltb (m % 2 ^ k + 1) (2 ^ k)
any-east zero m = let z : m % 1 ≡ 0 = omega arith in rw z
any-east (suc k) m = rw (split-digit k m, pow-succ' 2 k) (go (eqb (m % 2) 0) refl (ltb (m / 2 % 2 ^ k + 1) (2 ^ k)) refl (any-east k (m / 2)))
  where
    x : ℕ
    x = m / 2 % 2 ^ k * 2 + m % 2 + 1

    below : m / 2 % 2 ^ k < 2 ^ k
    below = mod-lt (m / 2) (pow_pos k)

    go : (a : Bool) → eqb (m % 2) 0 ≡ a → (b : Bool) → ltb (m / 2 % 2 ^ k + 1) (2 ^ k) ≡ b → any (λ d. eqb d 0) (digits_of k (m / 2)) ≡ ltb (m / 2 % 2 ^ k + 1) (2 ^ k)
        → cond a true (any (λ d. eqb d 0) (digits_of k (m / 2))) ≡ ltb (m / 2 % 2 ^ k * 2 + m % 2 + 1) (2 * 2 ^ k)
    go true e b f ih = sym (lt-ltb x (2 * 2 ^ k) (omega (arith, eqb-true (m % 2) 0 e, below)))
    go false e true f ih = ih ∙ f ∙ sym (lt-ltb x (2 * 2 ^ k) (omega (arith, ltb-true (m / 2 % 2 ^ k + 1) (2 ^ k) f)))
    go false e false f ih =
        ih ∙ f ∙ sym (le-ltb x (2 * 2 ^ k) (let n = eqb-false (m % 2) 0 e in omega (arith, ltb-false (m / 2 % 2 ^ k + 1) (2 ^ k) f)))

layers-any : (k m way : ℕ) → any (runs (some (digits_of k m)) way) (up_from 1 k) ≡ any (λ d. eqb d way) (digits_of k m)
layers-any k m way = ap (λ (n : ℕ). any (runs (some (digits_of k m)) way) (up_from 1 n)) (sym (length_digits k m)) ∙ any-letter (digits_of k m) way

-- 2 to the power k as a number of 32 bits
pub full_is : (k : ℕ) → k ≤ 8 → (1 * 2 ^ k) % 4294967296 ≡ 2 ^ k
full_is k h = let p : 2 ^ k ≤ 256 = pow-le-pow_right (lit< tt) h in let e : 1 * 2 ^ k ≡ 2 ^ k = omega arith in rw e (mod-eq_of_lt (omega arith))

-- what the code finds of the mask m
pub any-has : (d : Maybe Dirs) → d ≡ None → (k way : ℕ) → 1 ≤ k → true ≡ any (runs (dirs_of k d) way) (up_from 1 k)
any-has d e zero way h = absurd (omega arith)
any-has d e (suc k) way h = rw e refl

pub east-has : (d : Maybe Dirs) (m : Dirs) → d ≡ Some m → (k : ℕ) → ltb (m.north % 2 ^ k + 1) (2 ^ k) ≡ any (runs (dirs_of k d) 0) (up_from 1 k)
east-has d m e k = rw e (sym (layers-any k m.north 0 ∙ any-east k m.north))

pub north-has : (d : Maybe Dirs) (m : Dirs) → d ≡ Some m → (k : ℕ) → ltb 0 (m.north % 2 ^ k) ≡ any (runs (dirs_of k d) 1) (up_from 1 k)
north-has d m e k = rw e (sym (layers-any k m.north 1 ∙ any-north k m.north))

-- one layer more is counted, or not
pub count-more : (f : ℕ → Bool) (l k : ℕ) → l < k → length (keep f (up_from (l + 1) (k - l))) ≡ bit (f (l + 1)) + length (keep f (up_from (l + 1 + 1) (k - (l + 1))))
count-more f l k h = let n : k - l ≡ suc (k - (l + 1)) = omega arith in rw n (go (f (l + 1)))
  where
    rest : List ℕ
    rest = keep f (up_from (suc (l + 1)) (k - (l + 1)))

    next : l + 1 + 1 ≡ suc (l + 1)
    next = omega arith

    go : (b : Bool) → length (cond b ((l + 1) ∷ rest) rest) ≡ bit b + length (keep f (up_from (l + 1 + 1) (k - (l + 1))))
    go true = rw next (omega arith)
    go false = rw next (omega arith)

pub count_none : (f : ℕ → Bool) (l k : ℕ) → k ≤ l → length (keep f (up_from (l + 1) (k - l))) ≡ 0
count_none f l k h = let n : k - l ≡ 0 = omega arith in rw n
