-- The definitions' tests on lists, as facts.
-- Assumes nothing.
use Rattle.std.specs.Prelude.{◌≡◌, refl, List, [], ◌∷◌, map, Bool, true, false, ◌&&◌, ◌||◌, not, cond, ◌⊎◌, ◌≢◌, ◌↔◌, ℕ, zero, suc, ◌≤◌, T, eqb, leb, get_or}
use Rattle.std.proofs.Common.{sym, ap, ◌∙◌, subst, inl, inr, ⊎_elim, arith, leb→le}
use Rattle.model.specs.Lists.{all, any, has, twice}
use Rattle.theory.specs.congestion.Sums.{same, occurs, In, same_cases, eqb-true, eqb-false, in_head, in_tail, lt-or-ge}

-- ---- tests

pub is_true : (b : Bool) → T b → b ≡ true
is_true true t = refl
is_true false t = absurd t

pub is_false : (b : Bool) → (T b → ⊥) → b ≡ false
is_false true n = absurd (n tt)
is_false false n = refl

pub test-eq : (a b : Bool) → (T a → T b) → (T b → T a) → a ≡ b
test-eq true true f g = refl
test-eq true false f g = absurd (f tt)
test-eq false true f g = absurd (g tt)
test-eq false false f g = refl

pub and_both : (a b : Bool) → T (a && b) → T a × T b
and_both true b t = (tt, t)
and_both false b t = absurd t

pub both-and : (a b : Bool) → T a → T b → T (a && b)
both-and true b t u = u
both-and false b t u = absurd t

pub or-either : (a b : Bool) → T (a || b) → T a ⊎ T b
or-either true b t = inl tt
or-either false b t = inr t

pub not-false : (a : Bool) → T (not a) → a ≡ false
not-false true t = absurd t
not-false false t = refl

pub cond_both : (a b : Bool) → T (cond a b false) → T a × T b
cond_both true b t = (tt, t)
cond_both false b t = absurd t

-- ---- lists of numbers

pub has_in : (xs : List ℕ) (a : ℕ) → T (has xs a) ↔ In a xs
has_in [] a = (λ t. absurd t, λ i. absurd (omega arith))
has_in (x ∷ xs) a = go (has_in xs a) (same_cases a x)
  where
    go : T (has xs a) ↔ In a xs → ((a ≡ x) × (same a x ≡ 1)) ⊎ ((a ≢ x) × (same a x ≡ 0)) → T (has (x ∷ xs) a) ↔ In a (x ∷ xs)
    go ih (inl s) = rw (eqb-true a x s.0) (λ t. omega (arith, s.1), λ i. tt)
    go ih (inr s) = rw (eqb-false a x s.0) (λ t. omega (arith, ih.0 t, s.1), λ i. ih.1 (omega (arith, s.1)))

pub has-true : (xs : List ℕ) (a : ℕ) → In a xs → has xs a ≡ true
has-true xs a i = is_true (has xs a) ((has_in xs a).1 i)

pub has-false : (xs : List ℕ) (a : ℕ) → occurs a xs ≡ 0 → has xs a ≡ false
has-false xs a z = is_false (has xs a) (λ t. omega (arith, (has_in xs a).0 t))

pub has-none : (xs : List ℕ) (a : ℕ) → has xs a ≡ false → occurs a xs ≡ 0
has-none xs a h = ⊎_elim (λ i. absurd (subst T (sym (has-true xs a i) ∙ h) tt)) (λ i. omega arith) (lt-or-ge 0 (occurs a xs))

pub all_in : (p : ℕ → Bool) (xs : List ℕ) → T (all p xs) → (x : ℕ) → In x xs → T (p x)
all_in p [] t x i = absurd (omega arith)
all_in p (y ∷ ys) t x i =
    let b = cond_both (p y) (all p ys) t in
    ⊎_elim (λ s. subst (λ (z : ℕ). T (p z)) (sym s.0) b.0) (λ s. all_in p ys b.1 x (omega (arith, s.1))) (same_cases x y)

pub in_all : (p : ℕ → Bool) (xs : List ℕ) → ((x : ℕ) → In x xs → T (p x)) → T (all p xs)
in_all p [] h = tt
in_all p (y ∷ ys) h = rw (is_true (p y) (h y (in_head y ys))) (in_all p ys (λ x i. h x (in_tail x y ys i)))

-- no number stands twice
pub twice-once : (xs : List ℕ) → twice eqb xs ≡ false → (a : ℕ) → occurs a xs ≤ 1
twice-once [] h a = omega arith
twice-once (x ∷ xs) h a = go (twice-once xs) (any (eqb x) xs) refl
  where
    go : (twice eqb xs ≡ false → (b : ℕ) → occurs b xs ≤ 1) → (q : Bool) → any (eqb x) xs ≡ q → occurs a (x ∷ xs) ≤ 1
    go ih true e = absurd (subst T (ap (λ (q : Bool). cond q true (twice eqb xs)) (sym e) ∙ h) tt)
    go ih false e =
        let rest = ih (ap (λ (q : Bool). cond q true (twice eqb xs)) (sym e) ∙ h) a in
        ⊎_elim
        (λ s.
        ⊎_elim
        (λ i. absurd (subst T e ((has_in xs x).1 (subst (λ (y : ℕ). In y xs) s.0 i))))
        (λ i. omega (arith, s.1))
        (lt-or-ge 0 (occurs a xs)))
        (λ s. omega (arith, s.1))
        (same_cases a x)

-- numbers that are all within a bound
pub all-at : (m : ℕ) (xs : List ℕ) (i : ℕ) → T (all (λ x. leb x m) xs) → get_or xs i 0 ≤ m
all-at m [] i t = omega arith
all-at m (x ∷ xs) zero t = leb→le x m (cond_both (leb x m) (all (λ y. leb y m) xs) t).0
all-at m (x ∷ xs) (suc i) t = all-at m xs i (cond_both (leb x m) (all (λ y. leb y m) xs) t).1

-- ---- lists of any kind

module _ {A B : Type 0} where
  pub all_map : (f : A → B) (p : B → Bool) (xs : List A) → all (λ x. p (f x)) xs ≡ all p (map f xs)
  all_map f p [] = refl
  all_map f p (x ∷ xs) = ap (λ (r : Bool). cond (p (f x)) r false) (all_map f p xs)

  pub all-to : (f : A → B) (p : A → Bool) (q : B → Bool) → ((x : A) → T (p x) → T (q (f x))) → (xs : List A) → T (all p xs) → T (all q (map f xs))
  all-to f p q h [] t = tt
  all-to f p q h (x ∷ xs) t = let b = cond_both (p x) (all p xs) t in rw (is_true (q (f x)) (h x b.0)) (all-to f p q h xs b.1)
