-- Tests over a list with one element more at its end.
-- Assumes nothing.
use Rattle.std.specs.Prelude.{Bool, true, false, ◌&&◌, ◌||◌, cond, List, [], ◌∷◌, ◌++◌, ◌≡◌, refl, ℕ, eqb}
use Rattle.std.proofs.Common.{sym, ◌∙◌, eq-eqb, ne_eqb}
use Rattle.std.proofs.Math.Decide.{ℕ_discrete}
use Rattle.model.specs.Lists.{all, any, twice, has}

module _ {A : Type 0} where
  pub all_snoc : (p : A → Bool) (xs : List A) (x : A) → all p (xs ++ (x ∷ [])) ≡ (all p xs && p x)
  all_snoc p [] x = go (p x)
    where
      go : (q : Bool) → cond q true false ≡ (true && q)
      go true = refl
      go false = refl
  all_snoc p (y ∷ xs) x = rw (all_snoc p xs x) (go (p y))
    where
      go : (q : Bool) → cond q (all p xs && p x) false ≡ (cond q (all p xs) false && p x)
      go true = refl
      go false = refl

  pub any_snoc : (p : A → Bool) (xs : List A) (x : A) → any p (xs ++ (x ∷ [])) ≡ (any p xs || p x)
  any_snoc p [] x = go (p x)
    where
      go : (q : Bool) → cond q true false ≡ (false || q)
      go true = refl
      go false = refl
  any_snoc p (y ∷ xs) x = rw (any_snoc p xs x) (go (p y))
    where
      go : (q : Bool) → cond q true (any p xs || p x) ≡ (cond q true (any p xs) || p x)
      go true = refl
      go false = refl

pub has-snoc : (xs : List ℕ) (x a : ℕ) → has (xs ++ (x ∷ [])) a ≡ (has xs a || eqb a x)
has-snoc xs x a = any_snoc (eqb a) xs x

eqb-turned : (a b : ℕ) → eqb a b ≡ eqb b a
eqb-turned a b = go (ℕ_discrete a b)
  where
    go : Dec (a ≡ b) → eqb a b ≡ eqb b a
    go (yes e) = eq-eqb a b e ∙ sym (eq-eqb b a (sym e))
    go (no n) = ne_eqb a b n ∙ sym (ne_eqb b a (λ e. n (sym e)))

-- a number stands there twice just where two of the others are equal, or one of them is it
pub twice-snoc : (xs : List ℕ) (x : ℕ) → twice eqb (xs ++ (x ∷ [])) ≡ (twice eqb xs || has xs x)
twice-snoc [] x = refl
twice-snoc (y ∷ xs) x =
    rw (any_snoc (eqb y) xs x, twice-snoc xs x, eqb-turned x y) (go (any (eqb y) xs) (eqb y x) (twice eqb xs) (has xs x))
  where
    go : (p q r s : Bool) → cond (p || q) true (r || s) ≡ (cond p true r || cond q true s)
    go true q r s = refl
    go false true true s = refl
    go false true false s = refl
    go false false r s = refl
