-- P: how many different tiles the pins of a net have. Document 02, S-1.
-- Assumes nothing.
use Rattle.std.specs.Prelude.{Bool, true, false, cond, List, [], ◌∷◌, map, ◌≡◌, refl, ℕ, suc, ◌+◌, ◌≤◌, eqb, length}
use Rattle.std.proofs.Common.{sym, ap, ◌∙◌, arith, eq-eqb, ne_eqb}
use Rattle.std.proofs.Math.Decide.{ℕ_discrete}
use Rattle.std.proofs.lemmas.List.{length-map}
use Rattle.model.specs.Job.{Pin}
use Rattle.model.specs.Lists.{sum, bit, same, occurs, has, twice, different}
use Rattle.model.specs.Score.{different_tiles}

-- ---- the different numbers of a list

pub different-few : (xs : List ℕ) → length (different xs) ≤ length xs
different-few [] = omega arith
different-few (x ∷ xs) = go (has xs x) (different-few xs)
  where
    go : (b : Bool) → length (different xs) ≤ length xs → length (cond b (different xs) (x ∷ different xs)) ≤ suc (length xs)
    go true few = omega arith
    go false few = omega arith

-- they are as many as the list has just where none stands in it twice
pub different-all : (xs : List ℕ) → twice eqb xs ≡ false → length (different xs) ≡ length xs
different-all [] e = refl
different-all (x ∷ xs) e = go (has xs x) (different-all xs) e
  where
    go : (b : Bool) → (twice eqb xs ≡ false → length (different xs) ≡ length xs) → cond b true (twice eqb xs) ≡ false
        → length (cond b (different xs) (x ∷ different xs)) ≡ suc (length xs)
    go true all h = absurd (let y : ◌≡◌ {A = ℕ} 0 1 = cc in omega arith)
    go false all h = ap suc (all h)

pub all-different : (xs : List ℕ) → length (different xs) ≡ length xs → twice eqb xs ≡ false
all-different [] e = refl
all-different (x ∷ xs) e = go (has xs x) (all-different xs) e
  where
    go : (b : Bool) → (length (different xs) ≡ length xs → twice eqb xs ≡ false) → length (cond b (different xs) (x ∷ different xs)) ≡ suc (length xs)
        → cond b true (twice eqb xs) ≡ false
    go true all h = absurd (omega (arith, different-few xs))
    go false all h = all (omega (arith, h))

-- ---- P

-- P is at most the number of entries, and equal to it exactly where no tile is named twice
pub pin-tiles-few : (ps : List Pin) → different_tiles ps ≤ length ps
pin-tiles-few ps = omega (arith, different-few (map (λ p. p.tile) ps), length-map ps (λ p. p.tile))

pub pin-tiles-all : (ps : List Pin) → twice eqb (map (λ p. p.tile) ps) ≡ false → different_tiles ps ≡ length ps
pin-tiles-all ps e = different-all (map (λ p. p.tile) ps) e ∙ length-map ps (λ p. p.tile)

pub all-pin-tiles : (ps : List Pin) → different_tiles ps ≡ length ps → twice eqb (map (λ p. p.tile) ps) ≡ false
all-pin-tiles ps e = all-different (map (λ p. p.tile) ps) (e ∙ sym (length-map ps (λ p. p.tile)))

-- ---- counted going along a list

same-one : (a b : ℕ) → a ≡ b → same a b ≡ 1
unfolding same
same-one a b e = rw (eq-eqb a b e)

same_none : (a b : ℕ) → (a ≡ b → ⊥) → same a b ≡ 0
unfolding same
same_none a b n = rw (ne_eqb a b n)

-- each of them stands there once
pub different-once : (a : ℕ) (xs : List ℕ) → occurs a (different xs) ≡ bit (has xs a)
different-once a [] = refl
different-once a (x ∷ xs) = go (ℕ_discrete a x) (has xs x) refl (different-once a xs)
  where
    go : Dec (a ≡ x) → (b : Bool) → has xs x ≡ b → occurs a (different xs) ≡ bit (has xs a)
        → occurs a (cond b (different xs) (x ∷ different xs)) ≡ bit (cond (eqb a x) true (has xs a))
    go (yes e) true h once = rw (eq-eqb a x e) (once ∙ ap bit (ap (has xs) e ∙ h))
    go (yes e) false h once =
        let none : occurs a (different xs) ≡ 0 = once ∙ ap bit (ap (has xs) e ∙ h) in
        rw (eq-eqb a x e) (omega (arith, same-one a x e, none))
    go (no n) true h once = rw (ne_eqb a x n) once
    go (no n) false h once = rw (ne_eqb a x n) (omega (arith, same_none a x n, once))

module _ (free free' : ℕ → ℕ) (x : ℕ) (met : free' x ≡ 0) (others : (u : ℕ) → (u ≡ x → ⊥) → free' u ≡ free u) where
  sum-without : (ds : List ℕ) → occurs x ds ≡ 0 → sum free' ds ≡ sum free ds
  sum-without [] h = refl
  sum-without (d ∷ ds) h = go (ℕ_discrete x d) (sum-without ds)
    where
      go : Dec (x ≡ d) → (occurs x ds ≡ 0 → sum free' ds ≡ sum free ds) → free' d + sum free' ds ≡ free d + sum free ds
      go (yes e) rest = absurd (omega (arith, same-one x d e, h))
      go (no n) rest = omega (arith, others d (λ e. n (sym e)), rest (omega (arith, same_none x d n, h)))

  sum-once : (ds : List ℕ) → occurs x ds ≡ 1 → free x + sum free' ds ≡ sum free ds
  sum-once [] h = absurd (omega (arith, h))
  sum-once (d ∷ ds) h = go (ℕ_discrete x d) (sum-once ds)
    where
      go : Dec (x ≡ d) → (occurs x ds ≡ 1 → free x + sum free' ds ≡ sum free ds) → free x + (free' d + sum free' ds) ≡ free d + sum free ds
      go (yes e) rest = omega (arith, ap free e, ap free' e, met, sum-without ds (omega (arith, same-one x d e, h)))
      go (no n) rest = omega (arith, others d (λ e. n (sym e)), rest (omega (arith, same_none x d n, h)))

  -- x is met, and then those of xs: what is free of all different numbers is what was free of x, and of those of xs thereafter
  pub different-step : (xs : List ℕ) → free x + sum free' (different xs) ≡ sum free (different (x ∷ xs))
  different-step xs = go (has xs x) refl
    where
      go : (b : Bool) → has xs x ≡ b → free x + sum free' (different xs) ≡ sum free (cond b (different xs) (x ∷ different xs))
      go true h = sum-once (different xs) (different-once x xs ∙ ap bit h)
      go false h = ap (λ (k : ℕ). free x + k) (sum-without (different xs) (different-once x xs ∙ ap bit h))

-- where nothing is met before, all are free
pub different-free : (free : ℕ → ℕ) → ((u : ℕ) → free u ≡ 1) → (ds : List ℕ) → sum free ds ≡ length ds
different-free free one [] = refl
different-free free one (d ∷ ds) = omega (arith, one d, different-free free one ds)
