-- The groups of a job's edges: one without the line `dirs`, two with it. Document 02, S-2.
-- Assumes nothing.
use Rattle.std.specs.Prelude.{◌≡◌, refl, List, [], ◌∷◌, Bool, true, false, cond, ℕ, zero, suc, ◌+◌, ◌-◌, ◌*◌, ◌≤◌, max, eqb, ltb, length, get_or}
use Rattle.std.proofs.Common.{sym, ap, ap₂, ◌∙◌, arith, mul_assoc, mul-le-mul_left}
use Rattle.std.proofs.Math.Option.{Option, none, some}
use Rattle.model.specs.Grid.{east_count}
use Rattle.model.specs.Job.{Job, all_edges, group_in, group, layers_in, layers_of}
use Rattle.model.specs.Lists.{up_from}
use Rattle.model.specs.Overflow.{flat_overflow, MO, group_most, limit, layer_overflow, max_overflow, peak}
use Rattle.theory.specs.congestion.Sums.{most, keep}
use Rattle.theory.specs.congestion.Edge.{ceil_div, ceil-le, le-ceil, ceil-zero}
use Rattle.theory.specs.congestion.Base.{length-up_from}
use Rattle.theory.specs.congestion.Tests.{all-at}
use Rattle.theory.specs.links.Reading.{LettersOk}

-- ---- two groups at most

group-in : (ds : Option (List ℕ)) (E e : ℕ) → group_in ds E e ≤ 1
group-in none E e = omega arith
group-in (some ds) E e = go (ltb e E)
  where
    go : (b : Bool) → cond b 0 1 ≤ 1
    go true = omega arith
    go false = omega arith

pub group-upto : (j : Job) (e : ℕ) → group j e ≤ 1
group-upto j e = group-in j.dirs (east_count j.width j.height) e

-- a list in two parts, by a number that is 0 or 1: the largest over all is the larger of the two parts'
pub most-split : (f g : ℕ → ℕ) (xs : List ℕ) → ((x : ℕ) → g x ≤ 1) → most f xs ≡ max (most f (keep (λ x. eqb (g x) 0) xs)) (most f (keep (λ x. eqb (g x) 1) xs))
most-split f g [] h = refl
most-split f g (x ∷ xs) h = go (most-split f g xs h) (g x) refl (h x)
  where
    go : most f xs ≡ max (most f (keep (λ y. eqb (g y) 0) xs)) (most f (keep (λ y. eqb (g y) 1) xs)) → (m : ℕ) → g x ≡ m → m ≤ 1
        → most f (x ∷ xs) ≡ max (most f (keep (λ y. eqb (g y) 0) (x ∷ xs))) (most f (keep (λ y. eqb (g y) 1) (x ∷ xs)))
    go ih zero e b = rw e (omega arith)
    go ih (suc zero) e b = rw e (omega arith)
    go ih (suc (suc m)) e b = absurd (omega arith)

-- and the two parts are together as long as the list
pub length-split : (g : ℕ → ℕ) (xs : List ℕ) → ((x : ℕ) → g x ≤ 1) → length (keep (λ x. eqb (g x) 0) xs) + length (keep (λ x. eqb (g x) 1) xs) ≡ length xs
length-split g [] h = refl
length-split g (x ∷ xs) h = go (length-split g xs h) (g x) refl (h x)
  where
    go : length (keep (λ y. eqb (g y) 0) xs) + length (keep (λ y. eqb (g y) 1) xs) ≡ length xs → (m : ℕ) → g x ≡ m → m ≤ 1
        → length (keep (λ y. eqb (g y) 0) (x ∷ xs)) + length (keep (λ y. eqb (g y) 1) (x ∷ xs)) ≡ suc (length xs)
    go ih zero e b = rw e (omega arith)
    go ih (suc zero) e b = rw e (omega arith)
    go ih (suc (suc m)) e b = absurd (omega arith)

module _ (j : Job) where
  -- "The returned and printed maximum stays one number, the largest over all"
  pub maximum-both : (ys : List (List ℕ)) → max_overflow j ys ≡ max (peak j ys 0) (peak j ys 1)
  maximum-both ys = most-split (λ e. most (layer_overflow j ys e) (layers_of j e)) (group j) (all_edges j) (group-upto j)

  pub MO-both : MO j ≡ max (group_most j 0) (group_most j 1)
  MO-both = most-split (flat_overflow j) (group j) (all_edges j) (group-upto j)

-- ---- equal halves

-- rounding up, of the larger of two; and with both sides doubled
pub ceil-max : (a b k : ℕ) → max (ceil_div a k) (ceil_div b k) ≡ ceil_div (max a b) k
ceil-max a b zero = omega (arith, ceil-zero a, ceil-zero b, ceil-zero (max a b))
ceil-max a b (suc k) =
    let k₁ : ℕ = suc k in
    let top = le-ceil (max a b) k₁ (omega arith) in
    let low : ceil_div a k₁ ≤ max (ceil_div a k₁) (ceil_div b k₁) = omega arith in
    let low' : ceil_div b k₁ ≤ max (ceil_div a k₁) (ceil_div b k₁) = omega arith in
    omega (
      arith,
      ceil-le a k₁ (ceil_div (max a b) k₁) (omega arith),
      ceil-le b k₁ (ceil_div (max a b) k₁) (omega arith),
      ceil-le (max a b) k₁ (max (ceil_div a k₁) (ceil_div b k₁))
          (omega (arith, le-ceil a k₁ (omega arith), le-ceil b k₁ (omega arith), mul-le-mul_left k₁ low, mul-le-mul_left k₁ low')),
    )

pub ceil-twice : (o k : ℕ) → ceil_div (2 * o) (2 * k) ≡ ceil_div o k
ceil-twice o zero = omega (arith, ceil-zero (2 * o), ceil-zero o)
ceil-twice o (suc k) =
    let k₁ : ℕ = suc k in
    omega (
      arith,
      ceil-le (2 * o) (2 * k₁) (ceil_div o k₁) (omega (arith, le-ceil o k₁ (omega arith), mul_assoc 2 k₁ (ceil_div o k₁))),
      ceil-le o k₁ (ceil_div (2 * o) (2 * k₁)) (omega (arith, le-ceil (2 * o) (2 * k₁) (omega arith), mul_assoc 2 k₁ (ceil_div (2 * o) (2 * k₁)))),
    )

module _ (j : Job) (ds : List ℕ) (given : j.dirs ≡ some ds) (letters : LettersOk j.layers ds) where
  -- each layer runs one of the two ways
  pub layers-split : length (layers_in j 0) + length (layers_in j 1) ≡ j.layers
  layers-split =
      rw given (length-split (λ l. get_or ds (l - 1) 0) (up_from 1 j.layers) (λ l. all-at 1 ds (l - 1) letters.1) ∙ length-up_from 1 j.layers)

  -- "With equal halves the overall maximum agrees with the paper's 2/K": source document 000, section VI-B.
  -- Both limits divide by K/2, so the larger one is that of the larger overflow, which is MO.
  pub halves : length (layers_in j 0) ≡ length (layers_in j 1) → max (limit j 0) (limit j 1) ≡ ceil_div (2 * MO j) j.layers
  halves e =
      let same_length : length (layers_in j 1) ≡ length (layers_in j 0) = omega arith in
      let largest : max (group_most j 0) (group_most j 1) ≡ MO j = omega (arith, MO-both j) in
      let both : 2 * length (layers_in j 0) ≡ j.layers = omega (arith, layers-split) in
      ap (λ (k : ℕ). max (limit j 0) (ceil_div (group_most j 1) k)) same_length
      ∙ ceil-max (group_most j 0) (group_most j 1) (length (layers_in j 0))
      ∙ sym (ceil-twice (max (group_most j 0) (group_most j 1)) (length (layers_in j 0)))
      ∙ ap₂ (λ (o k : ℕ). ceil_div (2 * o) k) largest both
