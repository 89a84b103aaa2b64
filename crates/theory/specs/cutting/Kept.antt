-- The kept edges have no ring, and no part of them has one; a list with no ring is kept whole.
-- Assumes nothing.
use Rattle.std.specs.Prelude.{◌≡◌, refl, List, [], ◌∷◌, ◌++◌, Bool, true, false, cond, ℕ, ◌≤◌, ◌<◌, T, eqb, length}
use Rattle.std.proofs.Common.{sym, ap, ap₂, ◌∙◌, subst, ⊎_elim, arith}
use Rattle.theory.specs.congestion.Sums.{occurs, In, same_cases, lt-or-ge}
use Rattle.theory.specs.walk.Joined.{joined?, label-mark, ring?, kept, Ringless, onto, occurs-onto, ring-test, kept-no-ring, kept_label, kept_append, kept-le}
use Rattle.theory.specs.walk.Stops.{less-length}
use Rattle.theory.specs.walk.Rings.{ring-more, ring-iff}
use Rattle.theory.specs.cutting.Subsets.{PartOf}

module _ (lo hi : ℕ → ℕ) where
  -- an edge that stands twice has its ends joined by itself
  ringless-once : (es : List ℕ) → Ringless lo hi es → (e : ℕ) → occurs e es ≤ 1
  ringless-once [] r e = omega arith
  ringless-once (f ∷ es) r e =
      ⊎_elim
      (λ s.
      ⊎_elim
      (λ i. absurd (r.0 (label-mark lo hi es f (subst (λ (x : ℕ). In x es) s.0 i))))
      (λ i. omega (arith, s.1))
      (lt-or-ge 0 (occurs e es)))
      (λ s. omega (arith, s.1, ringless-once es r.1 e))
      (same_cases e f)

  pub no-ring-once : (es : List ℕ) → ring? lo hi [] es ≡ false → (e : ℕ) → occurs e es ≤ 1
  no-ring-once es r e = omega (arith, occurs-onto lo hi e [] es, ringless-once (onto lo hi [] es) (ring-test lo hi [] es r tt) e)

  -- a part of a list with no ring has none: a closed walk along the part is one along the list
  pub part-no-ring : (ds es : List ℕ) → PartOf ds es → ring? lo hi [] es ≡ false → ring? lo hi [] ds ≡ false
  part-no-ring ds es h r = go (ring? lo hi [] ds) refl
    where
      once : (e : ℕ) → occurs e es ≤ 1
      once = no-ring-once es r

      go : (q : Bool) → ring? lo hi [] ds ≡ q → ring? lo hi [] ds ≡ false
      go false e = e
      go true e = absurd (subst T (sym ((ring-iff lo hi es once).1 (ring-more lo hi ds es (λ a i. omega (arith, h a)) ((ring-iff lo hi ds (λ a. omega (arith, h a, once a))).0 e))) ∙ r) tt)

  -- no part of the kept edges has a ring
  pub kept-part-no-ring : (ds es : List ℕ) → PartOf ds (kept lo hi [] es) → ring? lo hi [] ds ≡ false
  kept-part-no-ring ds es h = part-no-ring ds (kept lo hi [] es) h (kept-no-ring lo hi es)

  -- a list with no ring is kept whole, and a list with a ring is not
  pub kept-all : (ds es : List ℕ) → ring? lo hi ds es ≡ false → kept lo hi ds es ≡ es
  kept-all ds [] r = refl
  kept-all ds (e ∷ es) r = go (joined? lo hi ds (lo e) (hi e)) (kept-all (e ∷ ds) es) r
    where
      go : (q : Bool) → (ring? lo hi (e ∷ ds) es ≡ false → kept lo hi (e ∷ ds) es ≡ es) → cond q true (ring? lo hi (e ∷ ds) es) ≡ false
          → cond q (kept lo hi ds es) (e ∷ kept lo hi (e ∷ ds) es) ≡ e ∷ es
      go true ih r = absurd (subst T r tt)
      go false ih r = ap {B = List ℕ} (λ l. e ∷ l) (ih r)

  pub kept-fewer : (ds es : List ℕ) → ring? lo hi ds es ≡ true → length (kept lo hi ds es) < length es
  kept-fewer ds [] r = absurd (subst T (sym r) tt)
  kept-fewer ds (e ∷ es) r = go (joined? lo hi ds (lo e) (hi e)) (kept-fewer (e ∷ ds) es) r
    where
      go : (q : Bool) → (ring? lo hi (e ∷ ds) es ≡ true → length (kept lo hi (e ∷ ds) es) < length es) → cond q true (ring? lo hi (e ∷ ds) es) ≡ true
          → length (cond q (kept lo hi ds es) (e ∷ kept lo hi (e ∷ ds) es)) < length (e ∷ es)
      go true ih r = omega (arith, less-length (kept lo hi ds es) es (kept-le lo hi ds es))
      go false ih r = omega (arith, ih r)

  -- an edge closes a ring with the kept earlier ones just where it does with all earlier ones: code may join all and test
  pub kept-closes : (es : List ℕ) (a b : ℕ) → joined? lo hi (onto lo hi [] (kept lo hi [] es)) a b ≡ joined? lo hi (onto lo hi [] es) a b
  kept-closes es a b = ap₂ eqb (kept_label lo hi [] es a) (kept_label lo hi [] es b)

  -- one more entry
  pub kept-snoc : (es : List ℕ) (e : ℕ) → kept lo hi [] (es ++ (e ∷ [])) ≡ kept lo hi [] es ++ cond (joined? lo hi (onto lo hi [] es) (lo e) (hi e)) [] (e ∷ [])
  kept-snoc es e =
      kept_append lo hi [] es (e ∷ [])
      ∙ ap (λ (q : Bool). kept lo hi [] es ++ cond q [] (e ∷ [])) (kept-closes es (lo e) (hi e))
