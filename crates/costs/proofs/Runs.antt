-- The least of a run of numbers, one number at a time.
-- Assumes nothing.
use mathlib.Core.Path.{◌≡◌, refl, sym, ap, ◌∙◌}
use Prim.Native.Nat.{ℕ, zero, suc, ◌+◌, ◌≤◌, ◌<◌, min}
use native.Mathlib.Omega.{arith}
use native.Mathlib.Numerals.{add-one}
use Rattle.model.specs.Lists.{up_from}
use Rattle.theory.specs.congestion.Base.{in-up_from}
use Rattle.theory.specs.engine.Interval.{least_in, least-in-low, least-in-hit}

module _ (top : ℕ) where
  pub run_more : (g : ℕ → ℕ) (a n : ℕ) → least_in top g (up_from a (suc n)) ≡ min (g (a + n)) (least_in top g (up_from a n))
  run_more g a zero = let e : a + 0 ≡ a = omega arith in omega (arith, ap g e)
  run_more g a (suc n) = let e : suc a + n ≡ a + suc n = omega arith in omega (arith, ap g e, run_more g (suc a) n)

  pub run-same : (g h : ℕ → ℕ) (a n : ℕ) → ((t : ℕ) → a ≤ t → t < a + n → g t ≡ h t) → least_in top g (up_from a n) ≡ least_in top h (up_from a n)
  run-same g h a zero e = refl
  run-same g h a (suc n) e = omega (arith, e a (omega arith) (omega arith), run-same g h (suc a) n (λ t p q. e t (omega arith) (omega arith)))

  pub run-low : (g : ℕ → ℕ) (a n t : ℕ) → a ≤ t → t < a + n → least_in top g (up_from a n) ≤ g t
  run-low g a n t p q = least-in-low top g (up_from a n) t ((in-up_from t a n).1 (p, q))

  pub run-hit : (g : ℕ → ℕ) (a n : ℕ) → least_in top g (up_from a n) < top → (t : ℕ) × (a ≤ t) × (t < a + n) × (g t ≡ least_in top g (up_from a n))
  run-hit g a n h =
      let r = least-in-hit top g (up_from a n) h in
      let b = (in-up_from r.0 a n).0 r.1 in
      (r.0, b.0, b.1, r.2)

  -- as a loop from 0 has it
  pub run-next : (g : ℕ → ℕ) (l x : ℕ) → x ≡ least_in top g (up_from 0 l) → min (g l) x ≡ least_in top g (up_from 0 (l + 1))
  run-next g l x e =
      let i : 0 + l ≡ l = omega arith in
      rw (add-one l, e) (sym (run_more g 0 l ∙ ap (λ (t : ℕ). min (g t) (least_in top g (up_from 0 l))) i))

  pub run-all : (g : ℕ → ℕ) (l K x : ℕ) → l ≡ K → x ≡ least_in top g (up_from 0 l) → x ≡ least_in top g (up_from 0 K)
  run-all g l K x h e = e ∙ ap (λ (t : ℕ). least_in top g (up_from 0 t)) h
