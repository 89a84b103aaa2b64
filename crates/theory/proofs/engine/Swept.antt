-- What the two sweeps find is the least of a layer's cost and the way to it, or top; costs that agree below K are swept alike.
-- Assumes nothing.
use Rattle.std.specs.Prelude.{◌≡◌, refl, ◌⊎◌, ℕ, zero, suc, ◌+◌, ◌-◌, ◌≤◌, ◌<◌, min}
use Rattle.std.proofs.Common.{ap, ap₂, subst, inl, inr}
use native.Mathlib.Omega.{arith}
use Rattle.theory.specs.congestion.Sums.{lt-or-ge}
use Rattle.theory.specs.engine.Span.{Climbs}
use Rattle.theory.specs.engine.Sweeps.{swept_up, swept_down, swept, apart}

module _ (P : ℕ → ℕ) (climbs : Climbs P) (top : ℕ) where
  -- ---- upwards

  module _ (g : ℕ → ℕ) where
    -- the sweep's value on layer t
    abbrev up : ℕ → ℕ
    up t = swept_up P top g (suc t)

    pub up_top : (t : ℕ) → up t ≤ top
    up_top t = omega arith

    below_one : (n : ℕ) → P (suc n - 1) ≡ P n
    below_one n = let e : suc n - 1 ≡ n = omega arith in ap P e

    -- the next layer
    abbrev rise : ℕ → ℕ
    rise n = P (suc n) - P n

    next : (n : ℕ) → up (suc n) ≡ min (min (up n + rise n) (g (suc n))) top
    next n = ap (λ (x : ℕ). min (min (up n + (P (suc n) - x)) (g (suc n))) top) (below_one n)

    up-low : (n t : ℕ) → t ≤ n → up n ≤ g t + (P n - P t)
    up-low zero t h = let e : t ≡ 0 = omega arith in first (g t) (g 0) (P 0 - P t) (top + (P 0 - P (0 - 1))) (ap g e)
      where
        first : (x y d c : ℕ) → x ≡ y → min (min c y) top ≤ x + d
        first x y d c e = omega arith
    up-low (suc n) t h = go (up-low n t) (lt-or-ge n t)
      where
        step : (a b x y z u c : ℕ) → a ≤ x + (y - u) → u ≤ y → y ≤ z → b ≡ min (min (a + (z - y)) c) top → b ≤ x + (z - u)
        step a b x y z u c p q r s = omega arith

        here : (b x y d c : ℕ) → b ≡ min (min c y) top → x ≡ y → b ≤ x + d
        here b x y d c s e = omega arith

        go : (t ≤ n → up n ≤ g t + (P n - P t)) → (n < t) ⊎ (t ≤ n) → up (suc n) ≤ g t + (P (suc n) - P t)
        go ih (inl p) = let e : t ≡ suc n = omega arith in here (up (suc n)) (g t) (g (suc n)) (P (suc n) - P t) (up n + rise n) (next n) (ap g e)
        go ih (inr p) = step (up n) (up (suc n)) (g t) (P n) (P (suc n)) (P t) (g (suc n)) (ih p) (climbs t n p) (climbs n (suc n) (omega arith)) (next n)

    abbrev UpHit : ℕ → Type 0
    UpHit n = (up n ≡ top) ⊎ ((t : ℕ) × (t ≤ n) × (up n ≡ g t + (P n - P t)))

    -- of three numbers the least is one of them
    which : (x y b : ℕ) → b ≡ min (min x y) top → (b ≡ top) ⊎ ((b ≡ y) ⊎ ((b ≡ x) × (x < top)))
    which x y b e = go (lt-or-ge x y) (lt-or-ge (min x y) top)
      where
        go : (x < y) ⊎ (y ≤ x) → (min x y < top) ⊎ (top ≤ min x y) → (b ≡ top) ⊎ ((b ≡ y) ⊎ ((b ≡ x) × (x < top)))
        go p (inr r) = inl (omega arith)
        go (inr p) (inl r) = inr (inl (omega arith))
        go (inl p) (inl r) = inr (inr (omega arith, omega arith))

    here : (b x d : ℕ) → b ≡ x → b ≡ x + (d - d)
    here b x d e = omega arith

    over : (a d : ℕ) → a ≡ top → a + d < top → ⊥
    over a d e h = omega arith

    up-hit : (n : ℕ) → UpHit n
    up-hit zero = go (which (top + (P 0 - P (0 - 1))) (g 0) (up 0) refl)
      where
        go : (up 0 ≡ top) ⊎ ((up 0 ≡ g 0) ⊎ ((up 0 ≡ top + (P 0 - P (0 - 1))) × (top + (P 0 - P (0 - 1)) < top))) → UpHit 0
        go (inl e) = inl e
        go (inr (inl e)) = inr (0, omega arith, here (up 0) (g 0) (P 0) e)
        go (inr (inr e)) = absurd (over top (P 0 - P (0 - 1)) refl e.1)
    up-hit (suc n) = go (up-hit n) (which (up n + rise n) (g (suc n)) (up (suc n)) (next n))
      where
        step : (a b x y z u : ℕ) → a ≡ x + (y - u) → u ≤ y → y ≤ z → b ≡ a + (z - y) → b ≡ x + (z - u)
        step a b x y z u p q r s = omega arith

        go : UpHit n → (up (suc n) ≡ top) ⊎ ((up (suc n) ≡ g (suc n)) ⊎ ((up (suc n) ≡ up n + rise n) × (up n + rise n < top))) → UpHit (suc n)
        go ih (inl e) = inl e
        go ih (inr (inl e)) = inr (suc n, omega arith, here (up (suc n)) (g (suc n)) (P (suc n)) e)
        go (inl f) (inr (inr e)) = absurd (over (up n) (rise n) f e.1)
        go (inr (t, h, f)) (inr (inr e)) =
            inr (t, omega arith, step (up n) (up (suc n)) (g t) (P n) (P (suc n)) (P t) f (climbs t n h) (climbs n (suc n) (omega arith)) e.0)

  -- ---- downwards

  module _ (g : ℕ → ℕ) (K : ℕ) (small : (t : ℕ) → t < K → g t ≤ top) where
    down-low : (n t : ℕ) → n ≤ K → K - n ≤ t → t < K → swept_down P top g K n ≤ g t + (P t - P (K - n))
    down-low zero t a p q = absurd (omega arith)
    down-low (suc n) t a p q = go (down-low n t (omega arith)) (lt-or-ge (K - suc n) t)
      where
        step : (a b x y z u : ℕ) → a ≤ x + (u - y) → y ≤ u → z ≤ y → b ≤ a + (y - z) → b ≤ x + (u - z)
        step a b x y z u p q r s = omega arith

        go : (K - n ≤ t → t < K → swept_down P top g K n ≤ g t + (P t - P (K - n))) → (K - suc n < t) ⊎ (t ≤ K - suc n)
            → swept_down P top g K (suc n) ≤ g t + (P t - P (K - suc n))
        go ih (inl r) =
            step (swept_down P top g K n) (swept_down P top g K (suc n)) (g t) (P (K - n)) (P (K - suc n)) (P t) (ih (omega arith) q)
            (climbs (K - n) t (omega arith)) (climbs (K - suc n) (K - n) (omega arith)) (omega arith)
        go ih (inr r) = let e : t ≡ K - suc n = omega arith in omega (arith, ap g e)

    down-hit : (n : ℕ) → n ≤ K → (swept_down P top g K n ≡ top) ⊎ ((t : ℕ) × (K - n ≤ t) × (t < K) × (swept_down P top g K n ≡ g t + (P t - P (K - n))))
    down-hit zero a = inl refl
    down-hit (suc n) a = go (down-hit n (omega arith)) (lt-or-ge (swept_down P top g K n + (P (K - n) - P (K - suc n))) (g (K - suc n)))
      where
        step : (a b x y z u : ℕ) → a ≡ x + (u - y) → y ≤ u → z ≤ y → b ≡ a + (y - z) → b ≡ x + (u - z)
        step a b x y z u p q r s = omega arith

        go : (swept_down P top g K n ≡ top) ⊎ ((t : ℕ) × (K - n ≤ t) × (t < K) × (swept_down P top g K n ≡ g t + (P t - P (K - n))))
            → (swept_down P top g K n + (P (K - n) - P (K - suc n)) < g (K - suc n)) ⊎ (g (K - suc n) ≤ swept_down P top g K n + (P (K - n) - P (K - suc n)))
            → (swept_down P top g K (suc n) ≡ top) ⊎ ((t : ℕ) × (K - suc n ≤ t) × (t < K) × (swept_down P top g K (suc n) ≡ g t + (P t - P (K - suc n))))
        go ih (inr p) = inr (K - suc n, omega arith, omega arith, omega arith)
        go (inl e) (inl p) = absurd (omega (arith, e, p, small (K - suc n) (omega arith)))
        go (inr (t, h, q, e)) (inl p) =
            inr (
              t,
              omega arith,
              q,
              step (swept_down P top g K n) (swept_down P top g K (suc n)) (g t) (P (K - n)) (P (K - suc n)) (P t) e
                  (climbs (K - n) t h) (climbs (K - suc n) (K - n) (omega arith)) (omega arith),
            )

  -- ---- both

  module _ (g : ℕ → ℕ) (K l : ℕ) (inside : l < K) where
    abbrev v : ℕ
    v = swept_down P top (λ t. swept_up P top g (suc t)) K (K - l)

    back : K - (K - l) ≡ l
    back = omega arith

    from_up : (t : ℕ) → l ≤ t → t < K → v ≤ up g t + (P t - P l)
    from_up t p q = subst (λ (x : ℕ). v ≤ up g t + (P t - P x)) back (down-low (up g) K (λ x y. up_top g x) (K - l) t (omega arith) (omega arith) q)

    -- no layer costs less
    pub swept-low : (t : ℕ) → t < K → swept P top g K l ≤ g t + apart P t l
    unfolding swept
    swept-low t q = go (lt-or-ge l t)
      where
        join : (x y c a b d : ℕ) → x ≤ y + b → y ≤ c + a → a + b ≤ d → x ≤ c + d
        join x y c a b d h k j = omega arith

        go : (l < t) ⊎ (t ≤ l) → v ≤ g t + apart P t l
        go (inl p) = join v (up g t) (g t) (P t - P t) (P t - P l) (apart P t l) (from_up t (omega arith) q) (up-low g t t (omega arith)) (omega arith)
        go (inr p) = join v (up g l) (g t) (P l - P t) (P l - P l) (apart P t l) (from_up l (omega arith) inside) (up-low g l t p) (omega arith)

    pub swept-top : swept P top g K l ≤ top
    unfolding swept
    swept-top = let h = from_up l (omega arith) inside in let k = up_top g l in omega (arith, h, k)

    -- and one costs just that
    pub swept-hit : swept P top g K l < top → (t : ℕ) × (t < K) × (g t + apart P t l ≡ swept P top g K l)
    unfolding swept
    swept-hit h = go (subst (λ (x : ℕ). (v ≡ top) ⊎ ((t : ℕ) × (x ≤ t) × (t < K) × (v ≡ up g t + (P t - P x)))) back (down-hit (up g) K (λ x y. up_top g x) (K - l) (omega arith)))
      where
        Hit : Type 0
        Hit = (t : ℕ) × (t < K) × (g t + apart P t l ≡ v)

        join : (x y pt pu pl a : ℕ) → pl ≤ pt → pu ≤ pt → x ≡ y + (pt - pl) → y ≡ a + (pt - pu) → x ≤ a + ((pu - pl) + (pl - pu)) → a + ((pu - pl) + (pl - pu)) ≡ x
        join x y pt pu pl a p q e f k = omega arith

        last : (t : ℕ) → l ≤ t → t < K → v ≡ up g t + (P t - P l) → (up g t ≡ top) ⊎ ((t' : ℕ) × (t' ≤ t) × (up g t ≡ g t' + (P t - P t'))) → Hit
        last t p q e (inl f) = absurd (omega (arith, e, f, h))
        last t p q e (inr (t', p', f)) =
            (t', omega arith, join v (up g t) (P t) (P t') (P l) (g t') (climbs l t p) (climbs t' t p') e f (swept-low t' (omega arith)))

        go : (v ≡ top) ⊎ ((t : ℕ) × (l ≤ t) × (t < K) × (v ≡ up g t + (P t - P l))) → Hit
        go (inl e) = absurd (omega (arith, e, h))
        go (inr (t, p, q, e)) = last t p q e (up-hit g t)

-- costs that agree below K
module _ (P : ℕ → ℕ) (top : ℕ) (g h : ℕ → ℕ) (K : ℕ) (e : (t : ℕ) → t < K → g t ≡ h t) where
  up_same : (n : ℕ) → n ≤ K → swept_up P top g n ≡ swept_up P top h n
  up_same zero k = refl
  up_same (suc n) k = ap₂ (λ (a b : ℕ). min (min (a + (P n - P (n - 1))) b) top) (up_same n (omega arith)) (e n k)

  pub down-same : (n : ℕ) → n ≤ K → swept_down P top g K n ≡ swept_down P top h K n
  down-same zero k = refl
  down-same (suc n) k = ap₂ (λ (a b : ℕ). min (a + (P (K - n) - P (K - suc n))) b) (down-same n (omega arith)) (e (K - suc n) (omega arith))

pub swept_same : (P : ℕ → ℕ) (top : ℕ) (g h : ℕ → ℕ) (K l : ℕ) → ((t : ℕ) → t < K → g t ≡ h t) → swept P top g K l ≡ swept P top h K l
unfolding swept
swept_same P top g h K l e =
    down-same P top (λ t. swept_up P top g (suc t)) (λ t. swept_up P top h (suc t)) K (λ t q. up_same P top g h K e (suc t) q) (K - l) (omega arith)
