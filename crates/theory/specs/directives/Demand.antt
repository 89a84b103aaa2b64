-- One edge: virtual capacity, virtual demand and their excess, over any capacities `c`, the layers 1 to K and `need t`, the number of nets that want layer t or
-- a higher one. What of the demand finds room, and what does not; and both by steps from the top, as a loop takes them.
-- Assumes nothing.
use Rattle.std.specs.Prelude.{◌≡◌, refl, ◌⊎◌}
use Rattle.std.proofs.Common.{sym, ap, ap₂, ◌∙◌, inl, inr}
use Prim.Native.Nat.{ℕ, zero, suc, ◌+◌, ◌-◌, ◌≤◌, ◌<◌, min}
use native.Mathlib.Omega.{arith}
use Rattle.model.specs.Lists.{up_from, sum}
use Rattle.model.specs.Directives.{virtual_capacity, demand_from, virtual_demand, excess, summed_excess}
use Rattle.model.specs.Overflow.{over}
use Rattle.theory.specs.congestion.Sums.{sum-eq, sum-zero, lt-or-ge}
use Rattle.theory.specs.congestion.Base.{in-up_from}

-- ---- the two by steps from the top, as a loop takes them

pub sum-suffix : (f : ℕ → ℕ) (a k n : ℕ) → sum f (up_from (a + k) n) ≤ sum f (up_from a (k + n))
sum-suffix f a zero n = let e : a + 0 ≡ a = omega arith in let e' : 0 + n ≡ n = omega arith in rw (e, e') (omega arith)
sum-suffix f a (suc k) n =
    let e : a + suc k ≡ suc a + k = omega arith in
    let e' : suc k + n ≡ suc (k + n) = omega arith in
    rw (e, e') (omega (arith, sum-suffix f (suc a) k n))

module _ (c : ℕ → ℕ) (K : ℕ) where
  pub capacity-above : (t : ℕ) → K < t → virtual_capacity c K t ≡ 0
  capacity-above t h = let e : suc K - t ≡ 0 = omega arith in rw e

  pub capacity-step : (t : ℕ) → t ≤ K → virtual_capacity c K t ≡ c t + virtual_capacity c K (suc t)
  capacity-step t h = let e : suc K - t ≡ suc (suc K - suc t) = omega arith in rw e

  pub capacity-is : (t n : ℕ) → t + n ≡ suc K → virtual_capacity c K t ≡ sum c (up_from t n)
  capacity-is t n h = let e : suc K - t ≡ n = omega arith in rw e

  module _ (need : ℕ → ℕ) where
    pub demand-above : (t : ℕ) → K < t → virtual_demand c K need t ≡ 0
    demand-above t h = let e : suc K - t ≡ 0 = omega arith in rw e

    pub demand-step : (t : ℕ) → t ≤ K → virtual_demand c K need t ≡ need t + min (virtual_demand c K need (suc t)) (virtual_capacity c K (suc t))
    demand-step t h = let e : suc K - t ≡ suc (suc K - suc t) = omega arith in rw e

    -- what of the demand at t finds room, and what does not at t or above, is all that is wanted at t or above:
    -- one layer more adds `need t` to the demand, and what the capacity cuts off of it goes to the excess
    pub excess-served : (t n : ℕ) → t + n ≡ suc K
        → sum (excess c K need) (up_from t n) + min (virtual_demand c K need t) (virtual_capacity c K t) ≡ sum need (up_from t n)
    excess-served t zero h = omega (arith, demand-above t (omega arith))
    excess-served t (suc n) h =
        omega (arith, demand-step t (omega arith), excess-served (suc t) n (omega arith))

    -- the excess from t up, by steps from the top
    pub excess-step : (t : ℕ) → t ≤ K
        → sum (excess c K need) (up_from t (suc K - t)) ≡ excess c K need t + sum (excess c K need) (up_from (suc t) (suc K - suc t))
    excess-step t h = let e : suc K - t ≡ suc (suc K - suc t) = omega arith in ap (λ (n : ℕ). sum (excess c K need) (up_from t n)) e

    pub excess-all : summed_excess c K need ≡ sum (excess c K need) (up_from 2 (suc K - 2))
    unfolding summed_excess
    excess-all = let e : suc K - 2 ≡ K - 1 = omega arith in rw e

    -- what finds room at t or above: one number is enough for a loop
    pub served-step : (t : ℕ) → t ≤ K
        → min (virtual_demand c K need t) (virtual_capacity c K t)
        ≡ min (need t + min (virtual_demand c K need (suc t)) (virtual_capacity c K (suc t))) (c t + virtual_capacity c K (suc t))
    served-step t h = omega (arith, demand-step t h, capacity-step t h)

    -- the excess is what is wanted and finds no room
    pub excess-rest : 1 ≤ K → summed_excess c K need + min (virtual_demand c K need 2) (virtual_capacity c K 2) ≡ sum need (up_from 2 (K - 1))
    unfolding summed_excess
    excess-rest h = excess-served 2 (K - 1) (omega arith)

    -- it is the largest lack of any t: what is wanted at t or above, less the capacities there
    pub excess-most : (t n k : ℕ) → t + k + n ≡ suc K → sum need (up_from (t + k) n) ≤ sum (excess c K need) (up_from t (k + n)) + virtual_capacity c K (t + k)
    excess-most t n k h = omega (arith, excess-served (t + k) n (omega arith), sum-suffix (excess c K need) t k n)

    -- at the lowest t whose demand exceeds its capacity the room is all taken; below it nothing is added
    pub excess-cut : (t n : ℕ) → t + n ≡ suc K
        → (m : ℕ) × (p : ℕ) × (t ≤ m) × (m + p ≡ suc K) × (sum (excess c K need) (up_from t n) + virtual_capacity c K m ≡ sum need (up_from m p))
    excess-cut t zero h = (t, zero, omega arith, h, omega (arith, capacity-above t (omega arith)))
    excess-cut t (suc n) h = go (excess-cut (suc t) n (omega arith)) (lt-or-ge (virtual_capacity c K t) (virtual_demand c K need t))
      where
        go : (m : ℕ) × (p : ℕ) × (suc t ≤ m) × (m + p ≡ suc K) × (sum (excess c K need) (up_from (suc t) n) + virtual_capacity c K m ≡ sum need (up_from m p))
            → (virtual_capacity c K t < virtual_demand c K need t) ⊎ (virtual_demand c K need t ≤ virtual_capacity c K t)
            → (m : ℕ) × (p : ℕ) × (t ≤ m) × (m + p ≡ suc K) × (sum (excess c K need) (up_from t (suc n)) + virtual_capacity c K m ≡ sum need (up_from m p))
        go r (inl k) = (t, suc n, omega arith, h, omega (arith, excess-served t (suc n) h))
        go r (inr k) = (r.0, r.1, omega arith, r.3, omega (arith, r.4))

-- ---- a loop from layer K down to 2 that carries the room, what of the demand finds room, and the sum

-- the layers above t are done
pub record Down (c : ℕ → ℕ) (K : ℕ) (need : ℕ → ℕ) (t room served all : ℕ) : Type 0 where
  pub room_is : room ≡ virtual_capacity c K (suc t)
  pub served_is : served ≡ min (virtual_demand c K need (suc t)) (virtual_capacity c K (suc t))
  pub all_is : all ≡ sum (excess c K need) (up_from (suc t) (suc K - suc t))

module _ (c : ℕ → ℕ) (K : ℕ) (need : ℕ → ℕ) where
  pub down-start : Down c K need K 0 0 0
  down-start =
      let e : suc K - suc K ≡ 0 = omega arith in
      record {
        room_is = omega (arith, capacity-above c K (suc K) (omega arith));
        served_is = omega (arith, capacity-above c K (suc K) (omega arith));
        all_is = omega (arith, ap (λ (n : ℕ). sum (excess c K need) (up_from (suc K) n)) e);
      }

  pub down_step : (t room served all : ℕ) → suc t ≤ K → Down c K need (suc t) room served all
      → Down c K need t (room + c (suc t)) (min (need (suc t) + served) (room + c (suc t))) (all + over (room + c (suc t)) (need (suc t) + served))
  down_step t room served all h d = record {
    room_is = omega (arith, d.room_is, capacity-step c K (suc t) h);
    served_is = omega (arith, d.room_is, d.served_is, capacity-step c K (suc t) h, demand-step c K need (suc t) h);
    all_is = omega (arith, d.room_is, d.served_is, d.all_is, capacity-step c K (suc t) h, demand-step c K need (suc t) h, excess-step c K need (suc t) h);
  }

  pub down-done : (room served all : ℕ) → Down c K need 1 room served all → all ≡ summed_excess c K need
  down-done room served all d = d.all_is ∙ sym (excess-all c K need)

-- nothing is wanted, so nothing is in excess
pub excess-none : (c : ℕ → ℕ) (K : ℕ) (need : ℕ → ℕ) → ((l : ℕ) → 2 ≤ l → l ≤ K → need l ≡ 0) → summed_excess c K need ≡ 0
unfolding summed_excess
excess-none c zero need h = refl
excess-none c (suc K) need h =
    omega (
      arith,
      excess-rest c (suc K) need (omega arith),
      sum-zero need (up_from 2 (suc K - 1)) (λ l i. let r = (in-up_from l 2 (suc K - 1)).0 i in h l r.0 (omega arith)),
    )

-- ---- only how often each layer from 2 to K is wanted matters, and the capacities there

module _ (c d need want : ℕ → ℕ) (top : ℕ) (caps : (l : ℕ) → 2 ≤ l → l < top → c l ≡ d l) (wants : (l : ℕ) → 2 ≤ l → l < top → need l ≡ want l) where
  room-eq : (t n : ℕ) → 2 ≤ t → t + n ≤ top → sum c (up_from t n) ≡ sum d (up_from t n)
  room-eq t n h k = sum-eq c d (up_from t n) (λ l i. let r = (in-up_from l t n).0 i in caps l (omega arith) (omega arith))

  demand-eq : (t n : ℕ) → 2 ≤ t → t + n ≤ top → demand_from c need t n ≡ demand_from d want t n
  demand-eq t zero h k = refl
  demand-eq t (suc n) h k =
      omega (arith, wants t h (omega arith), demand-eq (suc t) n (omega arith) (omega arith), room-eq (suc t) n (omega arith) (omega arith))

pub excess-eq : (c d need want : ℕ → ℕ) (K : ℕ) → ((l : ℕ) → 2 ≤ l → l ≤ K → c l ≡ d l) → ((l : ℕ) → 2 ≤ l → l ≤ K → need l ≡ want l)
    → summed_excess c K need ≡ summed_excess d K want
unfolding summed_excess
excess-eq c d need want K caps wants =
    sum-eq (excess c K need) (excess d K want) (up_from 2 (K - 1))
    (λ t i. finish t ((in-up_from t 2 (K - 1)).0 i).0 ((in-up_from t 2 (K - 1)).0 i).1)
  where
    finish : (t : ℕ) → 2 ≤ t → t < 2 + (K - 1) → excess c K need t ≡ excess d K want t
    finish t h k =
        ap₂ over
        (room-eq c d need want (suc K) (λ l a b. caps l a (omega arith)) (λ l a b. wants l a (omega arith)) t (suc K - t) h (omega arith))
        (demand-eq c d need want (suc K) (λ l a b. caps l a (omega arith)) (λ l a b. wants l a (omega arith)) t (suc K - t) h (omega arith))
