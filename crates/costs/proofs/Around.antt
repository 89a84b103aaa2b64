-- The least cost over the intervals around a layer and the pins is the least cost over combinations.
-- Assumes nothing.
use mathlib.Core.Path.{◌≡◌, refl, sym, ap, ◌∙◌, subst}
use mathlib.Core.List.{List, [], ◌∷◌, ◌++◌}
use mathlib.Core.Bool.{Bool, true, false, cond}
use mathlib.Core.Logic.{◌⊎◌, inl, inr, ⊎_elim}
use Prim.Native.Nat.{ℕ, zero, suc, ◌+◌, ◌-◌, ◌*◌, ◌≤◌, ◌<◌, min}
use native.Mathlib.Omega.{arith}
use lib.Dec.{T, leb, leb→le, le→leb}
use lib.ListN.{get_or, length}
use Rattle.model.specs.Lists.{up_from}
use Rattle.theory.specs.congestion.Sums.{In, in_head, in_tail, lt-or-ge}
use Rattle.theory.specs.engine.Branches.{below}
use Rattle.theory.specs.engine.Loops.{comb, Turn}
use Rattle.theory.specs.engine.Span.{span, Covers, Around, span-le, span-hit, covers-cons, covers-append, covers-left, covers-right}
use Rattle.theory.specs.engine.Interval.{least-in-top}
use Rattle.sets.specs.Mask.{has, with_layer, mask_of, span_of, IsSet, layers_in, set-with, set-layers-in, mask-price}
use Rattle.costs.specs.Rows.{illegal_cost, row_at, combination_cost, layers_tried, LeastCost, LayerMask}
use Rattle.costs.specs.Kept.{tried-le}
use Rattle.costs.specs.Combinations.{comb-length, covers-none, covers-comb, choice-turn}
use Rattle.costs.specs.Intervals.{least_over, within, branch_sum, interval, least_end, around, PinEnds}
use Rattle.costs.proofs.Runs.{run-low, run-hit}

-- ---- one branch on the layers s to e

module _ (w : List ℕ) (o first c i s e : ℕ) (place : first + c ≡ i) where
  pub branch-low : (l : ℕ) → suc s ≤ l → l ≤ suc e → within w (o + 8 * (first + c)) s e ≤ row_at w o i l
  unfolding least_over
  branch-low l p q =
      let x : o + 8 * (first + c) + (l - 1) ≡ o + 8 * i + (l - 1) = omega arith in
      omega (
        arith,
        run-low illegal_cost (λ t. get_or w (o + 8 * (first + c) + t) 0) s (e + 1 - s) (l - 1) (omega arith) (omega arith),
        ap (λ (t : ℕ). get_or w t 0) x,
      )

  pub branch-hit : within w (o + 8 * (first + c)) s e < illegal_cost → (l : ℕ) × (suc s ≤ l) × (l ≤ suc e) × (row_at w o i l ≡ within w (o + 8 * (first + c)) s e)
  unfolding least_over
  branch-hit h =
      let r = run-hit illegal_cost (λ t. get_or w (o + 8 * (first + c) + t) 0) s (e + 1 - s) h in
      let x : o + 8 * i + (suc r.0 - 1) ≡ o + 8 * (first + c) + r.0 = omega arith in
      (suc r.0, omega (arith, r.1), omega (arith, r.1, r.2), ap (λ (t : ℕ). get_or w t 0) x ∙ r.3)

pub over-top : (w : List ℕ) (at s n : ℕ) → least_over w at s n ≤ illegal_cost
unfolding least_over
over-top w at s n = least-in-top illegal_cost (λ t. get_or w (at + t) 0) (up_from s n)

pub sum_top : (w : List ℕ) (o first k s e : ℕ) → branch_sum w o first k s e ≤ k * illegal_cost
sum_top w o first zero s e = omega arith
sum_top w o first (suc k) s e = omega (arith, sum_top w o first k s e, over-top w (o + 8 * (first + k)) s (e + 1 - s))

-- ---- the branches together

module _ (w : List ℕ) (o first s e : ℕ) where
  sum_low : (z : List ℕ) → length z ≤ 3 → Covers (suc s) (suc e) z → branch_sum w o first (length z) s e ≤ below (row_at w o) first z
  sum_low [] few h = omega arith
  sum_low (a ∷ []) few h =
      let p = h a (in_head a []) in
      omega (arith, branch-low w o first 0 first s e (omega arith) a p.0 p.1)
  sum_low (a ∷ b ∷ []) few h =
      let p = h a (in_head a (b ∷ [])) in
      let q = h b (in_tail b a (b ∷ []) (in_head b [])) in
      omega (arith, branch-low w o first 0 first s e (omega arith) a p.0 p.1, branch-low w o first 1 (suc first) s e (omega arith) b q.0 q.1)
  sum_low (a ∷ b ∷ c ∷ []) few h =
      let p = h a (in_head a (b ∷ c ∷ [])) in
      let q = h b (in_tail b a (b ∷ c ∷ []) (in_head b (c ∷ []))) in
      let r = h c (in_tail c a (b ∷ c ∷ []) (in_tail c b (c ∷ []) (in_head c []))) in
      omega (
        arith,
        branch-low w o first 0 first s e (omega arith) a p.0 p.1,
        branch-low w o first 1 (suc first) s e (omega arith) b q.0 q.1,
        branch-low w o first 2 (suc (suc first)) s e (omega arith) c r.0 r.1,
      )
  sum_low (a ∷ b ∷ c ∷ d ∷ z) few h = absurd (omega arith)

  sum-hit : (k : ℕ) → k ≤ 3 → branch_sum w o first k s e < illegal_cost
      → (z : List ℕ) × (length z ≡ k) × Covers (suc s) (suc e) z × (below (row_at w o) first z ≡ branch_sum w o first k s e)
  sum-hit zero few h = ([], refl, covers-none (suc s) (suc e), refl)
  sum-hit (suc zero) few h =
      let p = branch-hit w o first 0 first s e (omega arith) (omega arith) in
      (p.0 ∷ [], refl, covers-cons (suc s) (suc e) p.0 [] p.1 p.2 (covers-none (suc s) (suc e)), omega (arith, p.3))
  sum-hit (suc (suc zero)) few h =
      let p = branch-hit w o first 0 first s e (omega arith) (omega arith) in
      let q = branch-hit w o first 1 (suc first) s e (omega arith) (omega arith) in (
        p.0 ∷ q.0 ∷ [],
        refl,
        covers-cons (suc s) (suc e) p.0 (q.0 ∷ []) p.1 p.2 (covers-cons (suc s) (suc e) q.0 [] q.1 q.2 (covers-none (suc s) (suc e))),
        omega (arith, p.3, q.3),
      )
  sum-hit (suc (suc (suc zero))) few h =
      let p = branch-hit w o first 0 first s e (omega arith) (omega arith) in
      let q = branch-hit w o first 1 (suc first) s e (omega arith) (omega arith) in
      let r = branch-hit w o first 2 (suc (suc first)) s e (omega arith) (omega arith) in (
        p.0 ∷ q.0 ∷ r.0 ∷ [],
        refl,
        covers-cons (suc s) (suc e) p.0 (q.0 ∷ r.0 ∷ []) p.1 p.2
            (covers-cons (suc s) (suc e) q.0 (r.0 ∷ []) q.1 q.2 (covers-cons (suc s) (suc e) r.0 [] r.1 r.2 (covers-none (suc s) (suc e)))),
        omega (arith, p.3, q.3, r.3),
      )
  sum-hit (suc (suc (suc (suc k)))) few h = absurd (omega arith)

-- ---- the ends and the starts

module _ (v : ℕ → ℕ) (K high b : ℕ) where
  end_low : (e : ℕ) → b ≤ e → e < K → high ≤ e → least_end v K high b ≤ v e
  unfolding least_end
  end_low e p q r =
      go (leb high e) refl (run-low illegal_cost (λ x. cond (leb high x) (v x) illegal_cost) b (K - b) e p (omega arith))
    where
      go : (t : Bool) → leb high e ≡ t → least_end v K high b ≤ cond (leb high e) (v e) illegal_cost → least_end v K high b ≤ v e
      go true x h = rw x at h
      go false x h = absurd (subst (λ (y : Bool). T y) x (le→leb high e r))

  end-hit : least_end v K high b < illegal_cost → (e : ℕ) × (b ≤ e) × (e < K) × (high ≤ e) × (v e ≡ least_end v K high b)
  unfolding least_end
  end-hit h =
      let r = run-hit illegal_cost (λ x. cond (leb high x) (v x) illegal_cost) b (K - b) h in
      go r.0 r.1 (omega (arith, r.1, r.2)) (leb high r.0) refl r.3
    where
      go : (e : ℕ) → b ≤ e → e < K → (t : Bool) → leb high e ≡ t → cond (leb high e) (v e) illegal_cost ≡ least_end v K high b
          → (e : ℕ) × (b ≤ e) × (e < K) × (high ≤ e) × (v e ≡ least_end v K high b)
      go e p q true x y = (e, p, q, leb→le high e (subst (λ (s : Bool). T s) (sym x) tt), rw x at y)
      go e p q false x y = let z = rw x at y in absurd (omega (arith, z, h))

module _ (w : List ℕ) (o first k K starts high b : ℕ) where
  around-low : (s : ℕ) → s < starts → s ≤ b → around w o first k K starts high b ≤ least_end (interval w o first k s) K high b
  unfolding around
  around-low s p q = run-low illegal_cost (λ t. least_end (interval w o first k t) K high b) 0 (min starts (suc b)) s (omega arith) (omega arith)

  around-hit : around w o first k K starts high b < illegal_cost
      → (s : ℕ) × (s < starts) × (s ≤ b) × (least_end (interval w o first k s) K high b ≡ around w o first k K starts high b)
  unfolding around
  around-hit h =
      let r = run-hit illegal_cost (λ t. least_end (interval w o first k t) K high b) 0 (min starts (suc b)) h in
      (r.0, omega (arith, r.2), omega (arith, r.2), r.3)

  pub around-top : around w o first k K starts high b ≤ illegal_cost
  unfolding around
  around-top = least-in-top illegal_cost (λ t. least_end (interval w o first k t) K high b) (up_from 0 (min starts (suc b)))

interval-is : (w : List ℕ) (o first k s e : ℕ) → interval w o first k s e ≡ (e - s) + branch_sum w o first k s e
unfolding interval
interval-is w o first k s e = refl

-- ---- combinations as lists

module _ (w : List ℕ) (o first k K base v : ℕ) (few : k ≤ 3) (some : 1 ≤ K)
    (low-z : (z : List ℕ) → length z ≡ k → Covers 1 K z → v ≤ span_of (mask_of base z) + below (row_at w o) first z)
    (hit-z : v < illegal_cost → (z : List ℕ) × (length z ≡ k) × Covers 1 K z × (span_of (mask_of base z) + below (row_at w o) first z ≡ v))
    (top : v ≤ illegal_cost) where
  pub by-lists : LeastCost w o first k K base v
  by-lists = record {
    low = λ a' b' c' t.
        low-z (comb k a' b' c') (comb-length k a' b' c' few)
        (covers-comb 1 K k a' b' c' (t.0, omega (arith, t.1, tried-le 1 k K some)) (t.2, omega (arith, t.3, tried-le 2 k K some))
        (t.4, omega (arith, t.5, tried-le 3 k K some)));
    hit = go (lt-or-ge v illegal_cost);
  }
    where
      Hit : Type 0
      Hit = (v ≡ illegal_cost) ⊎ ((a' : ℕ) × (b' : ℕ) × (c' : ℕ) × Turn (layers_tried 1 k K) (layers_tried 2 k K) (layers_tried 3 k K) a' b' c' × (combination_cost w o first k base a' b' c' ≡ v))

      turn : (z : List ℕ) → length z ≡ k → Covers 1 K z → span_of (mask_of base z) + below (row_at w o) first z ≡ v → Hit
      turn z n c e =
          let t = choice-turn K z some (omega (arith, n)) c in
          inr (
            t.0,
            t.1,
            t.2,
            subst (λ (x : ℕ). Turn (layers_tried 1 x K) (layers_tried 2 x K) (layers_tried 3 x K) t.0 t.1 t.2) n t.3,
            ap (λ (l : List ℕ). span_of (mask_of base l) + below (row_at w o) first l)
                (ap (λ (x : ℕ). comb x t.0 t.1 t.2) (sym n) ∙ t.4)
                ∙ e,
          )

      go : (v < illegal_cost) ⊎ (illegal_cost ≤ v) → Hit
      go (inl h) = let r = hit-z h in turn r.0 r.1 r.2 r.3
      go (inr h) = inl (omega (arith, h, top))

-- ---- the law

module _ (w : List ℕ) (o first k K pins starts high b : ℕ) (few : k ≤ 3) (some : 1 ≤ K) (deep : K ≤ 8) (mask : LayerMask K pins) (ends : PinEnds K pins starts high)
    (inside : b < K) where
  abbrev S : List ℕ
  S = suc b ∷ layers_in pins

  abbrev base : ℕ
  base = with_layer pins (suc b)

  abbrev v : ℕ
  v = around w o first k K starts high b

  pins-set : IsSet pins (layers_in pins)
  pins-set = set-layers-in pins mask.small

  pin-in : (l : ℕ) → 1 ≤ l → l ≤ 8 → T (has pins l) → In l S
  pin-in l p q t = in_tail l (suc b) (layers_in pins) (pins-set.into l p q t)

  covers-S : Covers 1 K S
  covers-S =
      covers-cons 1 K (suc b) (layers_in pins) (omega arith) (omega arith)
      (λ x i. let c = pins-set.covers x i in (c.0, mask.deep x c.0 c.1 (pins-set.back x i)))

  price : (z : List ℕ) → Covers 1 K z → span_of (mask_of base z) ≡ span (λ l. l) (S ++ z)
  price z c =
      mask-price base S z (λ x i. ((c x i).0, omega (arith, (c x i).1)))
      (set-with pins (suc b) mask.small (omega arith) (omega arith) (layers_in pins) pins-set)

  low-z : (z : List ℕ) → length z ≡ k → Covers 1 K z → v ≤ span_of (mask_of base z) + below (row_at w o) first z
  low-z z n c =
      let h = span-hit (λ l. l) 1 K some (S ++ z) (covers-append 1 K S z covers-S c) in
      finish h.0 h.1 h.2 h.3
    where
      finish : (x y : ℕ) → Around 1 K (S ++ z) x y → span (λ l. l) (S ++ z) ≡ y - x → v ≤ span_of (mask_of base z) + below (row_at w o) first z
      finish x y r q =
          let cs = covers-left x y S z r.3 in
          let cb = cs (suc b) (in_head (suc b) (layers_in pins)) in
          let starts-ok : x - 1 < starts =
          ⊎_elim (λ t. omega (arith, t, r.0, r.1, r.2))
          (λ t. omega (arith, r.0, cs starts (pin-in starts ends.some (omega (arith, ends.deep)) t))) ends.starts_at in
          let high-ok : high ≤ y - 1 =
          ⊎_elim (λ t. omega (arith, t)) (λ t. omega (arith, cs (suc high) (pin-in (suc high) (omega arith) (omega (arith, ends.top)) t))) ends.ends_at in
          let cz : Covers (suc (x - 1)) (suc (y - 1)) z =
          (λ l i. let p = covers-right x y S z r.3 l i in (omega (arith, p.0, r.0), omega (arith, p.1, r.0, r.1))) in
          let sums = sum_low w o first (x - 1) (y - 1) z (omega (arith, n)) cz in
          omega (
            arith,
            price z c,
            q,
            around-low w o first k K starts high b (x - 1) starts-ok (omega (arith, cb.0, r.0)),
            end_low (interval w o first k (x - 1)) K high b (y - 1) (omega (arith, cb.1)) (omega (arith, r.0, r.1, r.2)) high-ok,
            interval-is w o first k (x - 1) (y - 1),
            subst (λ (t : ℕ). branch_sum w o first t (x - 1) (y - 1) ≤ below (row_at w o) first z) n sums,
            r.0,
            r.1,
          )

  hit-z : v < illegal_cost → (z : List ℕ) × (length z ≡ k) × Covers 1 K z × (span_of (mask_of base z) + below (row_at w o) first z ≡ v)
  hit-z h =
      let r = around-hit w o first k K starts high b h in
      let q = end-hit (interval w o first k r.0) K high b (omega (arith, r.3, h)) in
      finish r.0 q.0 r.1 r.2 q.1 q.2 q.3 (interval-is w o first k r.0 q.0) (q.4 ∙ r.3)
    where
      finish : (s e : ℕ) → s < starts → s ≤ b → b ≤ e → e < K → high ≤ e → interval w o first k s e ≡ (e - s) + branch_sum w o first k s e
          → interval w o first k s e ≡ v → (z : List ℕ) × (length z ≡ k) × Covers 1 K z × (span_of (mask_of base z) + below (row_at w o) first z ≡ v)
      finish s e p₁ p₂ p₃ p₄ p₅ x y =
          let t = sum-hit w o first s e k few (omega (arith, x, y, h)) in
          let c : Covers 1 K t.0 = (λ l i. let a = t.2 l i in (omega (arith, a.0), omega (arith, a.1))) in
          let cs : Covers (suc s) (suc e) S =
          covers-cons (suc s) (suc e) (suc b) (layers_in pins) (omega arith) (omega arith)
          (λ l i. let a = pins-set.covers l i in let u = ends.low l a.0 a.1 (pins-set.back l i) in (omega (arith, u.0), omega (arith, u.1))) in
          let le = span-le (λ l. l) (λ a b' g. g) (suc s) (suc e) (S ++ t.0) (covers-append (suc s) (suc e) S t.0 cs t.2) in
          (t.0, t.1, c, omega (arith, price t.0 c, le, t.3, x, y, low-z t.0 t.1 c))

  pub around-least : LeastCost w o first k K base v
  around-least = by-lists w o first k K base v few some low-z hit-z (around-top w o first k K starts high b)
