-- The root has no layer above it: its least cost is the least over all layers that it could have there.
-- Assumes nothing.
use mathlib.Core.Path.{◌≡◌, sym, ap, ◌∙◌, subst}
use mathlib.Core.List.{List, ◌∷◌, ◌++◌}
use mathlib.Core.Logic.{◌⊎◌, inl, inr}
use Prim.Native.Nat.{ℕ, suc, ◌+◌, ◌-◌, ◌*◌, ◌≤◌, ◌<◌}
use native.Mathlib.Omega.{arith}
use lib.ListN.{get_or}
use Rattle.model.specs.Lists.{up_from}
use Rattle.theory.specs.congestion.Sums.{in_tail, lt-or-ge}
use Rattle.theory.specs.engine.Loops.{comb, Turn}
use Rattle.theory.specs.engine.Span.{span, Covers, span-le, span-hit, covers-cons, covers-append, covers-left, covers-right}
use Rattle.theory.specs.engine.Interval.{least_in, least-in-top}
use Rattle.sets.specs.Mask.{with_layer, mask_of, span_of, IsSet, layers_in, set-with, set-layers-in, mask-price}
use Rattle.costs.specs.Rows.{illegal_cost, combination_cost, layers_tried, LeastCost, TileCosts, root_branches, LayerMask, Shape}
use Rattle.costs.specs.Kept.{tried-le}
use Rattle.costs.specs.Combinations.{covers-comb}
use Rattle.costs.proofs.Runs.{run-low, run-hit}

module _ (w : List ℕ) (o first k K pins : ℕ) (some : 1 ≤ K) (deep : K ≤ 8) (mask : LayerMask K pins) where
  abbrev P : List ℕ
  P = layers_in pins

  set : IsSet pins P
  set = set-layers-in pins mask.small

  covers-P : Covers 1 K P
  covers-P x i = let c = set.covers x i in (c.0, mask.deep x c.0 c.1 (set.back x i))

  price : (z : List ℕ) → Covers 1 K z → span_of (mask_of pins z) ≡ span (λ l. l) (P ++ z)
  price z c = mask-price pins P z (λ x i. ((c x i).0, omega (arith, (c x i).1))) set

  price-with : (l : ℕ) → 1 ≤ l → l ≤ K → (z : List ℕ) → Covers 1 K z → span_of (mask_of (with_layer pins l) z) ≡ span (λ t. t) ((l ∷ P) ++ z)
  price-with l p q z c =
      mask-price (with_layer pins l) (l ∷ P) z (λ x i. ((c x i).0, omega (arith, (c x i).1))) (set-with pins l mask.small p (omega arith) P set)

  -- a layer more makes no tile cheaper
  grows : (l : ℕ) → 1 ≤ l → l ≤ K → (z : List ℕ) → Covers 1 K z → span_of (mask_of pins z) ≤ span_of (mask_of (with_layer pins l) z)
  grows l p q z c =
      let h = span-hit (λ t. t) 1 K some ((l ∷ P) ++ z) (covers-append 1 K (l ∷ P) z (covers-cons 1 K l P p q covers-P) c) in
      let a = h.2.3 in
      let le = span-le (λ t. t) (λ x y g. g) h.0 h.1 (P ++ z)
      (covers-append h.0 h.1 P z (λ x i. covers-left h.0 h.1 (l ∷ P) z a x (in_tail x l P i)) (covers-right h.0 h.1 (l ∷ P) z a)) in
      omega (arith, price z c, price-with l p q z c, h.3, le)

  -- and one layer more makes it no dearer
  stays : (z : List ℕ) → Covers 1 K z → (l : ℕ) × (1 ≤ l) × (l ≤ K) × (span_of (mask_of (with_layer pins l) z) ≤ span_of (mask_of pins z))
  stays z c =
      let h = span-hit (λ t. t) 1 K some (P ++ z) (covers-append 1 K P z covers-P c) in
      finish h.0 h.1 h.2.0 h.2.1 h.2.2 h.2.3 h.3
    where
      finish : (a b : ℕ) → 1 ≤ a → a ≤ b → b ≤ K → Covers a b (P ++ z) → span (λ t. t) (P ++ z) ≡ b - a
          → (l : ℕ) × (1 ≤ l) × (l ≤ K) × (span_of (mask_of (with_layer pins l) z) ≤ span_of (mask_of pins z))
      finish a b p q r s e =
          let le = span-le (λ t. t) (λ x y g. g) a b ((a ∷ P) ++ z)
          (covers-append a b (a ∷ P) z (covers-cons a b a P (omega arith) q (covers-left a b P z s)) (covers-right a b P z s)) in
          (a, p, omega arith, omega (arith, price z c, price-with a p (omega arith) z c, le, e))

  module _ (c : List ℕ) (costs : TileCosts w o first k K pins c) where
    abbrev v : ℕ
    v = least_in illegal_cost (λ t. get_or c t 0) (up_from 0 K)

    covers-turn : (a b d : ℕ) → Turn (layers_tried 1 k K) (layers_tried 2 k K) (layers_tried 3 k K) a b d → Covers 1 K (comb k a b d)
    covers-turn a b d t =
        covers-comb 1 K k a b d (t.0, omega (arith, t.1, tried-le 1 k K some)) (t.2, omega (arith, t.3, tried-le 2 k K some))
        (t.4, omega (arith, t.5, tried-le 3 k K some))

    low : (a b d : ℕ) → Turn (layers_tried 1 k K) (layers_tried 2 k K) (layers_tried 3 k K) a b d → v ≤ combination_cost w o first k pins a b d
    low a b d t =
        let l = stays (comb k a b d) (covers-turn a b d t) in
        omega (
          arith,
          run-low illegal_cost (λ x. get_or c x 0) 0 K (l.0 - 1) (omega arith) (omega (arith, l.1, l.2)),
          (costs l.0 l.1 l.2).low a b d t,
          l.3,
        )

    pub root-is-least : LeastCost w o first k K pins v
    root-is-least = record { low = low; hit = go (lt-or-ge v illegal_cost) }
      where
        Hit : ℕ → ℕ → Type 0
        Hit base u =
            (u ≡ illegal_cost)
            ⊎ ((a : ℕ) × (b : ℕ) × (d : ℕ) × Turn (layers_tried 1 k K) (layers_tried 2 k K) (layers_tried 3 k K) a b d × (combination_cost w o first k base a b d ≡ u))

        last : (t : ℕ) → t < 0 + K → get_or c t 0 ≡ v → v < illegal_cost → Hit (with_layer pins (suc t)) (get_or c (suc t - 1) 0) → Hit pins v
        last t p e h (inl f) = let i : suc t - 1 ≡ t = omega arith in absurd (omega (arith, f, e, h, ap (λ (x : ℕ). get_or c x 0) i))
        last t p e h (inr (a, b, d, u, f)) =
            let i : suc t - 1 ≡ t = omega arith in
            inr (a, b, d, u, omega (arith, f, e, ap (λ (x : ℕ). get_or c x 0) i, low a b d u, grows (suc t) (omega arith) (omega arith) (comb k a b d) (covers-turn a b d u)))

        go : (v < illegal_cost) ⊎ (illegal_cost ≤ v) → Hit pins v
        go (inl h) =
            let r = run-hit illegal_cost (λ t. get_or c t 0) 0 K h in
            last r.0 r.2 r.3 h (costs (suc r.0) (omega arith) (omega (arith, r.2))).hit
        go (inr h) = inl (omega (arith, h, least-in-top illegal_cost (λ t. get_or c t 0) (up_from 0 K)))

-- the root from the numbers as code reads them
pub root-least-is : (w c : List ℕ) (m n K end pins v : ℕ) → Shape w m n K → end ≡ get_or w 0 0 → pins ≡ get_or w m 0 → TileCosts w (4 * m) 1 (end - 1) K pins c
    → v ≡ least_in illegal_cost (λ t. get_or c t 0) (up_from 0 K) → LeastCost w (4 * m) 1 (root_branches w) K (get_or w m 0) v
root-least-is w c m n K end pins v s ee ep t e =
    let i : m + 0 ≡ m = omega arith in
    let mask : LayerMask K pins = subst (λ (x : ℕ). LayerMask K x) (ap (λ (x : ℕ). get_or w x 0) i ∙ sym ep) (s.pins 0 s.tiles) in
    rw (← ee, ← ep, e) (root-is-least w (4 * m) 1 (end - 1) K pins s.some s.deep mask c t)
