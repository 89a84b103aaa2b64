-- What the sweeps and the meetings find for a tile is its least cost over combinations: theory engine/Meeting has it over layers counted from 0 and the set of
-- their layers; here the same layers are counted from 1 and stand in a mask.
-- Assumes nothing.
use mathlib.Core.Path.{◌≡◌, refl, sym, ap, ◌∙◌, subst}
use mathlib.Core.List.{List, [], ◌∷◌, ◌++◌, map}
use mathlib.Core.Logic.{inr, ⊎_elim}
use Prim.Native.Nat.{ℕ, suc, ◌+◌, ◌-◌, ◌*◌, ◌≤◌, ◌<◌}
use native.Mathlib.Omega.{arith}
use lib.ListN.{get_or, length, length-map}
use Rattle.theory.specs.congestion.Sums.{In, same_refl, same_cases, in_head, in_tail}
use Rattle.theory.specs.engine.Branches.{below}
use Rattle.theory.specs.engine.Span.{span, Covers, covers-cons, span_set, span-shift}
use Rattle.theory.specs.engine.Sweeps.{apart}
use Rattle.theory.proofs.engine.Swept.{swept-top}
use Rattle.theory.proofs.engine.Meeting as any
use Rattle.sets.specs.Mask.{with_layer, mask_of, span_of, IsSet, set-none, set-with, mask-price}
use Rattle.costs.specs.Rows.{illegal_cost, row_at, LeastCost}
use Rattle.costs.specs.Combinations.{covers-none}
use Rattle.costs.specs.Sweeps.{swept, met, pair_met, triple_met}
use Rattle.costs.proofs.Around.{by-lists}
use Rattle.costs.proofs.Steps.{climbs}

-- ---- layers counted from 0

-- the cost of a tile at layer t, counted from 0
abbrev from_zero : List ℕ → ℕ → ℕ → ℕ → ℕ
from_zero w o i t = get_or w (o + 8 * i + t) 0

below-shift : (w : List ℕ) (o first : ℕ) (y : List ℕ) → below (row_at w o) first (map suc y) ≡ below (from_zero w o) first y
below-shift w o first [] = refl
below-shift w o first (t ∷ y) =
    let e : o + 8 * first + (suc t - 1) ≡ o + 8 * first + t = omega arith in
    omega (arith, ap (λ (x : ℕ). get_or w x 0) e, below-shift w o (suc first) y)

map-append : (xs ys : List ℕ) → map suc (xs ++ ys) ≡ map suc xs ++ map suc ys
map-append [] ys = refl
map-append (x ∷ xs) ys = ap {B = List ℕ} (λ r. suc x ∷ r) (map-append xs ys)

covers_up : (K : ℕ) (y : List ℕ) → ((x : ℕ) → In x y → x < K) → Covers 1 K (map suc y)
covers_up K [] h = covers-none 1 K
covers_up K (x ∷ y) h = covers-cons 1 K (suc x) (map suc y) (omega arith) (h x (in_head x y)) (covers_up K y (λ t i. h t (in_tail t x y i)))

more-below : (a K : ℕ) (y : List ℕ) → a < K → ((x : ℕ) → In x y → x < K) → (x : ℕ) → In x (a ∷ y) → x < K
more-below a K y p h x i = ⊎_elim (λ s. omega (arith, s.0)) (λ s. h x (omega (arith, s.1))) (same_cases x a)

one_below : (a K : ℕ) → a < K → (x : ℕ) → In x (a ∷ []) → x < K
one_below a K h = more-below a K [] h (λ x i. absurd (omega arith))

-- a list of layers from 1 to K, counted from 0
down : (K : ℕ) (z : List ℕ) → Covers 1 K z → (y : List ℕ) × (map suc y ≡ z) × ((x : ℕ) → In x y → x < K)
down K [] c = ([], refl, λ x i. absurd (omega arith))
down K (a ∷ z) c = finish (down K z (λ x i. c x (in_tail x a z i))) (c a (in_head a z))
  where
    finish : (y : List ℕ) × (map suc y ≡ z) × ((x : ℕ) → In x y → x < K) → (1 ≤ a) × (a ≤ K) → (y : List ℕ) × (map suc y ≡ a ∷ z) × ((x : ℕ) → In x y → x < K)
    finish (y, e, h) p =
        let f : suc (a - 1) ≡ a = omega arith in (
          (a - 1) ∷ y,
          ap {B = List ℕ} (λ r. suc (a - 1) ∷ r) e ∙ ap {B = List ℕ} (λ b. b ∷ z) f,
          more-below (a - 1) K y (omega arith) h,
        )

-- ---- the least cost, by layers from 0: the mask `base` is the set S, counted from 0 too

module _ (w : List ℕ) (o first k K base v : ℕ) (few : k ≤ 3) (some : 1 ≤ K) (deep : K ≤ 8) (S : List ℕ) (set : IsSet base (map suc S)) where
  cost-is : (y : List ℕ) → ((x : ℕ) → In x y → x < K)
      → span_of (mask_of base (map suc y)) + below (row_at w o) first (map suc y) ≡ span suc (S ++ y) + below (from_zero w o) first y
  cost-is y h =
      let c = covers_up K y h in
      omega (
        arith,
        mask-price base (map suc S) (map suc y) (λ x i. ((c x i).0, omega (arith, (c x i).1))) set,
        ap (span (λ l. l)) (map-append S y),
        span-shift (λ l. l) (S ++ y),
        below-shift w o first y,
      )

  least-from-zero : ((y : List ℕ) → length y ≡ k → ((x : ℕ) → In x y → x < K) → v ≤ span suc (S ++ y) + below (from_zero w o) first y)
      → (v < illegal_cost → (y : List ℕ) × (length y ≡ k) × ((x : ℕ) → In x y → x < K) × (span suc (S ++ y) + below (from_zero w o) first y ≡ v))
      → v ≤ illegal_cost → LeastCost w o first k K base v
  least-from-zero low hit top = by-lists w o first k K base v few some low-z hit-z top
    where
      low-z : (z : List ℕ) → length z ≡ k → Covers 1 K z → v ≤ span_of (mask_of base z) + below (row_at w o) first z
      low-z z n c =
          let d = down K z c in
          subst (λ (l : List ℕ). v ≤ span_of (mask_of base l) + below (row_at w o) first l) d.1
          (omega (arith, cost-is d.0 d.2, low d.0 (sym (length-map d.0 suc) ∙ ap length d.1 ∙ n) d.2))

      hit-z : v < illegal_cost → (z : List ℕ) × (length z ≡ k) × Covers 1 K z × (span_of (mask_of base z) + below (row_at w o) first z ≡ v)
      hit-z h = let r = hit h in (map suc r.0, length-map r.0 suc ∙ r.1, covers_up K r.0 r.2, cost-is r.0 r.2 ∙ r.3)

-- ---- the tile's costs

module _ (w : List ℕ) (o first K l : ℕ) (deep : K ≤ 8) (inside : l < K) where
  -- the branches' costs, as code reads them
  abbrev row₁ : ℕ → ℕ
  row₁ t = get_or w (o + 8 * first + t) 0

  abbrev row₂ : ℕ → ℕ
  row₂ t = get_or w (o + 8 * first + 8 + t) 0

  abbrev row₃ : ℕ → ℕ
  row₃ t = get_or w (o + 8 * first + 16 + t) 0

  row₂-at : (t : ℕ) → row₂ t ≡ from_zero w o (suc first) t
  row₂-at t = let i : o + 8 * first + 8 + t ≡ o + 8 * suc first + t = omega arith in ap (λ (x : ℕ). get_or w x 0) i

  row₃-at : (t : ℕ) → row₃ t ≡ from_zero w o (suc (suc first)) t
  row₃-at t = let i : o + 8 * first + 16 + t ≡ o + 8 * suc (suc first) + t = omega arith in ap (λ (x : ℕ). get_or w x 0) i

  alone : IsSet (with_layer 0 (suc l)) (suc l ∷ [])
  alone = set-with 0 (suc l) (omega arith) (omega arith) (omega arith) [] set-none

  -- one branch and no pin
  pub swept-least : LeastCost w o first 1 K (with_layer 0 (suc l)) (swept row₁ K l)
  swept-least = least-from-zero w o first 1 K (with_layer 0 (suc l)) (swept row₁ K l) (omega arith) (omega arith) deep (l ∷ []) alone low hit (swept-top suc climbs illegal_cost row₁ K l inside)
    where
      low : (y : List ℕ) → length y ≡ 1 → ((x : ℕ) → In x y → x < K) → swept row₁ K l ≤ span suc (l ∷ y) + below (from_zero w o) first y
      low [] n h = absurd (omega arith)
      low (a ∷ []) n h = omega (arith, any.one-least suc climbs illegal_cost row₁ K l inside a (h a (in_head a [])))
      low (a ∷ b ∷ y) n h = absurd (omega arith)

      hit : swept row₁ K l < illegal_cost → (y : List ℕ) × (length y ≡ 1) × ((x : ℕ) → In x y → x < K) × (span suc (l ∷ y) + below (from_zero w o) first y ≡ swept row₁ K l)
      hit e = let r = any.one-reached suc climbs illegal_cost row₁ K l inside e in (r.0 ∷ [], refl, one_below r.0 K r.1, omega (arith, r.2))

  -- two branches and no pin
  pub pair-least : LeastCost w o first 2 K (with_layer 0 (suc l)) (pair_met row₁ row₂ K l)
  pair-least = least-from-zero w o first 2 K (with_layer 0 (suc l)) (pair_met row₁ row₂ K l) (omega arith) (omega arith) deep (l ∷ []) alone low hit
      (any.met-top suc climbs illegal_cost (swept row₁ K) (swept row₂ K) K l inside)
    where
      low : (y : List ℕ) → length y ≡ 2 → ((x : ℕ) → In x y → x < K) → pair_met row₁ row₂ K l ≤ span suc (l ∷ y) + below (from_zero w o) first y
      low [] n h = absurd (omega arith)
      low (a ∷ []) n h = absurd (omega arith)
      low (a ∷ b ∷ []) n h =
          omega (
            arith,
            any.pair-least suc climbs illegal_cost row₁ row₂ K l a b inside (h a (in_head a (b ∷ []))) (h b (omega (arith, same_refl b))),
            row₂-at b,
          )
      low (a ∷ b ∷ c ∷ y) n h = absurd (omega arith)

      hit : pair_met row₁ row₂ K l < illegal_cost
          → (y : List ℕ) × (length y ≡ 2) × ((x : ℕ) → In x y → x < K) × (span suc (l ∷ y) + below (from_zero w o) first y ≡ pair_met row₁ row₂ K l)
      hit e =
          let r = any.pair-reached suc climbs illegal_cost row₁ row₂ K l inside e in
          (r.0 ∷ r.1 ∷ [], refl, more-below r.0 K (r.1 ∷ []) r.2 (one_below r.1 K r.3), omega (arith, r.4, row₂-at r.1))

  -- three branches and no pin
  pub triple-least : LeastCost w o first 3 K (with_layer 0 (suc l)) (triple_met row₁ row₂ row₃ K l)
  triple-least = least-from-zero w o first 3 K (with_layer 0 (suc l)) (triple_met row₁ row₂ row₃ K l) (omega arith) (omega arith) deep (l ∷ []) alone low hit
      (any.triple-top suc climbs illegal_cost row₁ row₂ row₃ K l inside)
    where
      low : (y : List ℕ) → length y ≡ 3 → ((x : ℕ) → In x y → x < K) → triple_met row₁ row₂ row₃ K l ≤ span suc (l ∷ y) + below (from_zero w o) first y
      low [] n h = absurd (omega arith)
      low (a ∷ []) n h = absurd (omega arith)
      low (a ∷ b ∷ []) n h = absurd (omega arith)
      low (a ∷ b ∷ c ∷ []) n h =
          omega (
            arith,
            any.triple-least suc climbs illegal_cost row₁ row₂ row₃ K l inside a b c (h a (in_head a (b ∷ c ∷ []))) (h b (omega (arith, same_refl b))) (h c (omega (arith, same_refl c))),
            row₂-at b,
            row₃-at c,
          )
      low (a ∷ b ∷ c ∷ d ∷ y) n h = absurd (omega arith)

      hit : triple_met row₁ row₂ row₃ K l < illegal_cost
          → (y : List ℕ) × (length y ≡ 3) × ((x : ℕ) → In x y → x < K) × (span suc (l ∷ y) + below (from_zero w o) first y ≡ triple_met row₁ row₂ row₃ K l)
      hit e =
          let r = any.triple-reached suc climbs illegal_cost row₁ row₂ row₃ K l inside e in (
            r.0 ∷ r.1 ∷ r.2 ∷ [],
            refl,
            more-below r.0 K (r.1 ∷ r.2 ∷ []) r.3 (more-below r.1 K (r.2 ∷ []) r.4 (one_below r.2 K r.5)),
            omega (arith, r.6, row₂-at r.1, row₃-at r.2),
          )

  -- one branch, and pins that are all on one layer p
  module _ (pins p : ℕ) (below-K : p < K) (pin : IsSet pins (suc p ∷ [])) where
    abbrev leaf : ℕ → ℕ
    leaf t = span_of (with_layer pins (suc t))

    both : (t : ℕ) → t < K → IsSet (with_layer pins (suc t)) (suc t ∷ suc p ∷ [])
    both t q = set-with pins (suc t) pin.small (omega arith) (omega arith) (suc p ∷ []) pin

    leaf-is : (t : ℕ) → t < K → leaf t ≡ apart suc p t
    leaf-is t q = mask-price (with_layer pins (suc t)) (suc t ∷ suc p ∷ []) [] (covers-none 1 8) (both t q) ∙ span-shift (λ x. x) (t ∷ p ∷ []) ∙ any.two-price suc climbs t p

    pub pin-least : LeastCost w o first 1 K (with_layer pins (suc l)) (met (swept row₁ K) leaf K l)
    pin-least = least-from-zero w o first 1 K (with_layer pins (suc l)) (met (swept row₁ K) leaf K l) (omega arith) (omega arith) deep (l ∷ p ∷ []) (both l inside) low hit
        (any.met-top suc climbs illegal_cost (swept row₁ K) leaf K l inside)
      where
        turned : (a : ℕ) → span suc (l ∷ p ∷ a ∷ []) ≡ span suc (l ∷ a ∷ p ∷ [])
        turned a = span_set suc (l ∷ p ∷ a ∷ []) (l ∷ a ∷ p ∷ []) (λ x i. omega arith) (λ x i. omega arith)

        low : (y : List ℕ) → length y ≡ 1 → ((x : ℕ) → In x y → x < K) → met (swept row₁ K) leaf K l ≤ span suc (l ∷ p ∷ y) + below (from_zero w o) first y
        low [] n h = absurd (omega arith)
        low (a ∷ []) n h = omega (arith, any.pin-least suc climbs illegal_cost row₁ leaf K l p inside below-K leaf-is a (h a (in_head a [])), turned a)
        low (a ∷ b ∷ y) n h = absurd (omega arith)

        hit : met (swept row₁ K) leaf K l < illegal_cost
            → (y : List ℕ) × (length y ≡ 1) × ((x : ℕ) → In x y → x < K) × (span suc (l ∷ p ∷ y) + below (from_zero w o) first y ≡ met (swept row₁ K) leaf K l)
        hit e =
            let r = any.pin-reached suc climbs illegal_cost row₁ leaf K l p inside below-K leaf-is e in
            (r.0 ∷ [], refl, one_below r.0 K r.1, omega (arith, r.2, turned r.0))

-- a tile without branches
pub leaf-least : (w : List ℕ) (o first K base v : ℕ) → 1 ≤ K → v ≡ span_of base → LeastCost w o first 0 K base v
leaf-least w o first K base v some e = record {
  low = λ a b c t. omega (arith, e);
  hit = inr (1, 1, 1, (omega arith, omega arith, omega arith, omega arith, omega arith, omega arith), omega (arith, e));
}
