-- What branches cost that meet, two by two, is the least over their layers, over any heights P that climb and any top: for one, two or three branches and the
-- layer above, and for one branch, a pin and the layer above. Heights are points on a line. No meeting is cheaper than the set of its layers, as ways that share
-- a layer reach no farther together than each by itself (`span-through`). And some meeting is as cheap: three layers meet at the middle one; of four the lower two
-- meet at the inner one of them, or the upper two do.
-- Assumes nothing.
use Rattle.std.specs.Prelude.{◌≡◌, refl, List, [], ◌∷◌, ◌⊎◌}
use Rattle.std.proofs.Common.{ap}
use Rattle.std.proofs.Math.Logic.{inl, inr}
use Prim.Native.Nat.{ℕ, ◌+◌, ◌-◌, ◌≤◌, ◌<◌, min, max}
use native.Mathlib.Omega.{arith}
use Rattle.theory.specs.congestion.Sums.{same_refl, in_tail, lt-or-ge}
use Rattle.theory.specs.engine.Span.{span, highest, low_from, Climbs, climb-max, climb-min, ends-hold, span-sub, span-through}
use Rattle.theory.specs.engine.Sweeps.{swept, met, third_met, pair_met, triple_met, apart}
use Rattle.theory.proofs.engine.Swept.{swept-low, swept-top, swept-hit}

-- layer x lies from lo to hi
abbrev Inside : ℕ → ℕ → ℕ → Type 0
Inside lo hi x = (lo ≤ x) × (x ≤ hi)

-- ---- points on a line

abbrev far : ℕ → ℕ → ℕ
far a b = (a - b) + (b - a)

-- the middle one of three is the place to meet
middle-way : (lo hi x y z : ℕ) → lo ≤ x → x ≤ y → y ≤ z → z ≤ hi → (far y x + (far y y + far z y) ≤ hi - lo) × (far y z + (far y y + far x y) ≤ hi - lo)
    × (far y y + (far x y + far z y) ≤ hi - lo)
middle-way lo hi x y z p q r s = (omega arith, omega arith, omega arith)

flip : (p q r w : ℕ) → p + (q + r) ≤ w → p + (r + q) ≤ w
flip p q r w h = omega arith

-- l and a are the lower two of four, or the upper two, and t is the inner one of them
abbrev Parts : ℕ → ℕ → ℕ → ℕ → ℕ → Type 0
Parts l a b c t = ((t ≡ l) ⊎ (t ≡ a)) × (((l ≤ t) × (a ≤ t) × (t ≤ b) × (t ≤ c)) ⊎ ((t ≤ l) × (t ≤ a) × (b ≤ t) × (c ≤ t)))

-- from l and a to the inner one t of them, and on to the end of the interval
lower-way : (l a lo hi t : ℕ) → (lo ≤ l) × (lo ≤ a) → (l ≤ t) × (a ≤ t) → t ≤ hi → (t ≡ l) ⊎ (t ≡ a) → far a t + far t l + (hi - t) ≤ hi - lo
lower-way l a lo hi t p q r (inl e) = omega arith
lower-way l a lo hi t p q r (inr e) = omega arith

upper-way : (l a lo hi t : ℕ) → (l ≤ hi) × (a ≤ hi) → (t ≤ l) × (t ≤ a) → lo ≤ t → (t ≡ l) ⊎ (t ≡ a) → far a t + far t l + (t - lo) ≤ hi - lo
upper-way l a lo hi t p q r (inl e) = omega arith
upper-way l a lo hi t p q r (inr e) = omega arith

module _ (P : ℕ → ℕ) (climbs : Climbs P) where
  same-height : (t l a : ℕ) → (t ≡ l) ⊎ (t ≡ a) → (P t ≡ P l) ⊎ (P t ≡ P a)
  same-height t l a (inl q) = inl (ap P q)
  same-height t l a (inr q) = inr (ap P q)

  -- ---- ways and sets

  -- two layers are as far apart as their set reaches
  pub two-price : (l a : ℕ) → span P (l ∷ a ∷ []) ≡ apart P a l
  unfolding span
  two-price l a = let m : max l (max a 0) ≡ max l a = omega arith in go (P (max l (max a 0))) (P (max l a)) (P (min l a)) (P l) (P a) (ap P m) (climb-max P climbs l a) (climb-min P climbs l a)
    where
      near : (x y : ℕ) → max x y - min x y ≡ (y - x) + (x - y)
      near x y = omega arith

      go : (u v w x y : ℕ) → u ≡ v → v ≡ max x y → w ≡ min x y → u - w ≡ (y - x) + (x - y)
      go u v w x y h₁ h₂ h₃ = rw (h₁, h₂, h₃) (near x y)

  -- what meets at t, with the way from t to l
  reach : (t l : ℕ) (xs : List ℕ) → span P (l ∷ xs) ≤ span P (t ∷ xs) + apart P t l
  reach t l xs =
      go (span P (l ∷ xs)) (span P (t ∷ l ∷ xs)) (span P (t ∷ l ∷ [])) (span P (t ∷ xs)) (P l) (P t) (span-sub P climbs (l ∷ xs) (t ∷ l ∷ xs) (λ x i. in_tail x t (l ∷ xs) i))
      (span-through P climbs t (l ∷ []) xs) (two-price t l)
    where
      go : (u v w z pl pt : ℕ) → u ≤ v → v ≤ w + z → w ≡ (pl - pt) + (pt - pl) → u ≤ z + ((pt - pl) + (pl - pt))
      go u v w z pl pt h₁ h₂ h₃ = omega (arith, h₁, h₂, h₃)

  -- one more, with its way to t
  one_more : (t a : ℕ) (xs : List ℕ) → span P (t ∷ a ∷ xs) ≤ apart P a t + span P (t ∷ xs)
  one_more t a xs = omega (arith, span-through P climbs t (a ∷ []) xs, two-price t a)

  two-reach : (t l a b : ℕ) → span P (l ∷ a ∷ b ∷ []) ≤ apart P a t + apart P b t + apart P t l
  two-reach t l a b =
      go (span P (l ∷ a ∷ b ∷ [])) (span P (t ∷ a ∷ b ∷ [])) (span P (t ∷ b ∷ [])) (apart P t l) (apart P a t) (apart P b t) (reach t l (a ∷ b ∷ [])) (one_more t a (b ∷ [])) (two-price t b)
    where
      go : (u v w d x y : ℕ) → u ≤ v + d → v ≤ x + w → w ≡ y → u ≤ x + y + d
      go u v w d x y h₁ h₂ h₃ = omega (arith, h₁, h₂, h₃)

  module _ (top : ℕ) where
    -- ---- one

    module _ (g : ℕ → ℕ) (K l : ℕ) (inside : l < K) where
      -- one branch: no layer for it costs less
      pub one-least : (a : ℕ) → a < K → swept P top g K l ≤ g a + span P (l ∷ a ∷ [])
      one-least a p = rw (two-price l a) (swept-low P climbs top g K l inside a p)

      -- and one costs just that
      pub one-reached : swept P top g K l < top → (a : ℕ) × (a < K) × (g a + span P (l ∷ a ∷ []) ≡ swept P top g K l)
      one-reached e = let r = swept-hit P climbs top g K l inside e in (r.0, r.1, rw (two-price l r.0) r.2)

    -- ---- two that meet

    module _ (x y : ℕ → ℕ) (K l : ℕ) (inside : l < K) where
      met-low : (t : ℕ) → t < K → met P top x y K l ≤ x t + y t + apart P t l
      unfolding met
      met-low = swept-low P climbs top (λ t. x t + y t) K l inside

      pub met-top : met P top x y K l ≤ top
      unfolding met
      met-top = swept-top P climbs top (λ t. x t + y t) K l inside

      met-hit : met P top x y K l < top → (t : ℕ) × (t < K) × (x t + y t + apart P t l ≡ met P top x y K l)
      unfolding met
      met-hit = swept-hit P climbs top (λ t. x t + y t) K l inside

    -- two things that cost at least ca from layer a and cb from layer b on, in an interval that holds these and l
    middle : (x y : ℕ → ℕ) (K l a b ca cb lo hi : ℕ) → hi < K → Inside lo hi l → Inside lo hi a → Inside lo hi b → ((t : ℕ) → t < K → x t ≤ ca + apart P a t)
        → ((t : ℕ) → t < K → y t ≤ cb + apart P b t) → met P top x y K l ≤ ca + cb + (P hi - P lo)
    middle x y K l a b ca cb lo hi deep il ia ib hx hy = go (lt-or-ge l a) (lt-or-ge a b) (lt-or-ge l b)
      where
        Low : Type 0
        Low = met P top x y K l ≤ ca + cb + (P hi - P lo)

        sum : (v u w c d dl da db e : ℕ) → v ≤ u + w + dl → u ≤ c + da → w ≤ d + db → dl + (da + db) ≤ e → v ≤ c + d + e
        sum v u w c d dl da db e h₁ h₂ h₃ h₄ = omega arith

        at : (t : ℕ) → t < K → apart P t l + (apart P a t + apart P b t) ≤ P hi - P lo → Low
        at t p q = sum (met P top x y K l) (x t) (y t) ca cb (apart P t l) (apart P a t) (apart P b t) (P hi - P lo) (met-low x y K l (omega arith) t p) (hx t p) (hy t p) q

        line : (u v w : ℕ) → Inside lo hi u → u ≤ v → v ≤ w → Inside lo hi w → (far (P v) (P u) + (far (P v) (P v) + far (P w) (P v)) ≤ P hi - P lo)
            × (far (P v) (P w) + (far (P v) (P v) + far (P u) (P v)) ≤ P hi - P lo) × (far (P v) (P v) + (far (P u) (P v) + far (P w) (P v)) ≤ P hi - P lo)
        line u v w p q r s = middle-way (P lo) (P hi) (P u) (P v) (P w) (climbs lo u p.0) (climbs u v q) (climbs v w r) (climbs w hi s.1)

        go : (l < a) ⊎ (a ≤ l) → (a < b) ⊎ (b ≤ a) → (l < b) ⊎ (b ≤ l) → Low
        go (inl p) (inl q) r = at a (omega arith) (line l a b il (omega arith) (omega arith) ib).0
        go (inl p) (inr q) (inl r) = at b (omega arith) (flip (apart P b l) (apart P b b) (apart P a b) (P hi - P lo) (line l b a il (omega arith) q ia).0)
        go (inl p) (inr q) (inr r) = at l (omega arith) (flip (apart P l l) (apart P b l) (apart P a l) (P hi - P lo) (line b l a ib r (omega arith) ia).2)
        go (inr p) (inl q) (inl r) = at l (omega arith) (line a l b ia p (omega arith) ib).2
        go (inr p) (inl q) (inr r) = at b (omega arith) (flip (apart P b l) (apart P b b) (apart P a b) (P hi - P lo) (line a b l ia (omega arith) r il).1)
        go (inr p) (inr q) r = at a (omega arith) (line b a l ib q p il).1

    less : (v x y d : ℕ) → v < top → x + y + d ≡ v → (x < top) × (y < top)
    less v x y d h e = (omega arith, omega arith)

    even : (c s v : ℕ) → c + s ≤ v → v ≤ c + s → c + s ≡ v
    even c s v p q = omega arith

    module _ (g h : ℕ → ℕ) (K : ℕ) where
      pair-low : (l a b lo hi : ℕ) → hi < K → Inside lo hi l → Inside lo hi a → Inside lo hi b → pair_met P top g h K l ≤ g a + h b + (P hi - P lo)
      pair-low l a b lo hi deep il ia ib =
          middle (swept P top g K) (swept P top h K) K l a b (g a) (h b) lo hi deep il ia ib
          (λ t p. swept-low P climbs top g K t p a (omega arith)) (λ t p. swept-low P climbs top h K t p b (omega arith))

      -- two branches: no combination costs less
      pub pair-least : (l a b : ℕ) → l < K → a < K → b < K → pair_met P top g h K l ≤ g a + h b + span P (l ∷ a ∷ b ∷ [])
      unfolding span
      pair-least l a b i p q =
          let c = ends-hold l (a ∷ b ∷ []) in
          pair-low l a b (low_from l (a ∷ b ∷ [])) (highest (l ∷ a ∷ b ∷ [])) (omega arith) (c l (omega (arith, same_refl l))) (c a (omega (arith, same_refl a))) (c b (omega (arith, same_refl b)))

      -- and one costs just that
      pub pair-reached : (l : ℕ) → l < K → pair_met P top g h K l < top → (a : ℕ) × (b : ℕ) × (a < K) × (b < K) × (g a + h b + span P (l ∷ a ∷ b ∷ []) ≡ pair_met P top g h K l)
      pair-reached l i e =
          let m = met-hit (swept P top g K) (swept P top h K) K l i e in
          finish m.0 m.1 (swept P top g K m.0) (swept P top h K m.0) m.2 (swept-hit P climbs top g K m.0 m.1) (swept-hit P climbs top h K m.0 m.1)
        where
          sum : (ga hb x y v da db dl s : ℕ) → x + y + dl ≡ v → ga + da ≡ x → hb + db ≡ y → s ≤ da + db + dl → ga + hb + s ≤ v
          sum ga hb x y v da db dl s e₁ e₂ e₃ k = omega (arith, e₁, e₂, e₃, k)

          finish : (t : ℕ) → t < K → (x y : ℕ) → x + y + apart P t l ≡ pair_met P top g h K l → (x < top → (a : ℕ) × (a < K) × (g a + apart P a t ≡ x))
              → (y < top → (b : ℕ) × (b < K) × (h b + apart P b t ≡ y))
              → (a : ℕ) × (b : ℕ) × (a < K) × (b < K) × (g a + h b + span P (l ∷ a ∷ b ∷ []) ≡ pair_met P top g h K l)
          finish t k x y v p q =
              let r = p (less (pair_met P top g h K l) x y (apart P t l) e v).0 in
              let s = q (less (pair_met P top g h K l) x y (apart P t l) e v).1 in (
                r.0,
                s.0,
                r.1,
                s.1,
                even (g r.0 + h s.0) (span P (l ∷ r.0 ∷ s.0 ∷ [])) (pair_met P top g h K l)
                    (sum (g r.0) (h s.0) x y (pair_met P top g h K l) (apart P r.0 t) (apart P s.0 t) (apart P t l) (span P (l ∷ r.0 ∷ s.0 ∷ [])) v r.2 s.2 (two-reach t l r.0 s.0))
                    (pair-least l r.0 s.0 i r.1 s.1),
              )

    -- ---- three that meet

    -- branch g on its own, and the other two, which have met
    module _ (g h i : ℕ → ℕ) (K : ℕ) where
      abbrev part : ℕ → ℕ → ℕ
      part l t = swept P top g K t + pair_met P top h i K t + apart P t l

      module _ (l a b c lo hi : ℕ) (deep : hi < K) (il : Inside lo hi l) (ia : Inside lo hi a) (ib : Inside lo hi b) (ic : Inside lo hi c) where
        part_low : (t lo' hi' : ℕ) → hi' < K → Inside lo' hi' t → Inside lo' hi' b → Inside lo' hi' c → apart P a t + apart P t l + (P hi' - P lo') ≤ P hi - P lo
            → part l t ≤ g a + h b + i c + (P hi - P lo)
        part_low t lo' hi' d it ib' ic' w =
            sum (swept P top g K t) (pair_met P top h i K t) (apart P a t) (apart P t l) (P hi' - P lo') (P hi - P lo)
            (swept-low P climbs top g K t (omega arith) a (omega arith)) (pair-low h i K t b c lo' hi' d it ib' ic') w
          where
            sum : (x y da dl w' w'' : ℕ) → x ≤ g a + da → y ≤ h b + i c + w' → da + dl + w' ≤ w'' → x + y + dl ≤ g a + h b + i c + w''
            sum x y da dl w' w'' p q r = omega arith

        part-found : (t : ℕ) → Inside lo hi t → Parts l a b c t → part l t ≤ g a + h b + i c + (P hi - P lo)
        part-found t it (e, inl p) =
            part_low t t hi deep (omega arith, it.1) (p.2, ib.1) (p.3, ic.1)
            (lower-way (P l) (P a) (P lo) (P hi) (P t) (climbs lo l il.0, climbs lo a ia.0) (climbs l t p.0, climbs a t p.1) (climbs t hi it.1) (same-height t l a e))
        part-found t it (e, inr p) =
            part_low t lo t (omega arith) (it.0, omega arith) (ib.0, p.2) (ic.0, p.3)
            (upper-way (P l) (P a) (P lo) (P hi) (P t) (climbs l hi il.1, climbs a hi ia.1) (climbs t l p.0, climbs t a p.1) (climbs lo t it.0) (same-height t l a e))

      part-reached : (l t : ℕ) → t < K → part l t < top
          → (a : ℕ) × (b : ℕ) × (c : ℕ) × (a < K) × (b < K) × (c < K) × (g a + h b + i c + span P (l ∷ a ∷ b ∷ c ∷ []) ≤ part l t)
      part-reached l t q e =
          let k = less (part l t) (swept P top g K t) (pair_met P top h i K t) (apart P t l) e refl in
          let m = swept-hit P climbs top g K t q k.0 in
          let n = pair-reached h i K t q k.1 in (
            m.0,
            n.0,
            n.1,
            m.1,
            n.2,
            n.3,
            sum (g m.0) (h n.0) (i n.1) (swept P top g K t) (pair_met P top h i K t) (apart P m.0 t) (apart P t l) (span P (l ∷ m.0 ∷ n.0 ∷ n.1 ∷ [])) (span P (t ∷ m.0 ∷ n.0 ∷ n.1 ∷ []))
                (span P (t ∷ n.0 ∷ n.1 ∷ [])) m.2 n.4 (reach t l (m.0 ∷ n.0 ∷ n.1 ∷ [])) (one_more t m.0 (n.0 ∷ n.1 ∷ [])),
          )
        where
          sum : (ga hb ic x y da dl s u w : ℕ) → ga + da ≡ x → hb + ic + w ≡ y → s ≤ u + dl → u ≤ da + w → ga + hb + ic + s ≤ x + y + dl
          sum ga hb ic x y da dl s u w e₁ e₂ h₁ h₂ = omega (arith, e₁, e₂, h₁, h₂)

    -- the three ways in which two of the branches meet first: each is no cheaper, and one of them is just as cheap
    module _ (g h i : ℕ → ℕ) (K l : ℕ) (inside : l < K) where
      abbrev all : ℕ
      all = triple_met P top g h i K l

      abbrev each : ℕ → ℕ
      each u = min (min (swept P top g K u + pair_met P top h i K u) (swept P top h K u + pair_met P top g i K u)) (swept P top i K u + pair_met P top g h K u)

      third-low : (t : ℕ) → t < K → (all ≤ part g h i K l t) × (all ≤ part h g i K l t) × (all ≤ part i g h K l t)
      unfolding third_met
      third-low t p =
          split (swept P top g K t + pair_met P top h i K t) (swept P top h K t + pair_met P top g i K t) (swept P top i K t + pair_met P top g h K t) (apart P t l) all
          (swept-low P climbs top each K l inside t p)
        where
          split : (x y z d v : ℕ) → v ≤ min (min x y) z + d → (v ≤ x + d) × (v ≤ y + d) × (v ≤ z + d)
          split x y z d v e = (omega arith, omega arith, omega arith)

      pub triple-top : triple_met P top g h i K l ≤ top
      unfolding third_met
      triple-top = swept-top P climbs top each K l inside

      third-hit : all < top → (t : ℕ) × (t < K) × ((part g h i K l t ≡ all) ⊎ ((part h g i K l t ≡ all) ⊎ (part i g h K l t ≡ all)))
      unfolding third_met
      third-hit e =
          let m = swept-hit P climbs top each K l inside e in
          (m.0, m.1, split (swept P top g K m.0 + pair_met P top h i K m.0) (swept P top h K m.0 + pair_met P top g i K m.0) (swept P top i K m.0 + pair_met P top g h K m.0) (apart P m.0 l) all m.2)
        where
          split : (x y z d v : ℕ) → min (min x y) z + d ≡ v → (x + d ≡ v) ⊎ ((y + d ≡ v) ⊎ (z + d ≡ v))
          split x y z d v e = go (lt-or-ge (min x y) z) (lt-or-ge x y)
            where
              go : (min x y < z) ⊎ (z ≤ min x y) → (x < y) ⊎ (y ≤ x) → (x + d ≡ v) ⊎ ((y + d ≡ v) ⊎ (z + d ≡ v))
              go (inl p) (inl q) = inl (omega arith)
              go (inl p) (inr q) = inr (inl (omega arith))
              go (inr p) q = inr (inr (omega arith))

      triple-low : (a b c lo hi : ℕ) → hi < K → Inside lo hi l → Inside lo hi a → Inside lo hi b → Inside lo hi c → all ≤ g a + h b + i c + (P hi - P lo)
      triple-low a b c lo hi deep il ia ib ic = go (lt-or-ge a l) (lt-or-ge b l) (lt-or-ge c l) (lt-or-ge a b) (lt-or-ge a c) (lt-or-ge b c)
        where
          Low : Type 0
          Low = all ≤ g a + h b + i c + (P hi - P lo)

          chain : (v x s s' w : ℕ) → v ≤ x → x ≤ s + w → s ≡ s' → v ≤ s' + w
          chain v x s s' w p q e = omega arith

          with-a : (t : ℕ) → Inside lo hi t → Parts l a b c t → Low
          with-a t it p =
              chain all (part g h i K l t) (g a + h b + i c) (g a + h b + i c) (P hi - P lo) (third-low t (omega arith)).0 (part-found g h i K l a b c lo hi deep il ia ib ic t it p) refl

          with-b : (t : ℕ) → Inside lo hi t → Parts l b a c t → Low
          with-b t it p =
              chain all (part h g i K l t) (h b + g a + i c) (g a + h b + i c) (P hi - P lo) (third-low t (omega arith)).1 (part-found h g i K l b a c lo hi deep il ib ia ic t it p) (omega arith)

          with-c : (t : ℕ) → Inside lo hi t → Parts l c a b t → Low
          with-c t it p =
              chain all (part i g h K l t) (i c + g a + h b) (g a + h b + i c) (P hi - P lo) (third-low t (omega arith)).2 (part-found i g h K l c a b lo hi deep il ic ia ib t it p) (omega arith)

          -- one of the three is alone on its side of l, or all are on one side and the one next to l goes with it
          go : (a < l) ⊎ (l ≤ a) → (b < l) ⊎ (l ≤ b) → (c < l) ⊎ (l ≤ c) → (a < b) ⊎ (b ≤ a) → (a < c) ⊎ (c ≤ a) → (b < c) ⊎ (c ≤ b) → Low
          go (inl p) (inl q) (inr r) x y z = with-c l il (inl refl, inr (omega arith))
          go (inl p) (inr q) (inl r) x y z = with-b l il (inl refl, inr (omega arith))
          go (inr p) (inl q) (inl r) x y z = with-a l il (inl refl, inr (omega arith))
          go (inl p) (inr q) (inr r) x y z = with-a l il (inl refl, inl (omega arith))
          go (inr p) (inl q) (inr r) x y z = with-b l il (inl refl, inl (omega arith))
          go (inr p) (inr q) (inl r) x y z = with-c l il (inl refl, inl (omega arith))
          go (inl p) (inl q) (inl r) (inl x) y (inl z) = with-c c ic (inr refl, inr (omega arith))
          go (inl p) (inl q) (inl r) (inl x) y (inr z) = with-b b ib (inr refl, inr (omega arith))
          go (inl p) (inl q) (inl r) (inr x) (inl y) z = with-c c ic (inr refl, inr (omega arith))
          go (inl p) (inl q) (inl r) (inr x) (inr y) z = with-a a ia (inr refl, inr (omega arith))
          go (inr p) (inr q) (inr r) (inl x) (inl y) z = with-a a ia (inr refl, inl (omega arith))
          go (inr p) (inr q) (inr r) (inl x) (inr y) z = with-c c ic (inr refl, inl (omega arith))
          go (inr p) (inr q) (inr r) (inr x) y (inl z) = with-b b ib (inr refl, inl (omega arith))
          go (inr p) (inr q) (inr r) (inr x) y (inr z) = with-c c ic (inr refl, inl (omega arith))

      -- three branches: no combination costs less
      pub triple-least : (a b c : ℕ) → a < K → b < K → c < K → triple_met P top g h i K l ≤ g a + h b + i c + span P (l ∷ a ∷ b ∷ c ∷ [])
      unfolding span
      triple-least a b c p q r =
          let e = ends-hold l (a ∷ b ∷ c ∷ []) in
          triple-low a b c (low_from l (a ∷ b ∷ c ∷ [])) (highest (l ∷ a ∷ b ∷ c ∷ [])) (omega arith) (e l (omega (arith, same_refl l))) (e a (omega (arith, same_refl a)))
          (e b (omega (arith, same_refl b))) (e c (omega (arith, same_refl c)))

      -- and one costs just that
      pub triple-reached : triple_met P top g h i K l < top
          → (a : ℕ) × (b : ℕ) × (c : ℕ) × (a < K) × (b < K) × (c < K) × (g a + h b + i c + span P (l ∷ a ∷ b ∷ c ∷ []) ≡ triple_met P top g h i K l)
      triple-reached e = let m = third-hit e in go m.0 m.1 m.2
        where
          Reached : Type 0
          Reached = (a : ℕ) × (b : ℕ) × (c : ℕ) × (a < K) × (b < K) × (c < K) × (g a + h b + i c + span P (l ∷ a ∷ b ∷ c ∷ []) ≡ triple_met P top g h i K l)

          small : (x : ℕ) → x ≡ all → x < top
          small x f = omega (arith, f, e)

          done : (a b c x s u : ℕ) → a < K → b < K → c < K → x ≡ all → s + u ≤ x → s ≡ g a + h b + i c → span P (l ∷ a ∷ b ∷ c ∷ []) ≤ u → Reached
          done a b c x s u p q r f k j n =
              (a, b, c, p, q, r, even (g a + h b + i c) (span P (l ∷ a ∷ b ∷ c ∷ [])) all (omega (arith, f, k, j, n)) (triple-least a b c p q r))

          go : (t : ℕ) → t < K → (part g h i K l t ≡ all) ⊎ ((part h g i K l t ≡ all) ⊎ (part i g h K l t ≡ all)) → Reached
          go t p (inl f) =
              let r = part-reached g h i K l t p (small (part g h i K l t) f) in
              done r.0 r.1 r.2 (part g h i K l t) (g r.0 + h r.1 + i r.2) (span P (l ∷ r.0 ∷ r.1 ∷ r.2 ∷ [])) r.3 r.4 r.5 f r.6 refl (omega arith)
          go t p (inr (inl f)) =
              let r = part-reached h g i K l t p (small (part h g i K l t) f) in
              done r.1 r.0 r.2 (part h g i K l t) (h r.0 + g r.1 + i r.2) (span P (l ∷ r.0 ∷ r.1 ∷ r.2 ∷ [])) r.4 r.3 r.5 f r.6 (omega arith)
              (span-sub P climbs (l ∷ r.1 ∷ r.0 ∷ r.2 ∷ []) (l ∷ r.0 ∷ r.1 ∷ r.2 ∷ []) (λ x k. omega arith))
          go t p (inr (inr f)) =
              let r = part-reached i g h K l t p (small (part i g h K l t) f) in
              done r.1 r.2 r.0 (part i g h K l t) (i r.0 + g r.1 + h r.2) (span P (l ∷ r.0 ∷ r.1 ∷ r.2 ∷ [])) r.4 r.5 r.3 f r.6 (omega arith)
              (span-sub P climbs (l ∷ r.1 ∷ r.2 ∷ r.0 ∷ []) (l ∷ r.0 ∷ r.1 ∷ r.2 ∷ []) (λ x k. omega arith))

    -- ---- one branch, and pins that are all on layer p

    module _ (g leaf : ℕ → ℕ) (K l p : ℕ) (inside : l < K) (below-K : p < K) (leaf-is : (t : ℕ) → t < K → leaf t ≡ apart P p t) where
      abbrev both : ℕ
      both = met P top (swept P top g K) leaf K l

      -- no layer for the branch costs less
      pub pin-least : (a : ℕ) → a < K → met P top (swept P top g K) leaf K l ≤ g a + span P (l ∷ a ∷ p ∷ [])
      unfolding span
      pin-least a q =
          let e = ends-hold l (a ∷ p ∷ []) in
          plain both (g a) (P (highest (l ∷ a ∷ p ∷ [])) - P (low_from l (a ∷ p ∷ [])))
          (middle (swept P top g K) leaf K l a p (g a) 0 (low_from l (a ∷ p ∷ [])) (highest (l ∷ a ∷ p ∷ [])) (omega arith) (e l (omega (arith, same_refl l))) (e a (omega (arith, same_refl a)))
          (e p (omega (arith, same_refl p))) (λ t k. swept-low P climbs top g K t k a q) (λ t k. near (leaf t) (apart P p t) (leaf-is t k)))
        where
          plain : (v x w : ℕ) → v ≤ x + 0 + w → v ≤ x + w
          plain v x w h = omega arith

          near : (x y : ℕ) → x ≡ y → x ≤ 0 + y
          near x y f = omega arith

      -- and one costs just that
      pub pin-reached : met P top (swept P top g K) leaf K l < top → (a : ℕ) × (a < K) × (g a + span P (l ∷ a ∷ p ∷ []) ≡ met P top (swept P top g K) leaf K l)
      pin-reached e =
          let m = met-hit (swept P top g K) leaf K l inside e in
          let r = swept-hit P climbs top g K m.0 m.1 (less both (swept P top g K m.0) (leaf m.0) (apart P m.0 l) e m.2).0 in (
            r.0,
            r.1,
            even (g r.0) (span P (l ∷ r.0 ∷ p ∷ [])) both
                (sum (g r.0) (swept P top g K m.0) (leaf m.0) both (apart P r.0 m.0) (apart P p m.0) (apart P m.0 l) (span P (l ∷ r.0 ∷ p ∷ [])) m.2 r.2 (leaf-is m.0 m.1) (two-reach m.0 l r.0 p))
                (pin-least r.0 r.1),
          )
        where
          sum : (ga x y v da dp dl s : ℕ) → x + y + dl ≡ v → ga + da ≡ x → y ≡ dp → s ≤ da + dp + dl → ga + s ≤ v
          sum ga x y v da dp dl s e₁ e₂ e₃ k = omega (arith, e₁, e₂, e₃, k)
