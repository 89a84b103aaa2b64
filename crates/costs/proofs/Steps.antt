-- The loops that fill eight numbers, one number at a time.
-- Assumes nothing.
use mathlib.Core.Path.{◌≡◌, refl, sym, ap, ap₂, ◌∙◌, subst}
use mathlib.Core.List.{List, [], ◌∷◌}
use mathlib.Core.Bool.{Bool, true, false, cond}
use mathlib.Core.Logic.{◌⊎◌, inl, inr}
use Prim.Native.Nat.{ℕ, zero, suc, ◌+◌, ◌-◌, ◌*◌, ◌≤◌, ◌<◌, min}
use native.Mathlib.Omega.{arith}
use native.Mathlib.Numerals.{add-one}
use lib.Dec.{T, leb, leb→le, le→leb}
use lib.ListN.{get_or, length, set, length-set}
use lib.Seq.{get_or-set_same, get_or-set_other}
use Rattle.model.specs.Lists.{up_from}
use Rattle.theory.specs.congestion.Sums.{lt-or-ge, in_head}
use Rattle.theory.specs.engine.Span.{span, Climbs, covers-cons}
use Rattle.theory.specs.engine.Interval.{least_in}
use Rattle.theory.specs.engine.Sweeps as any
use Rattle.theory.proofs.engine.Swept.{up_top, swept-top, down-same, swept_same}
use Rattle.sets.specs.Mask.{has, with_layer, span_of, IsSet, set-none, mask-price, with-small, span-le-7, top, bottom, no_layer, Ends, ends_of}
use Rattle.costs.specs.Rows.{illegal_cost, Eight, LayerMask}
use Rattle.costs.specs.Intervals.{least_over, within, interval, least_end, around, Taken, PinEnds}
use Rattle.costs.specs.Combinations.{covers-none}
use Rattle.costs.specs.Sweeps.{swept_up, swept_down, swept, met, third_met, Small}
use Rattle.costs.proofs.Runs.{run_more, run-same}
use Rattle.costs.proofs.Around.{sum_top}

pub long-set : (v : List ℕ) (b x : ℕ) → length v ≡ 8 → length (set v b x) ≡ 8
long-set v b x n = length-set v b x ∙ n

-- ---- filling upwards: v has the numbers f from s up to b

pub eight-none : (v : List ℕ) (f : ℕ → ℕ) (s : ℕ) → length v ≡ 8 → Eight v f s s
eight-none v f s n = record { long = n; at = λ t p q. absurd (omega arith) }

pub eight-more : (v : List ℕ) (f : ℕ → ℕ) (s b x : ℕ) → b < 8 → x ≡ f b → Eight v f s b → Eight (set v b x) f s (b + 1)
eight-more v f s b x h e p = record { long = long-set v b x p.long; at = λ t q r. go t q r (lt-or-ge t b) }
  where
    go : (t : ℕ) → s ≤ t → t < b + 1 → (t < b) ⊎ (b ≤ t) → get_or (set v b x) t 0 ≡ f t
    go t q r (inl k) = get_or-set_other v b t x 0 (λ z. omega (arith, z)) ∙ p.at t q k
    go t q r (inr k) = let i : t ≡ b = omega arith in rw i (get_or-set_same v b x 0 (omega (arith, p.long)) ∙ e)

-- the loop is done
pub eight-all : (v : List ℕ) (f : ℕ → ℕ) (s b K : ℕ) → K ≤ b → Eight v f s b → Eight v f s K
eight-all v f s b K h p = record { long = p.long; at = λ t q r. p.at t q (omega arith) }

-- ---- filling downwards: v has the numbers f from b up to K, and below b those of v₀

pub record FilledDown (v₀ v : List ℕ) (f : ℕ → ℕ) (K b : ℕ) : Type 0 where
  pub long : length v ≡ 8
  pub done : (t : ℕ) → b ≤ t → t < K → get_or v t 0 ≡ f t
  pub rest : (t : ℕ) → t < b → get_or v t 0 ≡ get_or v₀ t 0

pub down-none : (v : List ℕ) (f : ℕ → ℕ) (K : ℕ) → length v ≡ 8 → FilledDown v v f K K
down-none v f K n = record { long = n; done = λ t p q. absurd (omega arith); rest = λ t p. refl }

pub down-more : (v₀ v : List ℕ) (f : ℕ → ℕ) (K b x : ℕ) → K ≤ 8 → 1 ≤ b → b ≤ K → x ≡ f (b - 1) → FilledDown v₀ v f K b
    → FilledDown v₀ (set v (b - 1) x) f K (b - 1)
down-more v₀ v f K b x deep h k e p = record { long = long-set v (b - 1) x p.long; done = λ t q r. go t q r (lt-or-ge t b); rest = λ t q. get_or-set_other v (b - 1) t x 0 (λ z. omega (arith, z)) ∙ p.rest t (omega arith) }
  where
    go : (t : ℕ) → b - 1 ≤ t → t < K → (t < b) ⊎ (b ≤ t) → get_or (set v (b - 1) x) t 0 ≡ f t
    go t q r (inl z) = let i : t ≡ b - 1 = omega arith in rw i (get_or-set_same v (b - 1) x 0 (omega (arith, p.long)) ∙ e)
    go t q r (inr z) = get_or-set_other v (b - 1) t x 0 (λ y. omega (arith, y)) ∙ p.done t z r

-- ---- the least of a branch's costs

module _ (w : List ℕ) (at s : ℕ) where
  pub over_none : illegal_cost ≡ least_over w at s (s - s)
  unfolding least_over
  over_none = let e : s - s ≡ 0 = omega arith in rw e refl

  pub over-more : (b x : ℕ) → s ≤ b → x ≡ least_over w at s (b - s) → min (get_or w (at + b) 0) x ≡ least_over w at s (b + 1 - s)
  unfolding least_over
  over-more b x h e =
      let i : b + 1 - s ≡ suc (b - s) = omega arith in
      let j : s + (b - s) ≡ b = omega arith in
      rw (e, i, run_more illegal_cost (λ t. get_or w (at + t) 0) s (b - s), j) refl

-- one branch more: v has it for the ends from s up to b, and v₀ is what was there
pub record AddedUpTo (v₀ v w : List ℕ) (at K s b : ℕ) : Type 0 where
  pub long : length v ≡ 8
  pub done : (t : ℕ) → s ≤ t → t < b → get_or v t 0 ≡ get_or v₀ t 0 + within w at s t
  pub rest : (t : ℕ) → b ≤ t → get_or v t 0 ≡ get_or v₀ t 0

pub added_none : (v w : List ℕ) (at K s : ℕ) → length v ≡ 8 → AddedUpTo v v w at K s s
added_none v w at K s n = record { long = n; done = λ t p q. absurd (omega arith); rest = λ t p. refl }

pub added_more : (v₀ v w : List ℕ) (at K s b x y : ℕ) → b < 8 → s ≤ b → x ≡ get_or v b 0 → y ≡ within w at s b → AddedUpTo v₀ v w at K s b
    → AddedUpTo v₀ (set v b (x + y)) w at K s (b + 1)
added_more v₀ v w at K s b x y h k ex ey p = record {
  long = long-set v b (x + y) p.long;
  done = λ t q r. go t q r (lt-or-ge t b);
  rest = λ t q. get_or-set_other v b t (x + y) 0 (λ z. omega (arith, z)) ∙ p.rest t (omega arith);
}
  where
    go : (t : ℕ) → s ≤ t → t < b + 1 → (t < b) ⊎ (b ≤ t) → get_or (set v b (x + y)) t 0 ≡ get_or v₀ t 0 + within w at s t
    go t q r (inl z) = get_or-set_other v b t (x + y) 0 (λ i. omega (arith, i)) ∙ p.done t q z
    go t q r (inr z) =
        let i : t ≡ b = omega arith in
        rw i (get_or-set_same v b (x + y) 0 (omega (arith, p.long)) ∙ omega (arith, ex, ey, p.rest b (omega arith)))

pub added-all : (v₀ v w : List ℕ) (at K s b : ℕ) → K ≤ b → AddedUpTo v₀ v w at K s b → Eight v (λ t. get_or v₀ t 0 + within w at s t) s K
added-all v₀ v w at K s b h p = record { long = p.long; at = λ t q r. p.done t q (omega arith) }

-- the costs of the intervals from s on, with c branches
pub intervals-none : (w : List ℕ) (o first K s : ℕ) (v : List ℕ) → Eight v (λ b. b - s) s K → Eight v (interval w o first 0 s) s K
unfolding interval
intervals-none w o first K s v p = record { long = p.long; at = λ b q r. p.at b q r ∙ omega arith }

pub intervals-more : (w : List ℕ) (o first K s c : ℕ) (v v' : List ℕ) → Eight v (interval w o first c s) s K
    → Eight v' (λ t. get_or v t 0 + within w (o + 8 * (first + c)) s t) s K → Eight v' (interval w o first (c + 1) s) s K
unfolding interval
intervals-more w o first K s c v v' p a = record { long = a.long; at = λ b q r. rw (add-one c) (a.at b q r ∙ omega (arith, p.at b q r)) }

pub intervals-small : (w : List ℕ) (o first K s c : ℕ) (v : List ℕ) → K ≤ 8 → c ≤ 2 → Eight v (interval w o first c s) s K
    → (b : ℕ) → s ≤ b → b < K → get_or v b 0 ≤ 7 + 2 * illegal_cost
unfolding interval
intervals-small w o first K s c v deep few p b q r = omega (arith, p.at b q r, sum_top w o first c s b)

-- ---- the least of the ends

cond-leb : (a b x y : ℕ) → a ≤ b → x ≡ cond (leb a b) x y
cond-leb a b x y h = go (leb a b) refl
  where
    go : (t : Bool) → leb a b ≡ t → x ≡ cond (leb a b) x y
    go true e = rw e refl
    go false e = absurd (subst (λ (s : Bool). T s) e (le→leb a b h))

pub ended-yes : (a b x y z : ℕ) → a ≤ b → z ≡ x → z ≡ cond (leb a b) x y
ended-yes a b x y z h e = e ∙ cond-leb a b x y h

pub ended-no : (a b x y z : ℕ) → b < a → z ≡ y → z ≡ cond (leb a b) x y
ended-no a b x y z h e = go (leb a b) refl
  where
    go : (t : Bool) → leb a b ≡ t → z ≡ cond (leb a b) x y
    go false i = rw i e
    go true i = absurd (omega (arith, leb→le a b (subst (λ (s : Bool). T s) (sym i) tt)))

module _ (v : ℕ → ℕ) (K high : ℕ) where
  pub end_none : illegal_cost ≡ least_end v K high K
  unfolding least_end
  end_none = let e : K - K ≡ 0 = omega arith in rw e refl

  pub end_more : (b x y : ℕ) → 1 ≤ b → b ≤ K → x ≡ least_end v K high b → y ≡ cond (leb high (b - 1)) (v (b - 1)) illegal_cost
      → min y x ≡ least_end v K high (b - 1)
  unfolding least_end
  end_more b x y h k ex ey =
      let i : K - (b - 1) ≡ suc (K - b) = omega arith in
      let j : suc (b - 1) ≡ b = omega arith in
      rw (ex, ey, i, j) refl

  pub end_same : (u : ℕ → ℕ) (b : ℕ) → ((e : ℕ) → b ≤ e → e < K → v e ≡ u e) → least_end v K high b ≡ least_end u K high b
  unfolding least_end
  end_same u b h =
      run-same illegal_cost (λ e. cond (leb high e) (v e) illegal_cost) (λ e. cond (leb high e) (u e) illegal_cost) b (K - b)
      (λ t p q. ap (λ (x : ℕ). cond (leb high t) x illegal_cost) (h t p (omega arith)))

-- ---- the least of the starts: c has, for each layer b, the least of the intervals that start below s

module _ (w : List ℕ) (o first k K starts high : ℕ) where
  pub around-none : (c : List ℕ) → length c ≡ 8 → ((b : ℕ) → b < 8 → get_or c b 0 ≡ illegal_cost) → K ≤ 8 → Eight c (around w o first k K 0 high) 0 K
  unfolding around
  around-none c n h deep = record { long = n; at = λ b p q. let e : min 0 (suc b) ≡ 0 = omega arith in rw e (h b (omega arith)) }

  pub around-more : (c c' v : List ℕ) (s : ℕ) → Eight c (around w o first k K s high) 0 K → Eight v (interval w o first k s) s K → Taken c c' v K s high
      → Eight c' (around w o first k K (s + 1) high) 0 K
  unfolding around
  around-more c c' v s p iv t = record { long = t.long; at = λ b a q. go b q (lt-or-ge b s) }
    where
      go : (b : ℕ) → b < K → (b < s) ⊎ (s ≤ b) → get_or c' b 0 ≡ least_in illegal_cost (λ x. least_end (interval w o first k x) K high b) (up_from 0 (min (s + 1) (suc b)))
      go b q (inl z) =
          let i : min (s + 1) (suc b) ≡ min s (suc b) = omega arith in
          rw i (t.kept b z ∙ p.at b (omega arith) q)
      go b q (inr z) =
          let i : min (s + 1) (suc b) ≡ suc s = omega arith in
          let j : min s (suc b) ≡ s = omega arith in
          let n : 0 + s ≡ s = omega arith in
          let f : ℕ → ℕ = λ x. least_end (interval w o first k x) K high b in
          let e : get_or c b 0 ≡ least_in illegal_cost f (up_from 0 s) = subst (λ (x : ℕ). get_or c b 0 ≡ least_in illegal_cost f (up_from 0 x)) j (p.at b (omega arith) q) in
          let u : least_end (λ x. get_or v x 0) K high b ≡ f s = end_same (λ x. get_or v x 0) K high (interval w o first k s) b (λ x a d. iv.at x (omega arith) d) in
          let r = run_more illegal_cost f 0 s in
          rw i (t.taken b z q ∙ omega (arith, e, u, r, ap f n))

-- all starts are taken
pub around-end : (w : List ℕ) (o first k starts s high : ℕ) (c : List ℕ) → starts ≡ s → Eight c (around w o first k 8 s high) 0 8 → Eight c (around w o first k 8 starts high) 0 8
around-end w o first k starts s high c e p = subst (λ (x : ℕ). Eight c (around w o first k 8 x high) 0 8) (sym e) p

-- ---- the sweeps

-- a layer is one via above the next below it
pub climbs : Climbs suc
climbs a b h = omega arith

pub up_small : (g : ℕ → ℕ) (l : ℕ) → swept_up g l ≤ illegal_cost
up_small g zero = omega arith
up_small g (suc l) = up_top suc climbs illegal_cost g l

pub swept-up-more : (g : ℕ → ℕ) (l x : ℕ) → x ≡ swept_up g l → min (min (x + 1) (g l)) illegal_cost ≡ swept_up g (suc l)
swept-up-more g zero x e = omega (arith, e)
swept-up-more g (suc l) x e = let i : suc (suc l) - suc (suc l - 1) ≡ 1 = omega arith in rw (e, i) refl

pub swept-down-none : (g : ℕ → ℕ) (K : ℕ) → illegal_cost ≡ swept_down g K (K - K)
swept-down-none g K = let e : K - K ≡ 0 = omega arith in rw e refl

pub swept-down-more : (g : ℕ → ℕ) (K l x y : ℕ) → 1 ≤ l → l ≤ K → x ≡ swept_down g K (K - l) → y ≡ g (l - 1) → min (x + 1) y ≡ swept_down g K (K - (l - 1))
swept-down-more g K l x y h k ex ey =
    let i : K - (l - 1) ≡ suc (K - l) = omega arith in
    let j : K - suc (K - l) ≡ l - 1 = omega arith in
    let d : suc (K - (K - l)) - suc (l - 1) ≡ 1 = omega arith in
    rw (ex, ey, i, j, d) refl

pub swept-down-top : (g : ℕ → ℕ) (K n : ℕ) → ((t : ℕ) → t < K → g t ≤ illegal_cost) → n ≤ K → swept_down g K n ≤ illegal_cost
swept-down-top g K zero h k = omega arith
swept-down-top g K (suc n) h k = omega (arith, h (K - suc n) (omega arith))

pub down-all : (v₀ v : List ℕ) (f : ℕ → ℕ) (K b : ℕ) → b ≡ 0 → FilledDown v₀ v f K b → Eight v f 0 K
down-all v₀ v f K b e p = record { long = p.long; at = λ t q r. p.done t (omega arith) r }

-- the two sweeps together
pub swept-both : (g : ℕ → ℕ) (K : ℕ) (c c' : List ℕ) → Eight c (λ l. swept_up g (suc l)) 0 K → Eight c' (λ l. swept_down (λ t. get_or c t 0) K (K - l)) 0 K → Eight c' (swept g K) 0 K
unfolding any.swept
swept-both g K c c' p q = record {
  long = q.long;
  at = λ l a b. q.at l a b ∙ down-same suc illegal_cost (λ t. get_or c t 0) (λ t. swept_up g (suc t)) K (λ t k. p.at t (omega arith) k) (K - l) (omega arith);
}

-- ---- branches that meet

pub small-swept : (g : ℕ → ℕ) (r : List ℕ) → Eight r (swept g 8) 0 8 → Small r
small-swept g r p l h = omega (arith, p.at l (omega arith) h, swept-top suc climbs illegal_cost g 8 l h)

pub small-met : (x y : ℕ → ℕ) (r : List ℕ) → Eight r (met x y 8) 0 8 → Small r
unfolding any.met
small-met x y r p = small-swept (λ t. x t + y t) r p

-- the costs s, swept as code has them
swept-list : (f : ℕ → ℕ) (s r : List ℕ) → Eight s f 0 8 → Eight r (swept (λ u. get_or s (0 + u) 0) 8) 0 8 → Eight r (swept f 8) 0 8
swept-list f s r p q = record {
  long = q.long;
  at = λ l a b. q.at l a b ∙ swept_same suc illegal_cost (λ u. get_or s (0 + u) 0) f 8 l (λ t k. let i : 0 + t ≡ t = omega arith in ap (λ (x : ℕ). get_or s x 0) i ∙ p.at t (omega arith) k);
}

pub met-list : (a b s r : List ℕ) → Eight s (λ l. get_or a l 0 + get_or b l 0) 0 8 → Eight r (swept (λ u. get_or s (0 + u) 0) 8) 0 8
    → Eight r (met (λ l. get_or a l 0) (λ l. get_or b l 0) 8) 0 8
unfolding any.met
met-list a b s r = swept-list (λ l. get_or a l 0 + get_or b l 0) s r

met-same : (x x' y y' : ℕ → ℕ) (l : ℕ) → ((t : ℕ) → t < 8 → x t ≡ x' t) → ((t : ℕ) → t < 8 → y t ≡ y' t) → met x y 8 l ≡ met x' y' 8 l
unfolding any.met
met-same x x' y y' l e e' = swept_same suc illegal_cost (λ t. x t + y t) (λ t. x' t + y' t) 8 l (λ t k. omega (arith, e t k, e' t k))

pub pair-list : (x y : ℕ → ℕ) (a b r : List ℕ) → Eight a x 0 8 → Eight b y 0 8 → Eight r (met (λ l. get_or a l 0) (λ l. get_or b l 0) 8) 0 8 → Eight r (met x y 8) 0 8
pair-list x y a b r p q m = record {
  long = m.long;
  at = λ l j k. m.at l j k ∙ met-same (λ t. get_or a t 0) x (λ t. get_or b t 0) y l (λ t h. p.at t (omega arith) h) (λ t h. q.at t (omega arith) h);
}

pub triple-list : (x y z : ℕ → ℕ) (a b d yz xz xy s₁ s₂ s₃ r : List ℕ) → Eight a x 0 8 → Eight b y 0 8 → Eight d z 0 8 → Eight yz (met y z 8) 0 8 → Eight xz (met x z 8) 0 8
    → Eight xy (met x y 8) 0 8 → Eight s₁ (λ l. get_or a l 0 + get_or yz l 0) 0 8 → Eight s₂ (λ l. min (get_or s₁ l 0) (get_or b l 0 + get_or xz l 0)) 0 8
    → Eight s₃ (λ l. min (get_or s₂ l 0) (get_or d l 0 + get_or xy l 0)) 0 8 → Eight r (swept (λ u. get_or s₃ (0 + u) 0) 8) 0 8 → Eight r (third_met x y z 8) 0 8
unfolding any.third_met
triple-list x y z a b d yz xz xy s₁ s₂ s₃ r pa pb pd pyz pxz pxy p₁ p₂ p₃ =
    swept-list (λ t. min (min (x t + met y z 8 t) (y t + met x z 8 t)) (z t + met x y 8 t)) s₃ r
    (record {
      long = p₃.long;
      at = λ l j k.
          p₃.at l j k
          ∙ ap₂ (λ (u v : ℕ). min u v)
          (p₂.at l j k ∙ ap₂ (λ (u v : ℕ). min u v) (p₁.at l j k ∙ plus (pa.at l j k) (pyz.at l j k)) (plus (pb.at l j k) (pxz.at l j k)))
          (plus (pd.at l j k) (pxy.at l j k));
    })
  where
    plus : {u u' v v' : ℕ} → u ≡ u' → v ≡ v' → u + v ≡ u' + v'
    plus e e' = omega arith

-- ---- a tile with no pin and no branch

-- one layer has no vias
one_span : (x : ℕ) → 1 ≤ x → x ≤ 8 → span_of (with_layer 0 x) ≡ 0
unfolding span
one_span x p q = omega (arith, mask-price 0 [] (x ∷ []) (covers-cons 1 8 x [] p q (covers-none 1 8)) set-none)

pub leaf-none : (pins : ℕ) (c : List ℕ) → pins ≡ 0 → length c ≡ 8 → ((b : ℕ) → b < 8 → get_or c b 0 ≡ 0) → Eight c (λ l. span_of (with_layer pins (suc l))) 0 8
leaf-none pins c e n h = record { long = n; at = λ b p q. rw e (h b q ∙ sym (one_span (suc b) (omega arith) (omega arith))) }

pub small-leaf : (pins : ℕ) (r : List ℕ) → pins < 256 → Eight r (λ l. span_of (with_layer pins (suc l))) 0 8 → Small r
small-leaf pins r h p l k = omega (arith, p.at l (omega arith) k, span-le-7 (with_layer pins (suc l)) (with-small pins (suc l) h (omega arith) (omega arith)))

-- ---- the ends that the intervals of a tile can have

pub ends-none : (K pins : ℕ) → 1 ≤ K → pins ≡ 0 → PinEnds K pins K 0
ends-none K pins some e = record {
  some = some;
  deep = omega arith;
  top = some;
  low = λ l p q t. absurd (no_layer l p q (subst (λ (x : ℕ). T (has x l)) e t));
  starts_at = inl refl;
  ends_at = inl refl;
}

pub ends_some : (K pins starts high : ℕ) → 1 ≤ pins → K ≤ 8 → LayerMask K pins → starts ≡ bottom pins → suc high ≡ top pins → PinEnds K pins starts high
ends_some K pins starts high some deep mask es eh = finish (ends_of pins some mask.small)
  where
    finish : Ends pins → PinEnds K pins starts high
    finish e =
        let has-low : T (has pins starts) = subst (λ (x : ℕ). T (has pins x)) (sym es) e.has_bottom in
        let has-high : T (has pins (suc high)) = subst (λ (x : ℕ). T (has pins x)) (sym eh) e.has_top in
        let s8 : starts ≤ 8 = omega (arith, es, e.high, e.trail, e.lead) in
        let h8 : suc high ≤ 8 = omega (arith, eh, e.high) in
        record {
          some = omega (arith, es);
          deep = mask.deep starts (omega (arith, es)) s8 has-low;
          top = omega (arith, mask.deep (suc high) (omega arith) h8 has-high);
          low = λ l p q t. let r = e.held l p q t in (omega (arith, r.0, es), omega (arith, r.1, eh));
          starts_at = inr has-low;
          ends_at = inr has-high;
        }

-- pins whose lowest layer is their highest are one layer
pub ends-one : (pins starts high : ℕ) → LayerMask 8 pins → PinEnds 8 pins starts high → starts ≡ high + 1 → IsSet pins (suc high ∷ [])
ends-one pins starts high mask ends e = record {
  small = mask.small;
  covers = covers-cons 1 8 (suc high) [] (omega arith) (omega (arith, ends.top)) (covers-none 1 8);
  into = λ l p q t. let r = ends.low l p q t in let i : l ≡ suc high = omega (arith, r.0, r.1, e) in rw i (in_head (suc high) []);
  back = λ l i. let c = covers-cons (suc high) (suc high) (suc high) [] (omega arith) (omega arith) (covers-none (suc high) (suc high)) l i in let j : l ≡ suc high = omega (arith, c.0, c.1) in rw j (here ends.starts_at ends.ends_at);
}
  where
    here : (starts ≡ 8) ⊎ T (has pins starts) → (high ≡ 0) ⊎ T (has pins (suc high)) → T (has pins (suc high))
    here (inr t) z = let i : starts ≡ suc high = omega arith in subst (λ (x : ℕ). T (has pins x)) i t
    here (inl s) (inr t) = t
    here (inl s) (inl t) = absurd (omega (arith, e, s, t))
