-- A set of layers as a mask: layer l, from 1 to 8, is in it where digit l - 1 is 1. What the zeros at its ends say, and what one more layer does.
-- Assumes nothing.
use Rattle.std.specs.Prelude.{◌≡◌, refl, List, [], ◌∷◌, ◌++◌, Bool, true, false, ◌⊎◌, ℕ, zero, suc, ◌+◌, ◌-◌, ◌*◌, ◌/◌, ◌%◌, ◌^◌, ◌<◌, ◌≤◌, T, leb, eqb, get_or, length}
use Rattle.std.proofs.Common.{sym, ◌∙◌, subst, inl, inr, ⊎_elim, arith, leb→le, eqb→eq}
use Rattle.std.specs.Int.Bits.{bit_or}
use Rattle.std.specs.Int.Count.{count_leading_zeros, count_trailing_zeros}
use Rattle.std.proofs.Math.Dec.{eqb_refl}
use Rattle.model.specs.Lists.{up_from, keep}
use Rattle.model.specs.Vias as defs
use Rattle.theory.specs.congestion.Sums.{In, occurs, in_head, in_tail, same_cases, in-keep}
use Rattle.theory.specs.congestion.Base.{in-up_from}
use Rattle.theory.specs.engine.Span.{Covers, span, span-le, span_set, covers-cons, covers-append}
use Rattle.theory.specs.links.Best.{engine-span}
use Rattle.sets.specs.Computed.{both, both_left, both_right, all, below}

-- layer l is in the set m
abbrev pub has : ℕ → ℕ → Bool
has m l = eqb (m / 2 ^ (l - 1) % 2) 1

-- the set with layer l
unfoldable pub with_layer : ℕ → ℕ → ℕ
with_layer m l = bit_or m (2 ^ (l - 1))

-- the set with the layers of a list
abbrev pub mask_of : ℕ → List ℕ → ℕ
mask_of m [] = m
mask_of m (l ∷ ls) = mask_of (with_layer m l) ls

-- the layers of a mask, as a list
abbrev pub layers_in : ℕ → List ℕ
layers_in m = keep (has m) (up_from 1 8)

-- the vias of a tile with the set m: the definitions' span of its layers
unfoldable pub span_of : ℕ → ℕ
span_of m = defs.span (layers_in m)

-- the chart has the cost of every set of eight layers: `price m` is that of the set m
pub record Charted (price : ℕ → ℕ) (chart : List ℕ) : Type 0 where
  pub at : (m : ℕ) → m < 256 → get_or chart m 0 ≡ price m

-- mask m is the set of the layers xs
pub record IsSet (m : ℕ) (xs : List ℕ) : Type 0 where
  pub small : m < 256
  pub covers : Covers 1 8 xs
  pub into : (l : ℕ) → 1 ≤ l → l ≤ 8 → T (has m l) → In l xs
  pub back : (l : ℕ) → In l xs → T (has m l)

-- ---- one more layer

abbrev either : Bool → Bool → Bool
either true b = true
either false b = b

abbrev same? : Bool → Bool → Bool
same? true b = b
same? false true = false
same? false false = true

same-to : (a b : Bool) → T (same? a b) → T a → T b
same-to true b t u = t
same-to false true t u = tt
same-to false false t u = u

same_from : (a b : Bool) → T (same? a b) → T b → T a
same_from true b t u = tt
same_from false true t u = absurd t
same_from false false t u = u

either-of : (a b : Bool) → T (either a b) → T a ⊎ T b
either-of true b t = inl tt
either-of false b t = inr t

either_left : (a b : Bool) → T a → T (either a b)
either_left true b t = tt
either_left false b t = absurd t

either-right : (a b : Bool) → T b → T (either a b)
either-right true b t = tt
either-right false b t = t

eqb_of : (a b : ℕ) → a ≡ b → T (eqb a b)
eqb_of a b e = subst (λ (x : ℕ). T (eqb a x)) e (eqb_refl a)

abbrev added_at : ℕ → ℕ → ℕ → Bool
added_at m j k = same? (has (with_layer m (suc j)) (suc k)) (either (has m (suc k)) (eqb k j))

abbrev added : ℕ → ℕ → Bool
added m j = both (leb (suc (with_layer m (suc j))) 256) (all (added_at m j) 8)

added-test : T (all (λ m. all (added m) 8) 256)
unfolding with_layer
added-test = tt

added-at : (m j : ℕ) → m < 256 → j < 8 → T (added m j)
added-at m j h h' = below (added m) 8 (below (λ t. all (added t) 8) 256 added-test m h) j h'

module _ (m l : ℕ) (h : m < 256) (p : 1 ≤ l) (q : l ≤ 8) where
  added-here : T (added m (l - 1))
  added-here = added-at m (l - 1) h (omega arith)

  up : suc (l - 1) ≡ l
  up = omega arith

  pub with-small : with_layer m l < 256
  with-small =
      subst (λ (t : ℕ). with_layer m t < 256) up
      (leb→le (suc (with_layer m (suc (l - 1)))) 256 (both_left (leb (suc (with_layer m (suc (l - 1)))) 256) (all (added_at m (l - 1)) 8) added-here))

  with_at : (k : ℕ) → 1 ≤ k → k ≤ 8 → T (same? (has (with_layer m l) k) (either (has m k) (eqb (k - 1) (l - 1))))
  with_at k a b =
      let e : suc (k - 1) ≡ k = omega arith in
      let t = below (added_at m (l - 1)) 8 (both_right (leb (suc (with_layer m (suc (l - 1)))) 256) (all (added_at m (l - 1)) 8) added-here) (k - 1) (omega arith) in
      subst (λ (x : ℕ). T (same? (has (with_layer m x) k) (either (has m k) (eqb (k - 1) (l - 1))))) up
      (subst (λ (x : ℕ). T (same? (has (with_layer m (suc (l - 1))) x) (either (has m x) (eqb (k - 1) (l - 1))))) e t)

  pub set-with : (xs : List ℕ) → IsSet m xs → IsSet (with_layer m l) (l ∷ xs)
  set-with xs s = record {
    small = with-small;
    covers = covers-cons 1 8 l xs p q s.covers;
    into = λ k a b t. go k a b (either-of (has m k) (eqb (k - 1) (l - 1)) (same-to (has (with_layer m l) k) (either (has m k) (eqb (k - 1) (l - 1))) (with_at k a b) t));
    back = λ k i. back_at k i (covers-cons 1 8 l xs p q s.covers k i);
  }
    where
      go : (k : ℕ) → 1 ≤ k → k ≤ 8 → T (has m k) ⊎ T (eqb (k - 1) (l - 1)) → In k (l ∷ xs)
      go k a b (inl t) = in_tail k l xs (s.into k a b t)
      go k a b (inr t) = let e : k ≡ l = omega (arith, eqb→eq (k - 1) (l - 1) t) in subst (λ (x : ℕ). In x (l ∷ xs)) (sym e) (in_head l xs)

      back_at : (k : ℕ) → In k (l ∷ xs) → (1 ≤ k) × (k ≤ 8) → T (has (with_layer m l) k)
      back_at k i c =
          same_from (has (with_layer m l) k) (either (has m k) (eqb (k - 1) (l - 1))) (with_at k c.0 c.1)
          (⊎_elim (λ r. either-right (has m k) (eqb (k - 1) (l - 1)) (eqb_of (k - 1) (l - 1) (omega (arith, r.0))))
          (λ r. either_left (has m k) (eqb (k - 1) (l - 1)) (s.back k (omega (arith, r.1)))) (same_cases k l))

-- ---- the span

abbrev inside : ℕ → ℕ → ℕ → Bool
inside lo hi k = both (leb lo (suc k)) (leb (suc k) hi)

abbrev implies : Bool → Bool → Bool
implies true b = b
implies false b = true

implied : (a b : Bool) → T (implies a b) → T a → T b
implied true b t u = t
implied false b t u = absurd u

-- its highest and lowest layer, where it is not empty
abbrev pub top : ℕ → ℕ
top m = 32 - count_leading_zeros 32 m

abbrev pub bottom : ℕ → ℕ
bottom m = suc (count_trailing_zeros 32 m)

abbrev within : ℕ → ℕ → Bool
within m k = implies (has m (suc k)) (inside (bottom m) (top m) k)

abbrev ends : ℕ → Bool
ends m = both (leb (count_leading_zeros 32 m) 31) (both (leb (bottom m) (top m)) (both (leb (top m) 8) (both (has m (top m)) (both (has m (bottom m)) (all (within m) 8)))))

ends-test : T (all (λ j. ends (suc j)) 255)
unfolding count_leading_zeros count_trailing_zeros
ends-test = tt

pub record Ends (m : ℕ) : Type 0 where
  pub lead : count_leading_zeros 32 m ≤ 31
  pub trail : count_trailing_zeros 32 m ≤ 31 - count_leading_zeros 32 m
  pub high : top m ≤ 8
  pub has_top : T (has m (top m))
  pub has_bottom : T (has m (bottom m))
  pub held : (l : ℕ) → 1 ≤ l → l ≤ 8 → T (has m l) → (bottom m ≤ l) × (l ≤ top m)

pub ends_of : (m : ℕ) → 0 < m → m < 256 → Ends m
ends_of zero p h = absurd (omega arith)
ends_of (suc j) p h = go (suc j) (below (λ t. ends (suc t)) 255 ends-test j (omega arith))
  where
    go : (m : ℕ) → T (ends m) → Ends m
    go m t =
        let t1 = both_right (leb (count_leading_zeros 32 m) 31) (both (leb (bottom m) (top m)) (both (leb (top m) 8) (both (has m (top m)) (both (has m (bottom m)) (all (within m) 8))))) t in
        let t2 = both_right (leb (bottom m) (top m)) (both (leb (top m) 8) (both (has m (top m)) (both (has m (bottom m)) (all (within m) 8)))) t1 in
        let t3 = both_right (leb (top m) 8) (both (has m (top m)) (both (has m (bottom m)) (all (within m) 8))) t2 in
        let t4 = both_right (has m (top m)) (both (has m (bottom m)) (all (within m) 8)) t3 in
        let t5 = both_right (has m (bottom m)) (all (within m) 8) t4 in
        let a = leb→le (count_leading_zeros 32 m) 31 (both_left (leb (count_leading_zeros 32 m) 31) (both (leb (bottom m) (top m)) (both (leb (top m) 8) (both (has m (top m)) (both (has m (bottom m)) (all (within m) 8))))) t) in
        let b = leb→le (bottom m) (top m) (both_left (leb (bottom m) (top m)) (both (leb (top m) 8) (both (has m (top m)) (both (has m (bottom m)) (all (within m) 8)))) t1) in
        record {
          lead = a;
          trail = omega (arith, a, b);
          high = leb→le (top m) 8 (both_left (leb (top m) 8) (both (has m (top m)) (both (has m (bottom m)) (all (within m) 8))) t2);
          has_top = both_left (has m (top m)) (both (has m (bottom m)) (all (within m) 8)) t3;
          has_bottom = both_left (has m (bottom m)) (all (within m) 8) t4;
          held = λ l p q u.
              let e : suc (l - 1) ≡ l = omega arith in
              let v = implied (has m l) (both (leb (bottom m) l) (leb l (top m)))
              (subst (λ (x : ℕ). T (implies (has m x) (both (leb (bottom m) x) (leb x (top m))))) e (below (within m) 8 t5 (l - 1) (omega arith))) u in
              (leb→le (bottom m) l (both_left (leb (bottom m) l) (leb l (top m)) v), leb→le l (top m) (both_right (leb (bottom m) l) (leb l (top m)) v));
        }

pub no_layer : (l : ℕ) → 1 ≤ l → l ≤ 8 → T (has 0 l) → T false
no_layer l p q t =
    let e : suc (l - 1) ≡ l = omega arith in
    implied (has 0 l) false (subst (λ (x : ℕ). T (implies (has 0 x) false)) e (below (λ k. implies (has 0 (suc k)) false) 8 tt (l - 1) (omega arith))) t

-- ---- sets by members only

pub set-none : IsSet 0 []
set-none = record { small = omega arith; covers = λ x i. absurd (omega arith); into = λ l p q t. absurd (no_layer l p q t); back = λ l i. absurd (omega arith) }

pub set-layers-in : (m : ℕ) → m < 256 → IsSet m (layers_in m)
set-layers-in m h = record {
  small = h;
  covers = λ x i. let r = (in-up_from x 1 8).0 ((in-keep (has m) x (up_from 1 8)).0 i).0 in (r.0, omega (arith, r.1));
  into = λ l p q t. (in-keep (has m) l (up_from 1 8)).1 ((in-up_from l 1 8).1 (p, omega arith), t);
  back = λ l i. ((in-keep (has m) l (up_from 1 8)).0 i).1;
}

pub set_same : (m : ℕ) (xs ys : List ℕ) → Covers 1 8 ys → ((l : ℕ) → In l xs → In l ys) → ((l : ℕ) → In l ys → In l xs) → IsSet m xs → IsSet m ys
set_same m xs ys c f g s = record { small = s.small; covers = c; into = λ l a b t. f l (s.into l a b t); back = λ l i. s.back l (g l i) }

-- the definitions' span of the set is the engine's, whichever list has its layers
pub span-is : (m : ℕ) (xs : List ℕ) → IsSet m xs → span_of m ≡ span (λ l. l) xs
unfolding span_of
span-is m xs s =
    let own = set-layers-in m s.small in
    sym (engine-span (layers_in m))
    ∙ span_set (λ l. l) (layers_in m) xs (λ x i. let c = own.covers x i in s.into x c.0 c.1 (own.back x i)) (λ x i. let c = s.covers x i in own.into x c.0 c.1 (s.back x i))

pub span-le-7 : (m : ℕ) → m < 256 → span_of m ≤ 7
span-le-7 m h = let own = set-layers-in m h in omega (arith, span-is m (layers_in m) own, span-le (λ l. l) (λ a b k. k) 1 8 (layers_in m) own.covers)

-- ---- the chart

-- entry m of sixteen rows of sixteen
abbrev pub entry_of : List (List ℕ) → ℕ → ℕ
entry_of rows m = get_or (get_or rows (m / 16) []) (m % 16) 0

-- entry m is the span of its set
unfoldable pub right : List (List ℕ) → ℕ → Bool
right rows m = eqb (entry_of rows m) (span_of m)

-- d is c with the first n numbers of row r in their places; what stands before the row is as it was
pub record Rowed (row : List ℕ) (r n : ℕ) (c d : List ℕ) : Type 0 where
  pub long : length d ≡ length c
  pub written : (i : ℕ) → i < n → get_or d (16 * r + i) 0 ≡ get_or row i 0
  pub before : (t : ℕ) → t < 16 * r → get_or d t 0 ≡ get_or c t 0

-- Each entry of the chart is the span of its set, highest minus lowest layer, by one test of them all.
pub chart-is : (rows : List (List ℕ)) → T (all (right rows) 256) → (m : ℕ) → m < 256 → entry_of rows m ≡ span_of m
unfolding right
chart-is rows t m h = eqb→eq (entry_of rows m) (span_of m) (below (right rows) 256 t m h)

-- the layers ls on top of a set S
occurs-append : (a : ℕ) (xs ys : List ℕ) → occurs a (xs ++ ys) ≡ occurs a xs + occurs a ys
occurs-append a [] ys = omega arith
occurs-append a (x ∷ xs) ys = omega (arith, occurs-append a xs ys)

pub set-layers : (m : ℕ) (S ls : List ℕ) → Covers 1 8 ls → IsSet m S → IsSet (mask_of m ls) (S ++ ls)
set-layers m S [] h s = set_same m S (S ++ []) (λ x i. s.covers x (omega (arith, occurs-append x S []))) (λ l i. omega (arith, occurs-append l S [])) (λ l i. omega (arith, occurs-append l S [])) s
set-layers m S (l ∷ ls) h s =
    let c = h l (in_head l ls) in
    let r = set-layers (with_layer m l) (l ∷ S) ls (λ x i. h x (in_tail x l ls i)) (set-with m l s.small c.0 c.1 S s) in
    set_same (mask_of (with_layer m l) ls) ((l ∷ S) ++ ls) (S ++ (l ∷ ls)) (covers-append 1 8 S (l ∷ ls) s.covers h)
    (λ x i. omega (arith, occurs-append x S (l ∷ ls), occurs-append x S ls)) (λ x i. omega (arith, occurs-append x S (l ∷ ls), occurs-append x S ls)) r

-- the vias of a tile whose pins and layer above are the set S and whose branches have the layers ls
pub mask-price : (m : ℕ) (S ls : List ℕ) → Covers 1 8 ls → IsSet m S → span_of (mask_of m ls) ≡ span (λ l. l) (S ++ ls)
mask-price m S ls h s = span-is (mask_of m ls) (S ++ ls) (set-layers m S ls h s)

-- the mask as code has it
pub with-is : (m l : ℕ) → m < 256 → 1 ≤ l → l ≤ 8 → (s : ℕ) → s ≡ 2 ^ (l - 1) → (bit_or m s ≡ with_layer m l) × (bit_or m s < 256)
unfolding with_layer
with-is m l h p q s e = rw e (refl, with-small m l h p q)

pub power-is : (l : ℕ) → 1 ≤ l → l ≤ 8 → 1 * 2 ^ (l - 1) % 4294967296 ≡ 2 ^ (l - 1)
power-is l p q =
    eqb→eq (1 * 2 ^ (l - 1) % 4294967296) (2 ^ (l - 1))
    (below (λ j. eqb (1 * 2 ^ j % 4294967296) (2 ^ j)) 8 tt (l - 1) (omega arith))
