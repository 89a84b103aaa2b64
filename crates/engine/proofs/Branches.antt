-- The cost of a combination, branch by branch, and the combinations that are passed over without a look.
-- Assumes nothing.
use mathlib.Core.Path.{◌≡◌, refl, sym, ap, ◌∙◌, subst}
use mathlib.Core.Bool.{Bool, true, false, cond}
use mathlib.Core.List.{List}
use mathlib.Core.Logic.{◌⊎◌, inl, inr, ◌≢◌}
use Prim.Native.Nat.{ℕ, zero, suc, ◌+◌, ◌-◌, ◌*◌, ◌≤◌, ◌<◌}
use native.Mathlib.Numerals.{add-one}
use native.Mathlib.Omega.{arith}
use borrow.Author.Tests.{ltb-true, ltb-false, lt-ltb, le-ltb}
use lib.Count.{count_leading_zeros, count_trailing_zeros}
use lib.Dec.{T, eqb, eqb→eq, leb, leb→le, ltb, ltb→lt, lt→ltb}
use lib.ListN.{get_or}
use Rattle.theory.specs.congestion.Sums.{eqb-true, eqb-false, lt-or-ge}
use Rattle.theory.specs.engine.Loops.{Turn, Passed}
use Rattle.sets.specs.Computed.{all}
use Rattle.sets.specs.Computed as computed
use Rattle.sets.specs.Mask.{with_layer, span_of, with-small}
use Rattle.costs.specs.Rows.{row_at, combination_cost}
use Rattle.engine.specs.Layers.{branch_cost, branch_mask}

-- ---- as code has it

pub there : (c k x y z : ℕ) → c < k → z ≡ x → z ≡ cond (ltb c k) x y
there c k x y z h e = go (ltb c k) refl
  where
    go : (q : Bool) → ltb c k ≡ q → z ≡ cond (ltb c k) x y
    go true i = rw i e
    go false i = absurd (subst (λ (b : Bool). T b) i (lt→ltb c k h))

pub not_there : (c k x y z : ℕ) → k ≤ c → z ≡ y → z ≡ cond (ltb c k) x y
not_there c k x y z h e = go (ltb c k) refl
  where
    go : (q : Bool) → ltb c k ≡ q → z ≡ cond (ltb c k) x y
    go false i = rw i e
    go true i = absurd (omega (arith, ltb→lt c k (subst (λ (b : Bool). T b) (sym i) tt)))

-- cost and vias make just the goal
pub reaches-no : (goal cost span : ℕ) → goal < cost → false ≡ eqb (span + cost) goal
reaches-no goal cost span h = sym (eqb-false (span + cost) goal (λ e. omega (arith, e)))

pub reaches-test : (goal cost span : ℕ) → cost ≤ goal → eqb span (goal - cost) ≡ eqb (span + cost) goal
reaches-test goal cost span h = go (lt-or-ge span (goal - cost)) (lt-or-ge (goal - cost) span)
  where
    go : (span < goal - cost) ⊎ (goal - cost ≤ span) → (goal - cost < span) ⊎ (span ≤ goal - cost) → eqb span (goal - cost) ≡ eqb (span + cost) goal
    go (inl a) b = eqb-false span (goal - cost) (λ e. omega (arith, e)) ∙ sym (eqb-false (span + cost) goal (λ e. omega (arith, e)))
    go (inr a) (inl b) = eqb-false span (goal - cost) (λ e. omega (arith, e)) ∙ sym (eqb-false (span + cost) goal (λ e. omega (arith, e)))
    go (inr a) (inr b) = eqb-true span (goal - cost) (omega arith) ∙ sym (eqb-true (span + cost) goal (omega arith))

-- cost and vias are over the goal, or not
pub exceeds-yes : (goal cost span : ℕ) → goal < cost → true ≡ ltb goal (span + cost)
exceeds-yes goal cost span h = sym (lt-ltb goal (span + cost) (omega arith))

pub exceeds-test : (goal cost span : ℕ) → cost ≤ goal → ltb (goal - cost) span ≡ ltb goal (span + cost)
exceeds-test goal cost span h = go (lt-or-ge (goal - cost) span)
  where
    go : (goal - cost < span) ⊎ (span ≤ goal - cost) → ltb (goal - cost) span ≡ ltb goal (span + cost)
    go (inl a) = lt-ltb (goal - cost) span a ∙ sym (lt-ltb goal (span + cost) (omega arith))
    go (inr a) = le-ltb (goal - cost) span a ∙ sym (le-ltb goal (span + cost) (omega arith))

pub is-over : (t : Bool) (x y : ℕ) → t ≡ ltb x y → t ≡ true → x < y
is-over t x y e h = ltb-true x y (sym e ∙ h)

pub is_within : (t : Bool) (x y : ℕ) → t ≡ ltb x y → t ≡ false → y ≤ x
is_within t x y e h = ltb-false x y (sym e ∙ h)

-- ---- one more layer takes no vias away

span-grows-test : T (all (λ m. all (λ j. leb (span_of m) (span_of (with_layer m (suc j)))) 8) 256)
unfolding span_of with_layer count_leading_zeros count_trailing_zeros
span-grows-test = tt

span-grows : (m l : ℕ) → m < 256 → l < 8 → span_of m ≤ span_of (with_layer m (l + 1))
span-grows m l h h' =
    rw (add-one l)
    (leb→le (span_of m) (span_of (with_layer m (suc l)))
    (computed.below (λ j. leb (span_of m) (span_of (with_layer m (suc j)))) 8
    (computed.below (λ t. all (λ j. leb (span_of t) (span_of (with_layer t (suc j)))) 8) 256 span-grows-test m h) l h'))

branch-grows : (m k c l : ℕ) → m < 256 → l < 8 → (span_of m ≤ span_of (branch_mask m k c l)) × (branch_mask m k c l < 256)
branch-grows m k c l h h' = go (ltb c k) refl
  where
    go : (q : Bool) → ltb c k ≡ q → (span_of m ≤ span_of (branch_mask m k c l)) × (branch_mask m k c l < 256)
    go true i = rw i (span-grows m l h h', with-small m (l + 1) h (omega arith) (omega arith))
    go false i = rw i (omega arith, h)

-- ---- the cost of a combination in parts

module _ (w : List ℕ) (o first k base a b c : ℕ) where
  abbrev mask : ℕ
  mask = branch_mask (branch_mask (branch_mask base k 0 a) k 1 b) k 2 c

  part : (i j l : ℕ) → i ≡ first + j → row_at w o i (l + 1) ≡ get_or w (o + 8 * (first + j) + l) 0
  part i j l e = let x : o + 8 * i + (l + 1 - 1) ≡ o + 8 * (first + j) + l = omega arith in ap (λ (t : ℕ). get_or w t 0) x

  in_parts : (k' : ℕ) → k ≡ k' → k' ≤ 3
      → combination_cost w o first k base (a + 1) (b + 1) (c + 1)
      ≡ span_of mask + (branch_cost w o first k 0 a + (branch_cost w o first k 1 b + branch_cost w o first k 2 c))
  in_parts zero e h = rw e (omega arith)
  in_parts (suc zero) e h = rw e (omega (arith, part first 0 a (omega arith)))
  in_parts (suc (suc zero)) e h = rw e (omega (arith, part first 0 a (omega arith), part (suc first) 1 b (omega arith)))
  in_parts (suc (suc (suc zero))) e h =
      rw e (omega (arith, part first 0 a (omega arith), part (suc first) 1 b (omega arith), part (suc (suc first)) 2 c (omega arith)))
  in_parts (suc (suc (suc (suc k')))) e h = absurd (omega arith)

  pub cost-parts : k ≤ 3
      → combination_cost w o first k base (a + 1) (b + 1) (c + 1)
      ≡ span_of mask + (branch_cost w o first k 0 a + (branch_cost w o first k 1 b + branch_cost w o first k 2 c))
  cost-parts h = in_parts k refl h

-- ---- combinations passed over

module _ (n₁ n₂ n₃ : ℕ) (Q : ℕ → ℕ → ℕ → Type 0) where
  -- all with the layer a of the first branch, and all with a and b
  pub skip_first : (a : ℕ) → ((b c : ℕ) → Turn n₁ n₂ n₃ a b c → Q a b c) → Passed n₁ n₂ n₃ Q a 1 1 → Passed n₁ n₂ n₃ Q (a + 1) 1 1
  skip_first a q p a' b' c' t (inl s) = go (lt-or-ge a' a)
    where
      go : (a' < a) ⊎ (a ≤ a') → Q a' b' c'
      go (inl k) = p a' b' c' t (inl k)
      go (inr k) = let e : a ≡ a' = omega arith in subst (λ (x : ℕ). Turn n₁ n₂ n₃ x b' c' → Q x b' c') e (q b' c') t
  skip_first a q p a' b' c' t (inr (e, inl s)) = absurd (omega (arith, s, t.2))
  skip_first a q p a' b' c' t (inr (e, inr s)) = absurd (omega (arith, s.1, t.4))

  pub skip-second : (a b : ℕ) → ((c : ℕ) → Turn n₁ n₂ n₃ a b c → Q a b c) → Passed n₁ n₂ n₃ Q a b 1 → Passed n₁ n₂ n₃ Q a (b + 1) 1
  skip-second a b q p a' b' c' t (inl s) = p a' b' c' t (inl s)
  skip-second a b q p a' b' c' t (inr (e, inl s)) = go (lt-or-ge b' b)
    where
      go : (b' < b) ⊎ (b ≤ b') → Q a' b' c'
      go (inl k) = p a' b' c' t (inr (e, inl k))
      go (inr k) =
          let i : b ≡ b' = omega arith in
          subst (λ (x : ℕ). Turn n₁ n₂ n₃ x b' c' → Q x b' c') (sym e) (subst (λ (y : ℕ). Turn n₁ n₂ n₃ a y c' → Q a y c') i (q c')) t
  skip-second a b q p a' b' c' t (inr (e, inr s)) = absurd (omega (arith, s.1, t.4))

module _ (w : List ℕ) (o first k base goal : ℕ) (few : k ≤ 3) (small : base < 256) where
  vias-grow : (a b c m₁ m₂ : ℕ) → a < 8 → b < 8 → c < 8 → m₁ ≡ branch_mask base k 0 a → m₂ ≡ branch_mask m₁ k 1 b
      → (span_of m₁ ≤ span_of m₂) × (span_of m₂ ≤ span_of (mask w o first k base a b c))
  vias-grow a b c m₁ m₂ ha hb hc e₁ e₂ =
      rw (e₂, e₁) (
        (branch-grows (branch_mask base k 0 a) k 1 b (branch-grows base k 0 a small ha).1 hb).0,
        (branch-grows (branch_mask (branch_mask base k 0 a) k 1 b) k 2 c (branch-grows (branch_mask base k 0 a) k 1 b (branch-grows base k 0 a small ha).1 hb).1 hc).0,
      )

  -- what is over the goal with one branch and its vias, or with two, does not reach it
  pub over_first : (n₁ n₂ n₃ a p m₁ : ℕ) → n₂ ≤ 8 → n₃ ≤ 8 → a < 8 → p ≡ branch_cost w o first k 0 a → m₁ ≡ branch_mask base k 0 a → goal < span_of m₁ + p
      → (b c : ℕ) → Turn n₁ n₂ n₃ (a + 1) b c → combination_cost w o first k base (a + 1) b c ≢ goal
  over_first n₁ n₂ n₃ a p m₁ h₂ h₃ ha e e₁ h b c t x =
      let i : b - 1 + 1 ≡ b = omega (arith, t.2) in
      let j : c - 1 + 1 ≡ c = omega (arith, t.4) in
      let y : combination_cost w o first k base (a + 1) (b - 1 + 1) (c - 1 + 1) ≡ goal =
      subst (λ (u : ℕ). combination_cost w o first k base (a + 1) u (c - 1 + 1) ≡ goal) (sym i) (subst (λ (u : ℕ). combination_cost w o first k base (a + 1) b u ≡ goal) (sym j) x) in
      let v = vias-grow a (b - 1) (c - 1) m₁ (branch_mask m₁ k 1 (b - 1)) ha (omega (arith, t.2, t.3)) (omega (arith, t.4, t.5)) e₁ refl in
      omega (arith, cost-parts w o first k base a (b - 1) (c - 1) few, y, e, h, v.0, v.1)

  pub over-second : (n₁ n₂ n₃ a b p q m₁ m₂ : ℕ) → n₃ ≤ 8 → a < 8 → b < 8 → p ≡ branch_cost w o first k 0 a → q ≡ branch_cost w o first k 1 b
      → m₁ ≡ branch_mask base k 0 a → m₂ ≡ branch_mask m₁ k 1 b → goal - p < span_of m₂ + q → (c : ℕ)
      → Turn n₁ n₂ n₃ (a + 1) (b + 1) c → combination_cost w o first k base (a + 1) (b + 1) c ≢ goal
  over-second n₁ n₂ n₃ a b p q m₁ m₂ h₃ ha hb e f e₁ e₂ g c t x =
      let j : c - 1 + 1 ≡ c = omega (arith, t.4) in
      let y : combination_cost w o first k base (a + 1) (b + 1) (c - 1 + 1) ≡ goal = subst (λ (u : ℕ). combination_cost w o first k base (a + 1) (b + 1) u ≡ goal) (sym j) x in
      let v = vias-grow a b (c - 1) m₁ m₂ ha hb (omega (arith, t.4, t.5)) e₁ e₂ in
      omega (arith, cost-parts w o first k base a b (c - 1) few, y, e, f, g, v.1)

  -- the test of one combination
  module _ (a b c p q r m₁ m₂ m₃ : ℕ) (ep : p ≡ branch_cost w o first k 0 a) (eq : q ≡ branch_cost w o first k 1 b) (er : r ≡ branch_cost w o first k 2 c)
      (e₁ : m₁ ≡ branch_mask base k 0 a) (e₂ : m₂ ≡ branch_mask m₁ k 1 b) (e₃ : m₃ ≡ branch_mask m₂ k 2 c) (hp : p ≤ goal) (hq : q ≤ goal - p) where
    masks : m₃ ≡ mask w o first k base a b c
    masks = e₃ ∙ ap (λ (x : ℕ). branch_mask x k 2 c) (e₂ ∙ ap (λ (x : ℕ). branch_mask x k 1 b) e₁)

    cost-is : combination_cost w o first k base (a + 1) (b + 1) (c + 1) ≡ span_of m₃ + (p + (q + r))
    cost-is = cost-parts w o first k base a b c few ∙ rw (← masks, ← ep, ← eq, ← er) refl

    test-yes : (t : Bool) → t ≡ eqb (span_of m₃ + r) (goal - p - q) → t ≡ true → combination_cost w o first k base (a + 1) (b + 1) (c + 1) ≡ goal
    test-yes t e h =
        let x = eqb→eq (span_of m₃ + r) (goal - p - q) (subst (λ (u : Bool). T u) (sym (sym e ∙ h)) tt) in
        omega (arith, cost-is, x, hp, hq)

    test-no : (t : Bool) → t ≡ eqb (span_of m₃ + r) (goal - p - q) → t ≡ false → combination_cost w o first k base (a + 1) (b + 1) (c + 1) ≢ goal
    test-no t e h x =
        let y : span_of m₃ + r ≡ goal - p - q = omega (arith, cost-is, x, hp, hq) in
        let z : false ≡ true = sym h ∙ e ∙ eqb-true (span_of m₃ + r) (goal - p - q) y in
        subst (λ (u : Bool). T u) (sym z) tt

    -- the code's test tells whether the combination costs the goal
    pub tested : (t : Bool) → t ≡ eqb (span_of m₃ + r) (goal - p - q)
        → (t ≡ true → combination_cost w o first k base (a + 1) (b + 1) (c + 1) ≡ goal) × (t ≡ false → combination_cost w o first k base (a + 1) (b + 1) (c + 1) ≢ goal)
    tested t e = (test-yes t e, test-no t e)
