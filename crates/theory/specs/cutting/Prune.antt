-- Pruning a net: a tile with one edge and no pin loses that edge, until none is left to lose. `lo e` and `hi e` are the two end tiles of edge e, and
-- `pin t` tells whether tile t has a pin. Whatever the order, the same edges are left: the largest sustained part. What is left is joined as before.
-- Assumes nothing.
use Rattle.std.specs.Prelude.{◌≡◌, refl, List, [], ◌∷◌, ◌++◌, Bool, true, false, ◌&&◌, ◌||◌, not, cond, ◌⊎◌, ◌≢◌, ◌↔◌, ℕ, zero, suc, ◌+◌, ◌≤◌, ◌<◌, T, eqb, length}
use Rattle.std.proofs.Common.{sym, ap, ap₂, ◌∙◌, subst, subst₂, inl, inr, ⊎_elim, arith, eqb→eq}
use Rattle.theory.specs.congestion.Sums.{sum, bit, same, occurs, In, keep, in-keep, same_cases, eqb-true, eqb-false, in_head, in_tail, lt-or-ge, sum-part, sum_same, sum_mono, sum-perm}
use Rattle.theory.specs.walk.Joined.{Joined, self, along, turned, through, joined-more}
use Rattle.theory.specs.walk.Stops.{At, occurs-append}
use Rattle.theory.specs.congestion.Tests.{test-eq, is_false, and_both, or-either, not-false}
use Rattle.model.specs.Cut.{pruned_in}
use Rattle.theory.specs.cutting.Subsets.{PartOf, part-sum}

-- ---- definitions

-- edge e meets tile t
abbrev pub touches : (lo hi : ℕ → ℕ) → ℕ → ℕ → Bool
touches lo hi t e = eqb (lo e) t || eqb (hi e) t

-- how many of the edges meet in tile t
abbrev pub degree : (lo hi : ℕ → ℕ) → List ℕ → ℕ → ℕ
degree lo hi es t = sum (λ e. bit (touches lo hi t e)) es

-- the tests that a tile has one edge and no pin, and that edge e ends in such a tile
abbrev pub bare? : (lo hi : ℕ → ℕ) → (ℕ → Bool) → List ℕ → ℕ → Bool
bare? lo hi pin es t = not (pin t) && eqb (degree lo hi es t) 1

abbrev pub loose? : (lo hi : ℕ → ℕ) → (ℕ → Bool) → List ℕ → ℕ → Bool
loose? lo hi pin es e = bare? lo hi pin es (lo e) || bare? lo hi pin es (hi e)

-- the same as facts
abbrev pub Bare : (lo hi : ℕ → ℕ) → (ℕ → Bool) → List ℕ → ℕ → Type 0
Bare lo hi pin es t = (pin t ≡ false) × (degree lo hi es t ≡ 1)

abbrev pub Loose : (lo hi : ℕ → ℕ) → (ℕ → Bool) → List ℕ → ℕ → Type 0
Loose lo hi pin es e = (t : ℕ) × At lo hi e t × Bare lo hi pin es t

-- no edge is left to lose
abbrev pub Settled : (lo hi : ℕ → ℕ) → (ℕ → Bool) → List ℕ → Type 0
Settled lo hi pin es = (e : ℕ) → In e es → Loose lo hi pin es e → ⊥

-- each end of each edge has a pin or a second edge
abbrev pub Sustained : (lo hi : ℕ → ℕ) → (ℕ → Bool) → List ℕ → Type 0
Sustained lo hi pin es = (e t : ℕ) → In e es → At lo hi e t → (pin t ≡ true) ⊎ (2 ≤ degree lo hi es t)

-- one step: edge e is loose, and the edges ds are the edges es without one e
pub record Drop (lo hi : ℕ → ℕ) (pin : ℕ → Bool) (es : List ℕ) (e : ℕ) (ds : List ℕ) : Type 0 where
  pub loose : Loose lo hi pin es e
  pub rest : (a : ℕ) → occurs a es ≡ same a e + occurs a ds

-- any number of steps, in any order
pub data Pruned (lo hi : ℕ → ℕ) (pin : ℕ → Bool) : List ℕ → List ℕ → Type 0 where
  done : {es fs : List ℕ} → ((a : ℕ) → occurs a es ≡ occurs a fs) → Pruned lo hi pin es fs
  drop : {es ds fs : List ℕ} (e : ℕ) → Drop lo hi pin es e ds → Pruned lo hi pin ds fs → Pruned lo hi pin es fs

-- ---- what is kept of a list

pub keep-occurs : (p : ℕ → Bool) (a : ℕ) (xs : List ℕ) → occurs a (keep p xs) ≡ cond (p a) (occurs a xs) 0
keep-occurs p a [] = go (p a)
  where
    go : (q : Bool) → ◌≡◌ {A = ℕ} 0 (cond q 0 0)
    go true = refl
    go false = refl
keep-occurs p a (x ∷ xs) = go (keep-occurs p a xs) (p x) refl (same_cases a x)
  where
    some_same : (q : Bool) → same a x ≡ 0 → cond q (occurs a xs) 0 ≡ cond q (same a x + occurs a xs) 0
    some_same true s = omega arith
    some_same false s = refl

    go : occurs a (keep p xs) ≡ cond (p a) (occurs a xs) 0 → (q : Bool) → p x ≡ q → ((a ≡ x) × (same a x ≡ 1)) ⊎ ((a ≢ x) × (same a x ≡ 0))
        → occurs a (cond (p x) (x ∷ keep p xs) (keep p xs)) ≡ cond (p a) (same a x + occurs a xs) 0
    go ih true e (inl s) =
        let h : p a ≡ true = ap p s.0 ∙ e in
        rw e (rw h (ap (λ (n : ℕ). same a x + n) (ih ∙ ap (λ (q : Bool). cond q (occurs a xs) 0) h)))
    go ih false e (inl s) =
        let h : p a ≡ false = ap p s.0 ∙ e in
        rw e (rw h (ih ∙ ap (λ (q : Bool). cond q (occurs a xs) 0) h))
    go ih true e (inr s) = rw e (omega (arith, s.1, ih ∙ some_same (p a) s.1))
    go ih false e (inr s) = rw e (ih ∙ some_same (p a) s.1)

-- two tests that keep the same numbers of a list keep the same list
pub keep-ext : (p q : ℕ → Bool) (xs : List ℕ) → ((a : ℕ) → In a xs → p a ≡ q a) → keep p xs ≡ keep q xs
keep-ext p q [] h = refl
keep-ext p q (x ∷ xs) h =
    ap₂ (λ (b : Bool) (r : List ℕ). cond b (x ∷ r) r) (h x (in_head x xs)) (keep-ext p q xs (λ a i. h a (in_tail a x xs i)))

pub keep_same : (p q : ℕ → Bool) (xs : List ℕ) → ((a : ℕ) → occurs a (keep p xs) ≡ occurs a (keep q xs)) → keep p xs ≡ keep q xs
keep_same p q xs h =
    keep-ext p q xs
    (λ a i.
    test-eq (p a) (q a)
    (λ t. ((in-keep q a xs).0 (omega (arith, h a, (in-keep p a xs).1 (i, t)))).1)
    (λ t. ((in-keep p a xs).0 (omega (arith, h a, (in-keep q a xs).1 (i, t)))).1))

pub keep_all : (p : ℕ → Bool) (xs : List ℕ) → ((a : ℕ) → In a xs → p a ≡ true) → keep p xs ≡ xs
keep_all p [] h = refl
keep_all p (x ∷ xs) h = ap₂ (λ (b : Bool) (r : List ℕ). cond b (x ∷ r) r) (h x (in_head x xs)) (keep_all p xs (λ a i. h a (in_tail a x xs i)))

pub keep-twice : (p q : ℕ → Bool) (xs : List ℕ) → keep q (keep p xs) ≡ keep (λ x. p x && q x) xs
keep-twice p q [] = refl
keep-twice p q (x ∷ xs) = go (keep-twice p q xs) (p x)
  where
    go : keep q (keep p xs) ≡ keep (λ y. p y && q y) xs → (b : Bool)
        → keep q (cond b (x ∷ keep p xs) (keep p xs)) ≡ cond (b && q x) (x ∷ keep (λ y. p y && q y) xs) (keep (λ y. p y && q y) xs)
    go ih true = ap (λ (r : List ℕ). cond (q x) (x ∷ r) r) ih
    go ih false = ih

-- some element is left out and the list is shorter, or none
pub keep-shorter : (p : ℕ → Bool) (xs : List ℕ) → (length (keep p xs) < length xs) ⊎ ((a : ℕ) → In a xs → p a ≡ true)
keep-shorter p [] = inr (λ a i. absurd (omega arith))
keep-shorter p (x ∷ xs) = go (keep-shorter p xs) (p x) refl
  where
    Left : Type 0
    Left = (length (keep p xs) < length xs) ⊎ ((a : ℕ) → In a xs → p a ≡ true)

    short : Left → length (keep p xs) ≤ length xs
    short (inl h) = omega arith
    short (inr h) = omega (arith, ap (λ (l : List ℕ). length l) (keep_all p xs h))

    go : Left → (q : Bool) → p x ≡ q → (length (cond (p x) (x ∷ keep p xs) (keep p xs)) < length (x ∷ xs)) ⊎ ((a : ℕ) → In a (x ∷ xs) → p a ≡ true)
    go ih false e = inl (rw e (omega (arith, short ih)))
    go (inl h) true e = inl (rw e (omega arith))
    go (inr h) true e = inr (λ a i. ⊎_elim (λ s. ap p s.0 ∙ e) (λ s. h a (omega (arith, s.1))) (same_cases a x))

module _ (lo hi : ℕ → ℕ) where
  -- ---- the edges at a tile

  pub touch-cases : (t e : ℕ) → (At lo hi e t × (bit (touches lo hi t e) ≡ 1)) ⊎ ((lo e ≢ t) × (hi e ≢ t) × (bit (touches lo hi t e) ≡ 0))
  touch-cases t e = go (same_cases (lo e) t) (same_cases (hi e) t)
    where
      go : ((lo e ≡ t) × (same (lo e) t ≡ 1)) ⊎ ((lo e ≢ t) × (same (lo e) t ≡ 0)) → ((hi e ≡ t) × (same (hi e) t ≡ 1)) ⊎ ((hi e ≢ t) × (same (hi e) t ≡ 0))
          → (At lo hi e t × (bit (touches lo hi t e) ≡ 1)) ⊎ ((lo e ≢ t) × (hi e ≢ t) × (bit (touches lo hi t e) ≡ 0))
      go (inl s) r = inl (inl s.0, ap (λ (q : Bool). bit (q || eqb (hi e) t)) (eqb-true (lo e) t s.0))
      go (inr s) (inl r) = inl (inr r.0, ap₂ (λ (p q : Bool). bit (p || q)) (eqb-false (lo e) t s.0) (eqb-true (hi e) t r.0))
      go (inr s) (inr r) = inr (s.0, r.0, ap₂ (λ (p q : Bool). bit (p || q)) (eqb-false (lo e) t s.0) (eqb-false (hi e) t r.0))

  pub touch-at : (t e : ℕ) → At lo hi e t → bit (touches lo hi t e) ≡ 1
  touch-at t e m = ⊎_elim (λ c. c.1) (λ c. absurd (⊎_elim c.0 c.1 m)) (touch-cases t e)

  -- an edge of the list counts at each of its ends
  pub degree-at : (es : List ℕ) (e t : ℕ) → In e es → At lo hi e t → 1 ≤ degree lo hi es t
  degree-at es e t i m = omega (arith, touch-at t e m, sum-part (λ f. bit (touches lo hi t f)) e es i)

  -- where one edge is taken away
  pub degree-rest : (es ds : List ℕ) (e : ℕ) → ((a : ℕ) → occurs a es ≡ same a e + occurs a ds) → (t : ℕ) → degree lo hi es t ≡ bit (touches lo hi t e) + degree lo hi ds t
  degree-rest es ds e h t = sum-perm (λ f. bit (touches lo hi t f)) es (e ∷ ds) h

module _ (lo hi : ℕ → ℕ) (pin : ℕ → Bool) where
  -- ---- the tests

  pub bare-test : (es : List ℕ) (t : ℕ) → T (bare? lo hi pin es t) ↔ Bare lo hi pin es t
  bare-test es t = (
    λ h. let b = and_both (not (pin t)) (eqb (degree lo hi es t) 1) h in (not-false (pin t) b.0, eqb→eq (degree lo hi es t) 1 b.1),
    λ b. subst T (sym (ap₂ (λ (p q : Bool). not p && q) b.0 (eqb-true (degree lo hi es t) 1 b.1))) tt,
  )

  pub loose-test : (es : List ℕ) (e : ℕ) → T (loose? lo hi pin es e) ↔ Loose lo hi pin es e
  loose-test es e = (
    λ h.
        ⊎_elim
        (λ b. (lo e, inl refl, (bare-test es (lo e)).0 b))
        (λ b. (hi e, inr refl, (bare-test es (hi e)).0 b))
        (or-either (bare? lo hi pin es (lo e)) (bare? lo hi pin es (hi e)) h),
    λ l. back l.0 l.1 ((bare-test es l.0).1 l.2),
  )
    where
      left : (p q : Bool) → T p → T (p || q)
      left true q h = tt
      left false q h = absurd h

      right : (p q : Bool) → T q → T (p || q)
      right true q h = tt
      right false q h = h

      back : (t : ℕ) → At lo hi e t → T (bare? lo hi pin es t) → T (loose? lo hi pin es e)
      back t (inl m) b = left (bare? lo hi pin es (lo e)) (bare? lo hi pin es (hi e)) (subst (λ (x : ℕ). T (bare? lo hi pin es x)) (sym m) b)
      back t (inr m) b = right (bare? lo hi pin es (lo e)) (bare? lo hi pin es (hi e)) (subst (λ (x : ℕ). T (bare? lo hi pin es x)) (sym m) b)

  -- ---- sustained parts

  -- a loose edge is in no sustained part: at its bare end the part would have two edges, and the whole has one
  pub loose-outside : (cs es : List ℕ) (e : ℕ) → Sustained lo hi pin cs → PartOf cs es → Loose lo hi pin es e → occurs e cs ≡ 0
  loose-outside cs es e s h l =
      ⊎_elim
      (λ i.
      absurd (⊎_elim
      (λ p. subst T (sym p ∙ l.2.0) tt)
      (λ d. omega (arith, l.2.1, part-sum (λ f. bit (touches lo hi l.0 f)) cs es h))
      (s e l.0 i l.1)))
      (λ z. omega arith)
      (lt-or-ge 0 (occurs e cs))

  -- so a step leaves each sustained part whole
  pub drop-sustained : (cs es ds : List ℕ) (e : ℕ) → Sustained lo hi pin cs → PartOf cs es → Drop lo hi pin es e ds → PartOf cs ds
  drop-sustained cs es ds e s h d a =
      ⊎_elim
      (λ q. omega (arith, loose-outside cs es e s h d.loose, ap (λ (x : ℕ). occurs x cs) q.0))
      (λ q. omega (arith, h a, d.rest a, q.1))
      (same_cases a e)

  pub pruned-sustained : {es fs : List ℕ} (cs : List ℕ) → Sustained lo hi pin cs → PartOf cs es → Pruned lo hi pin es fs → PartOf cs fs
  pruned-sustained cs s h (done same-all) = λ a. omega (arith, h a, same-all a)
  pruned-sustained cs s h (drop {es = es} {ds = ds} e d r) = pruned-sustained cs s (drop-sustained cs es ds e s h d) r

  pub pruned-part : {es fs : List ℕ} → Pruned lo hi pin es fs → PartOf fs es
  pruned-part (done same-all) = λ a. omega (arith, same-all a)
  pruned-part (drop e d r) = λ a. omega (arith, d.rest a, pruned-part r a)

  -- where none is left to lose, the edges are sustained, and the other way round
  pub settled-sustained : (es : List ℕ) → Settled lo hi pin es → Sustained lo hi pin es
  settled-sustained es n e t i m = go (pin t) refl (lt-or-ge (degree lo hi es t) 2)
    where
      go : (q : Bool) → pin t ≡ q → (degree lo hi es t < 2) ⊎ (2 ≤ degree lo hi es t) → (pin t ≡ true) ⊎ (2 ≤ degree lo hi es t)
      go true p d = inl p
      go false p (inl d) = absurd (n e i (t, m, (p, omega (arith, degree-at lo hi es e t i m))))
      go false p (inr d) = inr d

  pub sustained-settled : (es : List ℕ) → Sustained lo hi pin es → Settled lo hi pin es
  sustained-settled es s e i l = omega (arith, i, loose-outside es es e s (λ a. omega arith) l)

  -- the end of any order of steps is the largest sustained part
  pub record Largest (es fs : List ℕ) : Type 0 where
    pub part : PartOf fs es
    pub sustained : Sustained lo hi pin fs
    pub holds : (cs : List ℕ) → Sustained lo hi pin cs → PartOf cs es → PartOf cs fs

  pub pruned-largest : (es fs : List ℕ) → Pruned lo hi pin es fs → Settled lo hi pin fs → Largest es fs
  pruned-largest es fs r n = record { part = pruned-part r; sustained = settled-sustained fs n; holds = λ cs s h. pruned-sustained cs s h r }

  pub largest-same : (es fs gs : List ℕ) → Largest es fs → Largest es gs → (a : ℕ) → occurs a fs ≡ occurs a gs
  largest-same es fs gs f g a = omega (arith, f.holds gs g.sustained g.part a, g.holds fs f.sustained f.part a)

  -- two orders of steps, each to its end, leave the same edges
  pub pruned-same : (es fs gs : List ℕ) → Pruned lo hi pin es fs → Settled lo hi pin fs → Pruned lo hi pin es gs → Settled lo hi pin gs → (a : ℕ) → occurs a fs ≡ occurs a gs
  pruned-same es fs gs r n s m = largest-same es fs gs (pruned-largest es fs r n) (pruned-largest es gs s m)

  -- ---- steps

  loose_same : (es fs : List ℕ) (e : ℕ) → ((a : ℕ) → occurs a es ≡ occurs a fs) → Loose lo hi pin fs e → Loose lo hi pin es e
  loose_same es fs e h l = (l.0, l.1, (l.2.0, sum-perm (λ f. bit (touches lo hi l.0 f)) es fs h ∙ l.2.1))

  pruned-from : {es fs gs : List ℕ} → ((a : ℕ) → occurs a es ≡ occurs a fs) → Pruned lo hi pin fs gs → Pruned lo hi pin es gs
  pruned-from h (done k) = done (λ a. h a ∙ k a)
  pruned-from {es} h (drop {es = fs} e d r) = drop e (record { loose = loose_same es fs e h d.loose; rest = λ a. h a ∙ d.rest a }) r

  pub pruned-then : {es fs gs : List ℕ} → Pruned lo hi pin es fs → Pruned lo hi pin fs gs → Pruned lo hi pin es gs
  pruned-then (done h) s = pruned-from h s
  pruned-then (drop e d r) s = drop e d (pruned-then r s)

  -- an edge that is loose stays so until it is dropped
  pub loose-stays : (es ds : List ℕ) (d e : ℕ) → ((a : ℕ) → occurs a es ≡ same a d + occurs a ds) → In e ds → Loose lo hi pin es e → Loose lo hi pin ds e
  loose-stays es ds d e h i l =
      (l.0, l.1, (l.2.0, omega (arith, l.2.1, degree-rest lo hi es ds d h l.0, degree-at lo hi ds e l.0 i l.1)))

  -- Edges that are loose all at once may be dropped all at once. `xs` are those that stay so far, `ys` are to be looked at.
  round-steps : (p : ℕ → Bool) (xs ys es fs : List ℕ) → ((a : ℕ) → occurs a es ≡ occurs a xs + occurs a ys) → ((e : ℕ) → In e ys → T (p e) → Loose lo hi pin es e)
      → ((a : ℕ) → occurs a fs ≡ occurs a xs + occurs a (keep (λ e. not (p e)) ys)) → Pruned lo hi pin es fs
  round-steps p xs [] es fs h l k = done {es = es} {fs = fs} (λ a. omega (arith, h a, k a))
  round-steps p xs (y ∷ ys) es fs h l k = go (round-steps p xs ys (xs ++ ys) fs) (round-steps p (y ∷ xs) ys es fs) (p y) refl k
    where
      rest : List ℕ
      rest = keep (λ e. not (p e)) ys

      taken : (a : ℕ) → occurs a es ≡ same a y + occurs a (xs ++ ys)
      taken a = omega (arith, h a, occurs-append a xs ys)

      go : (((a : ℕ) → occurs a (xs ++ ys) ≡ occurs a xs + occurs a ys) → ((e : ℕ) → In e ys → T (p e) → Loose lo hi pin (xs ++ ys) e)
          → ((a : ℕ) → occurs a fs ≡ occurs a xs + occurs a rest) → Pruned lo hi pin (xs ++ ys) fs)
          → (((a : ℕ) → occurs a es ≡ occurs a (y ∷ xs) + occurs a ys) → ((e : ℕ) → In e ys → T (p e) → Loose lo hi pin es e)
          → ((a : ℕ) → occurs a fs ≡ occurs a (y ∷ xs) + occurs a rest) → Pruned lo hi pin es fs)
          → (q : Bool) → p y ≡ q → ((a : ℕ) → occurs a fs ≡ occurs a xs + occurs a (cond (not q) (y ∷ rest) rest)) → Pruned lo hi pin es fs
      go out stay true e k =
          drop y (record { loose = l y (in_head y ys) (subst T (sym e) tt); rest = taken })
          (out (λ a. occurs-append a xs ys)
          (λ f i t. loose-stays es (xs ++ ys) y f taken (omega (arith, occurs-append f xs ys)) (l f (in_tail f y ys i) t))
          k)
      go out stay false e k = stay (λ a. omega (arith, h a)) (λ f i t. l f (in_tail f y ys i) t) (λ a. omega (arith, k a))

  -- ---- rounds

  -- a round is steps
  pub round-pruned : (es : List ℕ) → Pruned lo hi pin es (keep (λ e. not (loose? lo hi pin es e)) es)
  round-pruned es =
      round-steps (loose? lo hi pin es) [] es es (keep (λ e. not (loose? lo hi pin es e)) es) (λ a. omega arith) (λ e i t. (loose-test es e).0 t) (λ a. omega arith)

  pub rounds-pruned : (n : ℕ) (es : List ℕ) → Pruned lo hi pin es (pruned_in (loose? lo hi pin) n es)
  rounds-pruned zero es = done (λ a. refl)
  rounds-pruned (suc n) es = pruned-then (round-pruned es) (rounds-pruned n (keep (λ e. not (loose? lo hi pin es e)) es))

  -- a list with nothing to lose stays as it is
  settled-keeps : (es : List ℕ) → Settled lo hi pin es → keep (λ e. not (loose? lo hi pin es e)) es ≡ es
  settled-keeps es n = keep_all (λ e. not (loose? lo hi pin es e)) es (λ e i. ap not (is_false (loose? lo hi pin es e) (λ t. n e i ((loose-test es e).0 t))))

  pub rounds-settled-stay : (n : ℕ) (es : List ℕ) → Settled lo hi pin es → pruned_in (loose? lo hi pin) n es ≡ es
  rounds-settled-stay zero es s = refl
  rounds-settled-stay (suc n) es s = ap (pruned_in (loose? lo hi pin) n) (settled-keeps es s) ∙ rounds-settled-stay n es s

  -- as many rounds as there are edges leave none to lose: a round drops an edge, or there is none to drop
  pub rounds-settled : (n : ℕ) (es : List ℕ) → length es ≤ n → Settled lo hi pin (pruned_in (loose? lo hi pin) n es)
  rounds-settled zero [] h = λ e i l. omega arith
  rounds-settled zero (e ∷ es) h = absurd (omega arith)
  rounds-settled (suc n) es h = go (rounds-settled n) (keep-shorter (λ e. not (loose? lo hi pin es e)) es)
    where
      round : List ℕ
      round = keep (λ e. not (loose? lo hi pin es e)) es

      not-true : (b : Bool) → not b ≡ true → T b → ⊥
      not-true true e t = subst T (sym e) tt
      not-true false e t = t

      go : ((ds : List ℕ) → length ds ≤ n → Settled lo hi pin (pruned_in (loose? lo hi pin) n ds))
          → (length round < length es) ⊎ ((e : ℕ) → In e es → not (loose? lo hi pin es e) ≡ true) → Settled lo hi pin (pruned_in (loose? lo hi pin) n round)
      go ih (inl s) = ih round (omega arith)
      go ih (inr s) =
          let settled : Settled lo hi pin es = λ e i l. not-true (loose? lo hi pin es e) (s e i) ((loose-test es e).1 l) in
          subst (Settled lo hi pin) (sym (rounds-settled-stay (suc n) es settled)) settled

  -- a list of marks in place of a list of edges
  pub rounds-keep : (n : ℕ) (es : List ℕ) → (p : ℕ → Bool) × (pruned_in (loose? lo hi pin) n es ≡ keep p es)
  rounds-keep zero es = (λ e. true, sym (keep_all (λ e. true) es (λ e i. refl)))
  rounds-keep (suc n) es =
      let q : ℕ → Bool = λ e. not (loose? lo hi pin es e) in
      let r = rounds-keep n (keep q es) in
      (λ e. q e && r.0 e, r.1 ∙ keep-twice q r.0 es)

  pub rounds-largest : (es : List ℕ) → Largest es (pruned_in (loose? lo hi pin) (length es) es)
  rounds-largest es = pruned-largest es (pruned_in (loose? lo hi pin) (length es) es) (rounds-pruned (length es) es) (rounds-settled (length es) es (omega arith))

  -- Marks that are cleared step by step, in any order, until no edge is left to lose, mark just what the rounds leave.
  pub marks-are-rounds : (mark : ℕ → Bool) (es : List ℕ) → Pruned lo hi pin es (keep mark es) → Settled lo hi pin (keep mark es)
      → keep mark es ≡ pruned_in (loose? lo hi pin) (length es) es
  marks-are-rounds mark es r n =
      let k = rounds-keep (length es) es in
      keep_same mark k.0 es
      (λ a.
      largest-same es (keep mark es) (pruned_in (loose? lo hi pin) (length es) es) (pruned-largest es (keep mark es) r n) (rounds-largest es) a
      ∙ ap (occurs a) k.1)
      ∙ sym k.1

  -- ---- what stays joined

  -- the far end in place of a bare tile
  abbrev hop : ℕ → ℕ → ℕ → ℕ
  hop t u x = cond (eqb x t) u x

  hop-off : (t u x : ℕ) → x ≢ t → hop t u x ≡ x
  hop-off t u x n = ap (λ (q : Bool). cond q u x) (eqb-false x t n)

  hop-on : (t u x : ℕ) → x ≡ t → hop t u x ≡ u
  hop-on t u x p = ap (λ (q : Bool). cond q u x) (eqb-true x t p)

  hop-far : (t u x : ℕ) → x ≡ u → hop t u x ≡ u
  hop-far t u x p = ap (hop t u) p ∙ go (eqb u t)
    where
      go : (q : Bool) → cond q u u ≡ u
      go true = refl
      go false = refl

  -- Tile t has the one edge e, which leads to tile u: what the edges join, those without e join, with u in place of t.
  module _ (es ds : List ℕ) (e t u : ℕ) (rest : (a : ℕ) → occurs a es ≡ same a e + occurs a ds) (one : degree lo hi es t ≡ 1)
      (ends : ((lo e ≡ t) × (hi e ≡ u)) ⊎ ((hi e ≡ t) × (lo e ≡ u))) where
    pub leaf-gone : degree lo hi ds t ≡ 0
    leaf-gone = omega (arith, one, degree-rest lo hi es ds e rest t, touch-at lo hi t e (⊎_elim (λ s. inl s.0) (λ s. inr s.0) ends))

    leaf-free : (f x : ℕ) → In f ds → At lo hi f x → x ≢ t
    leaf-free f x i m q = omega (arith, leaf-gone, subst (λ (y : ℕ). 1 ≤ degree lo hi ds y) q (degree-at lo hi ds f x i m))

    leaf-edge : (f : ℕ) → In f es → Joined lo hi ds (hop t u (lo f)) (hop t u (hi f))
    leaf-edge f i = ⊎_elim (λ s. subst (λ (g : ℕ). Joined lo hi ds (hop t u (lo g)) (hop t u (hi g))) (sym s.0) (own ends)) (λ s. other (omega (arith, rest f, s.1))) (same_cases f e)
      where
        own : ((lo e ≡ t) × (hi e ≡ u)) ⊎ ((hi e ≡ t) × (lo e ≡ u)) → Joined lo hi ds (hop t u (lo e)) (hop t u (hi e))
        own (inl s) = subst₂ (λ (a b : ℕ). Joined lo hi ds a b) (sym (hop-on t u (lo e) s.0)) (sym (hop-far t u (hi e) s.1)) self
        own (inr s) = subst₂ (λ (a b : ℕ). Joined lo hi ds a b) (sym (hop-far t u (lo e) s.1)) (sym (hop-on t u (hi e) s.0)) self

        other : In f ds → Joined lo hi ds (hop t u (lo f)) (hop t u (hi f))
        other k =
            subst₂ (λ (a b : ℕ). Joined lo hi ds a b)
            (sym (hop-off t u (lo f) (leaf-free f (lo f) k (inl refl)))) (sym (hop-off t u (hi f) (leaf-free f (hi f) k (inr refl)))) (along k)

    leaf-hop : {a b : ℕ} → Joined lo hi es a b → Joined lo hi ds (hop t u a) (hop t u b)
    leaf-hop self = self
    leaf-hop (along {e = f} i) = leaf-edge f i
    leaf-hop (turned j) = turned (leaf-hop j)
    leaf-hop (through j k) = through (leaf-hop j) (leaf-hop k)

    -- and so two other tiles stay joined
    pub leaf-joined : (a b : ℕ) → a ≢ t → b ≢ t → Joined lo hi es a b → Joined lo hi ds a b
    leaf-joined a b n m j = subst₂ (λ (x y : ℕ). Joined lo hi ds x y) (hop-off t u a n) (hop-off t u b m) (leaf-hop j)

  -- tile t has a pin, or an edge of the list
  abbrev pub Stays : List ℕ → ℕ → Type 0
  Stays es t = (pin t ≡ true) ⊎ (1 ≤ degree lo hi es t)

  stays-more : (fs es : List ℕ) → PartOf fs es → (t : ℕ) → Stays fs t → Stays es t
  stays-more fs es h t (inl p) = inl p
  stays-more fs es h t (inr d) = inr (omega (arith, part-sum (λ f. bit (touches lo hi t f)) fs es h))

  -- tiles that stay, stay joined over a step: the bare end of the edge has no pin, and no edge after it
  pub drop-joins : (es ds : List ℕ) (e : ℕ) → Drop lo hi pin es e ds → (a b : ℕ) → Stays ds a → Stays ds b → Joined lo hi es a b → Joined lo hi ds a b
  drop-joins es ds e d a b sa sb j = go d.loose.0 d.loose.1 d.loose.2
    where
      go : (t : ℕ) → At lo hi e t → Bare lo hi pin es t → Joined lo hi ds a b
      go t m bare = ⊎_elim (λ p. step (hi e) (inl (p, refl))) (λ p. step (lo e) (inr (p, refl))) m
        where
          step : (u : ℕ) → ((lo e ≡ t) × (hi e ≡ u)) ⊎ ((hi e ≡ t) × (lo e ≡ u)) → Joined lo hi ds a b
          step u ends = leaf-joined es ds e t u d.rest bare.1 ends a b (off a sa) (off b sb) j
            where
              off : (x : ℕ) → Stays ds x → x ≢ t
              off x (inl p) q = subst T (sym p ∙ ap pin q ∙ bare.0) tt
              off x (inr k) q = omega (arith, leaf-gone es ds e t u d.rest bare.1 ends, subst (λ (y : ℕ). 1 ≤ degree lo hi ds y) q k)

  -- over any number of steps
  pub pruned-joins : {es fs : List ℕ} → Pruned lo hi pin es fs → (a b : ℕ) → Stays fs a → Stays fs b → Joined lo hi es a b → Joined lo hi fs a b
  pruned-joins {es} {fs} (done h) a b sa sb j = joined-more lo hi es fs (λ e i. omega (arith, h e)) j
  pruned-joins {fs = fs} (drop {es = es} {ds = ds} e d r) a b sa sb j =
      pruned-joins r a b sa sb (drop-joins es ds e d a b (stays-more fs ds (pruned-part r) a sa) (stays-more fs ds (pruned-part r) b sb) j)

  -- every pin, and every edge that is left, is joined to tile a: so it stays
  pub record Hangs (es : List ℕ) (a : ℕ) : Type 0 where
    pub pins : (t : ℕ) → pin t ≡ true → Joined lo hi es a t
    pub edges : (e : ℕ) → In e es → Joined lo hi es a (lo e)

  pub pruned-hangs : (es fs : List ℕ) (a : ℕ) → pin a ≡ true → Pruned lo hi pin es fs → Hangs es a → Hangs fs a
  pruned-hangs es fs a p r h = record {
    pins = λ t q. pruned-joins r a t (inl p) (inl q) (h.pins t q);
    edges = λ e i. pruned-joins r a (lo e) (inl p) (inr (degree-at lo hi fs e (lo e) i (inl refl))) (h.edges e (omega (arith, i, pruned-part r e)));
  }

  -- ---- for code that goes along the line and clears marks

  -- a loose edge stands once
  pub loose-once : (es : List ℕ) (e : ℕ) → Loose lo hi pin es e → occurs e es ≤ 1
  loose-once es e l =
      omega (
        arith,
        l.2.1,
        sum_same e es,
        sum_mono (same e) (λ f. bit (touches lo hi l.0 f)) es
            (λ f i.
            ⊎_elim
            (λ s. omega (arith, s.1, ap (λ (x : ℕ). bit (touches lo hi l.0 x)) s.0, touch-at lo hi l.0 e l.1))
            (λ s. omega (arith, s.1))
            (same_cases e f)),
      )

  -- one edge is left out of a list
  pub without-drops : (es : List ℕ) (e : ℕ) → In e es → Loose lo hi pin es e → Drop lo hi pin es e (keep (λ x. not (eqb x e)) es)
  without-drops es e i l = record { loose = l; rest = λ a. ⊎_elim (own a) (other a) (same_cases a e) }
    where
      gone : (a : ℕ) (q : Bool) → eqb a e ≡ q → occurs a (keep (λ x. not (eqb x e)) es) ≡ cond (not q) (occurs a es) 0
      gone a q h = keep-occurs (λ x. not (eqb x e)) a es ∙ ap (λ (b : Bool). cond (not b) (occurs a es) 0) h

      own : (a : ℕ) → (a ≡ e) × (same a e ≡ 1) → occurs a es ≡ same a e + occurs a (keep (λ x. not (eqb x e)) es)
      own a s = omega (arith, s.1, gone a true (eqb-true a e s.0), ap (λ (x : ℕ). occurs x es) s.0, i, loose-once es e l)

      other : (a : ℕ) → (a ≢ e) × (same a e ≡ 0) → occurs a es ≡ same a e + occurs a (keep (λ x. not (eqb x e)) es)
      other a s = omega (arith, s.1, gone a false (eqb-false a e s.0))

  -- one mark is cleared
  pub clear-drops : (mark : ℕ → Bool) (es : List ℕ) (e : ℕ) → In e (keep mark es) → Loose lo hi pin (keep mark es) e
      → Drop lo hi pin (keep mark es) e (keep (λ x. mark x && not (eqb x e)) es)
  clear-drops mark es e i l =
      subst (λ (ds : List ℕ). Drop lo hi pin (keep mark es) e ds) (keep-twice mark (λ x. not (eqb x e)) es) (without-drops (keep mark es) e i l)

  -- A step at the bare end t of edge e leaves t without edges, and makes no tile bare but the far end of e.
  pub drop-bare : (es ds : List ℕ) (e t : ℕ) → At lo hi e t → Bare lo hi pin es t → ((a : ℕ) → occurs a es ≡ same a e + occurs a ds)
      → (degree lo hi ds t ≡ 0) × ((x : ℕ) → Bare lo hi pin ds x → Bare lo hi pin es x ⊎ (At lo hi e x × (x ≢ t)))
  drop-bare es ds e t m b h = (gone, λ x c. ⊎_elim (λ k. inr (k.0, λ q. omega (arith, gone, c.1, ap (degree lo hi ds) q))) (λ k. inl (c.0, omega (arith, degree-rest lo hi es ds e h x, k.2, c.1))) (touch-cases lo hi x e))
    where
      gone : degree lo hi ds t ≡ 0
      gone = omega (arith, b.1, degree-rest lo hi es ds e h t, touch-at lo hi t e m)

  -- no end of an edge is bare: no edge is left to lose
  pub bare-settled : (es : List ℕ) → ((e : ℕ) → In e es → (Bare lo hi pin es (lo e) → ⊥) × (Bare lo hi pin es (hi e) → ⊥)) → Settled lo hi pin es
  bare-settled es n e i l = go l.0 l.1 l.2
    where
      go : (t : ℕ) → At lo hi e t → Bare lo hi pin es t → ⊥
      go t (inl m) b = (n e i).0 (subst (Bare lo hi pin es) (sym m) b)
      go t (inr m) b = (n e i).1 (subst (Bare lo hi pin es) (sym m) b)
