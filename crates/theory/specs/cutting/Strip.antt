-- Pruning as code does it, in one pass along the line and with no queue: at each tile in turn, while it has one edge and no pin, that edge goes, and the
-- same at the edge's far end. It leaves what the rounds leave.
-- Assumes nothing.
use Rattle.std.specs.Prelude.{◌≡◌, refl, List, [], ◌∷◌, ◌++◌, Bool, true, false, ◌&&◌, not, cond, ◌⊎◌, ◌≢◌, ℕ, zero, suc, ◌+◌, ◌≤◌, ◌<◌, T, eqb, length}
use Rattle.std.proofs.Common.{sym, ap, ◌∙◌, subst, inl, inr, ⊎_elim, arith}
use Rattle.model.specs.Lists.{has}
use Rattle.theory.specs.congestion.Sums.{sum, bit, same, occurs, In, keep, in-keep, keep-few, lt-or-ge, same_cases, eqb-true, in_head, in_tail}
use Rattle.theory.specs.walk.Stops.{At, Fits, far, far-other, less-length}
use Rattle.theory.specs.congestion.Tests.{is_true, has_in}
use Rattle.model.specs.Cut.{pruned_in}
use Rattle.theory.specs.cutting.Subsets.{PartOf, part-sum}
use Rattle.theory.specs.cutting.Prune.{touches, degree, bare?, loose?, Bare, Settled, Drop, Pruned, done, drop, touch-cases, touch-at, bare-test, pruned-part, pruned-then, without-drops, drop-bare, bare-settled, keep_all, keep-twice, keep-shorter, marks-are-rounds}

-- the first edge of the list that meets tile t
abbrev pub edge_at : (lo hi : ℕ → ℕ) → List ℕ → ℕ → ℕ
edge_at lo hi [] t = 0
edge_at lo hi (e ∷ es) t = let r = edge_at lo hi es t in cond (touches lo hi t e) e r

-- the list without edge e
abbrev pub without : ℕ → List ℕ → List ℕ
without e es = keep (λ x. not (eqb x e)) es

-- from tile t on, at most n edges
abbrev pub strip : (lo hi : ℕ → ℕ) → (ℕ → Bool) → ℕ → List ℕ → ℕ → List ℕ
strip lo hi pin zero es t = es
strip lo hi pin (suc n) es t =
    let r = strip lo hi pin n (without (edge_at lo hi es t) es) (far lo hi t (edge_at lo hi es t)) in
    cond (bare? lo hi pin es t) r es

-- from each tile of a list in turn
abbrev pub strips : (lo hi : ℕ → ℕ) → (ℕ → Bool) → List ℕ → List ℕ → List ℕ
strips lo hi pin [] es = es
strips lo hi pin (t ∷ ts) es = strips lo hi pin ts (strip lo hi pin (length es) es t)

-- the same, from each tile at most n edges
abbrev pub strips_to : (lo hi : ℕ → ℕ) → (ℕ → Bool) → ℕ → List ℕ → List ℕ → List ℕ
strips_to lo hi pin n [] es = es
strips_to lo hi pin n (t ∷ ts) es = strips_to lo hi pin n ts (strip lo hi pin n es t)

module _ (lo hi : ℕ → ℕ) where
  -- a tile that edges meet has a first one
  pub edge-at : (es : List ℕ) (t : ℕ) → 1 ≤ degree lo hi es t → In (edge_at lo hi es t) es × At lo hi (edge_at lo hi es t) t
  edge-at [] t h = absurd (omega arith)
  edge-at (e ∷ es) t h = go (edge-at es t) (touches lo hi t e) refl
    where
      AtFirst : Bool → Type 0
      AtFirst q = In (cond q e (edge_at lo hi es t)) (e ∷ es) × At lo hi (cond q e (edge_at lo hi es t)) t

      go : (1 ≤ degree lo hi es t → In (edge_at lo hi es t) es × At lo hi (edge_at lo hi es t) t) → (q : Bool) → touches lo hi t e ≡ q
          → In (cond (touches lo hi t e) e (edge_at lo hi es t)) (e ∷ es) × At lo hi (cond (touches lo hi t e) e (edge_at lo hi es t)) t
      go ih true k = subst AtFirst (sym k) (in_head e es, ⊎_elim (λ c. c.0) (λ c. absurd (omega (arith, c.2, ap bit k))) (touch-cases lo hi t e))
      go ih false k =
          let r = ih (omega (arith, ap bit k)) in
          subst AtFirst (sym k) (in_tail (edge_at lo hi es t) e es r.0, r.1)

  -- where one edge meets a tile, it is that one
  pub edge-only : (es : List ℕ) (t : ℕ) → degree lo hi es t ≡ 1 → (e : ℕ) → In e es → At lo hi e t → edge_at lo hi es t ≡ e
  edge-only es t h e i m = ⊎_elim (λ s. s.0) (λ s. absurd (two s.0)) (same_cases f e)
    where
      f : ℕ
      f = edge_at lo hi es t

      k : In (edge_at lo hi es t) es × At lo hi (edge_at lo hi es t) t
      k = edge-at es t (omega arith)

      part : f ≢ e → PartOf (f ∷ e ∷ []) es
      part n a = go (same_cases a f) (same_cases a e)
        where
          go : ((a ≡ f) × (same a f ≡ 1)) ⊎ ((a ≢ f) × (same a f ≡ 0)) → ((a ≡ e) × (same a e ≡ 1)) ⊎ ((a ≢ e) × (same a e ≡ 0)) → same a f + (same a e + 0) ≤ occurs a es
          go (inl p) (inl q) = absurd (n (sym p.0 ∙ q.0))
          go (inl p) (inr q) = let z : In a es = subst (λ (x : ℕ). In x es) (sym p.0) k.0 in omega (arith, p.1, q.1, z)
          go (inr p) (inl q) = let z : In a es = subst (λ (x : ℕ). In x es) (sym q.0) i in omega (arith, p.1, q.1, z)
          go (inr p) (inr q) = omega (arith, p.1, q.1)

      two : f ≢ e → ⊥
      two n = omega (arith, part-sum (λ x. bit (touches lo hi t x)) (f ∷ e ∷ []) es (part n), h, touch-at lo hi t f k.1, touch-at lo hi t e m)

without-shorter : (es : List ℕ) (e : ℕ) → In e es → length (without e es) < length es
without-shorter es e i =
    ⊎_elim
    (λ h. h)
    (λ h. absurd (subst T (sym (h e i) ∙ ap not (eqb-true e e refl)) tt))
    (keep-shorter (λ x. not (eqb x e)) es)

module _ (lo hi : ℕ → ℕ) (pin : ℕ → Bool) where
  -- one edge goes
  strip-drop : (es : List ℕ) (t : ℕ) → Bare lo hi pin es t → Drop lo hi pin es (edge_at lo hi es t) (without (edge_at lo hi es t) es)
  strip-drop es t b =
      let k = edge-at lo hi es t (omega (arith, b.1)) in
      without-drops lo hi pin es (edge_at lo hi es t) k.0 (t, k.1, b)

  pub strip-pruned : (n : ℕ) (es : List ℕ) (t : ℕ) → Pruned lo hi pin es (strip lo hi pin n es t)
  strip-pruned zero es t = done {es = es} {fs = es} (λ a. refl)
  strip-pruned (suc n) es t = go (strip-pruned n (without (edge_at lo hi es t) es) (far lo hi t (edge_at lo hi es t))) (bare? lo hi pin es t) refl
    where
      r : List ℕ
      r = strip lo hi pin n (without (edge_at lo hi es t) es) (far lo hi t (edge_at lo hi es t))

      go : Pruned lo hi pin (without (edge_at lo hi es t) es) r → (q : Bool) → bare? lo hi pin es t ≡ q → Pruned lo hi pin es (cond q r es)
      go ih true e = drop (edge_at lo hi es t) (strip-drop es t ((bare-test lo hi pin es t).0 (subst T (sym e) tt))) ih
      go ih false e = done {es = es} {fs = es} (λ a. refl)

  strip-keep : (n : ℕ) (es : List ℕ) (t : ℕ) → (p : ℕ → Bool) × (strip lo hi pin n es t ≡ keep p es)
  strip-keep zero es t = (λ e. true, sym (keep_all (λ e. true) es (λ e i. refl)))
  strip-keep (suc n) es t = go (strip-keep n (without (edge_at lo hi es t) es) (far lo hi t (edge_at lo hi es t))) (bare? lo hi pin es t)
    where
      r : List ℕ
      r = strip lo hi pin n (without (edge_at lo hi es t) es) (far lo hi t (edge_at lo hi es t))

      go : (p : ℕ → Bool) × (r ≡ keep p (without (edge_at lo hi es t) es)) → (q : Bool) → (p : ℕ → Bool) × (cond q r es ≡ keep p es)
      go k true = (λ x. not (eqb x (edge_at lo hi es t)) && k.0 x, k.1 ∙ keep-twice (λ x. not (eqb x (edge_at lo hi es t))) k.0 es)
      go k false = (λ e. true, sym (keep_all (λ e. true) es (λ e i. refl)))

  -- no tile of the list is bare
  abbrev pub Clean : List ℕ → List ℕ → Type 0
  Clean es ts = (x : ℕ) → In x ts → Bare lo hi pin es x → ⊥

  -- Of the tiles that were clean, a step makes at most the far end bare; so where it ends, all of them are clean, and the tile where it began.
  pub strip-clean : (n : ℕ) (es : List ℕ) (t : ℕ) (ts : List ℕ) → length es ≤ n → ((x : ℕ) → In x ts → x ≢ t → Bare lo hi pin es x → ⊥) → Clean (strip lo hi pin n es t) (t ∷ ts)
  strip-clean zero [] t ts h c = λ x i b. omega (arith, b.1)
  strip-clean zero (e ∷ es) t ts h c = absurd (omega arith)
  strip-clean (suc n) es t ts h c = go (strip-clean n ds u (t ∷ ts)) (bare? lo hi pin es t) refl
    where
      e : ℕ
      e = edge_at lo hi es t

      ds : List ℕ
      ds = without e es

      u : ℕ
      u = far lo hi t e

      further : Bare lo hi pin es t → (x : ℕ) → In x (t ∷ ts) → x ≢ u → Bare lo hi pin ds x → ⊥
      further b x i n c' = ⊎_elim (λ s. here s.0) (λ s. there s.0 (omega (arith, s.1)) (k.1 x c')) (same_cases x t)
        where
          at : At lo hi e t
          at = (edge-at lo hi es t (omega (arith, b.1))).1

          k : (degree lo hi ds t ≡ 0) × ((y : ℕ) → Bare lo hi pin ds y → Bare lo hi pin es y ⊎ (At lo hi e y × (y ≢ t)))
          k = drop-bare lo hi pin es ds e t at b (strip-drop es t b).rest

          here : x ≡ t → ⊥
          here q = omega (arith, k.0, c'.1, ap (degree lo hi ds) q)

          there : x ≢ t → In x ts → Bare lo hi pin es x ⊎ (At lo hi e x × (x ≢ t)) → ⊥
          there q j (inl m) = c x j q m
          there q j (inr m) = n (far-other lo hi t e x at m.0 q)

      go : (length ds ≤ n → ((x : ℕ) → In x (t ∷ ts) → x ≢ u → Bare lo hi pin ds x → ⊥) → Clean (strip lo hi pin n ds u) (u ∷ t ∷ ts))
          → (q : Bool) → bare? lo hi pin es t ≡ q → Clean (cond q (strip lo hi pin n ds u) es) (t ∷ ts)
      go ih true q = λ x i b. ih short (further bare) x (in_tail x u (t ∷ ts) i) b
        where
          bare : Bare lo hi pin es t
          bare = (bare-test lo hi pin es t).0 (subst T (sym q) tt)

          short : length ds ≤ n
          short = omega (arith, h, without-shorter es e (edge-at lo hi es t (omega (arith, bare.1))).0)
      go ih false q = λ x i b.
          ⊎_elim
          (λ s. subst T q ((bare-test lo hi pin es t).1 (subst (Bare lo hi pin es) s.0 b)))
          (λ s. c x (omega (arith, s.1)) s.0 b)
          (same_cases x t)

  -- ---- along the line

  pub strips-pruned : (ts es : List ℕ) → Pruned lo hi pin es (strips lo hi pin ts es)
  strips-pruned [] es = done {es = es} {fs = es} (λ a. refl)
  strips-pruned (t ∷ ts) es = pruned-then lo hi pin (strip-pruned (length es) es t) (strips-pruned ts (strip lo hi pin (length es) es t))

  strips-keep : (ts es : List ℕ) → (p : ℕ → Bool) × (strips lo hi pin ts es ≡ keep p es)
  strips-keep [] es = (λ e. true, sym (keep_all (λ e. true) es (λ e i. refl)))
  strips-keep (t ∷ ts) es =
      let k = strip-keep (length es) es t in
      let r = strips-keep ts (strip lo hi pin (length es) es t) in
      (λ x. k.0 x && r.0 x, r.1 ∙ ap (keep r.0) k.1 ∙ keep-twice k.0 r.0 es)

  -- `ds` are the tiles done
  pub strips-clean : (ts ds es : List ℕ) → Clean es ds → (x : ℕ) → In x ts ⊎ In x ds → Bare lo hi pin (strips lo hi pin ts es) x → ⊥
  strips-clean [] ds es c x (inl i) b = omega arith
  strips-clean [] ds es c x (inr i) b = c x i b
  strips-clean (t ∷ ts) ds es c x i b =
      strips-clean ts (t ∷ ds) (strip lo hi pin (length es) es t) (strip-clean (length es) es t ds (omega arith) (λ y j n. c y j)) x (later i) b
    where
      later : In x (t ∷ ts) ⊎ In x ds → In x ts ⊎ In x (t ∷ ds)
      later (inl j) = ⊎_elim (λ s. inr (omega (arith, s.1))) (λ s. inl (omega (arith, s.1))) (same_cases x t)
      later (inr j) = inr (in_tail x t ds j)

  -- the tiles of the line are the ends of all its edges, and maybe more
  pub strips-settled : (ts es : List ℕ) → ((e : ℕ) → In e es → In (lo e) ts × In (hi e) ts) → Settled lo hi pin (strips lo hi pin ts es)
  strips-settled ts es h =
      bare-settled lo hi pin (strips lo hi pin ts es)
      (λ e i.
      let k = h e (omega (arith, i, pruned-part lo hi pin (strips-pruned ts es) e)) in
      (strips-clean ts [] es (λ x j b. omega arith) (lo e) (inl k.0), strips-clean ts [] es (λ x j b. omega arith) (hi e) (inl k.1)))

  -- one pass leaves what the rounds leave
  pub strips-are-rounds : (ts es : List ℕ) → ((e : ℕ) → In e es → In (lo e) ts × In (hi e) ts) → strips lo hi pin ts es ≡ pruned_in (loose? lo hi pin) (length es) es
  strips-are-rounds ts es h = finish (strips-keep ts es)
    where
      finish : (p : ℕ → Bool) × (strips lo hi pin ts es ≡ keep p es) → strips lo hi pin ts es ≡ pruned_in (loose? lo hi pin) (length es) es
      finish k =
          k.1
          ∙ marks-are-rounds lo hi pin k.0 es
          (subst (λ (l : List ℕ). Pruned lo hi pin es l) k.1 (strips-pruned ts es))
          (subst (Settled lo hi pin) k.1 (strips-settled ts es h))

  -- ---- a larger number of edges at most

  -- no edge is met where there is none
  none_bare : (t : ℕ) → bare? lo hi pin [] t ≡ false
  none_bare t = go (pin t)
    where
      go : (q : Bool) → (not q && false) ≡ false
      go true = refl
      go false = refl

  strip-enough : (n m : ℕ) (es : List ℕ) (t : ℕ) → length es ≤ n → length es ≤ m → strip lo hi pin n es t ≡ strip lo hi pin m es t
  strip-enough zero zero es t h k = refl
  strip-enough zero (suc m) [] t h k = rw (none_bare t)
  strip-enough zero (suc m) (e ∷ es) t h k = absurd (omega arith)
  strip-enough (suc n) zero [] t h k = rw (none_bare t)
  strip-enough (suc n) zero (e ∷ es) t h k = absurd (omega arith)
  strip-enough (suc n) (suc m) es t h k =
      go (bare? lo hi pin es t) refl (λ f. strip-enough n m (without (edge_at lo hi es t) es) (far lo hi t (edge_at lo hi es t)) (omega (arith, f)) (omega (arith, f)))
    where
      go : (q : Bool) → bare? lo hi pin es t ≡ q
          → (length (without (edge_at lo hi es t) es) < length es
          → strip lo hi pin n (without (edge_at lo hi es t) es) (far lo hi t (edge_at lo hi es t)) ≡ strip lo hi pin m (without (edge_at lo hi es t) es) (far lo hi t (edge_at lo hi es t)))
          → cond (bare? lo hi pin es t) (strip lo hi pin n (without (edge_at lo hi es t) es) (far lo hi t (edge_at lo hi es t))) es
          ≡ cond (bare? lo hi pin es t) (strip lo hi pin m (without (edge_at lo hi es t) es) (far lo hi t (edge_at lo hi es t))) es
      go false b rest = rw b
      go true b rest =
          let i = (edge-at lo hi es t (omega (arith, ((bare-test lo hi pin es t).0 (subst T (sym b) tt)).1))).0 in
          rw b (rest (without-shorter es (edge_at lo hi es t) i))

  strip-fewer : (n : ℕ) (es : List ℕ) (t : ℕ) → length (strip lo hi pin n es t) ≤ length es
  strip-fewer n es t = less-length (strip lo hi pin n es t) es (pruned-part lo hi pin (strip-pruned n es t))

  -- where the edges are no more than n, it is the whole pass
  pub strips-within : (n : ℕ) (ts es : List ℕ) → length es ≤ n → strips_to lo hi pin n ts es ≡ strips lo hi pin ts es
  strips-within n [] es h = refl
  strips-within n (t ∷ ts) es h =
      strips-within n ts (strip lo hi pin n es t) (omega (arith, strip-fewer n es t))
      ∙ ap (strips lo hi pin ts) (strip-enough n (length es) es t h (omega arith))

  pub strips-append : (n : ℕ) (ts us es : List ℕ) → strips_to lo hi pin n (ts ++ us) es ≡ strips_to lo hi pin n us (strips_to lo hi pin n ts es)
  strips-append n [] us es = refl
  strips-append n (t ∷ ts) us es = strips-append n ts us (strip lo hi pin n es t)

-- ---- ways

bits-length : (p : ℕ → Bool) (xs : List ℕ) → sum (λ e. bit (p e)) xs ≡ length (keep p xs)
bits-length p [] = refl
bits-length p (x ∷ xs) = go (bits-length p xs) (p x)
  where
    go : sum (λ e. bit (p e)) xs ≡ length (keep p xs) → (q : Bool) → bit q + sum (λ e. bit (p e)) xs ≡ length (cond q (x ∷ keep p xs) (keep p xs))
    go ih true = omega (arith, ih)
    go ih false = omega (arith, ih)

-- The edges that meet in a tile are the marked ways out of it, as code counts them: both lists have each of them once.
pub degree-ways : (lo hi : ℕ → ℕ) (near : ℕ → List ℕ) (size : ℕ) (es : List ℕ) → Fits lo hi near size es → (t : ℕ) → t < size
    → degree lo hi es t ≡ length (keep (has es) (near t))
degree-ways lo hi near size es fits t low =
    omega (arith, bits-length (touches lo hi t) es, less-length met marked (λ e. omega (arith, alike e)), less-length marked met (λ e. omega (arith, alike e)))
  where
    met : List ℕ
    met = keep (touches lo hi t) es

    marked : List ℕ
    marked = keep (has es) (near t)

    there : (e : ℕ) → In e met → In e marked
    there e i =
        let k = (in-keep (touches lo hi t) e es).0 i in
        (in-keep (has es) e (near t)).1
        ((fits.near_iff t e low k.0).1 (⊎_elim (λ c. c.0) (λ c. absurd (omega (arith, c.2, ap bit (is_true (touches lo hi t e) k.1)))) (touch-cases lo hi t e)), (has_in es e).1 k.0)

    back : (e : ℕ) → In e marked → In e met
    back e i =
        let k = (in-keep (has es) e (near t)).0 i in
        let j = (has_in es e).0 k.1 in
        (in-keep (touches lo hi t) e es).1 (j, bit-true (touches lo hi t e) (touch-at lo hi t e ((fits.near_iff t e low j).0 k.0)))
      where
        bit-true : (b : Bool) → bit b ≡ 1 → T b
        bit-true true h = tt
        bit-true false h = absurd (omega (arith, h))

    alike : (e : ℕ) → occurs e met ≡ occurs e marked
    alike e = go (lt-or-ge 0 (occurs e met)) (lt-or-ge 0 (occurs e marked))
      where
        one : occurs e met ≤ 1
        one = omega (arith, keep-few (touches lo hi t) e es, fits.once e)

        other : occurs e marked ≤ 1
        other = omega (arith, keep-few (has es) e (near t), fits.near_once t e low)

        go : (0 < occurs e met) ⊎ (occurs e met ≤ 0) → (0 < occurs e marked) ⊎ (occurs e marked ≤ 0) → occurs e met ≡ occurs e marked
        go (inl i) (inl j) = omega (arith, one, other)
        go (inl i) (inr j) = absurd (omega (arith, there e i))
        go (inr i) (inl j) = absurd (omega (arith, back e j))
        go (inr i) (inr j) = omega arith
