-- The parts of a net: its touched tiles that are their own roots. `touched t` is 1 at the tiles of the net and else 0, and `root t` is the root of tile t.
-- Assumes nothing.
use Rattle.std.specs.Prelude.{◌≡◌, refl, List, [], ◌∷◌, Bool, ◌||◌, not, ◌⊎◌, ◌≢◌, ℕ, ◌+◌, ◌*◌, ◌≤◌, ◌<◌, max, min, eqb}
use Rattle.std.proofs.Common.{sym, ap, ◌∙◌, subst, inl, inr, ⊎_elim, arith}
use Rattle.theory.specs.congestion.Sums.{sum, bit, same, occurs, In, same_cases, same_refl, same-ne, eqb-true, eqb-false, lt-or-ge, sum-eq, sum_same, sum-part, sum-change}
use Rattle.theory.specs.congestion.Base.{up_from, up_from-once, in-up_from}
use Rattle.theory.specs.walk.Joined.{Joined, self, along, turned, through, relabel, relabel-cases, relabel-same, label-joined}
use Rattle.theory.specs.walk.Union.{top_of, Holds, root-top, root-fixed}

-- 1 at a touched tile that is its own root
abbrev pub root_mark : (touched root : ℕ → ℕ) → ℕ → ℕ
root_mark touched root t = touched t * same (root t) t

abbrev pub parts : ℕ → (touched root : ℕ → ℕ) → ℕ
parts T touched root = sum (root_mark touched root) (up_from 0 T)

-- an untouched tile is its own root, and the root of a touched tile is touched
pub record Marked (T : ℕ) (touched root : ℕ → ℕ) : Type 0 where
  pub bits : (t : ℕ) → touched t ≤ 1
  pub inside : (t : ℕ) → touched t ≡ 1 → t < T
  pub alone : (t : ℕ) → touched t ≡ 0 → root t ≡ t
  pub within : (t : ℕ) → touched t ≡ 1 → touched (root t) ≡ 1
  pub top : (t : ℕ) → root (root t) ≡ root t

-- tile a is touched, if it was not
pub record Touches (touched : ℕ → ℕ) (a : ℕ) (touched' : ℕ → ℕ) : Type 0 where
  pub here : touched' a ≡ 1
  pub others : (t : ℕ) → t ≢ a → touched' t ≡ touched t

-- marks that are tests
pub touches-test : (p q : ℕ → Bool) (a : ℕ) → ((t : ℕ) → q t ≡ (eqb a t || p t)) → Touches (λ t. bit (p t)) a (λ t. bit (q t))
touches-test p q a h = record {
  here = ap bit (h a ∙ ap (λ (b : Bool). b || p a) (eqb-true a a refl));
  others = λ t n. ap bit (h t ∙ ap (λ (b : Bool). b || p t) (eqb-false a t (λ e. n (sym e))));
}

-- ---- one tile's mark

mark-root : (touched root : ℕ → ℕ) (t : ℕ) → root t ≡ t → root_mark touched root t ≡ touched t
mark-root touched root t e = let s : same (root t) t ≡ 1 = rw e (same_refl t) in rw s (omega arith)

mark-other : (touched root : ℕ → ℕ) (t : ℕ) → root t ≢ t → root_mark touched root t ≡ 0
mark-other touched root t n = rw (same-ne (root t) t n) (omega arith)

mark-off : (touched root : ℕ → ℕ) (t : ℕ) → touched t ≡ 0 → root_mark touched root t ≡ 0
mark-off touched root t e = rw e (omega arith)

-- the marks are the same where the tile is touched likewise, and its own root likewise
mark-same : (touched root touched' root' : ℕ → ℕ) (t : ℕ) → touched' t ≡ touched t → (root t ≡ t → root' t ≡ t) → (root t ≢ t → root' t ≢ t)
    → root_mark touched' root' t ≡ root_mark touched root t
mark-same touched root touched' root' t e f g =
    ⊎_elim
    (λ s. mark-root touched' root' t (f s.0) ∙ e ∙ sym (mark-root touched root t s.0))
    (λ s. mark-other touched' root' t (g s.0) ∙ sym (mark-other touched root t s.0))
    (same_cases (root t) t)

once : (T t : ℕ) → t < T → occurs t (up_from 0 T) ≡ 1
once T t h = omega (arith, up_from-once t 0 T, (in-up_from t 0 T).1 (omega arith, omega arith))

-- two elements are at most the sum
two-parts : (f : ℕ → ℕ) (a b : ℕ) (xs : List ℕ) → a ≢ b → In a xs → In b xs → f a + f b ≤ sum f xs
two-parts f a b [] n i j = absurd (omega arith)
two-parts f a b (x ∷ xs) n i j = go (two-parts f a b xs n) (same_cases a x) (same_cases b x)
  where
    go : (In a xs → In b xs → f a + f b ≤ sum f xs) → ((a ≡ x) × (same a x ≡ 1)) ⊎ ((a ≢ x) × (same a x ≡ 0)) → ((b ≡ x) × (same b x ≡ 1)) ⊎ ((b ≢ x) × (same b x ≡ 0))
        → f a + f b ≤ f x + sum f xs
    go ih (inl s) (inl r) = absurd (n (s.0 ∙ sym r.0))
    go ih (inl s) (inr r) = omega (arith, ap f s.0, sum-part f b xs (omega (arith, r.1)))
    go ih (inr s) (inl r) = omega (arith, ap f r.0, sum-part f a xs (omega (arith, s.1)))
    go ih (inr s) (inr r) = omega (arith, ih (omega (arith, s.1)) (omega (arith, r.1)))

bit-cases : (touched : ℕ → ℕ) (t : ℕ) → touched t ≤ 1 → (touched t ≡ 1) ⊎ (touched t ≡ 0)
bit-cases touched t h = ⊎_elim (λ k. inl (omega arith)) (λ k. inr (omega arith)) (lt-or-ge 0 (touched t))

-- ---- nothing is touched

pub parts-start : (T : ℕ) (touched root : ℕ → ℕ) → ((t : ℕ) → touched t ≡ 0) → parts T touched root ≡ 0
parts-start T touched root none = go (up_from 0 T)
  where
    go : (xs : List ℕ) → sum (root_mark touched root) xs ≡ 0
    go [] = refl
    go (x ∷ xs) = omega (arith, mark-off touched root x (none x), go xs)

-- ---- a tile is touched

module _ (T : ℕ) (touched touched' root : ℕ → ℕ) (a : ℕ) (a-inside : a < T) (touches : Touches touched a touched') (marked : Marked T touched root) where
  -- one part more where it was not touched
  pub parts-touch : parts T touched' root + touched a ≡ parts T touched root + 1
  parts-touch = go (sum-change (root_mark touched root) (root_mark touched' root) a (up_from 0 T) (once T a a-inside) rest) (bit-cases touched a (marked.bits a))
    where
      rest : (t : ℕ) → a ≢ t → root_mark touched' root t ≡ root_mark touched root t
      rest t n = mark-same touched root touched' root t (touches.others t (λ e. n (sym e))) (λ k. k) (λ k. k)

      go : parts T touched' root + root_mark touched root a ≡ parts T touched root + root_mark touched' root a → (touched a ≡ 1) ⊎ (touched a ≡ 0)
          → parts T touched' root + touched a ≡ parts T touched root + 1
      go d (inl k) = omega (arith, mark-same touched root touched' root a (touches.here ∙ sym k) (λ e. e) (λ e. e))
      go d (inr k) = omega (arith, mark-off touched root a k, mark-root touched' root a (marked.alone a k), touches.here)

-- ---- the roots of two touched tiles are merged

module _ (T : ℕ) (touched root root' : ℕ → ℕ) (x y : ℕ) (x-touched : touched x ≡ 1) (y-touched : touched y ≡ 1)
    (merges : (z : ℕ) → root' z ≡ relabel (root x) (root y) (root z)) (marked : Marked T touched root) where
  -- the larger root and the smaller
  abbrev large : ℕ
  large = max (root x) (root y)

  abbrev small : ℕ
  small = min (root x) (root y)

  either : (P : ℕ → Type 0) → P (root x) → P (root y) → P large × P small
  either P p q =
      ⊎_elim
      (λ h. (subst P (omega arith) q, subst P (omega arith) p))
      (λ h. (subst P (omega arith) p, subst P (omega arith) q))
      (lt-or-ge (root x) (root y))

  both-touched : (touched large ≡ 1) × (touched small ≡ 1)
  both-touched = either (λ t. touched t ≡ 1) (marked.within x x-touched) (marked.within y y-touched)

  both-top : (root large ≡ large) × (root small ≡ small)
  both-top = either (λ t. root t ≡ t) (marked.top x) (marked.top y)

  -- what a root becomes
  moved : (z : ℕ) → ((root z ≡ large) × (root' z ≡ small)) ⊎ ((root z ≢ large) × (root' z ≡ root z))
  moved z = ⊎_elim (λ s. inl (s.0, merges z ∙ s.1)) (λ s. inr (s.0, merges z ∙ s.1)) (relabel-cases (root x) (root y) (root z))

  -- a tile other than the larger root is its own root just where it was
  stays : (t : ℕ) → t ≢ large → root t ≡ t → root' t ≡ t
  stays t n e = ⊎_elim (λ s. absurd (n (sym e ∙ s.0))) (λ s. s.1 ∙ e) (moved t)

  leaves : (t : ℕ) → root t ≢ t → root' t ≢ t
  leaves t n e = ⊎_elim (λ s. n (subst (λ (u : ℕ). root u ≡ u) (sym s.1 ∙ e) both-top.1)) (λ s. n (sym s.1 ∙ e)) (moved t)

  -- one part less where there were two
  pub parts-merge : (r : Bool) → r ≡ not (eqb (root x) (root y)) → parts T touched root' + bit r ≡ parts T touched root
  parts-merge r e = ⊎_elim (λ s. one s.0) (λ s. two s.0) (same_cases (root x) (root y))
    where
      one : root x ≡ root y → parts T touched root' + bit r ≡ parts T touched root
      one k =
          let no_part : bit r ≡ 0 = ap bit (e ∙ ap not (eqb-true (root x) (root y) k)) in
          omega (arith, sum-eq (root_mark touched root') (root_mark touched root) (up_from 0 T) (λ t i. ap (λ (u : ℕ). touched t * same u t) (unmoved t)))
        where
          unmoved : (z : ℕ) → root' z ≡ root z
          unmoved z = merges z ∙ ap (λ (u : ℕ). relabel (root x) u (root z)) (sym k) ∙ relabel-same (root x) (root z)

      two : root x ≢ root y → parts T touched root' + bit r ≡ parts T touched root
      two k =
          let one-part : bit r ≡ 1 = ap bit (e ∙ ap not (eqb-false (root x) (root y) k)) in
          omega (
            arith,
            sum-change (root_mark touched root) (root_mark touched root') large (up_from 0 T) (once T large (marked.inside large both-touched.0))
                (λ t n. mark-same touched root touched root' t refl (stays t (λ s. n (sym s))) (leaves t)),
            mark-root touched root large both-top.0,
            both-touched.0,
            mark-other touched root' large gone,
          )
        where
          gone : root' large ≢ large
          gone s = ⊎_elim (λ m. omega (arith, m.1)) (λ m. m.0 both-top.0) (moved large)

-- ---- one part

module _ (T : ℕ) (touched root : ℕ → ℕ) (marked : Marked T touched root) (a : ℕ) (a-touched : touched a ≡ 1) where
  -- all touched tiles have the root of one of them
  pub parts-one : parts T touched root ≡ 1 → (t : ℕ) → touched t ≡ 1 → root t ≡ root a
  parts-one one t k = ⊎_elim (λ s. s.0) (λ s. absurd (apart s.0)) (same_cases (root t) (root a))
    where
      counted : (u : ℕ) → touched u ≡ 1 → (root_mark touched root (root u) ≡ 1) × In (root u) (up_from 0 T)
      counted u h = (
        mark-root touched root (root u) (marked.top u) ∙ marked.within u h,
        omega (arith, once T (root u) (marked.inside (root u) (marked.within u h))),
      )

      apart : root t ≢ root a → ⊥
      apart n =
          let p = counted t k in
          let q = counted a a-touched in
          omega (arith, two-parts (root_mark touched root) (root t) (root a) (up_from 0 T) n p.1 q.1, p.0, q.0)

  pub one-parts : ((t : ℕ) → touched t ≡ 1 → root t ≡ root a) → parts T touched root ≡ 1
  one-parts all =
      sum-eq (root_mark touched root) (same (root a)) (up_from 0 T) (λ t i. mark t)
      ∙ sum_same (root a) (up_from 0 T)
      ∙ once T (root a) (marked.inside (root a) (marked.within a a-touched))
    where
      mark : (t : ℕ) → root_mark touched root t ≡ same (root a) t
      mark t =
          ⊎_elim
          (λ k. rw (all t k, k) (omega arith))
          (λ k. mark-off touched root t k ∙ sym (same-ne (root a) t (λ e. omega (arith, k, sym (ap touched e), marked.within a a-touched))))
          (bit-cases touched t (marked.bits t))

-- ---- the roots of parents that hold edges, whose ends are touched

module _ (lo hi : ℕ → ℕ) (par touched : ℕ → ℕ) (ds : List ℕ) (ends-touched : (e : ℕ) → In e ds → (touched (lo e) ≡ 1) × (touched (hi e) ≡ 1)) where
  joined-touched : {a b : ℕ} → Joined lo hi ds a b → (a ≡ b) ⊎ ((touched a ≡ 1) × (touched b ≡ 1))
  joined-touched self = inl refl
  joined-touched (along {e = e} i) = inr (ends-touched e i)
  joined-touched (turned j) = ⊎_elim (λ e. inl (sym e)) (λ k. inr (k.1, k.0)) (joined-touched j)
  joined-touched (through {a = a} {b = b} {c = c} j k) = go (joined-touched j) (joined-touched k)
    where
      go : (a ≡ b) ⊎ ((touched a ≡ 1) × (touched b ≡ 1)) → (b ≡ c) ⊎ ((touched b ≡ 1) × (touched c ≡ 1)) → (a ≡ c) ⊎ ((touched a ≡ 1) × (touched c ≡ 1))
      go (inl e) (inl f) = inl (e ∙ f)
      go (inl e) (inr q) = inr (ap touched e ∙ q.0, q.1)
      go (inr p) (inl f) = inr (p.0, sym (ap touched f) ∙ p.1)
      go (inr p) (inr q) = inr (p.0, q.1)

  pub marked-holds : (T : ℕ) → Holds lo hi par ds → ((t : ℕ) → touched t ≤ 1) → ((t : ℕ) → touched t ≡ 1 → t < T) → Marked T touched (top_of par)
  marked-holds T h bits inside = record {
    bits = bits;
    inside = inside;
    alone = λ t k. ⊎_elim (λ e. h.roots t ∙ sym e) (λ p. absurd (omega (arith, p.0))) (joined-touched (label-joined lo hi ds t));
    within = λ t k.
        ⊎_elim
        (λ e. ap touched (h.roots t ∙ sym e) ∙ k)
        (λ p. ap touched (h.roots t) ∙ p.1)
        (joined-touched (label-joined lo hi ds t));
    top = λ t. root-top par h.falling (top_of par t) (root-fixed par h.falling t);
  }
