-- What is marked of an edge in its two tiles: bit 8 + d where it starts, and the way back, bit 10 + d, where it ends. d is 0 for an edge to the east
-- and 1 for an edge to the north.
-- Assumes nothing.
use Rattle.std.specs.Prelude.{Bool, true, false, ◌&&◌, ◌||◌, not, cond, List, Option, Some, None, ◌≡◌, refl, ℕ, ◌+◌, ◌≤◌, ◌<◌, eqb, length}
use Rattle.std.proofs.Common.{ap, ◌∙◌, arith, eq-eqb, ne_eqb}
use Rattle.std.proofs.Math.Decide.{ℕ_discrete}
use Rattle.marks.specs.Marks.{bits_at, marked, touched, mark, marks_after, mark-has, mark-touches, mark-fits, mark-long}
use Rattle.marks.specs.Words.{Fits, bit-some}
use Rattle.model.specs.Lists.{bit}

-- 1 where tile t has no mark yet
abbrev pub first_mark : ℕ → List ℕ → ℕ → ℕ
first_mark n a t = bit (eqb (bits_at n a t) 0)

-- what marking an edge finds, none where it is marked already, and what it leaves
unfoldable pub ends_of : ℕ → List ℕ → ℕ → ℕ → ℕ → Option ℕ
ends_of n a here there d = cond (marked n a here (8 + d)) None (Some (first_mark n a here + first_mark n (mark n a here (8 + d)) there))

unfoldable pub ends_after : ℕ → List ℕ → ℕ → ℕ → ℕ → List ℕ
ends_after n a here there d = cond (marked n a here (8 + d)) a (marks_after n (mark n a here (8 + d)) there (10 + d))

pub first-mark : (n : ℕ) (a : List ℕ) (t : ℕ) → first_mark n a t + bit (touched n a t) ≡ 1
first-mark n a t = go (eqb (bits_at n a t) 0)
  where
    go : (q : Bool) → bit q + bit (not q) ≡ 1
    go true = refl
    go false = refl

-- ---- a mark that was perhaps there already

pub after-long : (n : ℕ) (a : List ℕ) (t i : ℕ) → length (marks_after n a t i) ≡ length a
unfolding marks_after
after-long n a t i = go (marked n a t i)
  where
    go : (q : Bool) → length (cond q a (mark n a t i)) ≡ length a
    go true = refl
    go false = mark-long n a t i

module _ (n : ℕ) (a : List ℕ) (t i : ℕ) (room : t < length a) (i-small : i < 12) where
  after-old : marked n a t i ≡ true → marks_after n a t i ≡ a
  unfolding marks_after
  after-old e = rw e

  after-new : marked n a t i ≡ false → marks_after n a t i ≡ mark n a t i
  unfolding marks_after
  after-new e = rw e

  pub after-has : (u k : ℕ) → marked n (marks_after n a t i) u k ≡ ((eqb t u && eqb i k) || marked n a u k)
  after-has u k = go (marked n a t i) refl
    where
      there : marked n a t i ≡ true → Dec (t ≡ u) → Dec (i ≡ k) → marked n a u k ≡ ((eqb t u && eqb i k) || marked n a u k)
      there e (yes p) (yes q) = rw (eq-eqb t u p, eq-eqb i k q, ← p, ← q) e
      there e (yes p) (no q) = rw (eq-eqb t u p, ne_eqb i k q)
      there e (no p) q = rw (ne_eqb t u p)

      go : (q : Bool) → marked n a t i ≡ q → marked n (marks_after n a t i) u k ≡ ((eqb t u && eqb i k) || marked n a u k)
      go true e = ap (λ (l : List ℕ). marked n l u k) (after-old e) ∙ there e (ℕ_discrete t u) (ℕ_discrete i k)
      go false e = ap (λ (l : List ℕ). marked n l u k) (after-new e) ∙ mark-has n a t i room i-small e u k

  pub after-touches : (u : ℕ) → touched n (marks_after n a t i) u ≡ (eqb t u || touched n a u)
  after-touches u = go (marked n a t i) refl
    where
      there : marked n a t i ≡ true → Dec (t ≡ u) → touched n a u ≡ (eqb t u || touched n a u)
      there e (yes p) = rw (eq-eqb t u p, ← p) (ap not (ne_eqb (bits_at n a t) 0 (bit-some (bits_at n a t) i e)))
      there e (no p) = rw (ne_eqb t u p)

      go : (q : Bool) → marked n a t i ≡ q → touched n (marks_after n a t i) u ≡ (eqb t u || touched n a u)
      go true e = ap (λ (l : List ℕ). touched n l u) (after-old e) ∙ there e (ℕ_discrete t u)
      go false e = ap (λ (l : List ℕ). touched n l u) (after-new e) ∙ mark-touches n a t i room i-small e u

  pub after-fits : Fits n a → Fits n (marks_after n a t i)
  after-fits f = go (marked n a t i) refl
    where
      go : (q : Bool) → marked n a t i ≡ q → Fits n (marks_after n a t i)
      go true e = rw (after-old e) f
      go false e = rw (after-new e) (mark-fits n a t i room i-small e f)

-- ---- an edge

pub ends-long : (n : ℕ) (a : List ℕ) (here there d : ℕ) → length (ends_after n a here there d) ≡ length a
unfolding ends_after
ends-long n a here there d = go (marked n a here (8 + d))
  where
    go : (q : Bool) → length (cond q a (marks_after n (mark n a here (8 + d)) there (10 + d))) ≡ length a
    go true = refl
    go false = after-long n (mark n a here (8 + d)) there (10 + d) ∙ mark-long n a here (8 + d)

-- an edge that was not marked
module _ (n : ℕ) (a : List ℕ) (here there d : ℕ) (here_in : here < length a) (there-in : there < length a) (way : d ≤ 1) (new : marked n a here (8 + d) ≡ false) where
  room : there < length (mark n a here (8 + d))
  room = omega (arith, mark-long n a here (8 + d))

  ends-are : ends_after n a here there d ≡ marks_after n (mark n a here (8 + d)) there (10 + d)
  unfolding ends_after
  ends-are = rw new

  ends-has : (u k : ℕ) → marked n (ends_after n a here there d) u k ≡ ((eqb there u && eqb (10 + d) k) || ((eqb here u && eqb (8 + d) k) || marked n a u k))
  ends-has u k =
      ap (λ (l : List ℕ). marked n l u k) ends-are
      ∙ after-has n (mark n a here (8 + d)) there (10 + d) room (omega arith) u k
      ∙ ap (λ (b : Bool). (eqb there u && eqb (10 + d) k) || b) (mark-has n a here (8 + d) here_in (omega arith) new u k)

  other-bit : (p q : Bool) → q ≡ false → (r : Bool) → ((p && q) || r) ≡ r
  other-bit p true e r = absurd (let y : ◌≡◌ {A = ℕ} 0 1 = cc in omega arith)
  other-bit true false e r = refl
  other-bit false false e r = refl

  -- the ways on
  pub ends-forth : (u k : ℕ) → k ≤ 1 → marked n (ends_after n a here there d) u (8 + k) ≡ ((eqb here u && eqb (8 + d) (8 + k)) || marked n a u (8 + k))
  ends-forth u k h = ends-has u (8 + k) ∙ other-bit (eqb there u) (eqb (10 + d) (8 + k)) (ne_eqb (10 + d) (8 + k) (λ e. omega arith)) _

  -- the ways back
  pub ends-back : (u k : ℕ) → k ≤ 1 → marked n (ends_after n a here there d) u (10 + k) ≡ ((eqb there u && eqb (10 + d) (10 + k)) || marked n a u (10 + k))
  ends-back u k h =
      ends-has u (10 + k)
      ∙ ap (λ (b : Bool). (eqb there u && eqb (10 + d) (10 + k)) || b) (other-bit (eqb here u) (eqb (8 + d) (10 + k)) (ne_eqb (8 + d) (10 + k) (λ e. omega arith)) (marked n a u (10 + k)))

  -- the pins stay
  pub ends-pins : (u k : ℕ) → k < 8 → marked n (ends_after n a here there d) u k ≡ marked n a u k
  ends-pins u k h =
      ends-has u k
      ∙ other-bit (eqb there u) (eqb (10 + d) k) (ne_eqb (10 + d) k (λ e. omega arith)) _
      ∙ other-bit (eqb here u) (eqb (8 + d) k) (ne_eqb (8 + d) k (λ e. omega arith)) (marked n a u k)

  -- the tiles that have a mark
  pub start-touches : (u : ℕ) → touched n (mark n a here (8 + d)) u ≡ (eqb here u || touched n a u)
  start-touches u = mark-touches n a here (8 + d) here_in (omega arith) new u

  pub ends-touch : (u : ℕ) → touched n (ends_after n a here there d) u ≡ (eqb there u || touched n (mark n a here (8 + d)) u)
  ends-touch u = ap (λ (l : List ℕ). touched n l u) ends-are ∙ after-touches n (mark n a here (8 + d)) there (10 + d) room (omega arith) u

  pub ends-fit : Fits n a → Fits n (ends_after n a here there d)
  ends-fit f = rw ends-are (after-fits n (mark n a here (8 + d)) there (10 + d) room (omega arith) (mark-fits n a here (8 + d) here_in (omega arith) new f))

-- what was found tells whether the edge was marked
pub twice-marked : (n : ℕ) (a : List ℕ) (here there d : ℕ) → None ≡ ends_of n a here there d → marked n a here (8 + d) ≡ true
unfolding ends_of
twice-marked n a here there d e = go (marked n a here (8 + d)) _ e
  where
    go : (q : Bool) (k : ℕ) → None ≡ cond q None (Some k) → q ≡ true
    go true k h = refl
    go false k h = absurd (let y : ◌≡◌ {A = ℕ} 0 1 = cc in omega arith)

pub new-marked : (n : ℕ) (a : List ℕ) (here there d k : ℕ) → Some k ≡ ends_of n a here there d
    → (marked n a here (8 + d) ≡ false) × (k ≡ first_mark n a here + first_mark n (mark n a here (8 + d)) there)
unfolding ends_of
new-marked n a here there d k e = go (marked n a here (8 + d)) _ e
  where
    go : (q : Bool) (j : ℕ) → Some k ≡ cond q None (Some j) → (q ≡ false) × (k ≡ j)
    go true j h = absurd (let y : ◌≡◌ {A = ℕ} 0 1 = cc in omega arith)
    go false j h = (refl, cc)
