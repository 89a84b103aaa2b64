-- Tests that fail, in words: what a test of a line says of the numbers, pins and edges there where it fails.
-- Assumes nothing.
use Rattle.std.specs.Prelude.{◌≡◌, refl, List, [], ◌∷◌, Bool, true, false, ◌&&◌, ◌||◌, not, cond, ◌⊎◌, ◌↔◌, ◌≢◌, ℕ, ◌+◌, ◌≤◌, ◌<◌, T, eqb, leb, ltb}
use Rattle.std.proofs.Common.{sym, ap, subst, inl, inr, ⊎_elim, arith, eqb→eq, leb→le, le→leb, ltb→lt, lt→ltb}
use Rattle.model.specs.Job.{Pin}
use Rattle.model.specs.Lists.{all, any, twice}
use Rattle.model.specs.Tree.{joined}
use Rattle.model.specs.Read.{Triple, pin_inside, edge_inside, same_pin}
use Rattle.theory.specs.congestion.Sums.{eqb-true, eqb-false, occurs}
use Rattle.theory.specs.congestion.Tests.{is_true, is_false, and_both, both-and, twice-once}
use Rattle.theory.specs.links.Means.{Reached, joined-means}

-- ---- tests

-- a test fails exactly where what it stands for does not hold
pub fails : {P : Type 0} (b : Bool) → T b ↔ P → (b ≡ false) ↔ (P → ⊥)
fails b w = (λ e h. subst T e (w.1 h), λ h. is_false b (λ t. h (w.0 t)))

not-fails : (b : Bool) → (not b ≡ false) ↔ (b ≡ true)
not-fails true = (λ e. refl, λ e. refl)
not-fails false = (λ e. sym e, λ e. sym e)

pub leb-fails : (a b : ℕ) → (leb a b ≡ false) ↔ (b < a)
leb-fails a b = let w = fails (leb a b) (leb→le a b, le→leb a b) in (λ e. omega (arith, w.0 e), λ h. w.1 (λ k. omega arith))

pub eqb-fails : (a b : ℕ) → (eqb a b ≡ false) ↔ (a ≢ b)
eqb-fails a b = fails (eqb a b) (eqb→eq a b, λ e. subst T (sym (eqb-true a b e)) tt)

pub range-fails : (low high n : ℕ) → ((leb low n && leb n high) ≡ false) ↔ ((low ≤ n) × (n ≤ high) → ⊥)
range-fails low high n =
    fails (leb low n && leb n high) (
      λ t. let b = and_both (leb low n) (leb n high) t in (leb→le low n b.0, leb→le n high b.1),
      λ h. both-and (leb low n) (leb n high) (le→leb low n h.0) (le→leb n high h.1),
    )

pub and-fails : {P Q : Type 0} (a b : Bool) → (a ≡ false) ↔ P → (b ≡ false) ↔ Q → ((a && b) ≡ false) ↔ (P ⊎ Q)
and-fails true b v w = (λ e. inr (w.0 e), ⊎_elim (λ h. absurd (subst T (v.1 h) tt)) w.1)
and-fails false b v w = (λ e. inl (v.0 refl), λ h. refl)

pub or-fails : {Q : Type 0} (a b : Bool) → (b ≡ false) ↔ Q → ((a || b) ≡ false) ↔ ((a ≡ false) × Q)
or-fails true b w = (λ e. absurd (subst T e tt), λ h. h.0)
or-fails false b w = (λ e. (refl, w.0 e), λ h. w.1 h.1)

-- ---- lists

cond-fails : {P Q : Type 0} (a b : Bool) → (a ≡ false) ↔ P → (b ≡ false) ↔ Q → (cond a b false ≡ false) ↔ (P ⊎ Q)
cond-fails true b v w = (λ e. inr (w.0 e), ⊎_elim (λ h. absurd (subst T (v.1 h) tt)) w.1)
cond-fails false b v w = (λ e. inl (v.0 refl), λ h. refl)

cond-holds : {P Q : Type 0} (a b : Bool) → (a ≡ true) ↔ P → (b ≡ true) ↔ Q → (cond a true b ≡ true) ↔ (P ⊎ Q)
cond-holds true b v w = (λ e. inl (v.0 refl), λ h. refl)
cond-holds false b v w = (λ e. inr (w.0 e), ⊎_elim (λ h. absurd (subst T (sym (v.1 h)) tt)) w.1)

module _ {A : Type 0} where
  -- P holds of an element
  abbrev pub Some : (A → Type 0) → List A → Type 0
  Some P [] = ⊥
  Some P (x ∷ xs) = P x ⊎ Some P xs

  -- two elements at different places are related
  abbrev pub Twice : (A → A → Type 0) → List A → Type 0
  Twice R [] = ⊥
  Twice R (x ∷ xs) = Some (R x) xs ⊎ Twice R xs

  pub all-fails : (p : A → Bool) (P : A → Type 0) → ((x : A) → (p x ≡ false) ↔ P x) → (xs : List A) → (all p xs ≡ false) ↔ Some P xs
  all-fails p P w [] = (λ e. subst T e tt, λ h. absurd h)
  all-fails p P w (x ∷ xs) = cond-fails (p x) (all p xs) (w x) (all-fails p P w xs)

  -- no element passes
  abbrev pub NotAny : (A → Bool) → List A → Type 0
  NotAny p [] = Unit {0}
  NotAny p (x ∷ xs) = (p x ≡ false) × NotAny p xs

  pub any-fails : (p : A → Bool) (xs : List A) → (any p xs ≡ false) ↔ NotAny p xs
  any-fails p [] = (λ e. tt, λ h. refl)
  any-fails p (x ∷ xs) = go (p x) refl (any-fails p xs)
    where
      go : (b : Bool) → p x ≡ b → (any p xs ≡ false) ↔ NotAny p xs → (cond (p x) true (any p xs) ≡ false) ↔ ((p x ≡ false) × NotAny p xs)
      go true e w = rw e (λ f. absurd (subst T f tt), λ h. h.0)
      go false e w = rw e (λ f. (refl, w.0 f), λ h. w.1 h.1)

  any-holds : (p : A → Bool) (P : A → Type 0) → ((x : A) → (p x ≡ true) ↔ P x) → (xs : List A) → (any p xs ≡ true) ↔ Some P xs
  any-holds p P w [] = (λ e. subst T (sym e) tt, λ h. absurd h)
  any-holds p P w (x ∷ xs) = cond-holds (p x) (any p xs) (w x) (any-holds p P w xs)

  twice_holds : (q : A → A → Bool) (R : A → A → Type 0) → ((x y : A) → (q x y ≡ true) ↔ R x y) → (xs : List A) → (twice q xs ≡ true) ↔ Twice R xs
  twice_holds q R w [] = (λ e. subst T (sym e) tt, λ h. absurd h)
  twice_holds q R w (x ∷ xs) = cond-holds (any (q x) xs) (twice q xs) (any-holds (q x) (R x) (w x) xs) (twice_holds q R w xs)

twice-fails : {A : Type 0} (q : A → A → Bool) (R : A → A → Type 0) → ((x y : A) → (q x y ≡ true) ↔ R x y) → (xs : List A) → (not (twice q xs) ≡ false) ↔ Twice R xs
twice-fails q R w xs = let a = not-fails (twice q xs) in let b = twice_holds q R w xs in (λ e. b.0 (a.0 e), λ h. a.1 (b.1 h))

-- ---- pins and edges

-- "x is below W, y below H, l is 1 to K"
abbrev pub PinInside : ℕ → ℕ → ℕ → Triple → Type 0
PinInside W H K p = (p.x < W) × (p.y < H) × (1 ≤ p.third) × (p.third ≤ K)

pub pin-fails : (W H K : ℕ) (p : Triple) → (pin_inside W H K p ≡ false) ↔ (PinInside W H K p → ⊥)
pin-fails W H K p =
    fails (pin_inside W H K p) (
      λ t.
          let a = and_both (ltb p.x W && ltb p.y H && leb 1 p.third) (leb p.third K) t in
          let b = and_both (ltb p.x W && ltb p.y H) (leb 1 p.third) a.0 in
          let c = and_both (ltb p.x W) (ltb p.y H) b.0 in
          (ltb→lt p.x W c.0, ltb→lt p.y H c.1, leb→le 1 p.third b.1, leb→le p.third K a.1),
      λ h.
          both-and (ltb p.x W && ltb p.y H && leb 1 p.third) (leb p.third K)
          (both-and (ltb p.x W && ltb p.y H) (leb 1 p.third)
          (both-and (ltb p.x W) (ltb p.y H) (lt→ltb p.x W h.0) (lt→ltb p.y H h.1))
          (le→leb 1 p.third h.2))
          (le→leb p.third K h.3),
    )

-- "both ends inside the grid"
abbrev pub EdgeInside : ℕ → ℕ → Triple → Type 0
EdgeInside W H e = ((e.third ≡ 0) × (e.x + 1 < W) × (e.y < H)) ⊎ ((e.third ≢ 0) × (e.x < W) × (e.y + 1 < H))

pub edge-fails : (W H : ℕ) (e : Triple) → (edge_inside W H e ≡ false) ↔ (EdgeInside W H e → ⊥)
edge-fails W H e = fails (edge_inside W H e) (go (eqb e.third 0) (eqb→eq e.third 0) (eqb-fails e.third 0).0, back)
  where
    go : (b : Bool) → (T b → e.third ≡ 0) → (b ≡ false → e.third ≢ 0)
        → T (cond b (ltb (e.x + 1) W && ltb e.y H) (ltb e.x W && ltb (e.y + 1) H)) → EdgeInside W H e
    go true f g t = let c = and_both (ltb (e.x + 1) W) (ltb e.y H) t in inl (f tt, ltb→lt (e.x + 1) W c.0, ltb→lt e.y H c.1)
    go false f g t = let c = and_both (ltb e.x W) (ltb (e.y + 1) H) t in inr (g refl, ltb→lt e.x W c.0, ltb→lt (e.y + 1) H c.1)

    back : EdgeInside W H e → T (edge_inside W H e)
    back (inl h) = rw (eqb-true e.third 0 h.0) (both-and (ltb (e.x + 1) W) (ltb e.y H) (lt→ltb (e.x + 1) W h.1) (lt→ltb e.y H h.2))
    back (inr h) = rw (eqb-false e.third 0 h.0) (both-and (ltb e.x W) (ltb (e.y + 1) H) (lt→ltb e.x W h.1) (lt→ltb (e.y + 1) H h.2))

-- "same tile and layer twice on `pins`"
abbrev pub PinTwice : List Pin → Type 0
PinTwice = Twice (λ p q. (p.tile ≡ q.tile) × (p.layer ≡ q.layer))

-- the test of the `pins` line, in the same words written out
pub same-pins : (ps : List Pin) → (not (twice same_pin ps) ≡ false) ↔ Twice (λ p q. (p.tile ≡ q.tile) × (p.layer ≡ q.layer)) ps
same-pins = twice-fails same_pin (λ p q. (p.tile ≡ q.tile) × (p.layer ≡ q.layer)) same
  where
    same : (p q : Pin) → (same_pin p q ≡ true) ↔ ((p.tile ≡ q.tile) × (p.layer ≡ q.layer))
    same p q = (
      λ e. let b = and_both (eqb p.tile q.tile) (eqb p.layer q.layer) (subst T (sym e) tt) in (eqb→eq p.tile q.tile b.0, eqb→eq p.layer q.layer b.1),
      λ h. rw (eqb-true p.tile q.tile h.0, eqb-true p.layer q.layer h.1),
    )

pub pins-twice : (ps : List Pin) → (not (twice same_pin ps) ≡ false) ↔ PinTwice ps
pins-twice = same-pins

-- "same edge twice on `edges`"
abbrev pub EdgeTwice : List ℕ → Type 0
EdgeTwice = Twice (λ a b. a ≡ b)

pub edges-twice : (es : List ℕ) → (not (twice eqb es) ≡ false) ↔ EdgeTwice es
edges-twice = twice-fails eqb (λ a b. a ≡ b) (λ a b. (λ e. eqb→eq a b (subst T (sym e) tt), eqb-true a b))

not-twice : (es : List ℕ) → (EdgeTwice es → ⊥) → (e : ℕ) → occurs e es ≤ 1
not-twice es h = twice-once es (is_false (twice eqb es) (λ t. h ((edges-twice es).0 (ap not (is_true (twice eqb es) t)))))

-- "a pin or edge not reached from the first pin's tile along the edges"
abbrev pub NotReached : ℕ → ℕ → List Pin → List ℕ → Type 0
NotReached W H [] es = ⊥
NotReached W H (p ∷ ps) es = Reached W H p ps es → ⊥

pub joined-fails : (W H : ℕ) (ps : List Pin) (es : List ℕ) → (joined W H ps es ≡ false) ↔ NotReached W H ps es
unfolding joined
joined-fails W H [] es = (λ e. subst T e tt, λ h. absurd h)
joined-fails W H (p ∷ ps) es =
    let b = joined-means W H p ps es in
    fails (joined W H (p ∷ ps) es) (λ t. b.0 (is_true (joined W H (p ∷ ps) es) t), λ r. subst T (sym (b.1 r)) tt)
