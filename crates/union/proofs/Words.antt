-- Words that are written: the search for a root halves ways, and of two roots the larger goes below the smaller.
-- Assumes nothing.
use mathlib.Core.Path.{◌≡◌, refl, sym, ap, ap₂, ◌∙◌}
use mathlib.Core.List.{List}
use mathlib.Core.Bool.{true, false, not, cond}
use mathlib.Core.Logic.{⊎_elim, ◌≢◌}
use Prim.Native.Nat.{ℕ, ◌+◌, ◌*◌, ◌≤◌, ◌<◌, max, min}
use native.Mathlib.Omega.{arith}
use lib.Dec.{eqb}
use lib.ListN.{length, get_or, set, length-set}
use lib.Seq.{get_or-set_same, get_or-set_other}
use Rattle.layout.specs.Bounds.{most_tiles}
use Rattle.marks.specs.Words.{stamp_unit}
use Rattle.theory.specs.congestion.Sums.{same_cases, eqb-true, eqb-false}
use Rattle.theory.specs.walk.Joined.{relabel, relabel-same}
use Rattle.theory.specs.walk.Union.{top_of, link, halve, top-ext, root-fixed, root-top, root-step, halve-root, link-root}
use Rattle.union.specs.Links.{parent_in, Links, Kept, Found, Merged, parent-new}

-- ---- one word

module _ (n : ℕ) (a : List ℕ) (x q : ℕ) (inside : x < length a) (small : q < stamp_unit) where
  abbrev new : List ℕ
  new = set a x (n * stamp_unit + q)

  put-here : parent_in n new x ≡ q
  put-here = let e = get_or-set_same a x (n * stamp_unit + q) 0 inside in omega (arith, e, parent-new n new x (omega (arith, e)))

  put_other : (i : ℕ) → i ≢ x → parent_in n new i ≡ parent_in n a i
  unfolding parent_in
  put_other i d = rw (get_or-set_other a x i (n * stamp_unit + q) 0 d)

  put-parent : (i : ℕ) → parent_in n new i ≡ cond (eqb i x) q (parent_in n a i)
  put-parent i =
      ⊎_elim
      (λ s. rw (eqb-true i x s.0) (ap (parent_in n new) s.0 ∙ put-here))
      (λ s. rw (eqb-false i x s.0) (put_other i s.0))
      (same_cases i x)

  put-links : Links n a → q ≤ x → Links n new
  put-links h low = record {
    older = λ i.
        ⊎_elim
        (λ s. omega (arith, ap (λ (k : ℕ). get_or new k 0) s.0, get_or-set_same a x (n * stamp_unit + q) 0 inside))
        (λ s. omega (arith, h.older i, get_or-set_other a x i (n * stamp_unit + q) 0 s.0))
        (same_cases i x);
    falling = λ i.
        ⊎_elim
        (λ s. omega (arith, ap (parent_in n new) s.0, put-here, s.0))
        (λ s. omega (arith, put_other i s.0, h.falling i))
        (same_cases i x);
  }

-- ---- the search

-- tile t goes to its parent's parent
pub halved : (n : ℕ) (a : List ℕ) (t : ℕ) → Links n a → length a ≤ most_tiles → t < length a → Kept n a (set a t (n * stamp_unit + parent_in n a (parent_in n a t)))
halved n a t h room inside = record {
  links = put-links n a t q inside small h low;
  same_length = simp length-set;
  roots = λ i.
      top-ext (parent_in n (set a t (n * stamp_unit + q))) (halve (parent_in n a) t) (put-parent n a t q inside small) i ∙ halve-root (parent_in n a) h.falling t i;
}
  where
    q : ℕ
    q = parent_in n a (parent_in n a t)

    low : q ≤ t
    low = omega (arith, h.falling t, h.falling (parent_in n a t))

    small : q < stamp_unit
    small = omega (arith, low)

-- while the search is at tile t: it has the root of tile x, and no root changed
pub record Searched (n : ℕ) (a : List ℕ) (x : ℕ) (b : List ℕ) (t : ℕ) : Type 0 where
  pub inside : t < length b
  pub kept : Kept n a b
  pub root : top_of (parent_in n b) t ≡ top_of (parent_in n a) x

pub searched-start : (n : ℕ) (a : List ℕ) (x : ℕ) → Links n a → x < length a → Searched n a x a x
searched-start n a x h inside = record { inside = inside; kept = record { links = h; same_length = refl; roots = λ i. refl }; root = refl }

pub searched-again : (n : ℕ) (a : List ℕ) (x : ℕ) (b : List ℕ) (t p q : ℕ) (c : List ℕ) → Searched n a x b t → length a ≤ most_tiles
    → p ≡ parent_in n b t → q ≡ parent_in n b p → c ≡ set b t (n * stamp_unit + q) → Searched n a x c q
searched-again n a x b t p q c h room ep eq ec = rw ec record {
  inside = rw length-set (omega (arith, low, h.inside));
  kept = record { links = k.links; same_length = k.same_length ∙ h.kept.same_length; roots = λ i. k.roots i ∙ h.kept.roots i };
  root = k.roots q ∙ ap (top_of par) eq' ∙ root-step par falls (par t) ∙ root-step par falls t ∙ h.root;
}
  where
    par : ℕ → ℕ
    par = parent_in n b

    falls : (i : ℕ) → par i ≤ i
    falls = h.kept.links.falling

    eq' : q ≡ par (par t)
    eq' = eq ∙ ap par ep

    low : q ≤ t
    low = omega (arith, eq', falls t, falls (par t))

    k : Kept n b (set b t (n * stamp_unit + q))
    k = rw eq' (halved n b t h.kept.links (omega (arith, h.kept.same_length)) h.inside)

pub searched-done : (n : ℕ) (a : List ℕ) (x : ℕ) (b : List ℕ) (t : ℕ) → Searched n a x b t → parent_in n b t ≡ t → Found n a x b t
searched-done n a x b t h e = record {
  is_root = sym (root-top (parent_in n b) h.kept.links.falling t e) ∙ h.root;
  inside = omega (arith, h.inside, h.kept.same_length);
  kept = h.kept;
}

-- ---- two tiles are joined

module _ (n : ℕ) (a : List ℕ) (x y : ℕ) (b : List ℕ) (p : ℕ) (c : List ℕ) (q : ℕ) (one : Found n a x b p) (two : Found n b y c q) where
  is-two : q ≡ top_of (parent_in n a) y
  is-two = two.is_root ∙ one.kept.roots y

  roots-same : (z : ℕ) → top_of (parent_in n c) z ≡ top_of (parent_in n a) z
  roots-same z = two.kept.roots z ∙ one.kept.roots z

  length-same : length c ≡ length a
  length-same = two.kept.same_length ∙ one.kept.same_length

  -- they had one root
  pub merged-one : p ≡ q → Merged n a x y c false
  merged-one e = record {
    apart = sym (ap not (eqb-true _ _ (sym one.is_root ∙ e ∙ is-two)));
    links = two.kept.links;
    same_length = length-same;
    roots = λ z.
        roots-same z
        ∙ sym (relabel-same p (top_of (parent_in n a) z))
        ∙ ap₂ (λ (u v : ℕ). relabel u v (top_of (parent_in n a) z)) one.is_root (e ∙ is-two);
  }

  -- they had two: the larger, m, goes below the smaller, v
  pub merged-two : length a ≤ most_tiles → p ≢ q → (m v : ℕ) (d : List ℕ) → m ≡ max p q → v ≡ min p q → d ≡ set c m (n * stamp_unit + v) → Merged n a x y d true
  merged-two room ne m v d em ev ed = rw ed record {
    apart = sym (ap not (eqb-false _ _ (λ e. ne (one.is_root ∙ e ∙ sym is-two))));
    links = put-links n c m v inside small two.kept.links (omega arith);
    same_length = rw length-set length-same;
    roots = λ z.
        top-ext (parent_in n (set c m (n * stamp_unit + v))) (link par p q) is-link z
        ∙ link-root par two.kept.links.falling p q top-p top-q z
        ∙ ap (relabel p q) (roots-same z)
        ∙ ap₂ (λ (u w : ℕ). relabel u w (top_of (parent_in n a) z)) one.is_root is-two;
  }
    where
      par : ℕ → ℕ
      par = parent_in n c

      inside : m < length c
      inside = omega (arith, one.inside, two.inside, one.kept.same_length, two.kept.same_length)

      small : v < stamp_unit
      small = omega (arith, inside, length-same)

      fixed : (k t : ℕ) → k ≡ top_of par t → par k ≡ k
      fixed k t e = rw e (root-fixed par two.kept.links.falling t)

      top-p : par p ≡ p
      top-p = fixed p x (one.is_root ∙ sym (roots-same x))

      top-q : par q ≡ q
      top-q = fixed q y (two.is_root ∙ sym (two.kept.roots y))

      is-link : (i : ℕ) → parent_in n (set c m (n * stamp_unit + v)) i ≡ link par p q i
      is-link i = put-parent n c m v inside small i ∙ rw (em, ev)
