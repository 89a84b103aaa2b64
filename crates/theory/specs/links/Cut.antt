-- The laws of the cut: what a net keeps has no ring, is a part of its entries, is joined where they are, and is the largest sustained part of what the ring
-- edges leave.
-- Assumes nothing.
use Rattle.std.specs.Prelude.{◌≡◌, Bool, ◌&&◌, ◌⊎◌, ◌≢◌, ◌↔◌, ℕ, ◌≤◌, ◌<◌, T, eqb, length}
use Rattle.std.proofs.Math.Path.{refl, ap}
use Rattle.std.proofs.Common.{sym, ◌∙◌, subst, ⊎_elim, arith}
use mathlib.Core.List.{List, [], ◌∷◌}
use Rattle.std.proofs.Math.Bool.{true, false, cond}
use Rattle.std.proofs.Math.Logic.{inl, inr}
use Rattle.model.specs.Job.{Pin}
use Rattle.model.specs.Lists.{has}
use Rattle.model.specs.Tree.{ring, joined}
use Rattle.theory.specs.congestion.Sums.{same, occurs, In, keep, in-keep, same_refl, same_cases, eqb-true, eqb-false, in_head}
use Rattle.theory.specs.walk.Joined.{joined?, ends, kept, kept-le, kept-joins}
use Rattle.theory.specs.walk.NetVias.{pin_tiles, in-ends}
use Rattle.theory.specs.walk.Stops.{less-length}
use Rattle.theory.specs.congestion.Tests.{is_true, test-eq, has_in}
use Rattle.theory.specs.links.Reach.{lo_of, hi_of, closes-is, ring-is}
use Rattle.theory.specs.links.Means.{Reached, joined-means}
use Rattle.model.specs.Cut.{open_from, pinned, pruned, cut}
use Rattle.theory.specs.cutting.Subsets.{PartOf}
use Rattle.theory.specs.cutting.Kept.{no-ring-once, kept-part-no-ring, kept-all, kept-fewer}
use Rattle.theory.specs.cutting.Strip.{strips, strips-are-rounds}
use Rattle.theory.specs.cutting.Prune.{Pruned, done, Settled, Largest, Hangs, pruned-part, pruned-hangs, rounds-pruned, rounds-keep, rounds-largest, marks-are-rounds, keep-ext, keep_all, keep-twice}

-- ---- pins

pub pinned-in : (ps : List Pin) (t : ℕ) → T (pinned ps t) ↔ In t (pin_tiles ps)
pinned-in [] t = (λ h. absurd h, λ i. absurd (omega arith))
pinned-in (p ∷ ps) t = go (pinned-in ps t) (same_cases t p.tile)
  where
    go : T (pinned ps t) ↔ In t (pin_tiles ps) → ((t ≡ p.tile) × (same t p.tile ≡ 1)) ⊎ ((t ≢ p.tile) × (same t p.tile ≡ 0))
        → T (pinned (p ∷ ps) t) ↔ In t (pin_tiles (p ∷ ps))
    go ih (inl s) = rw (eqb-true p.tile t (sym s.0)) (λ h. omega (arith, s.1), λ i. tt)
    go ih (inr s) = rw (eqb-false p.tile t (λ q. s.0 (sym q))) (λ h. omega (arith, s.1, ih.0 h), λ i. ih.1 (omega (arith, s.1)))

pub pinned-is : (ps : List Pin) (t : ℕ) → (pinned ps t ≡ true) ↔ In t (pin_tiles ps)
pinned-is ps t = (λ e. (pinned-in ps t).0 (subst T (sym e) tt), λ i. is_true (pinned ps t) ((pinned-in ps t).1 i))

-- ---- the cut

module _ (W H : ℕ) where
  abbrev lo : ℕ → ℕ
  lo = lo_of W H

  abbrev hi : ℕ → ℕ
  hi = hi_of W H

  cut-from : (before es : List ℕ) → open_from W H before es ≡ kept lo hi before es
  cut-from before [] = refl
  cut-from before (e ∷ es) = go (cut-from before es) (cut-from (e ∷ before) es)
    where
      go : open_from W H before es ≡ kept lo hi before es → open_from W H (e ∷ before) es ≡ kept lo hi (e ∷ before) es → open_from W H before (e ∷ es) ≡ kept lo hi before (e ∷ es)
      go p q = rw (closes-is W H before e, p, q) refl

  -- the edges that close no ring with kept earlier ones are the walk theory's
  pub cut_is : (es : List ℕ) → open_from W H [] es ≡ kept lo hi [] es
  cut_is es = cut-from [] es

  -- which of the two a net keeps
  pub cut-cases : (ps : List Pin) (es : List ℕ)
      → ((ring W H es ≡ true) × (cut W H ps es ≡ pruned W H ps (kept lo hi [] es))) ⊎ ((ring W H es ≡ false) × (cut W H ps es ≡ es))
  unfolding cut
  cut-cases ps es = go (ring W H es) refl
    where
      go : (q : Bool) → ring W H es ≡ q
          → ((ring W H es ≡ true) × (cond (ring W H es) (pruned W H ps (open_from W H [] es)) (open_from W H [] es) ≡ pruned W H ps (kept lo hi [] es)))
          ⊎ ((ring W H es ≡ false) × (cond (ring W H es) (pruned W H ps (open_from W H [] es)) (open_from W H [] es) ≡ es))
      go true e = inl (e, ap (λ (b : Bool). cond b (pruned W H ps (open_from W H [] es)) (open_from W H [] es)) e ∙ ap (pruned W H ps) (cut_is es))
      go false e =
          inr (e, ap (λ (b : Bool). cond b (pruned W H ps (open_from W H [] es)) (open_from W H [] es)) e ∙ cut_is es ∙ kept-all lo hi [] es (sym (ring-is W H es) ∙ e))

  -- a net whose entries have no ring keeps all of them, and one whose entries have a ring loses an edge to it
  pub cut_all : (ps : List Pin) (es : List ℕ) → ring W H es ≡ false → cut W H ps es ≡ es
  cut_all ps es r = ⊎_elim (λ c. absurd (subst T (sym c.0 ∙ r) tt)) (λ c. c.1) (cut-cases ps es)

  pub cut-loses : (es : List ℕ) → ring W H es ≡ true → length (open_from W H [] es) < length es
  cut-loses es r = subst (λ (l : List ℕ). length l < length es) (sym (cut_is es)) (kept-fewer lo hi [] es (sym (ring-is W H es) ∙ r))

  -- what is kept comes from the kept edges by steps
  pub cut-pruned : (ps : List Pin) (es : List ℕ) → Pruned lo hi (pinned ps) (kept lo hi [] es) (cut W H ps es)
  cut-pruned ps es =
      ⊎_elim
      (λ c. subst (λ (l : List ℕ). Pruned lo hi (pinned ps) (kept lo hi [] es) l) (sym c.1) (rounds-pruned lo hi (pinned ps) (length (kept lo hi [] es)) (kept lo hi [] es)))
      (λ c.
      subst (λ (l : List ℕ). Pruned lo hi (pinned ps) (kept lo hi [] es) l) (kept-all lo hi [] es (sym (ring-is W H es) ∙ c.0) ∙ sym c.1)
      (done {es = kept lo hi [] es} {fs = kept lo hi [] es} (λ a. refl)))
      (cut-cases ps es)

  -- in a net that lost an edge so, it is the largest sustained part of the kept edges
  pub cut-largest : (ps : List Pin) (es : List ℕ) → ring W H es ≡ true → Largest lo hi (pinned ps) (kept lo hi [] es) (cut W H ps es)
  cut-largest ps es r =
      ⊎_elim
      (λ c. subst (λ (l : List ℕ). Largest lo hi (pinned ps) (kept lo hi [] es) l) (sym c.1) (rounds-largest lo hi (pinned ps) (kept lo hi [] es)))
      (λ c. absurd (subst T (sym r ∙ c.0) tt))
      (cut-cases ps es)

  -- marks on the kept edges that are cleared in any order, until none is left to lose, mark the cut
  pub cut-marks : (ps : List Pin) (es : List ℕ) (mark : ℕ → Bool) → ring W H es ≡ true → Pruned lo hi (pinned ps) (kept lo hi [] es) (keep mark (kept lo hi [] es))
      → Settled lo hi (pinned ps) (keep mark (kept lo hi [] es)) → keep mark (kept lo hi [] es) ≡ cut W H ps es
  cut-marks ps es mark r p n =
      ⊎_elim
      (λ c. marks-are-rounds lo hi (pinned ps) mark (kept lo hi [] es) p n ∙ sym c.1)
      (λ c. absurd (subst T (sym r ∙ c.0) tt))
      (cut-cases ps es)

  -- one pass along the line leaves the cut: at both ends of each entry, while the tile has one edge and no pin, that edge goes, and on at its far end
  pub cut-strips : (ps : List Pin) (es : List ℕ) → ring W H es ≡ true → strips lo hi (pinned ps) (ends lo hi es) (kept lo hi [] es) ≡ cut W H ps es
  cut-strips ps es r =
      ⊎_elim
      (λ c.
      strips-are-rounds lo hi (pinned ps) (ends lo hi es) (kept lo hi [] es) (λ e i. in-ends lo hi e es (omega (arith, i, kept-le lo hi [] es e)))
      ∙ sym c.1)
      (λ c. absurd (subst T (sym r ∙ c.0) tt))
      (cut-cases ps es)

  -- the cut is a part of the entries
  pub cut-part : (ps : List Pin) (es : List ℕ) → PartOf (cut W H ps es) es
  cut-part ps es a = omega (arith, pruned-part lo hi (pinned ps) (cut-pruned ps es) a, kept-le lo hi [] es a)

  pub cut-length : (ps : List Pin) (es : List ℕ) → length (cut W H ps es) ≤ length es
  cut-length ps es = less-length (cut W H ps es) es (cut-part ps es)

  -- it has no ring: refusal 7 never occurs
  pub cut-no-ring : (ps : List Pin) (es : List ℕ) → ring W H (cut W H ps es) ≡ false
  cut-no-ring ps es = ring-is W H (cut W H ps es) ∙ kept-part-no-ring lo hi (cut W H ps es) es (pruned-part lo hi (pinned ps) (cut-pruned ps es))

  -- and no edge twice
  pub cut-once : (ps : List Pin) (es : List ℕ) → (e : ℕ) → occurs e (cut W H ps es) ≤ 1
  cut-once ps es = no-ring-once lo hi (cut W H ps es) (sym (ring-is W H (cut W H ps es)) ∙ cut-no-ring ps es)

  none-joined : (fs : List ℕ) → joined W H [] fs ≡ true
  unfolding joined
  none-joined fs = refl

  -- it is joined where the entries are: every pin and every edge left is reached from the first pin's tile
  pub cut-joined : (ps : List Pin) (es : List ℕ) → joined W H ps es ≡ true → joined W H ps (cut W H ps es) ≡ true
  cut-joined [] es h = none-joined (cut W H [] es)
  cut-joined (p ∷ ps) es h = (joined-means W H p ps (cut W H (p ∷ ps) es)).1 record {
    pins = λ t i. after.pins t ((pinned-is (p ∷ ps) t).1 i);
    edges = after.edges;
  }
    where
      entries : Reached W H p ps es
      entries = (joined-means W H p ps es).0 h

      before : Hangs lo hi (pinned (p ∷ ps)) (kept lo hi [] es) p.tile
      before = record {
        pins = λ t q. (kept-joins lo hi es p.tile t).1 (entries.pins t ((pinned-is (p ∷ ps) t).0 q));
        edges = λ e i. (kept-joins lo hi es p.tile (lo e)).1 (entries.edges e (omega (arith, i, kept-le lo hi [] es e)));
      }

      after : Hangs lo hi (pinned (p ∷ ps)) (cut W H (p ∷ ps) es) p.tile
      after =
          pruned-hangs lo hi (pinned (p ∷ ps)) (kept lo hi [] es) (cut W H (p ∷ ps) es) p.tile
          ((pinned-is (p ∷ ps) p.tile).1 (in_head p.tile (pin_tiles ps))) (cut-pruned (p ∷ ps) es) before

  -- cutting again changes nothing
  pub cut_again : (ps : List Pin) (es : List ℕ) → cut W H ps (cut W H ps es) ≡ cut W H ps es
  cut_again ps es = cut_all ps (cut W H ps es) (cut-no-ring ps es)

  -- the cut is in the order of the line: the entries that it has, where none stands twice
  kept-order : (ds es : List ℕ) → ((e : ℕ) → occurs e es ≤ 1) → (p : ℕ → Bool) × (kept lo hi ds es ≡ keep p es)
  kept-order ds [] once = (λ e. true, refl)
  kept-order ds (e ∷ es) once = go (kept-order ds es rest) (kept-order (e ∷ ds) es rest) (joined? lo hi ds (lo e) (hi e))
    where
      rest : (f : ℕ) → occurs f es ≤ 1
      rest f = omega (arith, once f)

      set : Bool → (ℕ → Bool) → ℕ → Bool
      set b p x = cond (eqb x e) b (p x)

      others : (b : Bool) (p : ℕ → Bool) → keep p es ≡ keep (set b p) es
      others b p =
          keep-ext p (set b p) es
          (λ a i. sym (ap (λ (q : Bool). cond q b (p a)) (eqb-false a e (λ s. omega (arith, once a, i, same_refl a, ap (same a) s)))))

      go : (p : ℕ → Bool) × (kept lo hi ds es ≡ keep p es) → (p : ℕ → Bool) × (kept lo hi (e ∷ ds) es ≡ keep p es) → (q : Bool)
          → (p : ℕ → Bool) × (cond q (kept lo hi ds es) (e ∷ kept lo hi (e ∷ ds) es) ≡ keep p (e ∷ es))
      go r s true = (
        set false r.0,
        r.1 ∙ others false r.0 ∙ sym (ap (λ (b : Bool). cond (cond b false (r.0 e)) (e ∷ keep (set false r.0) es) (keep (set false r.0) es)) (eqb-true e e refl)),
      )
      go r s false = (
        set true s.0,
        ap {B = List ℕ} (λ l. e ∷ l) (s.1 ∙ others true s.0)
            ∙ sym (ap (λ (b : Bool). cond (cond b true (s.0 e)) (e ∷ keep (set true s.0) es) (keep (set true s.0) es)) (eqb-true e e refl)),
      )

  cut-order : (ps : List Pin) (es : List ℕ) → ((e : ℕ) → occurs e es ≤ 1) → (p : ℕ → Bool) × (cut W H ps es ≡ keep p es)
  cut-order ps es once =
      let k = kept-order [] es once in
      let r = rounds-keep lo hi (pinned ps) (length (kept lo hi [] es)) (kept lo hi [] es) in
      ⊎_elim
      (λ c. (λ e. k.0 e && r.0 e, c.1 ∙ r.1 ∙ ap (keep r.0) k.1 ∙ keep-twice k.0 r.0 es))
      (λ c. (λ e. true, c.1 ∙ sym (keep_all (λ e. true) es (λ e i. refl))))
      (cut-cases ps es)

  pub cut-in-order : (ps : List Pin) (es : List ℕ) → ((e : ℕ) → occurs e es ≤ 1) → cut W H ps es ≡ keep (has (cut W H ps es)) es
  cut-in-order ps es once = finish (cut-order ps es once)
    where
      finish : (p : ℕ → Bool) × (cut W H ps es ≡ keep p es) → cut W H ps es ≡ keep (has (cut W H ps es)) es
      finish r =
          r.1
          ∙ keep-ext r.0 (has (cut W H ps es)) es
          (λ a i.
          test-eq (r.0 a) (has (cut W H ps es) a)
          (λ t. (has_in (cut W H ps es) a).1 (subst (λ (l : List ℕ). In a l) (sym r.1) ((in-keep r.0 a es).1 (i, t))))
          (λ t. ((in-keep r.0 a es).0 (subst (λ (l : List ℕ). In a l) r.1 ((has_in (cut W H ps es) a).0 t))).1))
