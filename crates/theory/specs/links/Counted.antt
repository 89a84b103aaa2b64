-- While a net's lines are read its tiles are touched, the ends of its edges joined, and its parts counted. In the end there is one part just where every
-- pin and edge is reached from the first pin's tile: refusal 8.
-- Assumes nothing.
use Rattle.std.specs.Prelude.{◌≡◌, refl, List, [], ◌∷◌, ◌++◌, Bool, not, ◌↔◌, ℕ, ◌+◌, ◌-◌, ◌<◌, min, T, eqb}
use Rattle.std.proofs.Common.{sym, ap, ◌∙◌, subst, ⊎_elim, arith, eqb→eq}
use Rattle.model.specs.Job.{Pin}
use Rattle.model.specs.Tree.{joined}
use Rattle.theory.specs.congestion.Sums.{bit, same, occurs, In, same_cases, same_refl, eqb-true, lt-or-ge, in_head, in_tail}
use Rattle.theory.specs.walk.Joined.{Joined, relabel, ends, onto, onto-snoc, occurs-onto, joined-more, joined-all, all-joined}
use Rattle.theory.specs.walk.Stops.{occurs-append}
use Rattle.theory.specs.walk.NetVias.{pin_tiles, net_tiles, reached?}
use Rattle.theory.specs.walk.Union.{top_of, Falling, Holds, holds-step, holds-joined}
use Rattle.theory.specs.walk.Parts.{parts, Marked, Touches, parts-start, parts-touch, parts-merge, parts-one, one-parts, marked-holds}
use Rattle.theory.specs.congestion.Tests.{is_true, test-eq}
use Rattle.theory.specs.links.Reach.{lo_of, hi_of, joined_is}

-- `ts` are the tiles touched so far, `es` the edges whose ends are joined, and n is the count
pub record Counted (lo hi : ℕ → ℕ) (size : ℕ) (touched par : ℕ → ℕ) (n : ℕ) (ts es : List ℕ) : Type 0 where
  pub holds : Holds lo hi par (onto lo hi [] es)
  pub marks : (t : ℕ) → touched t ≡ min 1 (occurs t ts)
  pub inside : (t : ℕ) → In t ts → t < size
  pub ends_in : (e : ℕ) → In e es → In (lo e) ts × In (hi e) ts
  pub count : n ≡ parts size touched (top_of par)

module _ (lo hi : ℕ → ℕ) (size : ℕ) where
  pub counted-marked : (touched par : ℕ → ℕ) (n : ℕ) (ts es : List ℕ) → Counted lo hi size touched par n ts es → Marked size touched (top_of par)
  counted-marked touched par n ts es c =
      marked-holds lo hi par touched (onto lo hi [] es)
      (λ e i.
      let k = c.ends_in e (omega (arith, occurs-onto lo hi e [] es)) in
      (omega (arith, c.marks (lo e)), omega (arith, c.marks (hi e))))
      size c.holds (λ t. omega (arith, c.marks t)) (λ t k. c.inside t (omega (arith, c.marks t)))

  -- before the first entry
  pub counted_start : (touched par : ℕ → ℕ) → ((t : ℕ) → touched t ≡ 0) → Holds lo hi par [] → Counted lo hi size touched par 0 [] []
  counted_start touched par none h = record {
    holds = h;
    marks = none;
    inside = λ t i. absurd (omega arith);
    ends_in = λ e i. absurd (omega arith);
    count = sym (parts-start size touched (top_of par) none);
  }

  -- a tile is touched
  pub counted-touch : (touched touched' par : ℕ → ℕ) (n n' : ℕ) (ts es : List ℕ) (a : ℕ) → Counted lo hi size touched par n ts es → a < size
      → Touches touched a touched' → n' + touched a ≡ n + 1 → Counted lo hi size touched' par n' (a ∷ ts) es
  counted-touch touched touched' par n n' ts es a c low touch more = record {
    holds = c.holds;
    marks = λ t.
        ⊎_elim
        (λ s. omega (arith, s.1, ap touched' s.0, touch.here))
        (λ s. omega (arith, s.1, touch.others t s.0, c.marks t))
        (same_cases t a);
    inside = λ t i. ⊎_elim (λ s. omega (arith, s.0)) (λ s. c.inside t (omega (arith, s.1))) (same_cases t a);
    ends_in = λ e i. let k = c.ends_in e i in (in_tail (lo e) a ts k.0, in_tail (hi e) a ts k.1);
    count = omega (arith, parts-touch size touched touched' (top_of par) a low touch (counted-marked touched par n ts es c), c.count);
  }

  -- the ends of an edge are joined; r is whether they had two roots
  pub counted-merge : (touched par par' : ℕ → ℕ) (n n' : ℕ) (ts es : List ℕ) (e : ℕ) (r : Bool) → Counted lo hi size touched par n ts es
      → In (lo e) ts → In (hi e) ts → Falling par' → ((z : ℕ) → top_of par' z ≡ relabel (top_of par (lo e)) (top_of par (hi e)) (top_of par z))
      → r ≡ not (eqb (top_of par (lo e)) (top_of par (hi e))) → n' + bit r ≡ n → Counted lo hi size touched par' n' ts (es ++ (e ∷ []))
  counted-merge touched par par' n n' ts es e r c il ih falls merges apart less = record {
    holds = rw (onto-snoc lo hi es e) (holds-step lo hi par par' (onto lo hi [] es) e c.holds falls merges);
    marks = c.marks;
    inside = c.inside;
    ends_in = λ f i.
        ⊎_elim
        (λ s. rw s.0 (il, ih))
        (λ s. c.ends_in f (omega (arith, s.1, occurs-append f es (e ∷ []))))
        (same_cases f e);
    count = omega (
      arith,
      parts-merge size touched (top_of par) (top_of par') (lo e) (hi e) (omega (arith, c.marks (lo e))) (omega (arith, c.marks (hi e))) merges
          (counted-marked touched par n ts es c) r apart,
      c.count,
    );
  }

  -- only which tiles they are matters
  pub counted-tiles : (touched par : ℕ → ℕ) (n : ℕ) (ts us es : List ℕ) → Counted lo hi size touched par n ts es → ((t : ℕ) → In t ts ↔ In t us)
      → Counted lo hi size touched par n us es
  counted-tiles touched par n ts us es c h = record {
    holds = c.holds;
    marks = λ t.
        ⊎_elim
        (λ k. omega (arith, c.marks t, (h t).0 k))
        (λ k. ⊎_elim (λ j. absurd (omega (arith, (h t).1 j))) (λ j. omega (arith, c.marks t)) (lt-or-ge 0 (occurs t us)))
        (lt-or-ge 0 (occurs t ts));
    inside = λ t i. c.inside t ((h t).1 i);
    ends_in = λ e i. let k = c.ends_in e i in ((h (lo e)).0 k.0, (h (hi e)).0 k.1);
    count = c.count;
  }

  -- ---- the entries of the lines

  pins-snoc : (t : ℕ) (ps : List Pin) (p : Pin) → occurs t (pin_tiles (ps ++ (p ∷ []))) ≡ occurs t (pin_tiles ps) + same t p.tile
  pins-snoc t [] p = omega arith
  pins-snoc t (q ∷ ps) p = omega (arith, pins-snoc t ps p)

  ends_snoc : (t : ℕ) (es : List ℕ) (e : ℕ) → occurs t (ends lo hi (es ++ (e ∷ []))) ≡ occurs t (ends lo hi es) + same t (lo e) + same t (hi e)
  ends_snoc t [] e = omega arith
  ends_snoc t (f ∷ es) e = omega (arith, ends_snoc t es e)

  in-same : (xs ys : List ℕ) → ((t : ℕ) → occurs t xs ≡ occurs t ys) → (t : ℕ) → In t xs ↔ In t ys
  in-same xs ys h t = (λ i. omega (arith, h t), λ i. omega (arith, h t))

  -- one more pin
  pub counted-pin : (touched touched' par : ℕ → ℕ) (n n' : ℕ) (ps : List Pin) (es : List ℕ) (p : Pin)
      → Counted lo hi size touched par n (net_tiles lo hi ps es) es → p.tile < size → Touches touched p.tile touched' → n' + touched p.tile ≡ n + 1
      → Counted lo hi size touched' par n' (net_tiles lo hi (ps ++ (p ∷ [])) es) es
  counted-pin touched touched' par n n' ps es p c low touch more =
      counted-tiles touched' par n' (p.tile ∷ net_tiles lo hi ps es) (net_tiles lo hi (ps ++ (p ∷ [])) es) es
      (counted-touch touched touched' par n n' (net_tiles lo hi ps es) es p.tile c low touch more)
      (in-same (p.tile ∷ net_tiles lo hi ps es) (net_tiles lo hi (ps ++ (p ∷ [])) es)
      (λ t. omega (arith, occurs-append t (pin_tiles ps) (ends lo hi es), occurs-append t (pin_tiles (ps ++ (p ∷ []))) (ends lo hi es), pins-snoc t ps p)))

  -- one more edge: both its ends are touched, and then joined
  pub counted-edge : (touched touched₁ touched₂ par par' : ℕ → ℕ) (n n' : ℕ) (ps : List Pin) (es : List ℕ) (e : ℕ) (r : Bool)
      → Counted lo hi size touched par n (net_tiles lo hi ps es) es → lo e < size → hi e < size → Touches touched (lo e) touched₁ → Touches touched₁ (hi e) touched₂
      → Falling par' → ((z : ℕ) → top_of par' z ≡ relabel (top_of par (lo e)) (top_of par (hi e)) (top_of par z)) → r ≡ not (eqb (top_of par (lo e)) (top_of par (hi e)))
      → n' + bit r + touched (lo e) + touched₁ (hi e) ≡ n + 2
      → Counted lo hi size touched₂ par' n' (net_tiles lo hi ps (es ++ (e ∷ []))) (es ++ (e ∷ []))
  counted-edge touched touched₁ touched₂ par par' n n' ps es e r c l u touch₁ touch₂ falls merges apart sum_is_lem =
      counted-tiles touched₂ par' n' (hi e ∷ lo e ∷ ts) (net_tiles lo hi ps (es ++ (e ∷ []))) (es ++ (e ∷ []))
      (counted-merge touched₂ par par' (n' + bit r) n' (hi e ∷ lo e ∷ ts) es e r both (in_tail (lo e) (hi e) (lo e ∷ ts) (in_head (lo e) ts)) (in_head (hi e) (lo e ∷ ts)) falls merges apart refl)
      (in-same (hi e ∷ lo e ∷ ts) (net_tiles lo hi ps (es ++ (e ∷ [])))
      (λ t. omega (arith, occurs-append t (pin_tiles ps) (ends lo hi es), occurs-append t (pin_tiles ps) (ends lo hi (es ++ (e ∷ []))), ends_snoc t es e)))
    where
      ts : List ℕ
      ts = net_tiles lo hi ps es

      one : Counted lo hi size touched₁ par (n + 1 - touched (lo e)) (lo e ∷ ts) es
      one = counted-touch touched touched₁ par n (n + 1 - touched (lo e)) ts es (lo e) c l touch₁ (omega (arith, c.marks (lo e)))

      both : Counted lo hi size touched₂ par (n' + bit r) (hi e ∷ lo e ∷ ts) es
      both = counted-touch touched₁ touched₂ par (n + 1 - touched (lo e)) (n' + bit r) (lo e ∷ ts) es (hi e) one u touch₂ (omega (arith, c.marks (lo e)))

-- ---- the test

module _ (W H size : ℕ) where
  abbrev lo : ℕ → ℕ
  lo = lo_of W H

  abbrev hi : ℕ → ℕ
  hi = hi_of W H

  -- there is one part just where every pin and both ends of every edge are reached from the first pin's tile
  pub counted-joined : (touched par : ℕ → ℕ) (n : ℕ) (p : Pin) (ps : List Pin) (es : List ℕ) → Counted lo hi size touched par n (net_tiles lo hi (p ∷ ps) es) es
      → eqb n 1 ≡ joined W H (p ∷ ps) es
  counted-joined touched par n p ps es c =
      test-eq (eqb n 1) (reached? lo hi (p ∷ ps) es)
      (λ t. subst T (sym (joined-all lo hi es first ts (there (eqb→eq n 1 t)))) tt)
      (λ t. subst T (sym (eqb-true n 1 (back (all-joined lo hi es first ts (is_true (reached? lo hi (p ∷ ps) es) t))))) tt)
      ∙ sym (joined_is W H p ps es)
    where
      first : ℕ
      first = p.tile

      ts : List ℕ
      ts = net_tiles lo hi (p ∷ ps) es

      marked : Marked size touched (top_of par)
      marked = counted-marked lo hi size touched par n ts es c

      first-touched : touched first ≡ 1
      first-touched = omega (arith, c.marks first, same_refl first)

      there : n ≡ 1 → (t : ℕ) → In t ts → Joined lo hi es first t
      there one t i =
          joined-more lo hi (onto lo hi [] es) es (λ e k. omega (arith, occurs-onto lo hi e [] es))
          ((holds-joined lo hi par (onto lo hi [] es) c.holds first t).0
          (sym (parts-one size touched (top_of par) marked first first-touched (sym c.count ∙ one) t (omega (arith, c.marks t)))))

      back : ((t : ℕ) → In t ts → Joined lo hi es first t) → n ≡ 1
      back all =
          c.count
          ∙ one-parts size touched (top_of par) marked first first-touched
          (λ t k.
          sym ((holds-joined lo hi par (onto lo hi [] es) c.holds first t).1
          (joined-more lo hi es (onto lo hi [] es) (λ e i. omega (arith, occurs-onto lo hi e [] es)) (all t (omega (arith, c.marks t))))))
