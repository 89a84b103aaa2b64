-- The entries of a net taken in turn: "an edge that closes a ring with kept earlier ones is dropped". Those are marked that join two parts.
-- Assumes nothing.
use Rattle.std.specs.Prelude.{Bool, true, false, not, cond, List, [], ◌∷◌, ◌++◌, ◌≡◌, ℕ, ◌+◌, ◌*◌, ◌≤◌, eqb, length}
use Rattle.std.proofs.Common.{append-nil, inl, inr, sym, ap, subst, ◌∙◌, arith}
use Rattle.layout.specs.Areas.{tiles_at, links_at, chosen_at, tiles_of, links_of}
use Rattle.layout.specs.Parts.{part-long, part-outside, Outside, outside_wider, outside-then, outside-same}
use Rattle.layout.specs.Shapes.{Shaped}
use Rattle.layout.specs.declared.shape.Shape.{Shape}
use Rattle.marks.specs.Marks.{marks_after, Older}
use Rattle.marks.specs.Words.{Fits}
use Rattle.model.specs.Job.{Pin}
use Rattle.model.specs.Lists.{has}
use Rattle.model.specs.Read.{Triple, edge_inside}
use Rattle.net.specs.AtHand.{Drawn}
use Rattle.netread.specs.Edges.{both_after}
use Rattle.netread.specs.Hand.{drawn-more}
use Rattle.theory.specs.congestion.Tests.{has-false, has-none}
use Rattle.theory.specs.cutting.Kept.{kept-snoc}
use Rattle.theory.specs.links.Reach.{lo_of, hi_of}
use Rattle.theory.specs.walk.Joined.{joined?, kept, kept-le, onto, onto-snoc, relabel}
use Rattle.theory.specs.walk.Union.{top_of, Holds, holds-step, holds_test}
use Rattle.union.specs.Links.{parent_in, Links, Merged, older-links, older-holds}
use Rattle.ways.specs.Ends.{after-long, after-fits}
use Rattle.ways.specs.Entry.{start_of, edge_of, Placed, placed}

-- w₀ are the working numbers before the first of the entries es
pub record Joined (g : Shape) (n : ℕ) (es : List ℕ) (w₀ w : List ℕ) : Type 0 where
  -- where the pins ps were marked, those of the entries are that joined two parts
  pub drawn : (ps : List Pin) → Drawn g n ps [] (tiles_of g w₀) → Drawn g n ps (kept (lo_of g.w g.h) (hi_of g.w g.h) [] es) (tiles_of g w)
  pub fits : Fits n (tiles_of g w)
  pub links : Links n (links_of g w)
  pub holds : Holds (lo_of g.w g.h) (hi_of g.w g.h) (parent_in n (links_of g w)) (onto (lo_of g.w g.h) (hi_of g.w g.h) [] es)
  pub around : Outside (tiles_at g) (2 * g.t) w₀ w

pub joined-start : (g : Shape) (n : ℕ) (w : List ℕ) → Fits n (tiles_of g w) → Older n (links_of g w) → Joined g n [] w w
joined-start g n w f o = record {
  drawn = λ ps d. d;
  fits = f;
  links = older-links n (links_of g w) o;
  holds = older-holds (lo_of g.w g.h) (hi_of g.w g.h) n (links_of g w) o;
  around = outside-same (tiles_at g) (2 * g.t) w;
}

-- ---- one entry more

not-flip : (a b : Bool) → b ≡ not a → a ≡ not b
not-flip true b e = sym (ap not e)
not-flip false b e = sym (ap not e)

module _ (g : Shape) (shaped : Shaped g) (n : ℕ) (es : List ℕ) (w₀ w w₁ : List ℕ) (room : chosen_at g ≤ length w) (t : Triple)
    (inside : edge_inside g.w g.h t ≡ true) (way : t.third ≤ 1) (new : has es (edge_of g t) ≡ false) (so_far : Joined g n es w₀ w)
    (r : Bool) (merged : Merged n (links_of g w) (start_of g t) (hi_of g.w g.h (edge_of g t)) (links_of g w₁) r) (out : Outside (links_at g) g.t w w₁) where
  abbrev lo : ℕ → ℕ
  lo = lo_of g.w g.h

  abbrev hi : ℕ → ℕ
  hi = hi_of g.w g.h

  abbrev e : ℕ
  e = edge_of g t

  at : Placed g t
  at = placed g shaped t inside way

  -- whether its ends were joined
  test : r ≡ not (joined? lo hi (onto lo hi [] es) (lo e) (hi e))
  test =
      merged.apart
      ∙ ap (λ (x : ℕ). not (eqb (top_of (parent_in n (links_of g w)) x) (top_of (parent_in n (links_of g w)) (hi e)))) (sym at.starts)
      ∙ ap not (holds_test lo hi (parent_in n (links_of g w)) (onto lo hi [] es) so_far.holds (lo e) (hi e))

  -- what is then kept
  kept-is : kept lo hi [] (es ++ (e ∷ [])) ≡ kept lo hi [] es ++ cond (not r) [] (e ∷ [])
  kept-is =
      kept-snoc lo hi es e
      ∙ ap (λ (q : Bool). kept lo hi [] es ++ cond q [] (e ∷ [])) (not-flip (joined? lo hi (onto lo hi [] es) (lo e) (hi e)) r test)

  holds_more : Holds lo hi (parent_in n (links_of g w₁)) (onto lo hi [] (es ++ (e ∷ [])))
  holds_more =
      subst (Holds lo hi (parent_in n (links_of g w₁))) (sym (onto-snoc lo hi es e))
      (holds-step lo hi (parent_in n (links_of g w)) (parent_in n (links_of g w₁)) (onto lo hi [] es) e so_far.holds merged.links.falling
      (λ z. merged.roots z ∙ ap (λ (x : ℕ). relabel (top_of (parent_in n (links_of g w)) x) (top_of (parent_in n (links_of g w)) (hi e)) (top_of (parent_in n (links_of g w)) z)) (sym at.starts)))

  tiles-same : tiles_of g w₁ ≡ tiles_of g w
  tiles-same = part-outside (links_at g) g.t w w₁ out (tiles_at g) g.t (inl (omega arith))

  near : Outside (tiles_at g) (2 * g.t) w₀ w₁
  near = outside-then (tiles_at g) (2 * g.t) w₀ w w₁ so_far.around (outside_wider (links_at g) g.t (tiles_at g) (2 * g.t) w w₁ out (omega arith) (omega arith))

  -- it closes a ring
  pub joined-closes : r ≡ false → Joined g n (es ++ (e ∷ [])) w₀ w₁
  joined-closes h =
      let k : kept lo hi [] (es ++ (e ∷ [])) ≡ kept lo hi [] es = kept-is ∙ ap (λ (q : Bool). kept lo hi [] es ++ cond (not q) [] (e ∷ [])) h ∙ append-nil (kept lo hi [] es) in
      record {
        drawn = λ ps d. subst (Drawn g n ps _) (sym tiles-same) (subst (λ (ks : List ℕ). Drawn g n ps ks (tiles_of g w)) (sym k) (so_far.drawn ps d));
        fits = subst (Fits n) (sym tiles-same) so_far.fits;
        links = merged.links;
        holds = holds_more;
        around = near;
      }

  -- it joins two parts, and is marked
  module _ (w₂ : List ℕ) (marks : tiles_of g w₂ ≡ both_after n (tiles_of g w₁) (start_of g t) (hi_of g.w g.h (edge_of g t)) t.third) (out₂ : Outside (tiles_at g) g.t w₁ w₂) where
    links-same : links_of g w₂ ≡ links_of g w₁
    links-same = part-outside (tiles_at g) g.t w₁ w₂ out₂ (links_at g) g.t (inr (omega arith))

    long : length (tiles_of g w) ≡ g.t
    long = part-long (tiles_at g) g.t w (omega arith)

    marks-are : tiles_of g w₂ ≡ both_after n (tiles_of g w) (start_of g t) (hi_of g.w g.h (edge_of g t)) t.third
    marks-are = marks ∙ ap (λ (a : List ℕ). both_after n a (start_of g t) (hi_of g.w g.h (edge_of g t)) t.third) tiles-same

    kept_new : has (kept lo hi [] es) e ≡ false
    kept_new = has-false (kept lo hi [] es) e (omega (arith, kept-le lo hi [] es e, has-none es e new))

    pub joined-joins : r ≡ true → Joined g n (es ++ (e ∷ [])) w₀ w₂
    joined-joins h =
        let k : kept lo hi [] (es ++ (e ∷ [])) ≡ kept lo hi [] es ++ (e ∷ []) = kept-is ∙ ap (λ (q : Bool). kept lo hi [] es ++ cond (not q) [] (e ∷ [])) h in
        record {
          drawn = λ ps d.
              subst (λ (ks : List ℕ). Drawn g n ps ks (tiles_of g w₂)) (sym k)
              (drawn-more g shaped n ps (kept lo hi [] es) (tiles_of g w) (tiles_of g w₂) long t inside way kept_new marks-are (so_far.drawn ps d));
          fits = rw marks-are (
              after-fits n (marks_after n (tiles_of g w) (start_of g t) (8 + t.third)) (hi e) (10 + t.third)
              (omega (arith, at.end_in, long, after-long n (tiles_of g w) (start_of g t) (8 + t.third))) (omega arith)
              (after-fits n (tiles_of g w) (start_of g t) (8 + t.third) (omega (arith, long, at.start_in)) (omega arith) so_far.fits)
              );
          links = subst (Links n) (sym links-same) merged.links;
          holds = subst (λ (a : List ℕ). Holds lo hi (parent_in n a) (onto lo hi [] (es ++ (e ∷ [])))) (sym links-same) holds_more;
          around = outside-then (tiles_at g) (2 * g.t) w₀ w₁ w₂ near (outside_wider (tiles_at g) g.t (tiles_at g) (2 * g.t) w₁ w₂ out₂ (omega arith) (omega arith));
        }
