-- Strips from several tiles in turn.
-- Assumes nothing.
use Rattle.std.specs.Prelude.{List, [], ◌∷◌, ◌++◌, ◌≡◌, refl, ℕ, length}
use Rattle.std.proofs.Common.{sym, ap, subst, ◌∙◌, arith}
use Rattle.layout.specs.declared.shape.Shape.{Shape}
use Rattle.model.specs.Cut.{pinned}
use Rattle.model.specs.Job.{Pin}
use Rattle.net.specs.AtHand.{Drawn}
use Rattle.theory.specs.cutting.Prune.{pruned-part}
use Rattle.theory.specs.cutting.Strip.{strip, strips_to, strip-pruned, strips-append}
use Rattle.theory.specs.links.Reach.{lo_of, hi_of}
use Rattle.theory.specs.walk.Joined.{ends}
use Rattle.cut.specs.Bare.{Fine}

-- the two tiles of each edge
abbrev pub both_tiles : Shape → List ℕ → List ℕ
both_tiles g es = ends (lo_of g.w g.h) (hi_of g.w g.h) es

-- of one edge more
pub tiles_more : (g : Shape) (es : List ℕ) (e : ℕ) → both_tiles g (es ++ (e ∷ [])) ≡ both_tiles g es ++ both_tiles g (e ∷ [])
tiles_more g [] e = refl
tiles_more g (x ∷ es) e = ap (λ (l : List ℕ). lo_of g.w g.h x ∷ hi_of g.w g.h x ∷ l) (tiles_more g es e)

-- some pins and edges are marked
pub record Strippable (g : Shape) (n : ℕ) (a : List ℕ) : Type 0 where
  pub pins : List Pin
  pub edges : List ℕ
  pub fine : Fine g pins edges
  pub drawn : Drawn g n pins edges a

-- whichever were marked in a, those are in a' that strips from the tiles ts leave
pub record Stripped (g : Shape) (n : ℕ) (ts : List ℕ) (a a' : List ℕ) : Type 0 where
  pub long : length a' ≡ length a
  pub drawn : (ps : List Pin) (es : List ℕ) → Fine g ps es → Drawn g n ps es a → Drawn g n ps (strips_to (lo_of g.w g.h) (hi_of g.w g.h) (pinned ps) g.e ts es) a'

module _ (g : Shape) (n : ℕ) where
  pub strip-fine : (ps : List Pin) (es : List ℕ) (k t : ℕ) → Fine g ps es → Fine g ps (strip (lo_of g.w g.h) (hi_of g.w g.h) (pinned ps) k es t)
  strip-fine ps es k t f =
      let part = pruned-part (lo_of g.w g.h) (hi_of g.w g.h) (pinned ps) (strip-pruned (lo_of g.w g.h) (hi_of g.w g.h) (pinned ps) k es t) in
      record { once = λ e. omega (arith, part e, f.once e); known = λ e i. f.known e (omega (arith, part e, i)); layers = f.layers }

  pub strips-fine : (ts : List ℕ) (ps : List Pin) (es : List ℕ) → Fine g ps es → Fine g ps (strips_to (lo_of g.w g.h) (hi_of g.w g.h) (pinned ps) g.e ts es)
  strips-fine [] ps es f = f
  strips-fine (t ∷ ts) ps es f = strips-fine ts ps (strip (lo_of g.w g.h) (hi_of g.w g.h) (pinned ps) g.e es t) (strip-fine ps es g.e t f)

  pub stripped-none : (a : List ℕ) → Stripped g n [] a a
  stripped-none a = record { long = refl; drawn = λ ps es f d. d }

  pub stripped-then : (ts us a a' a'' : List ℕ) → Stripped g n ts a a' → Stripped g n us a' a'' → Stripped g n (ts ++ us) a a''
  stripped-then ts us a a' a'' s r = record {
    long = r.long ∙ s.long;
    drawn = λ ps es f d.
        subst (λ (ks : List ℕ). Drawn g n ps ks a'') (sym (strips-append (lo_of g.w g.h) (hi_of g.w g.h) (pinned ps) g.e ts us es))
        (r.drawn ps (strips_to (lo_of g.w g.h) (hi_of g.w g.h) (pinned ps) g.e ts es) (strips-fine ts ps es f) (s.drawn ps es f d));
  }

  -- there still are some
  pub still-strippable : (ts a a' : List ℕ) → Stripped g n ts a a' → Strippable g n a → Strippable g n a'
  still-strippable ts a a' s p = record {
    pins = p.pins;
    edges = strips_to (lo_of g.w g.h) (hi_of g.w g.h) (pinned p.pins) g.e ts p.edges;
    fine = strips-fine ts p.pins p.edges p.fine;
    drawn = s.drawn p.pins p.edges p.fine p.drawn;
  }
