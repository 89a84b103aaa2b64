-- A turn of a strip.
-- Assumes nothing.
use mathlib.Core.Bool.{true}
use mathlib.Core.List.{List, [], ◌∷◌}
use mathlib.Core.Path.{◌≡◌, refl, sym, subst, ◌∙◌}
use Prim.Native.Nat.{ℕ, suc, ◌+◌, ◌≤◌, ◌<◌}
use lib.ListN.{length}
use Rattle.layout.specs.Shapes.{Shaped, WayRoom, way_of}
use Rattle.layout.specs.declared.shape.Shape.{Shape}
use Rattle.marks.specs.Marks.{bits_at, marked, unmark, unmark-long}
use Rattle.model.specs.Cut.{pinned}
use Rattle.model.specs.Job.{Pin}
use Rattle.net.specs.AtHand.{Drawn}
use Rattle.theory.specs.cutting.Strip.{strip, without}
use Rattle.theory.specs.links.Reach.{lo_of, hi_of}
use Rattle.theory.specs.walk.Ways.{way_edge}
use Rattle.cut.specs.Bare.{Fine, way_in}
use Rattle.cut.specs.Stripping.{back_of, cleared, can-take, here-marked, there-in, there-marked, step-drawn, step-fine, strip-on, strip-ends}
use Rattle.cut.specs.Strips.{Strippable, Stripped}

-- from tile t the strip has come to tile u, and goes on from there by at most k edges
pub record Going (g : Shape) (n : ℕ) (t : ℕ) (a₀ a : List ℕ) (u k : ℕ) : Type 0 where
  pub long : length a ≡ length a₀
  pub inside : u < g.t
  pub some : Strippable g n a
  pub goes : (ps : List Pin) (es : List ℕ) → Fine g ps es → Drawn g n ps es a₀
      → (fs : List ℕ) × Fine g ps fs × Drawn g n ps fs a
      × (strip (lo_of g.w g.h) (hi_of g.w g.h) (pinned ps) k fs u ≡ strip (lo_of g.w g.h) (hi_of g.w g.h) (pinned ps) g.e es t)

pub going_start : (g : Shape) (n t : ℕ) (a : List ℕ) → t < g.t → Strippable g n a → Going g n t a a t g.e
going_start g n t a h s = record { long = refl; inside = h; some = s; goes = λ ps es f d. (es, f, d, refl) }

module _ (g : Shape) (shaped : Shaped g) (n t : ℕ) (a₀ a : List ℕ) (u : ℕ) (long : length a₀ ≡ g.t) where
  -- no step is left, or the tile has another mark or none
  pub going-out : Going g n t a₀ a u 0 → Stripped g n (t ∷ []) a₀ a
  going-out c = record {
    long = c.long;
    drawn = λ ps es f d. let r = c.goes ps es f d in subst (λ (ks : List ℕ). Drawn g n ps ks a) r.3 r.2;
  }

  pub going-ends : (k : ℕ) → Going g n t a₀ a u k → 4 ≤ way_in (bits_at n a u) → Stripped g n (t ∷ []) a₀ a
  going-ends k c other = record {
    long = c.long;
    drawn = λ ps es f d.
        let r = c.goes ps es f d in
        subst (λ (ks : List ℕ). Drawn g n ps ks a) (sym (strip-ends g shaped n ps r.0 a r.1 r.2 u c.inside other k) ∙ r.3) r.2;
  }

  -- a step
  module _ (k : ℕ) (c : Going g n t a₀ a u (suc k)) (one : way_in (bits_at n a u) < 4) where
    full : length a ≡ g.t
    full = c.long ∙ long

    pub takes : WayRoom g u (way_in (bits_at n a u))
    takes = can-take g shaped n c.some.pins c.some.edges a full c.some.fine c.some.drawn u c.inside one

    pub clears : ((way_of g u (way_in (bits_at n a u))).tile < g.t) × (marked n a u (8 + way_in (bits_at n a u)) ≡ true)
        × (marked n (unmark n a u (8 + way_in (bits_at n a u))) (way_of g u (way_in (bits_at n a u))).tile (8 + back_of (way_in (bits_at n a u))) ≡ true)
    clears = (
      there-in g shaped n c.some.pins c.some.edges a full c.some.fine c.some.drawn u c.inside one,
      here-marked g shaped n c.some.pins c.some.edges a full c.some.fine c.some.drawn u c.inside one,
      there-marked g shaped n c.some.pins c.some.edges a full c.some.fine c.some.drawn u c.inside one,
    )

    pub going_on : Going g n t a₀ (cleared n a u (way_of g u (way_in (bits_at n a u))).tile (way_in (bits_at n a u))) (way_of g u (way_in (bits_at n a u))).tile k
    going_on = record {
      long =
          unmark-long n (unmark n a u (8 + way_in (bits_at n a u))) (way_of g u (way_in (bits_at n a u))).tile (8 + back_of (way_in (bits_at n a u)))
          ∙ unmark-long n a u (8 + way_in (bits_at n a u))
          ∙ c.long;
      inside = clears.0;
      some = record {
        pins = c.some.pins;
        edges = without (way_edge g.w g.h u (way_in (bits_at n a u))) c.some.edges;
        fine = step-fine g shaped n c.some.pins c.some.edges a full c.some.fine c.some.drawn u c.inside one;
        drawn = step-drawn g shaped n c.some.pins c.some.edges a full c.some.fine c.some.drawn u c.inside one;
      };
      goes = λ ps es f d.
          let r = c.goes ps es f d in (
            without (way_edge g.w g.h u (way_in (bits_at n a u))) r.0,
            step-fine g shaped n ps r.0 a full r.1 r.2 u c.inside one,
            step-drawn g shaped n ps r.0 a full r.1 r.2 u c.inside one,
            sym (strip-on g shaped n ps r.0 a full r.1 r.2 u c.inside one k) ∙ r.3,
          );
    }
