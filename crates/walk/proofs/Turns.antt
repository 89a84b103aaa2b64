-- One way out of a tile, and the four in turn.
-- Assumes nothing.
use mathlib.Core.Bool.{Bool, true, false, ◌&&◌, not, cond}
use mathlib.Core.List.{List, [], ◌∷◌, ◌++◌}
use mathlib.Core.Path.{◌≡◌, refl, sym, ap, ◌∙◌}
use Prim.Native.Nat.{ℕ, zero, suc, ◌+◌, ◌-◌, ◌≤◌, ◌<◌}
use native.Mathlib.Numerals.{add-one}
use native.Mathlib.Omega.{arith}
use lib.Dec.{eqb}
use lib.ListN.{length, set, length-append}
use borrow.Author.Tests.{eq-eqb, ne_eqb}
use Rattle.layout.specs.Areas.{stops_at, above_at}
use Rattle.layout.specs.Shapes.{Shaped, way_of}
use Rattle.layout.specs.declared.shape.Shape.{Shape}
use Rattle.layout.specs.declared.Way.{Way}
use Rattle.marks.specs.Words.{bit_of}
use Rattle.model.specs.Lists.{up_from}
use Rattle.walk.specs.Steps.{goes, onward, put_ways}
use Rattle.walk.proofs.Puts.{puts-long, puts-append}

-- the numbers of a way are small
pub way-small : (g : Shape) → Shaped g → (x d : ℕ) → x < g.t → ((way_of g x d).tile < 8192) × ((way_of g x d).edge < 16384)
way-small g s x zero h = (omega arith, omega arith)
way-small g s x (suc zero) h = (omega arith, omega arith)
way-small g s x (suc (suc zero)) h = (omega arith, omega arith)
way-small g s x (suc (suc (suc d))) h = (omega arith, omega arith)

and-false : (b : Bool) → (b && false) ≡ false
and-false true = refl
and-false false = refl

module _ (g : Shape) (x m a : ℕ) where
  -- what `step` ensures of way d
  abbrev pub Stepped : ℕ → ℕ → List ℕ → List ℕ → ℕ → Type 0
  Stepped d n w w' r = (r ≡ n + length (onward g x m a (d ∷ []))) × (w' ≡ put_ways (stops_at g) g.m w n (onward g x m a (d ∷ [])))

  none : (d n : ℕ) (w : List ℕ) → goes g x m a d ≡ false → Stepped d n w w n
  none d n w e = rw e (omega arith, refl)

  -- a way that the net does not use, and the way back
  pub step-unused : (d n : ℕ) (w : List ℕ) → bit_of m (8 + d) ≡ false → Stepped d n w w n
  step-unused d n w e = none d n w (ap (λ (b : Bool). b && not (eqb (way_of g x d).edge a)) e)

  pub step_back : (d n : ℕ) (w : List ℕ) (y : Way) → y ≡ way_of g x d → y.edge ≡ a → Stepped d n w w n
  step_back d n w y h e =
      none d n w (ap (λ (b : Bool). bit_of m (8 + d) && not b) (eq-eqb (way_of g x d).edge a (ap (λ (z : Way). z.edge) (sym h) ∙ e)) ∙ and-false (bit_of m (8 + d)))

  -- a way that goes on
  on : (d : ℕ) → bit_of m (8 + d) ≡ true → (y : Way) → y ≡ way_of g x d → (y.edge ≡ a → ⊥) → goes g x m a d ≡ true
  on d b y h e = rw (b, ne_eqb (way_of g x d).edge a (λ q. e (ap (λ (z : Way). z.edge) h ∙ q)))

  pub step-on : (d n : ℕ) (w : List ℕ) → bit_of m (8 + d) ≡ true → (y : Way) → y ≡ way_of g x d → (y.edge ≡ a → ⊥) → (s u : ℕ) → s ≡ stops_at g → u ≡ above_at g
      → Stepped d n w (set (set w (s + n) y.tile) (u + n) y.edge) (n + 1)
  step-on d n w b y h e s u p q = rw (on d b y h e, p, q, h) (refl, refl)

  pub step-long : (d n : ℕ) (w w' : List ℕ) (r : ℕ) → Stepped d n w w' r → length w' ≡ length w
  step-long d n w w' r s = ap length s.1 ∙ puts-long (stops_at g) g.m w n (onward g x m a (d ∷ []))

  -- ---- the ways from d on

  one_more : (d : ℕ) (ds : List ℕ) → onward g x m a (d ∷ ds) ≡ onward g x m a (d ∷ []) ++ onward g x m a ds
  one_more d ds = go (goes g x m a d)
    where
      go : (q : Bool) → cond q (way_of g x d ∷ onward g x m a ds) (onward g x m a ds) ≡ cond q (way_of g x d ∷ []) [] ++ onward g x m a ds
      go true = refl
      go false = refl

  next : (d : ℕ) → d < 4 → onward g x m a (up_from d (4 - d)) ≡ onward g x m a (d ∷ []) ++ onward g x m a (up_from (d + 1) (4 - (d + 1)))
  next d h =
      let e : 4 - d ≡ suc (4 - (d + 1)) = omega arith in
      ap (λ (k : ℕ). onward g x m a (up_from d k)) e
      ∙ one_more d (up_from (suc d) (4 - (d + 1)))
      ∙ ap (λ (k : ℕ). onward g x m a (d ∷ []) ++ onward g x m a (up_from k (4 - (d + 1)))) (sym (add-one d))

  -- the ways from d on, written to w from place n on, give w' and end at r
  pub record Left (d n : ℕ) (w : List ℕ) (r : ℕ) (w' : List ℕ) : Type 0 where
    pub end : n + length (onward g x m a (up_from d (4 - d))) ≡ r
    pub list : put_ways (stops_at g) g.m w n (onward g x m a (up_from d (4 - d))) ≡ w'

  pub left-all : (n : ℕ) (w : List ℕ) → Left 0 n w (n + length (onward g x m a (up_from 0 4))) (put_ways (stops_at g) g.m w n (onward g x m a (up_from 0 4)))
  left-all n w = record { end = refl; list = refl }

  module _ (d n : ℕ) (w : List ℕ) (r : ℕ) (w' : List ℕ) (h : d < 4) (l : Left d n w r w') where
    pub left-room : n + length (onward g x m a (d ∷ [])) ≤ r
    left-room =
        omega (arith, l.end, ap length (next d h), length-append (onward g x m a (d ∷ [])) (onward g x m a (up_from (d + 1) (4 - (d + 1)))))

    pub left-next : (w'' : List ℕ) (k : ℕ) → Stepped d n w w'' k → Left (d + 1) k w'' r w'
    left-next w'' k s =
        rw (s.0, s.1)
        (record {
          end = omega (arith, l.end, ap length (next d h), length-append (onward g x m a (d ∷ [])) (onward g x m a (up_from (d + 1) (4 - (d + 1)))));
          list =
              sym (puts-append (stops_at g) g.m w n (onward g x m a (d ∷ [])) (onward g x m a (up_from (d + 1) (4 - (d + 1)))))
              ∙ ap (put_ways (stops_at g) g.m w n) (sym (next d h))
              ∙ l.list;
        })

  pub left-done : (d n : ℕ) (w : List ℕ) (r : ℕ) (w' : List ℕ) → 4 ≤ d → Left d n w r w' → (n ≡ r) × (w ≡ w')
  left-done d n w r w' h l =
      let e : 4 - d ≡ 0 = omega arith in (
        omega (arith, l.end, ap (λ (k : ℕ). length (onward g x m a (up_from d k))) e),
        ap (λ (k : ℕ). put_ways (stops_at g) g.m w n (onward g x m a (up_from d k))) (sym e) ∙ l.list,
      )
