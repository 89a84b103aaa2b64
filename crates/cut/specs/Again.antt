-- A net with dropped entries is marked again: how the net table tells it, and what a loop over its entries then meets.
-- Assumes nothing.
use Rattle.std.specs.Prelude.{Bool, true, false, cond, List, [], ◌∷◌, ◌++◌, ◌≡◌, refl, ℕ, ◌+◌, ◌/◌, ◌≤◌, ◌<◌}
use Rattle.std.proofs.Common.{ap}
use Rattle.layout.specs.Areas.{tiles_of}
use Rattle.layout.specs.Shapes.{Shaped}
use Rattle.layout.specs.declared.shape.Shape.{Shape}
use Rattle.model.specs.Job.{Net}
use Rattle.model.specs.Lists.{has, keep}
use Rattle.net.specs.AtHand.{Drawn}
use Rattle.net.specs.Dropped.{Remarked, unmarked-more, told-ring, kept-in-order}
use Rattle.net.specs.Table.{PinsAt, EdgesAt, counts_of}
use Rattle.theory.specs.links.Nets.{NetOk}
use Rattle.cut.specs.Net.{RingAt, CutMarked}

-- the entries of the net stand at p, and those that it keeps are marked under stamp m
pub record KeptAt (s : List ℕ) (g : Shape) (p m : ℕ) (w : List ℕ) (n : Net) : Type 0 where
  pub edges : EdgesAt s g.w g.h p n
  pub drawn : Drawn g m n.pins n.edges (tiles_of g w)
  pub in_order : keep (has n.edges) n.entries ≡ n.edges

-- a net that the reading let pass, with dropped entries among its counts v
pub ring_told : (s : List ℕ) (g : Shape) (p q : ℕ) (n : Net) → Shaped g → PinsAt s g.w g.h g.k p n → EdgesAt s g.w g.h q n → NetOk g.w g.h g.k n
    → (v : ℕ) → v ≡ counts_of n → 0 < v / 65_536 → RingAt s g p q n
ring_told s g p q n shaped pins edges ok v is some = record { pins = pins; edges = edges; ok = ok; ring = told-ring g shaped n ok v is some }

-- it is marked
module _ (s : List ℕ) (g : Shape) (p q m : ℕ) (n : Net) (at : RingAt s g p q n) (w w' : List ℕ) (r : ℕ) (marked : CutMarked g m n w w' r) where
  pub kept_at : KeptAt s g q m w' n
  kept_at = record { edges = at.edges; drawn = marked.drawn; in_order = kept-in-order g.w g.h g.k n at.ok }

pub cut-remarked : (g : Shape) (m k : ℕ) (n : Net) (w w' : List ℕ) (r : ℕ) → CutMarked g m n w w' r → m + 1 ≤ k → Remarked g k w w'
cut-remarked g m k n w w' r marked h = record {
  out = marked.around;
  after = unmarked-more g (m + 1) k w' h (record { marks = marked.drawn.fits; links = marked.links });
}

-- one entry more of a list of which some are kept
pub keep-end : (p : ℕ → Bool) (xs : List ℕ) (x : ℕ) → keep p (xs ++ (x ∷ [])) ≡ keep p xs ++ cond (p x) (x ∷ []) []
keep-end p [] x = refl
keep-end p (y ∷ xs) x = go (p y) (keep-end p xs x)
  where
    go : (q : Bool) → keep p (xs ++ (x ∷ [])) ≡ keep p xs ++ cond (p x) (x ∷ []) []
        → cond q (y ∷ keep p (xs ++ (x ∷ []))) (keep p (xs ++ (x ∷ []))) ≡ cond q (y ∷ keep p xs) (keep p xs) ++ cond (p x) (x ∷ []) []
    go true e = ap (λ (l : List ℕ). y ∷ l) e
    go false e = e
