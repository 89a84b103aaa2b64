-- What the steps of a turn write leaves the plan so far as it was: this stands below the flat capacities.
-- Assumes nothing.
use Rattle.std.specs.Prelude.{Bool, List, ◌≡◌, refl, ℕ, zero, suc, ◌+◌, ◌-◌, ◌*◌, ◌≤◌, ◌<◌, get_or}
use Rattle.std.proofs.Math.Path.{ap, ap₂}
use Rattle.std.proofs.Common.{◌∙◌, arith}
use Rattle.layout.specs.Areas.{loads_at, demand_at, flat_at}
use Rattle.layout.specs.Parts.{Outside}
use Rattle.layout.specs.declared.shape.Shape.{Shape}
use Rattle.model.specs.Job.{Job}
use Rattle.model.specs.Lists.{bit}
use Rattle.net.specs.SoFar.{SoFarWith}
use Rattle.tracks.specs.Legal.{room_of, open_to, open_at, legal_mask}
use Rattle.tracks.specs.Masks.{bits_up}
use Rattle.net.specs.Places.{SmallCapacities, edge-room}

-- w' is w below the flat capacities
abbrev pub SameLow : Shape → List ℕ → List ℕ → Type 0
SameLow g w w' = (i : ℕ) → i < flat_at g → get_or w' i 0 ≡ get_or w i 0

pub outside_low : (g : Shape) (a k : ℕ) (w w' : List ℕ) → flat_at g ≤ a → Outside a k w w' → SameLow g w w'
outside_low g a k w w' h o i b = o.low i (omega arith)

bits-same : (f h : ℕ → Bool) (a n : ℕ) → ((i : ℕ) → a ≤ i → i < a + n → f i ≡ h i) → bits_up f a n ≡ bits_up h a n
bits-same f h a zero e = refl
bits-same f h a (suc n) e =
    ap₂ (λ (b : Bool) (m : ℕ). bit b + 2 * m) (e a (omega arith) (omega arith)) (bits-same f h (suc a) n (λ i p q. e i (omega arith) (omega arith)))

module _ (g : Shape) (w w' : List ℕ) (same : SameLow g w w') where
  pub so-far-low : (j : Job) (o : ℕ → ℕ) (x : ℕ → ℕ → ℕ) → SoFarWith g j o x w → SoFarWith g j o x w'
  so-far-low j o x s = record {
    capacities = record { caps = λ e l h a b. same (e * g.k + (l - 1)) (omega (arith, edge-room g e h)) ∙ s.capacities.caps e l h a b };
    loads = λ e l h a b r. same (loads_at g + e * g.k + (l - 1)) (omega (arith, edge-room g e h)) ∙ s.loads e l h a b r;
    closed = λ e l h a b r. omega (arith, same (loads_at g + e * g.k + (l - 1)) (omega (arith, edge-room g e h)), s.closed e l h a b r);
    left = λ e h. omega (arith, same (demand_at g + e) (omega arith), s.left e h);
  }

  pub small_low : SmallCapacities g w → SmallCapacities g w'
  small_low s e l h k = omega (arith, same (e * g.k + l) (omega (arith, edge-room g e h)), s e l h k)

  pub mask_low : (e m : ℕ) → e < g.e → legal_mask g w' e m ≡ legal_mask g w e m
  unfolding legal_mask
  mask_low e m h =
      bits-same (open_at g w' e m) (open_at g w e m) 0 g.k
      (λ i p q.
      let cap = same (e * g.k + i) (omega (arith, edge-room g e h)) in
      let load = same (loads_at g + e * g.k + i) (omega (arith, edge-room g e h)) in
      let left = same (demand_at g + e) (omega arith) in
      ap₂ (λ (a c : ℕ). open_to a c (room_of (get_or w' (demand_at g + e) 0) m)) load cap
      ∙ ap (λ (r : ℕ). open_to (get_or w (loads_at g + e * g.k + i) 0) (get_or w (e * g.k + i) 0) (room_of r m)) left)
