-- The loop over the walk places that puts the legal layers of the edge above each.
-- Assumes nothing.
use mathlib.Core.List.{List}
use mathlib.Core.Path.{◌≡◌, sym, ap, ◌∙◌}
use Prim.Native.Nat.{ℕ, ◌+◌, ◌≤◌, ◌<◌}
use native.Mathlib.Decide.{ℕ_discrete}
use native.Mathlib.Omega.{arith}
use lib.ListN.{length, get_or, set}
use lib.Seq.{get_or-set_same, get_or-set_other}
use Rattle.layout.specs.Areas.{above_at}
use Rattle.layout.specs.Parts.{Outside, set-outside, outside_wider, outside-then, outside-same}
use Rattle.layout.specs.declared.shape.Shape.{Shape}
use Rattle.net.specs.Places.{SmallCapacities}
use Rattle.turn.specs.Kept.{outside_low, small_low, mask_low}
use Rattle.turn.specs.Steps.{masks_at, KnownEdges, legal_at, LegalPut}

-- i is the next place; the edges stand from a on, and their masks go to the places from b on
pub record Masking (g : Shape) (a b : ℕ) (m : ℕ → ℕ) (w₀ w : List ℕ) (i : ℕ) : Type 0 where
  pub each : (k : ℕ) → 1 ≤ k → k < i → get_or w (b + k) 0 ≡ legal_at g w₀ m (get_or w₀ (a + k) 0)
  pub outside : Outside b i w₀ w

pub masking-start : (g : Shape) (a b : ℕ) (m : ℕ → ℕ) (w : List ℕ) → Masking g a b m w w 1
masking-start g a b m w = record { each = λ k p q. absurd (omega arith); outside = outside-same b 1 w }

module _ (g : Shape) (a b : ℕ) (m : ℕ → ℕ) (n : ℕ) (w₀ : List ℕ) (a-is : a ≡ above_at g) (b-is : b ≡ masks_at g) (few : n ≤ g.m) (known : KnownEdges g n w₀) (w : List ℕ) (i : ℕ)
    (o : Masking g a b m w₀ w i) where
  -- the next edge
  edge_kept : i < n → get_or w (a + i) 0 ≡ get_or w₀ (a + i) 0
  edge_kept h = o.outside.low (a + i) (omega arith)

  pub edge-known : 1 ≤ i → i < n → get_or w (a + i) 0 < g.e
  edge-known p h = omega (arith, edge_kept h, ap (λ (x : ℕ). get_or w₀ (x + i) 0) a-is, known i p h)

  pub still-small : SmallCapacities g w₀ → SmallCapacities g w
  still-small s = small_low g w₀ w (outside_low g b i w₀ w (omega arith) o.outside) s

  pub masking-next : (v : ℕ) → 1 ≤ i → i < n → b + n ≤ length w₀ → v ≡ legal_at g w m (get_or w (a + i) 0) → Masking g a b m w₀ (set w (b + i) v) (i + 1)
  masking-next v p h room v-is = record {
    each = λ k q r. go k q r (ℕ_discrete k i);
    outside =
        outside-then b (i + 1) w₀ w (set w (b + i) v) (outside_wider b i b (i + 1) w₀ w o.outside (omega arith) (omega arith))
        (outside_wider (b + i) 1 b (i + 1) w (set w (b + i) v) (set-outside w (b + i) v) (omega arith) (omega arith));
  }
    where
      here : v ≡ legal_at g w₀ m (get_or w₀ (a + i) 0)
      here =
          v-is
          ∙ mask_low g w₀ w (outside_low g b i w₀ w (omega arith) o.outside) (get_or w (a + i) 0) (m (get_or w (a + i) 0)) (edge-known p h)
          ∙ ap (legal_at g w₀ m) (edge_kept h)

      go : (k : ℕ) → 1 ≤ k → k < i + 1 → Dec (k ≡ i) → get_or (set w (b + i) v) (b + k) 0 ≡ legal_at g w₀ m (get_or w₀ (a + k) 0)
      go k q r (yes e) = rw e (get_or-set_same w (b + i) v 0 (omega (arith, o.outside.long)) ∙ here)
      go k q r (no d) = get_or-set_other w (b + i) (b + k) v 0 (λ z. d (omega arith)) ∙ o.each k q (omega arith)

  pub masking-done : n ≤ i → i ≤ n → LegalPut g n m w₀ w
  masking-done h l = record {
    masks = λ k p q.
        ap (λ (x : ℕ). get_or w (x + k) 0) (sym b-is) ∙ o.each k p (omega arith) ∙ ap (λ (x : ℕ). legal_at g w₀ m (get_or w₀ (x + k) 0)) a-is;
    outside = outside_wider b i (masks_at g) g.m w₀ w o.outside (omega arith) (omega arith);
  }
