-- Where the K numbers of each edge stand, and how large they are.
-- Assumes nothing.
use Rattle.std.specs.Prelude.{List, ◌⊎◌, ◌≢◌, ◌≡◌, ℕ, suc, ◌+◌, ◌-◌, ◌*◌, ◌≤◌, ◌<◌, get_or}
use Rattle.std.proofs.Common.{inl, inr, ⊎_elim, ap, ◌∙◌, mul-le-mul_right, arith}
pub use Rattle.layout.specs.Areas.{edge-room}
use Rattle.layout.specs.declared.shape.Shape.{Shape}
use Rattle.model.specs.Job.{Job, capacity}
use Rattle.model.specs.Limits.{most_capacity}
use Rattle.net.specs.SoFar.{Capacities}
use Rattle.theory.specs.congestion.Sums.{lt-or-ge}

-- the capacities are within document 01's limit
abbrev pub SmallCapacities : Shape → List ℕ → Type 0
SmallCapacities g w = (e l : ℕ) → e < g.e → l < g.k → get_or w (e * g.k + l) 0 ≤ most_capacity

pub cap-at : (g : Shape) (j : Job) (w : List ℕ) → Capacities g j w → (e i : ℕ) → e < g.e → i < g.k → get_or w (e * g.k + i) 0 ≡ capacity j e (suc i)
cap-at g j w c e i h k =
    let z : i ≡ suc i - 1 = omega arith in ap (λ (n : ℕ). get_or w (e * g.k + n) 0) z ∙ c.caps e (suc i) h (omega arith) (omega arith)

pub small-capacities : (g : Shape) (j : Job) (w : List ℕ) → Capacities g j w → ((e l : ℕ) → capacity j e l ≤ most_capacity) → SmallCapacities g w
small-capacities g j w c small e l h k = omega (arith, cap-at g j w c e l h k, small e (suc l))

-- two edges have different places
later : (k a b i l : ℕ) → a < b → i < k → a * k + i < b * k + l
later k a b i l h s = omega (arith, mul-le-mul_right k h)

pub apart : (k a b i l : ℕ) → i < k → l < k → (a ≢ b) ⊎ (i ≢ l) → a * k + i ≢ b * k + l
apart k a b i l s t (inl h) e =
    ⊎_elim (λ p. omega (arith, later k a b i l p s)) (λ p. ⊎_elim (λ q. omega (arith, later k b a l i q t)) (λ q. h (omega arith)) (lt-or-ge b a)) (lt-or-ge a b)
apart k a b i l s t (inr h) e =
    ⊎_elim (λ p. omega (arith, later k a b i l p s)) (λ p. ⊎_elim (λ q. omega (arith, later k b a l i q t)) (λ q. h (same a b (omega arith) e)) (lt-or-ge b a)) (lt-or-ge a b)
  where
    same : (a b : ℕ) → a ≡ b → a * k + i ≡ b * k + l → i ≡ l
    same a b p q = omega (arith, ap (λ (x : ℕ). x * k) p)
