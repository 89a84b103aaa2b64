-- A loop fills a part of the list from the front.
-- Assumes nothing.
use Rattle.std.specs.Prelude.{List, ◌≡◌, ℕ, ◌+◌, ◌-◌, ◌≤◌, ◌<◌, length, get_or, set}
use Rattle.std.proofs.Common.{◌∙◌, arith, get_or-set_same, get_or-set_other}
use Rattle.std.proofs.Math.Decide.{ℕ_discrete}
use Rattle.layout.specs.Parts.{Outside, set-outside, outside_wider, outside-then, outside-same}

-- w' is w with f 0, f 1 and so on in the n numbers from a on
pub record Filled (a n : ℕ) (f : ℕ → ℕ) (w w' : List ℕ) : Type 0 where
  pub each : (i : ℕ) → i < n → get_or w' (a + i) 0 ≡ f i
  pub outside : Outside a n w w'

pub filled_none : (a : ℕ) (f : ℕ → ℕ) (w : List ℕ) → Filled a 0 f w w
filled_none a f w = record { each = λ i h. absurd (omega arith); outside = outside-same a 0 w }

pub filled_next : (a n : ℕ) (f : ℕ → ℕ) (w w' : List ℕ) (v : ℕ) → Filled a n f w w' → a + n < length w → v ≡ f n → Filled a (n + 1) f w (set w' (a + n) v)
filled_next a n f w w' v d room e = record {
  each = λ i h. go i h (ℕ_discrete i n);
  outside =
      outside-then a (n + 1) w w' (set w' (a + n) v) (outside_wider a n a (n + 1) w w' d.outside (omega arith) (omega arith))
      (outside_wider (a + n) 1 a (n + 1) w' (set w' (a + n) v) (set-outside w' (a + n) v) (omega arith) (omega arith));
}
  where
    go : (i : ℕ) → i < n + 1 → Dec (i ≡ n) → get_or (set w' (a + n) v) (a + i) 0 ≡ f i
    go i h (yes p) = rw p (get_or-set_same w' (a + n) v 0 (omega (arith, d.outside.long)) ∙ e)
    go i h (no p) = get_or-set_other w' (a + n) (a + i) v 0 (λ q. p (omega arith)) ∙ d.each i (omega arith)

-- the numbers from a up to b are zero, and the others are as they were
pub record PartCleared (a b : ℕ) (w w' : List ℕ) : Type 0 where
  pub outside : Outside a (b - a) w w'
  pub zeros : (k : ℕ) → a ≤ k → k < b → get_or w' k 0 ≡ 0
