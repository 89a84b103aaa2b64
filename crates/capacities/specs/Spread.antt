-- Numbers stored at even distances.
-- Assumes nothing.
use Rattle.std.specs.Prelude.{cond, List, [], ◌∷◌, ℕ, ◌+◌, ◌*◌, ◌≤◌, ◌<◌, leb, set}
use Rattle.model.specs.Limits.{most_capacity}

-- each number k places after the one before, the first at `to`
abbrev pub spread : ℕ → List ℕ → ℕ → List ℕ → List ℕ
spread k w to [] = w
spread k w to (v ∷ vs) = spread k (set w to v) (to + k) vs

-- one capacity, stored where it is in its range
abbrev pub kept : List ℕ → ℕ → ℕ → List ℕ
kept w to v = cond (leb v most_capacity) (set w to v) w

-- n numbers, each k places after the one before, have room among `size` numbers from `to` on
pub record Room (k to n size : ℕ) : Type 0 where
  pub apart : 1 ≤ k
  pub room : to + n * k < size + k
  pub small : to + n * k ≤ 100000
