-- How far the capacities of a line are read and stored.
-- Assumes nothing.
use Rattle.std.specs.Prelude.{List, ◌≡◌, ℕ, suc, ◌≤◌, length}
use Rattle.model.specs.Read.{Result}
use Rattle.capacities.specs.declared.Run.{Run}
use Rattle.capacities.specs.Entries.{list_at, finish}
use Rattle.capacities.specs.Spread.{Room}

-- the line's answer, from here on: `left` capacities, and the last
abbrev pub onward : ℕ → ℕ → List ℕ → List ℕ → Run → Result (List ℕ)
onward k line s w r = finish k line r.inside w r.to (list_at (suc r.left) s r.at)

-- here one may read on, and there is room for what is left
pub record Stands (s : List ℕ) (k : ℕ) (w : List ℕ) (r : Run) : Type 0 where
  pub place : r.at ≤ length s
  pub room : Room k r.to (suc r.left) (length w)

-- read on from one place to another, which makes w' of w: the line's answer is the same from both
pub record Ran (s : List ℕ) (k : ℕ) (w : List ℕ) (from : Run) (w' : List ℕ) (r : Run) : Type 0 where
  pub stands : Stands s k w' r
  pub long : length w' ≡ length w
  pub fewer : r.left ≤ from.left
  pub same : (line : ℕ) → onward k line s w from ≡ onward k line s w' r
