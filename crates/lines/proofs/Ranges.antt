-- A number that was read, and its range.
-- Assumes nothing.
use mathlib.Core.Path.{◌≡◌}
use mathlib.Core.List.{List}
use Prim.Native.Nat.{ℕ, ◌≤◌, ◌<◌}
use borrow.Author.Tests.{le-leb, lt-leb}
use Rattle.model.specs.Read.{Place, refused, found}
use Rattle.lines.specs.Keyed.{number_line_by, ranged_by}

module _ (key : List ℕ) (low high : ℕ) (p : Place) where
  pub range-refused : (n l : ℕ) → number_line_by key p ≡ refused n l → ranged_by key low high p ≡ refused n l
  unfolding ranged_by
  range-refused n l e = rw e

  module _ (v : ℕ) (q : Place) (e : number_line_by key p ≡ found v q) where
    pub range-low : v < low → ranged_by key low high p ≡ refused 3 q.line
    unfolding ranged_by
    range-low h = rw (e, lt-leb low v h)

    pub range-high : low ≤ v → high < v → ranged_by key low high p ≡ refused 3 q.line
    unfolding ranged_by
    range-high h k = rw (e, le-leb low v h, lt-leb v high k)

    pub range-in : low ≤ v → v ≤ high → ranged_by key low high p ≡ found v q
    unfolding ranged_by
    range-in h k = rw (e, le-leb low v h, le-leb v high k)
