-- A tile's costs over intervals of layers in place of combinations. Layers are counted from 0 here, as the code has them: the layers s to b.
-- Assumes nothing.
use Rattle.std.specs.Prelude.{◌≡◌, cond, List, ◌⊎◌, ℕ, zero, suc, ◌+◌, ◌-◌, ◌*◌, ◌≤◌, ◌<◌, min, T, leb, get_or, length}
use Rattle.model.specs.Lists.{up_from}
use Rattle.theory.specs.engine.Interval.{least_in}
use Rattle.sets.specs.Mask.{has}
use Rattle.costs.specs.Rows.{illegal_cost}

-- the least cost of a branch, whose row stands from `at` on, on n layers from s on, and at most illegal_cost
unfoldable pub least_over : List ℕ → ℕ → ℕ → ℕ → ℕ
least_over w at s n = least_in illegal_cost (λ t. get_or w (at + t) 0) (up_from s n)

-- the same on the layers s to b
abbrev pub within : List ℕ → ℕ → ℕ → ℕ → ℕ
within w at s b = least_over w at s (b + 1 - s)

-- the same for the first c branches of a tile, summed: they lead to the tiles from `first` on, whose rows stand from o on
abbrev pub branch_sum : List ℕ → ℕ → ℕ → ℕ → ℕ → ℕ → ℕ
branch_sum w o first zero s b = 0
branch_sum w o first (suc c) s b = branch_sum w o first c s b + within w (o + 8 * (first + c)) s b

-- the cost of the layers s to b: the vias from s to b, and for each branch its least cost within them
unfoldable pub interval : List ℕ → ℕ → ℕ → ℕ → ℕ → ℕ → ℕ
interval w o first k s b = (b - s) + branch_sum w o first k s b

-- the least cost of the intervals from s on that end at b or above, and not below `high`; v has their costs
unfoldable pub least_end : (ℕ → ℕ) → ℕ → ℕ → ℕ → ℕ
least_end v K high b = least_in illegal_cost (λ e. cond (leb high e) (v e) illegal_cost) (up_from b (K - b))

-- the least cost of the intervals that hold layer b, start below `starts`, and end at `high` or above
unfoldable pub around : List ℕ → ℕ → ℕ → ℕ → ℕ → ℕ → ℕ → ℕ → ℕ
around w o first k K starts high b = least_in illegal_cost (λ s. least_end (interval w o first k s) K high b) (up_from 0 (min starts (suc b)))

-- the intervals that start at s, whose costs are v, are taken into the costs c; c' is what is there then
pub record Taken (c c' v : List ℕ) (K s high : ℕ) : Type 0 where
  pub long : length c' ≡ 8
  pub kept : (b : ℕ) → b < s → get_or c' b 0 ≡ get_or c b 0
  pub taken : (b : ℕ) → s ≤ b → b < K → get_or c' b 0 ≡ min (get_or c b 0) (least_end (λ e. get_or v e 0) K high b)

-- Where the intervals of a tile may start and must end, by its pins: below the lowest, and at the highest or above.
pub record PinEnds (K pins starts high : ℕ) : Type 0 where
  pub some : 1 ≤ starts
  pub deep : starts ≤ K
  pub top : high < K
  pub low : (l : ℕ) → 1 ≤ l → l ≤ 8 → T (has pins l) → (starts ≤ l) × (l ≤ suc high)
  pub starts_at : (starts ≡ K) ⊎ T (has pins starts)
  pub ends_at : (high ≡ 0) ⊎ T (has pins (suc high))
