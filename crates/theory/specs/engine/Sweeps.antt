-- The costs of a tile without pins, over heights P that climb and with any top, the cost of what is not legal. They are found in two sweeps, each of which adds
-- the way from one layer to the next. Two branches meet at a layer of their own, and the way from there to the layer above is swept again. Of three, two meet,
-- and the third meets them. Layers are counted from 0 here.
-- Assumes nothing.
use Rattle.std.specs.Prelude.{ℕ, zero, suc, ◌+◌, ◌-◌, min}

-- after the first n layers, from the lowest up: the least of a layer's cost g and the way up from it
abbrev pub swept_up : (ℕ → ℕ) → ℕ → (ℕ → ℕ) → ℕ → ℕ
swept_up P top g zero = top
swept_up P top g (suc n) = min (min (swept_up P top g n + (P n - P (n - 1))) (g n)) top

-- after the last n of K layers, from the highest down, over costs g that are at most top
abbrev pub swept_down : (ℕ → ℕ) → ℕ → (ℕ → ℕ) → ℕ → ℕ → ℕ
swept_down P top g K zero = top
swept_down P top g K (suc n) = min (swept_down P top g K n + (P (K - n) - P (K - suc n))) (g (K - suc n))

-- both sweeps: the least of a layer's cost g and the way from layer l to it
unfoldable pub swept : (ℕ → ℕ) → ℕ → (ℕ → ℕ) → ℕ → ℕ → ℕ
swept P top g K l = swept_down P top (λ t. swept_up P top g (suc t)) K (K - l)

-- what costs x and what costs y meet at a layer, and the way from layer l to it
unfoldable pub met : (ℕ → ℕ) → ℕ → (ℕ → ℕ) → (ℕ → ℕ) → ℕ → ℕ → ℕ
met P top x y K l = swept P top (λ t. x t + y t) K l

-- the same of three: one of them, and the other two, which have met
unfoldable pub third_met : (ℕ → ℕ) → ℕ → (ℕ → ℕ) → (ℕ → ℕ) → (ℕ → ℕ) → ℕ → ℕ → ℕ
third_met P top x y z K l = swept P top (λ t. min (min (x t + met P top y z K t) (y t + met P top x z K t)) (z t + met P top x y K t)) K l

-- two branches, and three, with their costs by layer
abbrev pub pair_met : (ℕ → ℕ) → ℕ → (ℕ → ℕ) → (ℕ → ℕ) → ℕ → ℕ → ℕ
pair_met P top g h K = met P top (swept P top g K) (swept P top h K) K

abbrev pub triple_met : (ℕ → ℕ) → ℕ → (ℕ → ℕ) → (ℕ → ℕ) → (ℕ → ℕ) → ℕ → ℕ → ℕ
triple_met P top g h i K = third_met P top (swept P top g K) (swept P top h K) (swept P top i K) K

-- the way between two layers
abbrev pub apart : (ℕ → ℕ) → ℕ → ℕ → ℕ
apart P a b = (P a - P b) + (P b - P a)
