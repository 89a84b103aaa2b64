-- The costs of a tile without pins, as theory engine/Sweeps has them over any heights: here the way from a layer to the next is one via. Layers are counted
-- from 0 here, and layer t has the height t + 1.
-- Assumes nothing.
use Rattle.std.specs.Prelude.{List, ℕ, suc, ◌≤◌, ◌<◌, get_or}
use Rattle.theory.specs.engine.Sweeps as any
use Rattle.costs.specs.Rows.{illegal_cost}

-- after the first n layers, from the lowest up: the least of a layer's cost g and the vias up from it
abbrev pub swept_up : (ℕ → ℕ) → ℕ → ℕ
swept_up g n = any.swept_up suc illegal_cost g n

-- after the last n of K layers, from the highest down, over costs g that are at most illegal_cost
abbrev pub swept_down : (ℕ → ℕ) → ℕ → ℕ → ℕ
swept_down g K n = any.swept_down suc illegal_cost g K n

-- both sweeps: the least of a layer's cost g and the vias from layer l to it
abbrev pub swept : (ℕ → ℕ) → ℕ → ℕ → ℕ
swept g K l = any.swept suc illegal_cost g K l

-- what costs x and what costs y meet at a layer, and the vias from layer l to it
abbrev pub met : (ℕ → ℕ) → (ℕ → ℕ) → ℕ → ℕ → ℕ
met x y K l = any.met suc illegal_cost x y K l

-- the same of three: one of them, and the other two, which have met
abbrev pub third_met : (ℕ → ℕ) → (ℕ → ℕ) → (ℕ → ℕ) → ℕ → ℕ → ℕ
third_met x y z K l = any.third_met suc illegal_cost x y z K l

-- two branches, and three, with their costs by layer
abbrev pub pair_met : (ℕ → ℕ) → (ℕ → ℕ) → ℕ → ℕ → ℕ
pair_met g h K l = any.pair_met suc illegal_cost g h K l

abbrev pub triple_met : (ℕ → ℕ) → (ℕ → ℕ) → (ℕ → ℕ) → ℕ → ℕ → ℕ
triple_met g h i K l = any.triple_met suc illegal_cost g h i K l

-- eight costs, none above illegal_cost
abbrev pub Small : List ℕ → Type 0
Small a = (l : ℕ) → l < 8 → get_or a l 0 ≤ illegal_cost
