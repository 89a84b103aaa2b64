-- The layers chosen for the edges of a net, from its cost rows: at 3m + t the layer of the edge above tile t.
-- "So at each tile, given the layer of the edge above it, the branches take the first combination, in rising order, that reaches this least cost."
-- Assumes nothing.
use Rattle.std.specs.Prelude.{◌≡◌, cond, List, ℕ, ◌+◌, ◌-◌, ◌*◌, ◌≤◌, ◌<◌, ltb, get_or, length, take, drop}
use Rattle.std.proofs.lemmas.List.Edits.{sets}
use Rattle.std.proofs.Math.Seq.{slice}
use Rattle.theory.specs.engine.Loops.{comb, HasTurn, FirstTurn}
use Rattle.sets.specs.Mask.{with_layer}
use Rattle.costs.specs.Rows.{illegal_cost, row_at, combination_cost, layers_tried, LeastCost, first_in, branches_in, pins_in, root_branches}

-- what branch c of a tile's k branches, counted from 0, adds on layer l + 1: its cost, and its layer to the tile's set; nothing where there is no such branch
abbrev pub branch_cost : List ℕ → ℕ → ℕ → ℕ → ℕ → ℕ → ℕ
branch_cost w o first k c l = cond (ltb c k) (get_or w (o + 8 * (first + c) + l) 0) 0

abbrev pub branch_mask : ℕ → ℕ → ℕ → ℕ → ℕ
branch_mask mask k c l = cond (ltb c k) (with_layer mask (l + 1)) mask

-- some combination costs v
abbrev pub Attained : List ℕ → ℕ → ℕ → ℕ → ℕ → ℕ → ℕ → Type 0
Attained w o first k K base v = HasTurn (layers_tried 1 k K) (layers_tried 2 k K) (layers_tried 3 k K) (combination_cost w o first k base) v

-- the combination a, b, c is the first in rising order that costs v
abbrev pub FirstCombination : List ℕ → ℕ → ℕ → ℕ → ℕ → ℕ → ℕ → ℕ → ℕ → ℕ → Type 0
FirstCombination w o first k K base v a b c =
    FirstTurn (layers_tried 1 k K) (layers_tried 2 k K) (layers_tried 3 k K) (combination_cost w o first k base) v a b c

-- the first combination that costs v is written for the k branches from `first` on, and nothing else
pub record FirstWritten (w w' : List ℕ) (m first k K base v : ℕ) : Type 0 where
  pub a : ℕ
  pub b : ℕ
  pub c : ℕ
  pub combination : FirstCombination w (4 * m) first k K base v a b c
  pub wrote : w' ≡ sets w (3 * m + first) (comb k a b c)

-- the layers that stand in w' for these branches are the first combination that costs v
pub record FirstStands (w w' : List ℕ) (m first k K base v : ℕ) : Type 0 where
  pub a : ℕ
  pub b : ℕ
  pub c : ℕ
  pub combination : FirstCombination w (4 * m) first k K base v a b c
  pub stands : slice (3 * m + first) (3 * m + first + k) w' ≡ comb k a b c

-- the layer of the edge above tile t
abbrev pub layer_in : List ℕ → ℕ → ℕ → ℕ
layer_in w m t = get_or w (3 * m + t) 0

-- tile t has a way to go on below layer l
abbrev pub Usable : List ℕ → ℕ → ℕ → ℕ → ℕ → Type 0
Usable w m K t l = (1 ≤ l) × (l ≤ K) × (row_at w (4 * m) t l < illegal_cost)

-- v is the least cost of the root, which has no layer above: the least cost of the net
abbrev pub RootLeast : List ℕ → ℕ → ℕ → ℕ → Type 0
RootLeast w m K v = LeastCost w (4 * m) 1 (root_branches w) K (get_or w m 0) v

-- what is asked of the slice before the branches of the root are chosen, and what is done then
pub record RootReady (w : List ℕ) (m K v : ℕ) : Type 0 where
  pub start : 1 ≤ get_or w 0 0
  pub few : get_or w 0 0 ≤ 4
  pub within : get_or w 0 0 ≤ m
  pub pins : get_or w m 0 < 256
  pub attained : Attained w (4 * m) 1 (root_branches w) K (get_or w m 0) v

abbrev pub RootChosen : List ℕ → List ℕ → ℕ → ℕ → ℕ → Type 0
RootChosen w w' m K v = FirstWritten w w' m 1 (root_branches w) K (get_or w m 0) v

-- the same for another tile: its layer stands in the slice, and its row has the cost
pub record TileReady (w : List ℕ) (m i K : ℕ) : Type 0 where
  pub rising : get_or w (i - 1) 0 ≤ get_or w i 0
  pub few : get_or w i 0 ≤ get_or w (i - 1) 0 + 3
  pub within : get_or w i 0 ≤ m
  pub pins : get_or w (m + i) 0 < 256
  pub layer : 1 ≤ layer_in w m i
  pub high : layer_in w m i ≤ K
  pub attained : Attained w (4 * m) (first_in w i) (branches_in w i) K (with_layer (pins_in w m i) (layer_in w m i)) (row_at w (4 * m) i (layer_in w m i))

abbrev pub TileChosen : List ℕ → List ℕ → ℕ → ℕ → ℕ → Type 0
TileChosen w w' m i K =
    FirstWritten w w' m (first_in w i) (branches_in w i) K (with_layer (pins_in w m i) (layer_in w m i)) (row_at w (4 * m) i (layer_in w m i))

-- the branches of the tiles before tile i have their layers, and only layers are written
pub record ChosenUpTo (w w' : List ℕ) (m n K v i : ℕ) : Type 0 where
  pub long : length w' ≡ length w
  pub low : take (3 * m) w' ≡ take (3 * m) w
  pub high : drop (4 * m) w' ≡ drop (4 * m) w
  pub root : FirstStands w w' m 1 (root_branches w) K (get_or w m 0) v
  pub tiles : (t : ℕ) → 1 ≤ t → t < i
      → FirstStands w w' m (first_in w t) (branches_in w t) K (with_layer (pins_in w m t) (layer_in w' m t)) (row_at w (4 * m) t (layer_in w' m t))
  pub usable : (t : ℕ) → 1 ≤ t → t < first_in w i → Usable w m K t (layer_in w' m t)
