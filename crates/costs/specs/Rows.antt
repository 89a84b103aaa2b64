-- The cost rows of a net's tiles, in a part w of the working numbers that has room for m tiles in walk order:
--   at i           the place after the last branch of tile i, which is where the branches of tile i + 1 begin (the root's begin at 1)
--   at m + i       the layers of the pins in tile i, as a mask
--   at 2m + i      the legal layers of the edge above tile i, as a mask
--   at 3m + i      the layer chosen for the edge above tile i
--   from 4m + 8i   the row of tile i: for each layer of the edge above it, the least cost of the tile and all that hangs below it
-- Assumes nothing.
use Rattle.std.specs.Prelude.{◌≡◌, cond, List, ◌⊎◌, ℕ, ◌+◌, ◌-◌, ◌*◌, ◌/◌, ◌%◌, ◌^◌, ◌≤◌, ◌<◌, T, leb, eqb, get_or, length, take, drop}
use Rattle.theory.specs.engine.Branches.{below}
use Rattle.theory.specs.engine.Loops.{comb, TurnLeast}
use Rattle.sets.specs.Mask.{has, with_layer, mask_of, span_of}

-- the cost of an illegal layer: above the cost of any net
abbrev pub illegal_cost : ℕ
illegal_cost = 536870912

-- the rows stand from o on; the cost of tile i at layer l
abbrev pub row_at : List ℕ → ℕ → ℕ → ℕ → ℕ
row_at w o i l = get_or w (o + 8 * i + (l - 1)) 0

-- The cost of one combination: a tile's pins and the layer above it are the mask base, and its k branches, which lead to the tiles from `first` on,
-- have the first k of the layers a, b, c.
abbrev pub combination_cost : List ℕ → ℕ → ℕ → ℕ → ℕ → ℕ → ℕ → ℕ → ℕ
combination_cost w o first k base a b c = span_of (mask_of base (comb k a b c)) + below (row_at w o) first (comb k a b c)

-- how many layers the loop of the j-th branch tries, where a tile has k branches on K layers: a loop without a branch has one turn
abbrev pub layers_tried : ℕ → ℕ → ℕ → ℕ
layers_tried j k K = cond (leb j k) K 1

-- v is the least cost over all combinations, and illegal_cost where no combination is below that
abbrev pub LeastCost : List ℕ → ℕ → ℕ → ℕ → ℕ → ℕ → ℕ → Type 0
LeastCost w o first k K base v = TurnLeast (layers_tried 1 k K) (layers_tried 2 k K) (layers_tried 3 k K) (combination_cost w o first k base) illegal_cost v

-- eight numbers, of which those from s up to K are f
pub record Eight (v : List ℕ) (f : ℕ → ℕ) (s K : ℕ) : Type 0 where
  pub long : length v ≡ 8
  pub at : (b : ℕ) → s ≤ b → b < K → get_or v b 0 ≡ f b

-- v is the number of a tile's row at layer l
pub record RowEntry (w : List ℕ) (o first k K pins legal l v : ℕ) : Type 0 where
  pub least : T (has legal l) → LeastCost w o first k K (with_layer pins l) v
  pub mark : T (has legal l) ⊎ (illegal_cost ≤ v)

-- c has, for each layer above a tile with the pins given, the tile's least cost
abbrev pub TileCosts : List ℕ → ℕ → ℕ → ℕ → ℕ → ℕ → List ℕ → Type 0
TileCosts w o first k K pins c = (l : ℕ) → 1 ≤ l → l ≤ K → LeastCost w o first k K (with_layer pins l) (get_or c (l - 1) 0)

-- a row is put from `at` on, and nothing else: the costs c at the legal layers, and illegal_cost at the others
pub record RowPut (w w' c : List ℕ) (at K legal : ℕ) : Type 0 where
  pub long : length w' ≡ length w
  pub before : take at w' ≡ take at w
  pub after : drop (at + 8) w' ≡ drop (at + 8) w
  pub row : (l : ℕ) → l < K → get_or w' (at + l) 0 ≡ cond (eqb (legal / 2 ^ l % 2) 1) (get_or c l 0) illegal_cost

-- the row of tile i is written, and nothing else: w is the list before, w' the one after
pub record RowWritten (w w' : List ℕ) (o i first k K pins legal : ℕ) : Type 0 where
  pub long : length w' ≡ length w
  pub before : take (o + 8 * i) w' ≡ take (o + 8 * i) w
  pub after : drop (o + 8 * i + 8) w' ≡ drop (o + 8 * i + 8) w
  pub row : (l : ℕ) → 1 ≤ l → l ≤ K → RowEntry w o first k K pins legal l (row_at w' o i l)

-- tile i of the walk, which is not the root: the place of its first branch, how many branches it has, its pins, and what is legal above it
abbrev pub first_in : List ℕ → ℕ → ℕ
first_in w i = get_or w (i - 1) 0

abbrev pub branches_in : List ℕ → ℕ → ℕ
branches_in w i = get_or w i 0 - get_or w (i - 1) 0

abbrev pub pins_in : List ℕ → ℕ → ℕ → ℕ
pins_in w m i = get_or w (m + i) 0

abbrev pub legal_in : List ℕ → ℕ → ℕ → ℕ
legal_in w m i = get_or w (2 * m + i) 0

-- how many branches the root has
abbrev pub root_branches : List ℕ → ℕ
root_branches w = get_or w 0 0 - 1

-- a set of layers from 1 to K
pub record LayerMask (K mask : ℕ) : Type 0 where
  pub small : mask < 256
  pub deep : (l : ℕ) → 1 ≤ l → l ≤ 8 → T (has mask l) → l ≤ K

-- the tiles in w are a tree of n tiles in walk order, on K layers
pub record Shape (w : List ℕ) (m n K : ℕ) : Type 0 where
  pub small : m ≤ 65536
  pub tiles : 1 ≤ n
  pub fits : n ≤ m
  pub room : 12 * m ≤ length w
  pub some : 1 ≤ K
  pub deep : K ≤ 8
  pub start : 1 ≤ get_or w 0 0
  pub root_few : get_or w 0 0 ≤ 4
  pub ahead : (i : ℕ) → 1 ≤ i → i < n → i < get_or w (i - 1) 0
  pub rising : (i : ℕ) → 1 ≤ i → i < n → get_or w (i - 1) 0 ≤ get_or w i 0
  pub few : (i : ℕ) → 1 ≤ i → i < n → get_or w i 0 ≤ get_or w (i - 1) 0 + 3
  pub within : (i : ℕ) → i < n → get_or w i 0 ≤ n
  pub pins : (i : ℕ) → i < n → LayerMask K (get_or w (m + i) 0)

-- the rows of the tiles from tile i on are written, and nothing else
pub record RowsFrom (w w' : List ℕ) (m n K i : ℕ) : Type 0 where
  pub long : length w' ≡ length w
  pub low : take (4 * m) w' ≡ take (4 * m) w
  pub high : drop (4 * m + 8 * n) w' ≡ drop (4 * m + 8 * n) w
  pub rows : (t : ℕ) → i ≤ t → t < n → (l : ℕ) → 1 ≤ l → l ≤ K
      → RowEntry w' (4 * m) (first_in w t) (branches_in w t) K (pins_in w m t) (legal_in w m t) l (row_at w' (4 * m) t l)
