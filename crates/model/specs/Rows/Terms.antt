-- Rows for what a text is read as, and for the terms of the plan: grid, overflow, legal layers, score, order, walk, vias, choices.
-- Assumes nothing.
use Rattle.std.specs.Prelude.{Bool, true, false, List, [], ◌∷◌, ℕ, ◌-◌, ◌*◌, get_or}
use Rattle.std.proofs.Math.Option.{none}
use Rattle.model.specs.Choices.{choices, least_of}
use Rattle.model.specs.Grid.{tiles, tile, east_count, north_count, grid_edges, east_edge, north_edge, Ends, edge_ends, Way, ways}
use Rattle.model.specs.Job.{Pin, Net, Job, net_count, tile_count, edge_count, capacity, net_of, entry_count}
use Rattle.model.specs.Legal.{is_legal}
use Rattle.model.specs.Overflow.{flat_demand, flat_capacity, flat_overflow, TO, MO, ceil_div, limit, layer_overflow, total_overflow, max_overflow}
use Rattle.model.specs.Plan.{legal, plan, total_vias}
use Rattle.model.specs.Read.{Result, found, read}
use Rattle.model.specs.Rows.Row.{Row, ◌gives◌, text_of, lent}
use Rattle.model.specs.Score.{Entry, length_term, pin_term, density_term, different_tiles, score, sorted, order}
use Rattle.model.specs.Tree.{ring, joined}
use Rattle.model.specs.Vias.{span, vias}
use Rattle.model.specs.Walk.{net_tiles, walk}

abbrev pin : ℕ → ℕ → Pin
pin t l = record { tile = t; layer = l }

abbrev net_with : List Pin → List ℕ → Net
net_with ps es = record { low = none; pins = ps; entries = es; edges = es }

-- the entry of a net without a line `low`
abbrev pub entry : ℕ → ℕ → Entry
entry n s = record { net = n; low = 1; score = s }

-- a job of this width, height and number of layers, with alpha 1, beta 1, gamma 0
abbrev job_with : ℕ → ℕ → ℕ → List (List ℕ) → List Net → Job
job_with W H K cs ns = record { width = W; height = H; layers = K; dirs = none; alpha = 1; beta = 1; gamma = 0; capacities = cs; nets = ns }

-- ---- what is read

-- W = 3, H = 2, K = 3; the capacities of a layer go "lowest y first, then lowest x", and `east` before `north`
abbrev pub mixed : Job
mixed = record {
  width = 3;
  height = 2;
  layers = 3;
  dirs = none;
  alpha = 4;
  beta = 5;
  gamma = 6;
  capacities =
      (1 ∷ 2 ∷ 3 ∷ 4 ∷ 5 ∷ 6 ∷ 7 ∷ []) ∷ (11 ∷ 12 ∷ 13 ∷ 14 ∷ 15 ∷ 16 ∷ 17 ∷ []) ∷ (21 ∷ 22 ∷ 23 ∷ 24 ∷ 25 ∷ 26 ∷ 27 ∷ []) ∷ [];
  nets = net_with (pin 5 3 ∷ pin 0 1 ∷ []) (3 ∷ 0 ∷ 4 ∷ 2 ∷ []) ∷ net_with (pin 1 2 ∷ []) (6 ∷ 1 ∷ []) ∷ [];
}

abbrev pub read_rows : List (Row (Result Job))
read_rows =
    (read (lent 276 2 6 none)
    (text_of
    ("width=3" ∷ "height=2" ∷ "layers=3" ∷ "alpha=4" ∷ "beta=5" ∷ "gamma=6" ∷ "east=1,2,3,4" ∷ "north=5,6,7" ∷ "east=11,12,13,14" ∷ "north=15,16,17"
    ∷ "east=21,22,23,24" ∷ "north=25,26,27" ∷ "nets=2" ∷ "net=1" ∷ "pins=2,1,3;0,0,1" ∷ "edges=1,1,e;0,0,e;0,0,n;0,1,e" ∷ "net=2" ∷ "pins=1,0,2"
    ∷ "edges=2,0,n;1,0,e" ∷ []))
    gives found mixed (record { line = 19; rest = [] })) ∷ []

-- ---- tiles and edges

abbrev pub grid_rows : List (Row ℕ)
grid_rows =
    -- "T = W × H tiles. Tile (x, y) has the number y × W + x"
    (tiles 3 2 gives 6) ∷ (tile 3 2 0 gives 2) ∷ (tile 3 0 1 gives 3) ∷ (tile 3 2 1 gives 5)
    -- "(W − 1) × H capacities", "W × (H − 1) likewise", "E is the sum of both lengths"
    ∷ (east_count 3 2 gives 4) ∷ (north_count 3 2 gives 3) ∷ (grid_edges 3 2 gives 7) ∷ (east_count 1 5 gives 0) ∷ (north_count 1 5 gives 4)
    ∷ (east_count 5 1 gives 4) ∷ (north_count 5 1 gives 0) ∷ (grid_edges 1 1 gives 0) ∷ (grid_edges 64 64 gives 8_064)
    -- "lowest y first, then lowest x"
    ∷ (east_edge 3 1 0 gives 1) ∷ (east_edge 3 0 1 gives 2) ∷ (north_edge 3 3 0 0 gives 6) ∷ (north_edge 3 3 2 0 gives 8) ∷ (north_edge 3 3 0 1 gives 9)
    ∷ (north_edge 1 3 0 1 gives 1)
    -- the counts of a job, and its capacities by edge and layer
    ∷ (net_count mixed gives 2) ∷ (tile_count mixed gives 6) ∷ (edge_count mixed gives 7) ∷ (entry_count mixed gives 6) ∷ (capacity mixed 0 1 gives 1)
    ∷ (capacity mixed 3 1 gives 4) ∷ (capacity mixed 4 2 gives 15) ∷ (capacity mixed 6 3 gives 27) ∷ []

abbrev between : ℕ → ℕ → Ends
between t u = record { one = t; other = u }

-- "for the edge from (x, y) to (x + 1, y)", "from (x, y) to (x, y + 1)"
abbrev pub end_rows : List (Row Ends)
end_rows =
    (edge_ends 3 2 0 gives between 0 1) ∷ (edge_ends 3 2 1 gives between 1 2) ∷ (edge_ends 3 2 2 gives between 3 4) ∷ (edge_ends 3 2 3 gives between 4 5)
    ∷ (edge_ends 3 2 4 gives between 0 3) ∷ (edge_ends 3 2 6 gives between 2 5) ∷ (edge_ends 1 3 0 gives between 0 1) ∷ (edge_ends 1 3 1 gives between 1 2)
    ∷ (edge_ends 2 3 6 gives between 3 5) ∷ []

abbrev by : ℕ → ℕ → Way
by e t = record { edge = e; to = t }

-- "The four ways out of a tile come in the order east, north, west, south"
abbrev pub way_rows : List (Row (List Way))
way_rows =
    (ways 3 3 4 gives by 3 5 ∷ by 10 7 ∷ by 2 3 ∷ by 7 1 ∷ []) ∷ (ways 3 3 0 gives by 0 1 ∷ by 6 3 ∷ [])
    ∷ (ways 3 3 2 gives by 8 5 ∷ by 1 1 ∷ []) ∷ (ways 3 3 6 gives by 4 7 ∷ by 9 3 ∷ []) ∷ (ways 3 3 8 gives by 5 7 ∷ by 11 5 ∷ [])
    ∷ (ways 1 3 1 gives by 1 2 ∷ by 0 0 ∷ []) ∷ (ways 3 1 1 gives by 1 2 ∷ by 0 0 ∷ []) ∷ (ways 1 1 0 gives []) ∷ []

-- ---- rings and reach

-- Four tiles in a row, edges in the order that reaches the fewest at each pass; a square; a pin, an edge, or the first pin apart.
abbrev pub tree_rows : List (Row Bool)
tree_rows =
    (joined 4 1 (pin 0 1 ∷ pin 3 1 ∷ []) (2 ∷ 1 ∷ 0 ∷ []) gives true) ∷ (joined 4 1 (pin 3 1 ∷ pin 0 1 ∷ []) (0 ∷ 1 ∷ 2 ∷ []) gives true)
    ∷ (joined 4 1 (pin 0 1 ∷ pin 3 1 ∷ []) (0 ∷ 1 ∷ []) gives false) ∷ (joined 4 1 (pin 3 1 ∷ pin 0 1 ∷ []) (0 ∷ 1 ∷ []) gives false)
    ∷ (joined 4 1 (pin 0 1 ∷ []) (0 ∷ 2 ∷ []) gives false) ∷ (joined 4 1 (pin 3 1 ∷ []) (0 ∷ 2 ∷ []) gives false)
    ∷ (joined 4 1 (pin 3 1 ∷ []) (0 ∷ []) gives false) ∷ (joined 4 1 (pin 3 1 ∷ pin 3 2 ∷ []) [] gives true)
    ∷ (ring 2 2 (0 ∷ 2 ∷ 3 ∷ 1 ∷ []) gives true) ∷ (ring 2 2 (0 ∷ 1 ∷ 2 ∷ []) gives false) ∷ (ring 2 2 (0 ∷ 1 ∷ []) gives false)
    ∷ (ring 3 2 (0 ∷ 3 ∷ 4 ∷ 6 ∷ 2 ∷ 1 ∷ []) gives true) ∷ (ring 3 2 (0 ∷ 3 ∷ 4 ∷ 6 ∷ 2 ∷ []) gives false) ∷ (ring 3 2 (1 ∷ 3 ∷ 5 ∷ 6 ∷ 4 ∷ []) gives true)
    ∷ (ring 3 2 [] gives false) ∷ []

-- ---- score and order

-- W = 3, H = 1, K = 2; c is 3 and 10, d is 1 and 2
abbrev weighed : ℕ → ℕ → ℕ → Job
weighed a b g = record {
  width = 3;
  height = 1;
  layers = 2;
  dirs = none;
  alpha = a;
  beta = b;
  gamma = g;
  capacities = (1 ∷ 4 ∷ []) ∷ (2 ∷ 6 ∷ []) ∷ [];
  nets = net_with (pin 0 1 ∷ pin 0 2 ∷ pin 2 1 ∷ []) (0 ∷ 1 ∷ []) ∷ net_with (pin 1 1 ∷ []) (1 ∷ []) ∷ net_with (pin 1 1 ∷ pin 1 2 ∷ []) [] ∷ [];
}

-- K = 3; net 1 has three pins in one tile, net 2 two pins in two tiles, net 3 four pins in two tiles, mixed
abbrev stacked : Job
stacked = record {
  width = 2;
  height = 1;
  layers = 3;
  dirs = none;
  alpha = 0;
  beta = 1;
  gamma = 0;
  capacities = (1 ∷ []) ∷ (1 ∷ []) ∷ (1 ∷ []) ∷ [];
  nets = net_with (pin 0 1 ∷ pin 0 2 ∷ pin 0 3 ∷ []) [] ∷ net_with (pin 0 1 ∷ pin 1 1 ∷ []) (0 ∷ []) ∷ net_with (pin 1 1 ∷ pin 0 3 ∷ pin 1 3 ∷ pin 0 1 ∷ []) (0 ∷ []) ∷ [];
}

-- the most tracks on all of eight layers
abbrev wide : Job
wide = record {
  width = 2;
  height = 1;
  layers = 8;
  dirs = none;
  alpha = 0;
  beta = 0;
  gamma = 255;
  capacities = (65_535 ∷ []) ∷ (65_535 ∷ []) ∷ (65_535 ∷ []) ∷ (65_535 ∷ []) ∷ (65_535 ∷ []) ∷ (65_535 ∷ []) ∷ (65_535 ∷ []) ∷ (65_535 ∷ []) ∷ [];
  nets = net_with (pin 0 1 ∷ []) (0 ∷ []) ∷ [];
}

abbrev score_in : Job → ℕ → ℕ
score_in j n = score j (net_of j n)

abbrev pub score_rows : List (Row ℕ)
score_rows =
    -- "floor(1000 × alpha / L)"; "A zero divisor counts as 1."
    (length_term 1 1 gives 1_000) ∷ (length_term 1 2 gives 500) ∷ (length_term 3 7 gives 428) ∷ (length_term 255 1 gives 255_000) ∷ (length_term 5 0 gives 5_000)
    ∷ (length_term 0 3 gives 0)
    -- "1000 × beta × P"
    ∷ (pin_term 2 3 gives 6_000) ∷ (pin_term 255 1 gives 255_000) ∷ (pin_term 0 3 gives 0)
    -- "floor(1000 × gamma × D / C)"
    ∷ (density_term 1 2 3 gives 666) ∷ (density_term 2 2 3 gives 1_333) ∷ (density_term 1 3 0 gives 3_000) ∷ (density_term 1 3 1 gives 3_000)
    ∷ (density_term 255 4 2 gives 510_000) ∷ (density_term 1 0 0 gives 0)
    -- S-3, "No sum, score or overflow may lose a digit": the longest net has 4,095 edges, each with all 4,096 nets and 65,535 tracks on eight layers
    ∷ (density_term 255 (4_095 * 4_096) (4_095 * flat_capacity wide 0) gives 1_992) ∷ (density_term 255 (4_095 * 4_096) 1 gives 4_277_145_600_000)
    -- "P becomes the number of different tiles on the `pins` line."
    ∷ (different_tiles (pin 4 1 ∷ []) gives 1) ∷ (different_tiles (pin 4 1 ∷ pin 4 2 ∷ pin 4 3 ∷ []) gives 1) ∷ (different_tiles (pin 4 1 ∷ pin 5 1 ∷ pin 4 2 ∷ []) gives 2)
    ∷ (different_tiles (pin 4 1 ∷ pin 5 1 ∷ pin 6 1 ∷ []) gives 3)
    -- "L is the number of edges of the net. [..] D and C are the sums of d(e) and c(e) over its edges."
    ∷ (score_in (weighed 3 0 0) 1 gives 1_500) ∷ (score_in (weighed 0 5 0) 1 gives 10_000) ∷ (score_in (weighed 0 0 2) 1 gives 461)
    ∷ (score_in (weighed 3 5 2) 1 gives 11_961) ∷ (score_in (weighed 3 5 2) 2 gives 8_400) ∷ (score_in (weighed 3 5 2) 3 gives 8_000) ∷ []

-- "Higher scores go first; equal scores, the lower net number first."
abbrev pub order_rows : List (Row (List Entry))
order_rows =
    (order (weighed 3 5 2) gives entry 1 11_961 ∷ entry 2 8_400 ∷ entry 3 8_000 ∷ [])
    -- three stacked pins go behind two pins in two tiles
    ∷ (order stacked gives entry 2 2_000 ∷ entry 3 2_000 ∷ entry 1 1_000 ∷ [])
    ∷ (order (weighed 0 0 0) gives entry 1 0 ∷ entry 2 0 ∷ entry 3 0 ∷ []) ∷ (order (weighed 1 0 0) gives entry 2 1_000 ∷ entry 3 1_000 ∷ entry 1 500 ∷ [])
    ∷ (sorted (entry 1 5 ∷ entry 2 7 ∷ entry 3 5 ∷ entry 4 7 ∷ entry 5 6 ∷ [])
    gives entry 2 7 ∷ entry 4 7 ∷ entry 5 6 ∷ entry 1 5 ∷ entry 3 5 ∷ []) ∷ []

-- ---- overflow

-- W = 3, H = 1, K = 2; c is 1 and 1, d is 4 and 2
abbrev crowded : Job
crowded =
    job_with 3 1 2 ((1 ∷ 0 ∷ []) ∷ (0 ∷ 1 ∷ []) ∷ [])
    (net_with (pin 0 1 ∷ []) (0 ∷ 1 ∷ []) ∷ net_with (pin 0 1 ∷ []) (0 ∷ []) ∷ net_with (pin 0 1 ∷ []) (0 ∷ []) ∷ net_with (pin 2 1 ∷ []) (1 ∷ 0 ∷ []) ∷ [])

-- edge 0 has two nets on each layer, edge 1 both on layer 2
abbrev spread_out : List (List ℕ)
spread_out = (1 ∷ 2 ∷ []) ∷ (1 ∷ []) ∷ (2 ∷ []) ∷ (2 ∷ 2 ∷ []) ∷ []

-- K = 3, and four nets on one edge without capacity
abbrev piled : Job
piled =
    job_with 2 1 3 ((0 ∷ []) ∷ (0 ∷ []) ∷ (0 ∷ []) ∷ [])
    (net_with (pin 0 1 ∷ []) (0 ∷ []) ∷ net_with (pin 0 1 ∷ []) (0 ∷ []) ∷ net_with (pin 0 1 ∷ []) (0 ∷ []) ∷ net_with (pin 0 1 ∷ []) (0 ∷ []) ∷ [])

abbrev pub overflow_rows : List (Row ℕ)
overflow_rows =
    -- "c(e) is the sum of an edge's K capacities, d(e) the nets using it, o(e) = d − c or 0, whichever is larger"
    (flat_capacity wide 0 gives 524_280) ∷ (flat_overflow wide 0 gives 0) ∷ (flat_capacity crowded 0 gives 1) ∷ (flat_capacity crowded 1 gives 1) ∷ (flat_capacity mixed 6 gives 51) ∷ (flat_demand crowded 0 gives 4)
    ∷ (flat_demand crowded 1 gives 2) ∷ (flat_overflow crowded 0 gives 3) ∷ (flat_overflow crowded 1 gives 1) ∷ (flat_overflow mixed 0 gives 0)
    -- "TO is the sum of all o, MO the largest, 0 where there are no edges."
    ∷ (TO crowded gives 4) ∷ (MO crowded gives 3) ∷ (TO mixed gives 0) ∷ (MO mixed gives 0) ∷ (TO (job_with 1 1 2 ([] ∷ [] ∷ []) []) gives 0)
    ∷ (MO (job_with 1 1 2 ([] ∷ [] ∷ []) []) gives 0)
    -- "MO/K rounded up"
    ∷ (ceil_div 0 2 gives 0) ∷ (ceil_div 1 2 gives 1) ∷ (ceil_div 2 2 gives 1) ∷ (ceil_div 3 2 gives 2) ∷ (ceil_div 1 8 gives 1) ∷ (ceil_div 8 8 gives 1)
    ∷ (ceil_div 9 8 gives 2) ∷ (limit crowded 0 gives 2) ∷ (limit mixed 0 gives 0) ∷ (limit piled 0 gives 2)
    ∷ (limit (job_with 3 1 2 ((0 ∷ 0 ∷ []) ∷ (0 ∷ 0 ∷ []) ∷ []) (net_with (pin 0 1 ∷ []) (0 ∷ 1 ∷ []) ∷ net_with (pin 0 1 ∷ []) (0 ∷ 1 ∷ []) ∷ [])) 0 gives 1)
    -- "On a layer the same with that layer's own capacity and nets."
    ∷ (layer_overflow crowded spread_out 0 1 gives 1) ∷ (layer_overflow crowded spread_out 0 2 gives 2) ∷ (layer_overflow crowded spread_out 1 1 gives 0)
    ∷ (layer_overflow crowded spread_out 1 2 gives 1)
    -- "the sum and the largest of the overflows of all layers of all edges, under the nets it puts there, and 0 where there are no edges"
    ∷ (total_overflow crowded spread_out gives 4) ∷ (max_overflow crowded spread_out gives 2)
    ∷ (total_overflow crowded ((1 ∷ 1 ∷ []) ∷ (1 ∷ []) ∷ (1 ∷ []) ∷ (1 ∷ 1 ∷ []) ∷ []) gives 5)
    ∷ (max_overflow crowded ((1 ∷ 1 ∷ []) ∷ (1 ∷ []) ∷ (1 ∷ []) ∷ (1 ∷ 1 ∷ []) ∷ []) gives 3)
    ∷ (total_overflow (job_with 1 1 2 ([] ∷ [] ∷ []) []) [] gives 0) ∷ (max_overflow (job_with 1 1 2 ([] ∷ [] ∷ []) []) [] gives 0) ∷ []

-- ---- legal layers

-- capacities 1 and 2, with two nets and one net there: at most m on the layer, at most o on both, after one more net on layer b
abbrev by_layer : List ℕ → ℕ → ℕ
by_layer xs l = get_or xs (l - 1) 0

abbrev legal_on : ℕ → ℕ → ℕ → Bool
legal_on m o b = is_legal (1 ∷ 2 ∷ []) (by_layer (1 ∷ 2 ∷ [])) (by_layer (2 ∷ 1 ∷ [])) m o b

-- "that layer's overflow is at most MO/K rounded up, and the sum of overflows of all layers of e is at most o(e)"
abbrev pub legal_rows : List (Row Bool)
legal_rows =
    (legal_on 2 2 1 gives true) ∷ (legal_on 1 2 1 gives false) ∷ (legal_on 2 1 1 gives false) ∷ (legal_on 0 1 2 gives true) ∷ (legal_on 0 0 2 gives false) ∷ []

abbrev pub legal_layer_rows : List (Row (List ℕ))
legal_layer_rows =
    -- the limit is 2 and o is 3 and 1
    (legal crowded ([] ∷ [] ∷ [] ∷ [] ∷ []) 0 gives 1 ∷ 2 ∷ []) ∷ (legal crowded ((1 ∷ 2 ∷ []) ∷ (1 ∷ []) ∷ [] ∷ [] ∷ []) 0 gives 1 ∷ 2 ∷ [])
    ∷ (legal crowded ((1 ∷ 2 ∷ []) ∷ (1 ∷ []) ∷ (1 ∷ []) ∷ [] ∷ []) 0 gives 2 ∷ []) ∷ (legal crowded ((1 ∷ 2 ∷ []) ∷ [] ∷ [] ∷ [] ∷ []) 1 gives 1 ∷ 2 ∷ [])
    ∷ (legal crowded ((1 ∷ 1 ∷ []) ∷ [] ∷ [] ∷ [] ∷ []) 1 gives 2 ∷ []) ∷ (legal mixed ([] ∷ [] ∷ []) 6 gives 1 ∷ 2 ∷ 3 ∷ []) ∷ []

-- ---- walk

-- a net on a grid of 3 × 3 tiles, with a pin in tile t
abbrev walk_of : ℕ → List ℕ → List ℕ
walk_of t es = walk (job_with 3 3 2 [] []) (net_with (pin t 1 ∷ []) es)

abbrev pub walk_rows : List (Row (List ℕ))
walk_rows =
    -- "breadth first from the net's lowest-numbered tile": tiles 0; 1, 3; 2, 4; 5
    (walk_of 5 (2 ∷ 8 ∷ 0 ∷ 6 ∷ 1 ∷ []) gives 0 ∷ 6 ∷ 1 ∷ 2 ∷ 8 ∷ [])
    -- "in the order east, north, west, south, leaving out the way back": tile 4 from the south, from the west; tile 7 from the east
    ∷ (walk_of 3 (2 ∷ 10 ∷ 3 ∷ 7 ∷ []) gives 7 ∷ 3 ∷ 10 ∷ 2 ∷ []) ∷ (walk_of 7 (7 ∷ 10 ∷ 3 ∷ 2 ∷ 6 ∷ []) gives 6 ∷ 2 ∷ 3 ∷ 10 ∷ 7 ∷ [])
    ∷ (walk_of 4 (10 ∷ 4 ∷ 5 ∷ 11 ∷ 8 ∷ 1 ∷ 0 ∷ []) gives 0 ∷ 1 ∷ 8 ∷ 11 ∷ 5 ∷ 4 ∷ 10 ∷ []) ∷ (walk_of 4 [] gives [])
    -- a net's tiles: those of its pins, and the ends of its edges
    ∷ (net_tiles (job_with 3 3 2 [] []) (net_with (pin 7 1 ∷ pin 4 2 ∷ []) (10 ∷ [])) gives 7 ∷ 4 ∷ 4 ∷ 7 ∷ []) ∷ []

-- ---- vias

-- "Vias at a tile: highest minus lowest layer of its set."
abbrev pub via_rows : List (Row ℕ)
via_rows =
    (span [] gives 0) ∷ (span (5 ∷ []) gives 0) ∷ (span (1 ∷ 8 ∷ []) gives 7) ∷ (span (4 ∷ 1 ∷ 3 ∷ []) gives 3) ∷ (span (2 ∷ 6 ∷ 3 ∷ 2 ∷ []) gives 4)
    -- "The set holds the layers of the net's pins in the tile and of its edges that meet there. A net's vias are summed over its tiles."
    ∷ (vias mixed (pin 0 1 ∷ pin 5 3 ∷ []) (0 ∷ 1 ∷ 6 ∷ []) (2 ∷ 2 ∷ 1 ∷ []) gives 4)
    ∷ (vias mixed (pin 0 1 ∷ pin 0 3 ∷ pin 5 3 ∷ []) (0 ∷ 1 ∷ 6 ∷ []) (2 ∷ 2 ∷ 1 ∷ []) gives 5)
    ∷ (vias mixed (pin 1 2 ∷ []) (0 ∷ 1 ∷ 5 ∷ []) (1 ∷ 2 ∷ 3 ∷ []) gives 2) ∷ (vias mixed (pin 5 1 ∷ pin 5 3 ∷ []) [] [] gives 2)
    ∷ (total_vias mixed ((3 ∷ 1 ∷ 1 ∷ 2 ∷ []) ∷ (1 ∷ 2 ∷ []) ∷ []) gives 3) ∷ []

-- ---- choices and plans

abbrev pub choice_rows : List (Row (List (List ℕ)))
choice_rows =
    -- "in dictionary order"
    (choices (λ e. get_or ((1 ∷ 2 ∷ []) ∷ (2 ∷ 3 ∷ []) ∷ []) e []) (0 ∷ 1 ∷ [])
    gives (1 ∷ 2 ∷ []) ∷ (1 ∷ 3 ∷ []) ∷ (2 ∷ 2 ∷ []) ∷ (2 ∷ 3 ∷ []) ∷ [])
    ∷ (choices (λ e. 1 ∷ 2 ∷ []) [] gives [] ∷ [])
    -- "the first combination, in rising order, that reaches this least cost"
    ∷ (least_of (λ y. get_or y 1 0) ((1 ∷ 3 ∷ []) ∷ (1 ∷ 2 ∷ []) ∷ (2 ∷ 2 ∷ []) ∷ (2 ∷ 3 ∷ []) ∷ []) ∷ [] gives (1 ∷ 2 ∷ []) ∷ []) ∷ []

-- C5, and beside it an edge that lifts MO to 2: the first net overflows no layer, although one is allowed on a layer
abbrev lifted : Job
lifted =
    job_with 3 1 2 ((1 ∷ 0 ∷ []) ∷ (0 ∷ 0 ∷ []) ∷ [])
    (net_with (pin 0 2 ∷ pin 1 2 ∷ []) (0 ∷ []) ∷ net_with (pin 1 2 ∷ []) (1 ∷ []) ∷ net_with (pin 1 2 ∷ []) (1 ∷ []) ∷ [])

-- C1 with the `edges` line of net 1 the other way round
abbrev turned : Job
turned =
    job_with 3 1 2 ((1 ∷ 1 ∷ []) ∷ (1 ∷ 1 ∷ []) ∷ [])
    (net_with (pin 0 1 ∷ pin 2 1 ∷ []) (1 ∷ 0 ∷ []) ∷ net_with (pin 0 1 ∷ pin 1 1 ∷ []) (0 ∷ []) ∷ [])

-- a pin far from the root: "Choosing layers edge by edge instead of over the tree" would put the edges before it on layer 1
abbrev far : Job
far = job_with 4 1 3 ((1 ∷ 1 ∷ 1 ∷ []) ∷ (1 ∷ 1 ∷ 1 ∷ []) ∷ (1 ∷ 1 ∷ 1 ∷ []) ∷ []) (net_with (pin 2 3 ∷ pin 3 2 ∷ []) (0 ∷ 1 ∷ 2 ∷ []) ∷ [])

-- two nets on one edge, each with a pin on layer 1, and these capacities of the layers 1 and 2; their scores are equal
abbrev pub two_on : ℕ → ℕ → Job
two_on a b = job_with 2 1 2 ((a ∷ []) ∷ (b ∷ []) ∷ []) (net_with (pin 0 1 ∷ []) (0 ∷ []) ∷ net_with (pin 0 1 ∷ []) (0 ∷ []) ∷ [])

-- Net 1 has edges 0 and 1, net 2, whose score is higher, edge 1, where there is no capacity: TO is 2, and 1 is allowed on a layer. Edge 0 has
-- capacity for its net, on layer 1.
abbrev pub lift : Job
lift = job_with 3 1 2 ((1 ∷ 0 ∷ []) ∷ (0 ∷ 0 ∷ []) ∷ []) (net_with (pin 0 1 ∷ []) (0 ∷ 1 ∷ []) ∷ net_with (pin 1 1 ∷ []) (1 ∷ []) ∷ [])

-- no nets
abbrev pub netless : Job
netless = job_with 2 1 2 ((1 ∷ []) ∷ (1 ∷ []) ∷ []) []

abbrev pub plan_rows : List (Row (List (List ℕ)))
plan_rows =
    (plan lifted gives (1 ∷ []) ∷ (2 ∷ []) ∷ (1 ∷ []) ∷ []) ∷ (plan turned gives (1 ∷ 2 ∷ []) ∷ (1 ∷ []) ∷ [])
    ∷ (plan far gives (2 ∷ 2 ∷ 2 ∷ []) ∷ []) ∷ (plan crowded gives (1 ∷ 1 ∷ []) ∷ (1 ∷ []) ∷ (1 ∷ []) ∷ (2 ∷ 2 ∷ []) ∷ [])
    ∷ (plan (two_on 2 2) gives (1 ∷ []) ∷ (1 ∷ []) ∷ []) ∷ (plan (two_on 2 0) gives (1 ∷ []) ∷ (1 ∷ []) ∷ []) ∷ (plan (two_on 1 1) gives (1 ∷ []) ∷ (2 ∷ []) ∷ [])
    ∷ (plan (two_on 0 0) gives (1 ∷ []) ∷ (2 ∷ []) ∷ []) ∷ (plan lift gives (1 ∷ 2 ∷ []) ∷ (1 ∷ []) ∷ []) ∷ []
