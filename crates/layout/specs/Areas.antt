-- Where each part of the working numbers starts.
-- Assumes nothing.
use Rattle.std.specs.Prelude.{List, ℕ, ◌+◌, ◌*◌, ◌≤◌, ◌<◌}
use Rattle.std.proofs.Common.{mul-le-mul_right, arith}
use Rattle.layout.specs.Parts.{part}
use Rattle.layout.specs.declared.shape.Shape.{Shape}

-- the capacities stand from 0 on, at edge × K + (layer − 1); the nets on each layer likewise from here on
abbrev pub loads_at : Shape → ℕ
loads_at g = g.k * g.e

-- the flat demand of each edge, and later its overflow that is left
abbrev pub demand_at : Shape → ℕ
demand_at g = 2 * (g.k * g.e)

-- the flat capacity of each edge
abbrev pub flat_at : Shape → ℕ
flat_at g = demand_at g + g.e

-- by tile: stamp, ways used, pins
abbrev pub tiles_at : Shape → ℕ
tiles_at g = flat_at g + g.e

-- by tile: stamp, and a lower tile that it is joined with
abbrev pub links_at : Shape → ℕ
links_at g = tiles_at g + g.t

-- by edge: the layer chosen for it
abbrev pub chosen_at : Shape → ℕ
chosen_at g = links_at g + g.t

-- the edges of the net at hand, in the order of its line
abbrev pub list_at : Shape → ℕ
list_at g = chosen_at g + 2 * g.t

-- by walk place: the tile, and the edge above it
abbrev pub stops_at : Shape → ℕ
stops_at g = list_at g + 2 * g.t

abbrev pub above_at : Shape → ℕ
above_at g = stops_at g + g.m

-- by walk place: ends of branches, pins, legal layers, layers, costs
abbrev pub engine_at : Shape → ℕ
engine_at g = above_at g + g.m

-- where the last of them ends
abbrev pub areas_end : Shape → ℕ
areas_end g = engine_at g + 12 * g.m

-- an edge's K numbers lie within the K × E of all edges
pub edge-room : (g : Shape) (e : ℕ) → e < g.e → e * g.k + g.k ≤ loads_at g
edge-room g e h = omega (arith, mul-le-mul_right g.k h)

-- ---- parts of the working numbers

-- the marks of the tiles, and their links
abbrev pub tiles_of : Shape → List ℕ → List ℕ
tiles_of g w = part (tiles_at g) g.t w

abbrev pub links_of : Shape → List ℕ → List ℕ
links_of g w = part (links_at g) g.t w
