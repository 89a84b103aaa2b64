-- What one tile of the walk adds: the ways on from it, and where they are written. In the working numbers w the tiles stand from s on and the edges
-- above them t numbers further on.
-- Assumes nothing.
use Rattle.std.specs.Prelude.{Bool, ◌&&◌, not, cond, List, [], ◌∷◌, ℕ, suc, ◌+◌, ◌%◌, eqb, length, get_or, set}
use Rattle.layout.specs.Areas.{tiles_at, stops_at, above_at, engine_at}
use Rattle.layout.specs.Shapes.{way_of}
use Rattle.layout.specs.declared.shape.Shape.{Shape}
use Rattle.layout.specs.declared.Way.{Way}
use Rattle.marks.specs.Words.{bits_in, bit_of}

-- way d goes on from tile x: the net uses it, and it is not the way back. m has the marks of the tile, and a is the edge above it.
abbrev pub goes : Shape → ℕ → ℕ → ℕ → ℕ → Bool
goes g x m a d = bit_of m (8 + d) && not (eqb (way_of g x d).edge a)

-- those of the ways ds that go on
abbrev pub onward : Shape → ℕ → ℕ → ℕ → List ℕ → List Way
onward g x m a [] = []
onward g x m a (d ∷ ds) = let r = onward g x m a ds in cond (goes g x m a d) (way_of g x d ∷ r) r

-- "east, north, west, south"
abbrev pub four_ways : List ℕ
four_ways = 0 ∷ 1 ∷ 2 ∷ 3 ∷ []

-- ways written as the tiles from place n on
abbrev pub put_ways : ℕ → ℕ → List ℕ → ℕ → List Way → List ℕ
put_ways s t w n [] = w
put_ways s t w n (y ∷ ys) = put_ways s t (set (set w (s + n) y.tile) (s + t + n) y.edge) (suc n) ys

-- ---- the tile at place i

abbrev pub tile_in : Shape → List ℕ → ℕ → ℕ
tile_in g w i = get_or w (stops_at g + i) 0

abbrev pub above_in : Shape → List ℕ → ℕ → ℕ
above_in g w i = get_or w (above_at g + i) 0

abbrev pub marks_in : Shape → ℕ → List ℕ → ℕ → ℕ
marks_in g stamp w i = bits_in stamp (get_or w (tiles_at g + tile_in g w i) 0)

-- its branches
abbrev pub branches_in : Shape → ℕ → List ℕ → ℕ → List Way
branches_in g stamp w i = onward g (tile_in g w i) (marks_in g stamp w i) (above_in g w i) four_ways

-- the working numbers after its branches are written from place n on, and then where they end and the pins of the tile
abbrev pub visited : Shape → ℕ → List ℕ → ℕ → ℕ → List ℕ
visited g stamp w i n =
    set (set (put_ways (stops_at g) g.m w n (branches_in g stamp w i)) (engine_at g + i) (n + length (branches_in g stamp w i)))
    (engine_at g + g.m + i) (marks_in g stamp w i % 256)
