-- What the working numbers hold while the `edges` line of a net is read, and what its entries have shown so far.
-- Assumes nothing.
use Rattle.std.specs.Prelude.{Bool, true, false, List, [], map, ◌≡◌, ℕ, ◌+◌, ◌≤◌, ◌<◌, eqb, length, get_or}
use Rattle.layout.specs.Areas.{demand_at, flat_at, tiles_at, tiles_of, links_of}
use Rattle.layout.specs.Bounds.{most_tiles}
use Rattle.layout.specs.declared.shape.Shape.{Shape}
use Rattle.marks.specs.Marks.{marked, touched}
use Rattle.marks.specs.Words.{Fits, most_stamp}
use Rattle.model.specs.Job.{Pin}
use Rattle.model.specs.Lists.{all, twice, has, occurs, bit}
use Rattle.model.specs.Read.{Triple, edge_inside, edge_at}
use Rattle.model.specs.Tree.{ring}
use Rattle.theory.specs.links.Counted.{Counted}
use Rattle.theory.specs.links.Reach.{lo_of, hi_of}
use Rattle.theory.specs.walk.NetVias.{net_tiles}
use Rattle.union.specs.Links.{parent_in, Links}
use Rattle.ways.specs.Entry.{start_of, edge_of}
use Rattle.edges.specs.declared.Judged.{Judged}
use Rattle.edges.specs.declared.Judged.TheVariants.{Fine, Ring, Twice, Range}

-- the edges that a list of entries names
abbrev pub edges_on : Shape → List Triple → List ℕ
edges_on g ts = map (edge_at g.w g.h) ts

-- Of net n the pins ps and the edges es are read, and its tiles lie in so many parts. w₀ are the working numbers as they were before the net.
-- What stands above the links may be anything.
pub record Reading (g : Shape) (n : ℕ) (ps : List Pin) (es : List ℕ) (parts : ℕ) (w₀ w : List ℕ) : Type 0 where
  pub long : length w ≡ length w₀
  pub low : (i : ℕ) → i < demand_at g → get_or w i 0 ≡ get_or w₀ i 0
  -- each edge is counted into the flat demand
  pub demand : (e : ℕ) → e < g.e → get_or w (demand_at g + e) 0 ≡ get_or w₀ (demand_at g + e) 0 + occurs e es
  pub flat : (i : ℕ) → flat_at g ≤ i → i < tiles_at g → get_or w i 0 ≡ get_or w₀ i 0
  pub fits : Fits n (tiles_of g w)
  pub links : Links n (links_of g w)
  -- an edge of the net is marked in the tile where it starts
  pub ways : (t : Triple) → edge_inside g.w g.h t ≡ true → t.third ≤ 1
      → marked n (tiles_of g w) (start_of g t) (8 + t.third) ≡ has es (edge_of g t)
  -- the tiles of the net are those that have a mark, its edges' ends are joined, and its parts are counted
  pub counted : Counted (lo_of g.w g.h) (hi_of g.w g.h) g.t (λ t. bit (touched n (tiles_of g w) t)) (parent_in n (links_of g w)) parts
      (net_tiles (lo_of g.w g.h) (hi_of g.w g.h) ps es) es

-- no edge has as many nets as the number of the net at hand
abbrev pub Few : Shape → ℕ → List ℕ → Type 0
Few g n w = (e : ℕ) → e < g.e → get_or w (demand_at g + e) 0 < n

-- the pins of a net are read, and nothing yet of its edges
abbrev pub Begun : Shape → ℕ → ℕ → List ℕ → Type 0
Begun g n parts w = (ps : List Pin) × (1 ≤ length ps) × Reading g n ps [] parts w w

-- ---- what the entries have shown so far

-- the entries ts are inside the grid, no edge twice, and marked, joined and counted
pub record Going (g : Shape) (n : ℕ) (ps : List Pin) (w₀ : List ℕ) (ts : List Triple) (parts : ℕ) (w : List ℕ) : Type 0 where
  pub inside : all (edge_inside g.w g.h) ts ≡ true
  pub once : twice eqb (edges_on g ts) ≡ false
  pub reading : Reading g n ps (edges_on g ts) parts w₀ w

-- Once an entry has left the grid, or an edge stands there twice, nothing is said of the working numbers any more: the line is refused.
abbrev pub Shown : Shape → ℕ → List Pin → List ℕ → List Triple → ℕ → List ℕ → Judged → Type 0
Shown g n ps w₀ ts parts w Fine = Going g n ps w₀ ts parts w × (ring g.w g.h (edges_on g ts) ≡ false)
Shown g n ps w₀ ts parts w Ring = Going g n ps w₀ ts parts w × (ring g.w g.h (edges_on g ts) ≡ true)
Shown g n ps w₀ ts parts w Twice = (all (edge_inside g.w g.h) ts ≡ true) × (twice eqb (edges_on g ts) ≡ true)
Shown g n ps w₀ ts parts w Range = all (edge_inside g.w g.h) ts ≡ false

-- the marks go on
abbrev pub goes_on : Judged → Bool
goes_on Fine = true
goes_on Ring = true
goes_on Twice = false
goes_on Range = false

abbrev pub GoesOn : Judged → Type 0
GoesOn Fine = Unit {0}
GoesOn Ring = Unit {0}
GoesOn Twice = ⊥
GoesOn Range = ⊥

-- what the next edge asks of the working numbers
pub record Ready (g : Shape) (n parts : ℕ) (w : List ℕ) : Type 0 where
  pub links : Links n (links_of g w)
  pub demand : (e : ℕ) → e < g.e → get_or w (demand_at g + e) 0 ≤ most_stamp
  pub some_part : 1 ≤ parts
  pub few_parts : parts ≤ most_tiles
