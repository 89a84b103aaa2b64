-- The net table: a row of numbers for each net, counted from 0.
-- Assumes nothing.
use Rattle.std.specs.Prelude.{List, ℕ, ◌+◌, ◌*◌, ◌/◌, ◌%◌, get_or, set}
use Rattle.model.specs.Limits.{most_nets}
use Rattle.layout.specs.declared.Column.{Column}
use Rattle.layout.specs.declared.Column.TheVariants.{Pins, Edges, Tiles, Turn, First, Count, Vias}

-- the numbers of a row
abbrev pub net_columns : ℕ
net_columns = 6

-- a row for each net that a job can have
abbrev pub table_size : ℕ
table_size = net_columns * most_nets

-- the place in the text after `pins=`, and after `edges=`
abbrev pub pins_column : ℕ → ℕ
pins_column i = net_columns * i

abbrev pub edges_column : ℕ → ℕ
edges_column i = net_columns * i + 1

-- in how many tiles the net's pins are
abbrev pub tiles_column : ℕ → ℕ
tiles_column i = net_columns * i + 2

-- the net whose turn is i, once the order list stands: it takes the place of the tiles
abbrev pub turn_column : ℕ → ℕ
turn_column i = net_columns * i + 2

-- the place of the net's first layer in the answer list, and the entries of its `edges` line
abbrev pub first_column : ℕ → ℕ
first_column i = net_columns * i + 3

abbrev pub count_column : ℕ → ℕ
count_column i = net_columns * i + 4

-- there stand as well, above 16 bits, those of the entries that were dropped
abbrev pub entries_in : List ℕ → ℕ → ℕ
entries_in table i = get_or table (count_column i) 0 % 65_536

abbrev pub dropped_in : List ℕ → ℕ → ℕ
dropped_in table i = get_or table (count_column i) 0 / 65_536

-- the vias of the net, once it is placed
abbrev pub vias_column : ℕ → ℕ
vias_column i = net_columns * i + 5

-- where the number of a column stands in row i
abbrev pub column_at : Column → ℕ → ℕ
column_at Pins i = pins_column i
column_at Edges i = edges_column i
column_at Tiles i = tiles_column i
column_at Turn i = turn_column i
column_at First i = first_column i
column_at Count i = count_column i
column_at Vias i = vias_column i

-- Until a net is placed the place of its vias has, in its last four bits, the lowest wanted layer of net i, 0 where it has no line `low`; and above them, from when
-- it is known to when the order list stands, the upper half of the score, whose lower half stands in the place of the tiles.
abbrev pub low_in : List ℕ → ℕ → ℕ
low_in table i = get_or table (vias_column i) 0 % 16

abbrev pub score_in : List ℕ → ℕ → ℕ
score_in table i = get_or table (tiles_column i) 0 + 4_294_967_296 * (get_or table (vias_column i) 0 / 16)

abbrev pub score_put : List ℕ → ℕ → ℕ → List ℕ
score_put table i v = set (set table (tiles_column i) (v % 4_294_967_296)) (vias_column i) (low_in table i + 16 * (v / 4_294_967_296))
