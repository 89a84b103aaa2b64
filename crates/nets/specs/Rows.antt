-- The row of a net in the net table.
-- Assumes nothing.
use Rattle.std.specs.Prelude.{List, ◌≡◌, ℕ, ◌*◌, get_or, set}
use Rattle.layout.specs.Table.{pins_column, edges_column, tiles_column, first_column, count_column, vias_column}
use Rattle.model.specs.Job.{Net}
use Rattle.model.specs.Limits.{most_nets}
use Rattle.model.specs.Score.{different_tiles}
use Rattle.net.specs.Table.{PinsAt, EdgesAt, counts_of, mark_of}

-- a net has no more entries than a grid has edges, 8,064; so all nets have no more than these
abbrev pub most_entries : ℕ
most_entries = most_nets * 8_064

-- the table with the row of net i, counted from 0: the places of its entries, in how many tiles its pins are, the place of its first layer, and how many entries
-- it has and drops
abbrev pub row_put : List ℕ → ℕ → ℕ → ℕ → ℕ → ℕ → ℕ → List ℕ
row_put table i pins edges tiles first count =
    set (set (set (set (set table (pins_column i) pins) (edges_column i) edges) (tiles_column i) tiles) (first_column i) first) (count_column i) count

-- the row says of net i what the text s has, and where the layers of the net begin
pub record RowAt (s : List ℕ) (W H K : ℕ) (table : List ℕ) (i first : ℕ) (net : Net) : Type 0 where
  pub pins : PinsAt s W H K (get_or table (pins_column i) 0) net
  pub edges : EdgesAt s W H (get_or table (edges_column i) 0) net
  pub pin_tiles : get_or table (tiles_column i) 0 ≡ different_tiles net.pins
  pub counts : get_or table (count_column i) 0 ≡ counts_of net
  pub first_is : get_or table (first_column i) 0 ≡ first
  pub low_is : get_or table (vias_column i) 0 ≡ mark_of net.low
