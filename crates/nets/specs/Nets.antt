-- What the lines of a net, and of all nets, leave in the working numbers and in the net table.
-- Assumes nothing.
use Rattle.std.specs.Prelude.{List, ◌++◌, map, ◌≡◌, refl, ℕ, zero, suc, ◌+◌, ◌*◌, ◌≤◌, ◌<◌, length, get_or, Ok, Err, Option as Maybe, Result as Outcome}
use Rattle.std.specs.Option.{unwrap_or}
use Rattle.std.proofs.Math.Option.{Option, none, some}
use Rattle.edges.specs.Reading.{Few}
use Rattle.layout.specs.Areas.{loads_at, demand_at, flat_at, tiles_at, chosen_at, tiles_of, links_of}
use Rattle.layout.specs.Table.{table_size}
use Rattle.layout.specs.declared.shape.Shape.{Shape}
use Rattle.lines.specs.Told.{refused_by, After}
use Rattle.marks.specs.Marks.{Older}
use Rattle.model.specs.Job.{Net, no_net, lengths}
use Rattle.model.specs.Limits.{most_nets}
use Rattle.model.specs.Lists.{occurs}
use Rattle.model.specs.Overflow.{demand}
use Rattle.model.specs.Read.{Place, Result, Reading, refused, found, next, ◌>>=◌, give, Sizes, net_line, low_line, pins_line, edges_line, net_with, net_lines}
use Rattle.text.specs.Refusals.{place_of}
use Rattle.text.specs.declared.Cursor.{Cursor}
use Rattle.text.specs.declared.Refusal.{Refusal}
use Rattle.theory.specs.links.JobText.{option_lines, nets_lines}
use Rattle.theory.specs.links.Nets.{NetOk, EachNet}
use Rattle.theory.specs.links.Stretches.{offset}
use Rattle.nets.specs.Rows.{RowAt}

-- the lowest wanted layer of a net, where it has a line `low`, and the place of the next line
abbrev pub LowRead : Type 0
LowRead = Outcome (Maybe ℕ × Cursor) Refusal

-- the lines of a net: the place after them, and the entries of its `edges` line
abbrev pub NetRead : Type 0
NetRead = Outcome (Cursor × ℕ) Refusal

-- the lines of all nets: the place after them, and the entries of all `edges` lines
abbrev pub NetsRead : Type 0
NetsRead = Outcome (Cursor × ℕ) Refusal

-- the answer to a `net` line
abbrev pub turn_told : List ℕ → Outcome Cursor Refusal → Result (Unit {0})
turn_told s (Ok c) = found tt (place_of s c)
turn_told s (Err r) = refused_by r

-- a lowest wanted layer as a number has it: 0 where there is no line `low`
abbrev pub low_at : ℕ → Option ℕ
low_at zero = none
low_at (suc m) = some (suc m)

-- the answer to a line `low`, and where the next line comes
abbrev pub low_told : List ℕ → LowRead → Result (Option ℕ)
low_told s (Ok x) = found (low_at (unwrap_or x.0 0)) (place_of s x.1)
low_told s (Err r) = refused_by r

abbrev pub low_holds : ℕ → ℕ → LowRead → Type 0
low_holds size line (Ok x) = After size (line + option_lines (low_at (unwrap_or x.0 0))) x.1
low_holds size line (Err r) = Unit {0}

-- the `pins` and `edges` lines of a net
unfoldable pub body_in : Sizes → Option ℕ → Reading Net
body_in z low = do
  pins ← pins_line z
  entries ← edges_line z pins
  give (net_with z low pins entries)

-- all lines of a net behind its `net` line
unfoldable pub rest_in : Sizes → Reading Net
rest_in z = do
  low ← low_line z.layers
  body_in z low

pub lines_are : (z : Sizes) (i : ℕ) (p : Place) → net_lines z i p ≡ next (net_line i p) (λ u. rest_in z)
unfolding net_lines body_in rest_in
lines_are z i p = refl

-- ---- one net

-- What the reading of net i, counted from 0, asks of the working numbers: they are as the nets before it leave them. A net has two stamps, 2 × i + 1 to read it and
-- 2 × i + 2 to cut its rings.
pub record NetReady (g : Shape) (i : ℕ) (w : List ℕ) : Type 0 where
  pub turn : i < most_nets
  pub room : chosen_at g ≤ length w
  pub marks : Older (2 * i + 1) (tiles_of g w)
  pub links : Older (2 * i + 1) (links_of g w)
  pub few : Few g (2 * i + 1) w

-- what net i leaves in the working numbers: the edges that it keeps are counted
pub record NetCounted (g : Shape) (i : ℕ) (net : Net) (w w' : List ℕ) : Type 0 where
  pub long : length w' ≡ length w
  pub low : (k : ℕ) → k < demand_at g → get_or w' k 0 ≡ get_or w k 0
  pub demand : (e : ℕ) → e < g.e → get_or w' (demand_at g + e) 0 ≡ get_or w (demand_at g + e) 0 + occurs e net.edges
  pub marks : Older (2 * i + 3) (tiles_of g w')
  pub links : Older (2 * i + 3) (links_of g w')

-- a net was read, as r says, and the place after it; `line n` is its last line where it is the net n, and its layers begin at `first`
pub record NetFound (s : List ℕ) (g : Shape) (i first : ℕ) (line : Net → ℕ) (w w' table table' : List ℕ) (r : Result Net) (c : Cursor) (count : ℕ) : Type 0 where
  pub net : Net
  pub is : r ≡ found net (place_of s c)
  pub after : After (length s) (line net) c
  pub count_is : count ≡ length net.entries
  pub counted : NetCounted g i net w w'
  pub row : RowAt s g.w g.h g.k table' i first net
  pub table_long : length table' ≡ length table
  pub rows_before : (k : ℕ) → k < 6 * i → get_or table' k 0 ≡ get_or table k 0

-- the answer to the lines of a net, where the definitions say r
abbrev pub NetTold : List ℕ → Shape → ℕ → ℕ → (Net → ℕ) → List ℕ → List ℕ → List ℕ → List ℕ → Result Net → NetRead → Type 0
NetTold s g i first line w w' table table' r (Err f) = r ≡ refused_by f
NetTold s g i first line w w' table table' r (Ok x) = NetFound s g i first line w w' table table' r x.0 x.1

-- ---- all nets

abbrev pub edges_of : List Net → List (List ℕ)
edges_of ns = map (λ n. n.edges) ns

abbrev pub entries_of : List Net → List (List ℕ)
entries_of ns = map (λ n. n.entries) ns

-- the nets ns were read; w₀ are the working numbers before the first of them
pub record SoRead (s : List ℕ) (g : Shape) (ns : List Net) (entries : ℕ) (w₀ w table : List ℕ) : Type 0 where
  pub long : length w ≡ length w₀
  pub low : (k : ℕ) → k < demand_at g → get_or w k 0 ≡ get_or w₀ k 0
  pub demands : (e : ℕ) → e < g.e → get_or w (demand_at g + e) 0 ≡ demand e (edges_of ns)
  pub marks : Older (suc (2 * length ns)) (tiles_of g w)
  pub links : Older (suc (2 * length ns)) (links_of g w)
  pub ok : EachNet (NetOk g.w g.h g.k) ns
  pub entries_are : entries ≡ lengths (entries_of ns)
  pub table_long : table_size ≤ length table
  pub rows : (i : ℕ) → i < length ns → RowAt s g.w g.h g.k table i (offset (entries_of ns) i) (get_or ns i no_net)

-- all n nets were read, as r says, behind `line` others
pub record NetsFound (s : List ℕ) (g : Shape) (n line : ℕ) (w₀ w table : List ℕ) (r : Result (List Net)) (c : Cursor) (entries : ℕ) : Type 0 where
  pub nets : List Net
  pub is : r ≡ found nets (place_of s c)
  pub after : After (length s) (line + nets_lines nets) c
  pub count : length nets ≡ n
  pub so_read : SoRead s g nets entries w₀ w table

abbrev pub NetsTold : List ℕ → Shape → ℕ → ℕ → List ℕ → List ℕ → List ℕ → Result (List Net) → NetsRead → Type 0
NetsTold s g n line w₀ w table r (Err f) = r ≡ refused_by f
NetsTold s g n line w₀ w table r (Ok x) = NetsFound s g n line w₀ w table r x.0 x.1

-- what nets are counted and marked in is zero, and what lies below it is as it was
pub record CountsCleared (g : Shape) (w w' : List ℕ) : Type 0 where
  pub long : length w' ≡ length w
  pub low : (k : ℕ) → k < loads_at g → get_or w' k 0 ≡ get_or w k 0
  pub counts : (k : ℕ) → loads_at g ≤ k → k < flat_at g → get_or w' k 0 ≡ 0
  pub kept : (k : ℕ) → tiles_at g ≤ k → k < chosen_at g → get_or w' k 0 ≡ 0

-- what the reading of the nets asks of the working numbers and of the table
pub record NetsReady (g : Shape) (w table : List ℕ) : Type 0 where
  pub room : chosen_at g ≤ length w
  pub demands : (k : ℕ) → demand_at g ≤ k → k < flat_at g → get_or w k 0 ≡ 0
  pub kept : (k : ℕ) → tiles_at g ≤ k → k < chosen_at g → get_or w k 0 ≡ 0
  pub table_long : table_size ≤ length table

-- after the nets ns, the definitions have read what r says of the nets that are left
abbrev pub ahead : List Net → Result (List Net) → Result (List Net)
ahead ns (refused n l) = refused n l
ahead ns (found ms p) = found (ns ++ ms) p
