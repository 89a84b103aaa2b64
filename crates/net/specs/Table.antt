-- What the net table holds of an accepted job: where each net's lines stand in the text, and where its layers go.
-- Assumes nothing.
use Rattle.std.specs.Prelude.{true, List, map, ◌≢◌, ◌≡◌, ℕ, suc, ◌+◌, ◌-◌, ◌*◌, ◌/◌, ◌%◌, ◌≤◌, ◌<◌, max, length, drop, get_or, set}
use Rattle.std.proofs.Math.Option.{Option, none, some}
use Rattle.std.proofs.Common.{sym, subst, ◌∙◌, arith, length-set, get_or-set_other}
use Rattle.layout.specs.Table.{pins_column, edges_column, tiles_column, turn_column, first_column, count_column, vias_column, low_in, table_size}
use Rattle.model.specs.Job.{Net, Job, low_from, net_count, net_of, net_entries}
use Rattle.model.specs.Limits.{most_layers}
use Rattle.model.specs.Lists.{all}
use Rattle.model.specs.Read.{Triple, pin_inside, pin_at, edge_inside, edge_at}
use Rattle.model.specs.Score.{different_tiles, order}
use Rattle.model.specs.Text.{cut_line}
use Rattle.scan.specs.Pins.{pins_of}
use Rattle.scan.specs.Ways.{edges_cut}
use Rattle.theory.specs.links.Placing.{entry_at}
use Rattle.theory.specs.links.Stretches.{offset}

-- the entries of a `pins` line stand at p, and are the pins ps
pub record PinsAt (s : List ℕ) (W H K p : ℕ) (n : Net) : Type 0 where
  pub entries : List Triple
  pub rest : List ℕ
  pub there : pins_of (drop p s) ≡ some (entries, rest)
  pub inside : all (pin_inside W H K) entries ≡ true
  pub are : map (pin_at W) entries ≡ n.pins

-- the entries of an `edges` line, perhaps none, stand at p, and are those of the net
pub record EdgesAt (s : List ℕ) (W H p : ℕ) (n : Net) : Type 0 where
  pub entries : List Triple
  pub rest : List ℕ
  pub there : edges_cut (cut_line (drop p s)) ≡ some (entries, rest)
  pub inside : all (edge_inside W H) entries ≡ true
  pub are : map (edge_at W H) entries ≡ n.entries

-- the entries of a net, and above 16 bits those that were dropped
abbrev pub counts_of : Net → ℕ
counts_of n = length n.entries + 65_536 * (length n.entries - length n.edges)

-- the row of net i, counted from 0
pub record Row (s : List ℕ) (j : Job) (table : List ℕ) (i : ℕ) : Type 0 where
  pub pins : PinsAt s j.width j.height j.layers (get_or table (pins_column i) 0) (net_of j (suc i))
  pub edges : EdgesAt s j.width j.height (get_or table (edges_column i) 0) (net_of j (suc i))
  -- how many entries it has, and how many of them were dropped
  pub counts : get_or table (count_column i) 0 ≡ counts_of (net_of j (suc i))
  pub first : get_or table (first_column i) 0 ≡ offset (net_entries j) i

pub record Table (s : List ℕ) (j : Job) (table : List ℕ) : Type 0 where
  pub long : table_size ≤ length table
  pub rows : (i : ℕ) → i < net_count j → Row s j table i

-- both can be read from them
pub counts-entries : (n : Net) (v : ℕ) → v ≡ counts_of n → length n.entries < 65_536 → v % 65_536 ≡ length n.entries
counts-entries n v e h = omega arith

pub counts-dropped : (n : Net) (v : ℕ) → v ≡ counts_of n → length n.entries < 65_536 → v / 65_536 ≡ length n.entries - length n.edges
counts-dropped n v e h = omega arith

-- in how many tiles each net's pins are
abbrev pub PinTiles : Job → List ℕ → Type 0
PinTiles j table = (i : ℕ) → i < net_count j → get_or table (tiles_column i) 0 ≡ different_tiles (net_of j (suc i)).pins

-- the lowest wanted layer of a net as a number: 0 where it has no line `low`
abbrev pub mark_of : Option ℕ → ℕ
mark_of none = 0
mark_of (some l) = l

-- the lowest wanted layer of each net, from when its lines are read to when it is placed
abbrev pub Marks : Job → List ℕ → Type 0
Marks j table = (i : ℕ) → i < net_count j → low_in table i ≡ mark_of (net_of j (suc i)).low

-- the number stands in four bits
pub mark-stays : (v : ℕ) (o : Option ℕ) → v ≡ mark_of o → low_from o ≤ most_layers → v % 16 ≡ mark_of o
mark-stays v none e h = let z : v ≡ 0 = e in omega arith
mark-stays v (some l) e h = let z : v ≡ l = e in omega arith

-- and says what the order list is told
pub mark-told : (o : Option ℕ) → 1 ≤ low_from o → max 1 (mark_of o) ≡ low_from o
mark-told none h = omega arith
mark-told (some l) h = omega arith

-- the net whose turn is k, once the order list stands
abbrev pub TurnsIn : Job → List ℕ → Type 0
TurnsIn j table = (k : ℕ) → k < net_count j → get_or table (turn_column k) 0 ≡ (entry_at (order j) k).net

-- ---- a number is written beside what the rows say

-- the place q is in none of their columns
pub record Beside (q : ℕ) : Type 0 where
  pub pins : (i : ℕ) → pins_column i ≢ q
  pub edges : (i : ℕ) → edges_column i ≢ q
  pub first : (i : ℕ) → first_column i ≢ q
  pub count : (i : ℕ) → count_column i ≢ q

pub table-set : (s : List ℕ) (j : Job) (table : List ℕ) (q v : ℕ) → Beside q → Table s j table → Table s j (set table q v)
table-set s j table q v b t = record { long = omega (arith, t.long, length-set table q v); rows = λ k h. row k (t.rows k h) }
  where
    kept : (p : ℕ) → p ≢ q → get_or (set table q v) p 0 ≡ get_or table p 0
    kept p h = get_or-set_other table q p v 0 h

    row : (k : ℕ) → Row s j table k → Row s j (set table q v) k
    row k r = record {
      pins = subst (λ (p : ℕ). PinsAt s j.width j.height j.layers p (net_of j (suc k))) (sym (kept (pins_column k) (b.pins k))) r.pins;
      edges = subst (λ (p : ℕ). EdgesAt s j.width j.height p (net_of j (suc k))) (sym (kept (edges_column k) (b.edges k))) r.edges;
      counts = kept (count_column k) (b.count k) ∙ r.counts;
      first = kept (first_column k) (b.first k) ∙ r.first;
    }

pub beside-tiles : (i : ℕ) → Beside (tiles_column i)
beside-tiles i = record { pins = λ k e. omega arith; edges = λ k e. omega arith; first = λ k e. omega arith; count = λ k e. omega arith }

pub beside-vias : (i : ℕ) → Beside (vias_column i)
beside-vias i = record { pins = λ k e. omega arith; edges = λ k e. omega arith; first = λ k e. omega arith; count = λ k e. omega arith }
