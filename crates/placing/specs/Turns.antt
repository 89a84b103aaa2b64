-- The nets of an accepted job in their turns: what is asked before the first, what one turn changes, and what stands after the last.
-- Assumes nothing.
use Rattle.std.specs.Prelude.{List, [], ◌≡◌, ℕ, suc, ◌-◌, ◌*◌, ◌≤◌, ltb, drop, get_or, set, replicate}
use Rattle.layout.specs.Areas.{tiles_of, links_of}
use Rattle.layout.specs.Table.{pins_column, edges_column, first_column, entries_in, dropped_in}
use Rattle.layout.specs.declared.shape.Shape.{Shape}
use Rattle.marks.specs.Marks.{Older}
use Rattle.model.specs.Demand3.{cut_by}
use Rattle.model.specs.Job.{Job, net_count, net_entries, entry_count}
use Rattle.model.specs.Plan.{plan, total_vias}
use Rattle.model.specs.Read.{Lent}
use Rattle.net.specs.SoFar.{SoFar}
use Rattle.net.specs.Table.{Table, TurnsIn}
use Rattle.net.specs.Held.{Held}
use Rattle.theory.specs.links.Flat.{limit_at}
use Rattle.theory.specs.links.Reading.{Accepted}
use Rattle.turn.specs.Turn.{Turn, OfJob, turn_limit, turn_plan, turn_answer, turn_vias}
use Rattle.placing.specs.declared.NetRow.{NetRow}

-- what the net table has of net i, counted from 0
abbrev pub row_of : List ℕ → ℕ → NetRow
row_of table i = record {
  pins = get_or table (pins_column i) 0;
  edges = get_or table (edges_column i) 0;
  first = get_or table (first_column i) 0;
  count = entries_in table i;
  dropped = ltb 0 (dropped_in table i);
}

-- ---- one turn

-- it is the turn u, of net i: the working numbers hold the plan so far, the table has its row, and the answer list of this length has room
pub record RowTurn (s : List ℕ) (g : Shape) (stamp : ℕ) (m : ℕ → ℕ) (w table : List ℕ) (size i : ℕ) (u : Turn) : Type 0 where
  pub grid : OfJob g u.job
  pub so_far : SoFar g u.job u.plan w
  pub older : Older stamp (tiles_of g w)
  pub links : Older stamp (links_of g w)
  pub limit_is : (e : ℕ) → m e ≡ turn_limit u e
  pub net_is : i ≡ u.entry.net - 1
  pub rows : Table s u.job table
  pub room : entry_count u.job ≤ size

pub record RowTurnSome (s : List ℕ) (g : Shape) (stamp : ℕ) (m : ℕ → ℕ) (w table : List ℕ) (size i : ℕ) : Type 0 where
  pub turn : Turn
  pub at : RowTurn s g stamp m w table size i turn

-- the net has its layers, in its own stretch of the answer list, and r is its vias
pub record RowDone (g : Shape) (stamp : ℕ) (w answer answer' : List ℕ) (i r : ℕ) (u : Turn) : Type 0 where
  pub so_far : SoFar g u.job (turn_plan u) w
  pub older : Older (suc stamp) (tiles_of g w)
  pub links : Older (suc stamp) (links_of g w)
  pub vias_are : r ≡ turn_vias u
  pub answer_is : cut_by (net_entries u.job) answer' ≡ set (cut_by (net_entries u.job) answer) i (turn_answer u)
  pub beyond : drop (entry_count u.job) answer' ≡ drop (entry_count u.job) answer

-- ---- all turns

-- before the first: no net is placed, the table has the placing order, and the answer list has this length
pub record Start (s : List ℕ) (g : Shape) (n : ℕ) (m : ℕ → ℕ) (w table : List ℕ) (size : ℕ) (lent : Lent) (j : Job) : Type 0 where
  pub accepted : Accepted lent j
  pub grid : OfJob g j
  pub count : n ≡ net_count j
  pub limit_is : (e : ℕ) → m e ≡ limit_at j e
  pub so_far : SoFar g j (replicate (net_count j) []) w
  -- four stamps of each net were used
  pub older : Older (suc (4 * n)) (tiles_of g w)
  pub links : Older (suc (4 * n)) (links_of g w)
  pub rows : Table s j table
  pub turns_are : TurnsIn j table
  pub room : entry_count j ≤ size

pub record StartSome (s : List ℕ) (g : Shape) (n : ℕ) (m : ℕ → ℕ) (w table : List ℕ) (size : ℕ) : Type 0 where
  pub lent : Lent
  pub job : Job
  pub start : Start s g n m w table size lent job

-- after the last: the table and the answer list hold the plan, nothing else of the answer list has changed, and r is the plan's vias
pub record AllPlaced (j : Job) (answer answer' table' : List ℕ) (r : ℕ) : Type 0 where
  pub held : Held j (plan j) table' answer'
  pub turns_are : TurnsIn j table'
  pub beyond : drop (entry_count j) answer' ≡ drop (entry_count j) answer
  pub vias_are : r ≡ total_vias j (plan j)
