-- What the net table and the answer list hold of a planned job.
-- Assumes nothing.
use Rattle.std.specs.Prelude.{List, [], ◌≡◌, ℕ, suc, ◌≤◌, ◌<◌, length, get_or}
use Rattle.layout.specs.Table.{first_column, entries_in, vias_column, table_size}
use Rattle.model.specs.Demand3.{choice_vias, cut_by}
use Rattle.model.specs.Job.{Job, net_count, net_of, net_entries, entry_count}
use Rattle.model.specs.Plan.{answered}
use Rattle.theory.specs.links.Stretches.{offset}

-- of each net the place and the number of its layers, and its vias; each net's layers stand in its stretch of the answer list
pub record Held (j : Job) (y : List (List ℕ)) (table answer : List ℕ) : Type 0 where
  pub table_long : table_size ≤ length table
  pub answer_long : entry_count j ≤ length answer
  pub first : (i : ℕ) → i < net_count j → get_or table (first_column i) 0 ≡ offset (net_entries j) i
  pub count : (i : ℕ) → i < net_count j → entries_in table i ≡ length (net_of j (suc i)).entries
  pub vias : (i : ℕ) → i < net_count j → get_or table (vias_column i) 0 ≡ choice_vias j i (get_or y i [])
  pub layers : cut_by (net_entries j) answer ≡ answered j.nets y
