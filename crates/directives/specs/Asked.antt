-- What the counting of a job's nets asks, and what it leaves.
-- Assumes nothing.
use Rattle.std.specs.Prelude.{List, ◌≡◌, ℕ, ◌≤◌, ◌<◌}
use Rattle.flat.specs.FlatPlan.{NoLoads}
use Rattle.layout.specs.declared.shape.Shape.{Shape}
use Rattle.model.specs.Job.{Job, net_count, edge_count}
use Rattle.model.specs.Read.{Lent}
use Rattle.net.specs.SoFar.{Capacities}
use Rattle.net.specs.Table.{Table, Marks}
use Rattle.theory.specs.links.Reading.{Accepted}
use Rattle.directives.specs.Counts.{Few}

-- job j is accepted; the text s, the shape and the net table are its own, and the table has the lowest wanted layers of its nets
pub record Asked (s : List ℕ) (g : Shape) (table : List ℕ) (lent : Lent) (j : Job) : Type 0 where
  pub accepted : Accepted lent j
  pub width : g.w ≡ j.width
  pub height : g.h ≡ j.height
  pub layers : g.k ≡ j.layers
  pub edges : g.e ≡ edge_count j
  pub rows : Table s j table
  pub lows : Marks j table

-- so it is with some job of n nets, whose capacities stand in the working numbers, and no net is counted
pub record AskedSome (s : List ℕ) (g : Shape) (w table : List ℕ) (n : ℕ) : Type 0 where
  pub lent : Lent
  pub job : Job
  pub asked : Asked s g table lent job
  pub count : n ≡ net_count job
  pub capacities : Capacities g job w
  pub loads : NoLoads g w

-- so it is with some job that has a net in place i, from 0, and it can be counted
pub record SomeNet (s : List ℕ) (g : Shape) (w table : List ℕ) (i : ℕ) : Type 0 where
  pub lent : Lent
  pub job : Job
  pub asked : Asked s g table lent job
  pub there : i < net_count job
  pub few : (t : ℕ) → 2 ≤ t → t ≤ g.k → Few g t w
