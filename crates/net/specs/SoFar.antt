-- What the working numbers hold of the plan so far: capacities, the nets on each layer of each edge, and the overflow that each edge has left.
-- Assumes nothing.
use Rattle.std.specs.Prelude.{true, false, List, ◌≡◌, ℕ, ◌+◌, ◌-◌, ◌*◌, ◌≤◌, ◌<◌, get_or}
use Rattle.layout.specs.Areas.{loads_at, demand_at}
use Rattle.layout.specs.declared.shape.Shape.{Shape}
use Rattle.model.specs.Job.{Job, runs, group, layers_of, capacity}
use Rattle.model.specs.Legal.{sum_over}
use Rattle.model.specs.Overflow.{flat_overflow}
use Rattle.model.specs.Plan.{placed}

-- the capacities, K to an edge
pub record Capacities (g : Shape) (j : Job) (w : List ℕ) : Type 0 where
  pub caps : (e l : ℕ) → e < g.e → 1 ≤ l → l ≤ g.k → get_or w (e * g.k + (l - 1)) 0 ≡ capacity j e l

-- so many nets close a layer: no capacity and no limit comes near it
abbrev pub closed_load : ℕ
closed_load = 2_147_483_648

-- x e l nets are on layer l of edge e, and the overflows of its layers may sum up to o e; while a net is placed, some of its edges count there already
-- and the others do not yet
pub record SoFarWith (g : Shape) (j : Job) (o : ℕ → ℕ) (x : ℕ → ℕ → ℕ) (w : List ℕ) : Type 0 where
  pub capacities : Capacities g j w
  -- the nets on each layer that runs the way of its edge; the others are closed
  pub loads : (e l : ℕ) → e < g.e → 1 ≤ l → l ≤ g.k → runs j.dirs (group j e) l ≡ true → get_or w (loads_at g + e * g.k + (l - 1)) 0 ≡ x e l
  pub closed : (e l : ℕ) → e < g.e → 1 ≤ l → l ≤ g.k → runs j.dirs (group j e) l ≡ false → closed_load ≤ get_or w (loads_at g + e * g.k + (l - 1)) 0
  -- the overflow left: what the layers have not used
  pub left : (e : ℕ) → e < g.e → get_or w (demand_at g + e) 0 + sum_over (layers_of j e) (capacity j e) (x e) ≡ o e

-- the nets that have had their turn, within the flat plan's overflow of each edge
abbrev pub SoFar : Shape → Job → List (List ℕ) → List ℕ → Type 0
SoFar g j plan w = SoFarWith g j (flat_overflow j) (placed j plan) w
