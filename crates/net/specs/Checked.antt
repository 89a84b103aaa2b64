-- What the working numbers and the net table hold once a text is accepted, before anything is planned.
-- Assumes nothing.
use Rattle.std.specs.Prelude.{List, ◌≡◌, ℕ, suc, ◌+◌, ◌*◌, ◌≤◌, ◌<◌, length, get_or}
use Rattle.layout.specs.Areas.{loads_at, demand_at, areas_end, tiles_of, links_of}
use Rattle.layout.specs.Dirs.{dirs_of}
use Rattle.layout.specs.Shapes.{ShapeOf, Shaped}
use Rattle.layout.specs.declared.shape.Shape.{Shape}
use Rattle.marks.specs.Marks.{Older}
use Rattle.model.specs.Job.{Job, net_count}
use Rattle.model.specs.Overflow.{flat_demand}
use Rattle.net.specs.SoFar.{Capacities}
use Rattle.net.specs.Table.{Table, PinTiles, Marks}

pub record Checked (s : List ℕ) (g : Shape) (j : Job) (w table : List ℕ) : Type 0 where
  pub shape : ShapeOf j.width j.height j.layers g.dirs g
  pub dirs : dirs_of g.k g.dirs ≡ j.dirs
  pub shaped : Shaped g
  pub room : areas_end g ≤ length w
  pub capacities : Capacities g j w
  -- no net is placed
  pub loads : (i : ℕ) → loads_at g ≤ i → i < demand_at g → get_or w i 0 ≡ 0
  -- d(e) of the whole flat plan
  pub demand : (e : ℕ) → e < g.e → get_or w (demand_at g + e) 0 ≡ flat_demand j e
  -- the marks and the links are those of the N nets read, two stamps to each
  pub marks : Older (suc (2 * net_count j)) (tiles_of g w)
  pub links : Older (suc (2 * net_count j)) (links_of g w)
  pub rows : Table s j table
  pub pin_tiles : PinTiles j table
  pub lows : Marks j table
