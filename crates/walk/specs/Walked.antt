-- The walk in the working numbers: by place, the tile, the edge above it, the end of its branches, and its pins.
-- Assumes nothing.
use Rattle.std.specs.Prelude.{List, ◌≡◌, ℕ, suc, ◌+◌, ◌-◌, ◌*◌, ◌≤◌, ◌<◌, length, get_or}
use Rattle.layout.specs.Areas.{stops_at, above_at, engine_at}
use Rattle.layout.specs.Parts.{Outside}
use Rattle.layout.specs.declared.shape.Shape.{Shape}
use Rattle.marks.specs.Words.{bit_of}
use Rattle.model.specs.Job.{Job, Net}
use Rattle.model.specs.Lists.{has}
use Rattle.model.specs.Walk.{net_tiles, lowest, walk}
use Rattle.net.specs.AtHand.{AtHand}
use Rattle.theory.specs.links.Engine.{stop_at, first_at, pins_at}
use Rattle.theory.specs.links.Nets.{NetOk}

-- the net at hand is a net of job j that the reading lets pass, and `root` is its lowest tile
pub record Walks (g : Shape) (stamp : ℕ) (j : Job) (net : Net) (root : ℕ) (w : List ℕ) : Type 0 where
  pub width : g.w ≡ j.width
  pub height : g.h ≡ j.height
  pub ok : NetOk j.width j.height j.layers net
  pub hand : AtHand g stamp net w
  pub lowest_tile : root ≡ lowest (net_tiles j net)

-- some net is at hand
pub record WalkReady (g : Shape) (stamp root : ℕ) (w : List ℕ) : Type 0 where
  pub job : Job
  pub net : Net
  pub walks : Walks g stamp job net root w

-- What the walk leaves in w', and the number r that it returns. Place 0 is the root; what stands as the edge above it is not said.
pub record Walked (g : Shape) (j : Job) (net : Net) (w w' : List ℕ) (r : ℕ) : Type 0 where
  -- "A net has one tile more than edges"
  pub tiles : r ≡ suc (length net.edges)
  pub stops : (i : ℕ) → i ≤ length net.edges → get_or w' (stops_at g + i) 0 ≡ (stop_at j net i).tile
  pub above : (i : ℕ) → i < length net.edges → get_or w' (above_at g + suc i) 0 ≡ get_or (walk j net) i 0
  -- the end of the branches of place i is where those of the next begin
  pub ends : (i : ℕ) → i ≤ length net.edges → get_or w' (engine_at g + i) 0 ≡ first_at j net (suc i)
  -- bit l − 1 is a pin on layer l
  pub pins_small : (i : ℕ) → i ≤ length net.edges → get_or w' (engine_at g + g.m + i) 0 < 256
  pub pins : (i : ℕ) → i ≤ length net.edges → (l : ℕ) → 1 ≤ l → l ≤ 8 → bit_of (get_or w' (engine_at g + g.m + i) 0) (l - 1) ≡ has (pins_at j net i) l
  pub outside : Outside (stops_at g) (4 * g.m) w w'
