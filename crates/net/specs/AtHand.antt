-- What the working numbers hold of the net at hand, once its lines are read for placing.
-- Assumes nothing.
use Rattle.std.specs.Prelude.{◌&&◌, List, ◌≡◌, ℕ, ◌+◌, ◌-◌, ◌≤◌, ◌<◌, length, get_or}
use Rattle.layout.specs.Areas.{list_at, tiles_of}
use Rattle.layout.specs.declared.shape.Shape.{Shape}
use Rattle.marks.specs.Marks.{marked}
use Rattle.marks.specs.Words.{Fits}
use Rattle.model.specs.Job.{Pin, Net}
use Rattle.model.specs.Lists.{has}
use Rattle.model.specs.Vias.{pin_layers}
use Rattle.theory.specs.walk.Ways.{way?, way_edge}

-- pins ps and edges es marked by tile under stamp n: the tiles have the words a
pub record Drawn (g : Shape) (n : ℕ) (ps : List Pin) (es : List ℕ) (a : List ℕ) : Type 0 where
  pub fits : Fits n a
  -- bit l − 1 of a tile: a pin on layer l
  pub pins : (t l : ℕ) → t < g.t → 1 ≤ l → l ≤ 8 → marked n a t (l - 1) ≡ has (pin_layers t ps) l
  -- bit 8 + d of a tile: an edge goes out of it on way d
  pub ways : (t d : ℕ) → t < g.t → d < 4 → marked n a t (8 + d) ≡ (way? g.w g.h t d && has es (way_edge g.w g.h t d))

pub record AtHand (g : Shape) (n : ℕ) (net : Net) (w : List ℕ) : Type 0 where
  -- its pins, and the edges that it keeps
  pub drawn : Drawn g n net.pins net.edges (tiles_of g w)
  -- the entries of its line in order
  pub list : (i : ℕ) → i < length net.entries → get_or w (list_at g + i) 0 ≡ get_or net.entries i 0
