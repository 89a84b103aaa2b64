-- The stack and the grid as the code has them.
-- Assumes nothing.
use Rattle.std.specs.Prelude.{cond, ◌≡◌, ℕ, zero, suc, ◌+◌, ◌-◌, ◌*◌, ◌/◌, ◌≤◌, ◌<◌, ltb, Option, Some, None}
use Rattle.std.proofs.Common.{mul-le-mul_right, suc-mul, mul_comm, arith}
use Rattle.model.specs.Limits.{least_layers, most_layers}
use Rattle.model.specs.Read.{Sizes}
use Rattle.layout.specs.Bounds.{Bounded}
use Rattle.layout.specs.Dirs.{dirs_of}
use Rattle.layout.specs.declared.shape.Dirs.{Dirs}
use Rattle.layout.specs.declared.shape.Shape.{Shape}
use Rattle.layout.specs.declared.Stack.{Stack}
use Rattle.layout.specs.declared.Way.{Way}

-- "K, the value of `layers`, is from 2 to 8"
abbrev pub stack_of : ℕ → Option Stack
stack_of k = cond (ltb k least_layers) None (cond (ltb most_layers k) None (Some (record { layers = k })))

-- the shape of these sizes: its other numbers follow, since it is a shape
pub record ShapeOf (W H K : ℕ) (d : Option Dirs) (g : Shape) : Type 0 where
  pub width : g.w ≡ W
  pub height : g.h ≡ H
  pub layers : g.k ≡ K
  pub dirs : g.dirs ≡ d

-- what the lines of a net are judged by
abbrev pub sizes_of : Shape → Sizes
sizes_of g = record { width = g.w; height = g.h; layers = g.k; dirs = dirs_of g.k g.dirs }

-- a shape of sizes within document 01's limits, and how large its numbers can be: so is every shape
abbrev pub Shaped : Shape → Type 0
Shaped g = Bounded g.w g.h g.k g.t g.m g.east g.e

-- the way by its number: 0 east, 1 north, 2 west, 3 south
abbrev pub way_of : Shape → ℕ → ℕ → Way
way_of g t zero = record { tile = t + 1; edge = t - t / g.w }
way_of g t (suc zero) = record { tile = t + g.w; edge = g.east + t }
way_of g t (suc (suc zero)) = record { tile = t - 1; edge = t - 1 - t / g.w }
way_of g t (suc (suc (suc d))) = record { tile = t - g.w; edge = g.east + (t - g.w) }

-- the way starts at a tile, and where it goes west or south there is a tile there
pub record WayRoom (g : Shape) (t d : ℕ) : Type 0 where
  pub way : d < 4
  pub tile : t < g.t
  pub west : d ≡ 2 → 1 + t / g.w ≤ t
  pub south : d ≡ 3 → g.w ≤ t

-- the number of a tile inside the grid
pub tile-below : (W H x y : ℕ) → x < W → y < H → y * W + x < W * H
tile-below W H x y h k =
    let p : suc y * W ≤ H * W = mul-le-mul_right W k in
    let q : suc y * W ≡ y * W + W = suc-mul y W in
    let r : W * H ≡ H * W = mul_comm W H in
    omega arith
