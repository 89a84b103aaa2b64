-- Room for the capacities.
-- Assumes nothing.
use mathlib.Core.Path.{◌≡◌, ap}
use Prim.Native.Nat.{ℕ, ◌*◌, ◌≤◌}
use native.Mathlib.Nat.{mul_assoc}
use native.Mathlib.Omega.{arith}
use Rattle.model.specs.Grid.{grid_edges}
use Rattle.model.specs.Read.{working_need}
use Rattle.layout.specs.Shapes.{Shaped}
use Rattle.layout.specs.declared.shape.Shape.{Shape}

-- the capacities have room where a job's working numbers have
pub capacities-room : (g : Shape) (size : ℕ) → Shaped g → working_need g.w g.h g.k ≤ size → g.k * g.e ≤ size
capacities-room g size h n =
    let e : g.k * g.e ≡ g.k * grid_edges g.w g.h = ap (λ (x : ℕ). g.k * x) h.e_is in
    omega (arith, mul_assoc 2 g.k (grid_edges g.w g.h))
