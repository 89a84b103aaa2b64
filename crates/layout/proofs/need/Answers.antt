-- `need` meets its contract.
-- Assumes nothing.
use mathlib.Core.Path.{◌≡◌, ap}
use Prim.Native.Nat.{ℕ, ◌*◌}
use native.Mathlib.Nat.{mul_assoc}
use native.Mathlib.Omega.{arith}
use Rattle.model.specs.Grid.{grid_edges}
use Rattle.layout.proofs.need.Goals as goal

pub returns : goal.returns
returns c =
    let g = c.args.g in
    let h = c.args.g.shaped in
    let e : 2 * g.k * g.e ≡ 2 * g.k * grid_edges g.w g.h = ap (λ (x : ℕ). 2 * g.k * x) h.e_is in record { value = omega (arith, e, h.e_is, h.t_is); upper_bound = omega (arith, mul_assoc 2 g.k g.e, h.all_most, h.e_most, h.t_most) }
