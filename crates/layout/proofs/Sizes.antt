-- How large the numbers of a grid can be.
-- Assumes nothing.
use mathlib.Core.Path.{refl}
use Prim.Native.Nat.{ℕ, ◌-◌, ◌*◌, ◌≤◌}
use native.Mathlib.Nat.{mul-le-mul, mul-le-mul_left, mul-le-mul_right}
use native.Mathlib.Omega.{arith}
use Rattle.model.specs.Grid.{grid_edges}
use Rattle.layout.specs.Bounds.{Bounded, most_tiles}

-- a product of two numbers from 1 to 64
pub product : (a b : ℕ) → a ≤ 64 → b ≤ 64 → a * b ≤ most_tiles
product a b h k = mul-le-mul h k

pub less_one : (a b : ℕ) → a ≤ 64 → b ≤ 64 → (a - 1) * b ≤ 4032
less_one a b h k = let p : a - 1 ≤ 63 = omega arith in mul-le-mul p k

pub one_less : (a b : ℕ) → a ≤ 64 → b ≤ 64 → a * (b - 1) ≤ 4032
one_less a b h k = let p : b - 1 ≤ 63 = omega arith in mul-le-mul h p

some : (a b : ℕ) → 1 ≤ a → 1 ≤ b → 1 ≤ a * b
some a b h k = mul-le-mul h k

module _ (W H K : ℕ) (w1 : 1 ≤ W) (w2 : W ≤ 64) (h1 : 1 ≤ H) (h2 : H ≤ 64) (k1 : 2 ≤ K) (k2 : K ≤ 8) where
  edges_most : grid_edges W H ≤ 8064
  edges_most = omega (arith, less_one W H w2 h2, one_less W H w2 h2)

  pub shaped : Bounded W H K (W * H) (W * H) ((W - 1) * H) (grid_edges W H)
  shaped = record {
    w_least = w1;
    w_most = w2;
    h_least = h1;
    h_most = h2;
    k_least = k1;
    k_most = k2;
    t_is = refl;
    east_is = refl;
    e_is = refl;
    m_is = refl;
    t_least = some W H w1 h1;
    t_most = product W H w2 h2;
    east_most = omega arith;
    e_most = edges_most;
    e_tiles = omega (arith, mul-le-mul_right H east, mul-le-mul_left W north);
    all_most = mul-le-mul k2 edges_most;
  }
    where
      east : W - 1 ≤ W
      east = omega arith

      north : H - 1 ≤ H
      north = omega arith
