-- The ways out of a tile as the code has them.
-- Assumes nothing.
use Rattle.std.specs.Prelude.{◌≡◌, refl, ℕ, zero, suc, ◌+◌, ◌/◌, ◌%◌, ◌≤◌, ◌<◌, T}
use Rattle.std.proofs.Common.{subst, mul-le-mul_left, arith, leb→le, ltb→lt}
use Rattle.std.proofs.Math.Nat.{div-add-mod}
use Rattle.layout.specs.Shapes.{Shaped, WayRoom, way_of}
use Rattle.layout.specs.declared.shape.Shape.{Shape}
use Rattle.theory.specs.walk.Ways.{way?, way_tile, way_edge}

module _ (g : Shape) (shaped : Shaped g) where
  -- they are those of the walk theory
  pub way-is : (x d : ℕ) → way_of g x d ≡ record { tile = way_tile g.w x d; edge = way_edge g.w g.h x d }
  way-is x zero = let e : x + 1 ≡ suc x = omega arith in rw e
  way-is x (suc zero) = rw shaped.east_is
  way-is x (suc (suc zero)) = refl
  way-is x (suc (suc (suc d))) = rw shaped.east_is

  -- a way inside the grid is one that the code can take
  pub way-room : (x : ℕ) → x < g.t → (d : ℕ) → d < 4 → T (way? g.w g.h x d) → WayRoom g x d
  way-room x inside d h t = record {
    way = h;
    tile = inside;
    west = λ e. west (subst (λ (k : ℕ). T (way? g.w g.h x k)) e t);
    south = λ e. leb→le g.w x (subst (λ (k : ℕ). T (way? g.w g.h x k)) e t);
  }
    where
      west : T (way? g.w g.h x 2) → 1 + x / g.w ≤ x
      west u = omega (arith, div-add-mod x g.w, ltb→lt 0 (x % g.w) u, mul-le-mul_left (x / g.w) shaped.w_least)
