-- Entries inside the grid.
-- Assumes nothing.
use Rattle.std.specs.Prelude.{◌≡◌, refl, Bool, true, false, ◌&&◌, ℕ, ◌≤◌, ◌<◌, leb, ltb}
use Rattle.std.proofs.Common.{arith, ltb-true, leb-true}
use Rattle.model.specs.Read.{pin_inside}
use Rattle.scan.specs.Pins.{triple}

pub false-true : ◌≡◌ {A = Bool} false true → ⊥
false-true e = let y : ◌≡◌ {A = ℕ} 0 1 = cc in omega arith

pub inside_is : (W H K x y l : ℕ) → pin_inside W H K (triple x y l) ≡ true → (x < W) × (y < H) × (1 ≤ l) × (l ≤ K)
inside_is W H K x y l e = go (ltb x W) (ltb y H) (leb 1 l) (leb l K) refl refl refl refl e
  where
    go : (p q r t : Bool) → ltb x W ≡ p → ltb y H ≡ q → leb 1 l ≡ r → leb l K ≡ t → (p && q && r && t) ≡ true → (x < W) × (y < H) × (1 ≤ l) × (l ≤ K)
    go true true true true a b c d e = (ltb-true x W a, ltb-true y H b, leb-true 1 l c, leb-true l K d)
    go true true true false a b c d e = absurd (false-true e)
    go true true false t a b c d e = absurd (false-true e)
    go true false r t a b c d e = absurd (false-true e)
    go false q r t a b c d e = absurd (false-true e)
