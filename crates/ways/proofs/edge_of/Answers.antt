-- `edge_of` meets its contract.
-- Assumes nothing.
use mathlib.Core.Path.{◌≡◌, sym, ap, ap₂, ◌∙◌}
use Prim.Native.Nat.{ℕ, ◌+◌, ◌-◌, ◌*◌, ◌/◌}
use native.Mathlib.Nat.{div-eq_of_lt-le}
use native.Mathlib.Omega.{arith}
use Rattle.layout.specs.Shapes.{way_of}
use Rattle.scan.specs.Pins.{triple}
use Rattle.ways.specs.Entry.{edge_of, Placed, placed}
use Rattle.ways.proofs.edge_of.Goals as goal
use Rattle.ways.proofs.edge_of.Goals.{After-tile_at-here, Start}

at : (s : Start) → Placed s.args.g (triple s.args.x s.args.y s.args.d)
at s = placed s.args.g s.args.g.shaped (triple s.args.x s.args.y s.args.d) s.requires.d_bound.1 s.requires.d_bound.0

module _ (c : After-tile_at-here) where
  abbrev here : ℕ
  here = c.tile_at-here.result

  -- the row of the tile
  row : c.args.y ≡ here / c.args.g.w
  row =
      let x = c.args in
      let q : (x.y * x.g.w + x.x) / x.g.w ≡ x.y = div-eq_of_lt-le x.g.w (omega (arith, (at (goal.at.After-tile_at-here c).Start).column)) (omega (arith, (at (goal.at.After-tile_at-here c).Start).column)) in
      sym q ∙ ap (λ (t : ℕ). t / x.g.w) (sym c.tile_at-here.ensures.0)

  -- the number that the way out of the tile has
  number : (d : ℕ) → c.args.d ≡ d → (way_of c.args.g here d).edge ≡ edge_of c.args.g (triple c.args.x c.args.y c.args.d)
  number d e = ap₂ (λ (t k : ℕ). (way_of c.args.g t k).edge) c.tile_at-here.ensures.0 (sym e) ∙ (at (goal.at.After-tile_at-here c).Start).number

  east : c.args.d ≡ 0 → here - c.args.y ≡ edge_of c.args.g (triple c.args.x c.args.y c.args.d)
  east e = ap (λ (r : ℕ). here - r) row ∙ number 0 e

  north : c.args.d ≡ 1 → c.args.g.east + here ≡ edge_of c.args.g (triple c.args.x c.args.y c.args.d)
  north e = number 1 e

pub returns-in-0 : goal.returns-in-0
returns-in-0 c =
    let e = east (goal.at.returns-in-0 c).After-tile_at-here c.in-0.is in (e, omega (arith, e, (at (goal.at.returns-in-0 c).Start).known))

pub returns-in_default : goal.returns-in_default
returns-in_default c =
    let way : c.args.d ≡ 1 = omega (arith, c.requires.d_bound.0) in
    let e = north (goal.at.returns-in_default c).After-tile_at-here way in (e, omega (arith, e, (at (goal.at.returns-in_default c).Start).known))
