-- `occupy` meets its contract.
-- Assumes nothing.
use mathlib.Core.Path.{◌≡◌, ap}
use Prim.Native.Nat.{ℕ, ◌+◌, ◌-◌, ◌≤◌}
use native.Mathlib.Omega.{arith}
use lib.ListN.{get_or, length-set}
use Rattle.layout.specs.Areas.{demand_at}
use Rattle.model.specs.Limits.{most_nets}
use Rattle.tracks.specs.Occupied.{cap_place, load_place, full_of}
use Rattle.tracks.proofs.Layers.{load_fits, left-fits, occupied-is}
use Rattle.tracks.proofs.occupy.Goals as goal
use Rattle.tracks.proofs.occupy.Goals.{After-full_of}

-- the places that the code finds
module _ (c : After-full_of) where
  abbrev cap : ℕ
  cap = c.edge_at.result + (c.args.layer - 1)

  abbrev load : ℕ
  load = c.loads_at.result + cap

  abbrev left : ℕ
  left = c.demand_at.result + c.args.edge

  cap-is : cap ≡ cap_place c.args.g c.args.edge c.args.layer
  cap-is = ap (λ (a : ℕ). a + (c.args.layer - 1)) c.edge_at.ensures.0

  load_is : load ≡ load_place c.args.g c.args.edge c.args.layer
  load_is = omega (arith, c.loads_at.ensures.value, cap-is)

  left_is : left ≡ demand_at c.args.g + c.args.edge
  left_is = ap (λ (a : ℕ). a + c.args.edge) c.demand_at.ensures.value

  few : get_or c.args.w.now load 0 ≤ most_nets
  few = load_fits c.args.g c.args.w.now c.args.edge c.args.layer cap load left cap-is load_is left_is c.requires.free

  rest : full_of (get_or c.args.w.now load 0) (get_or c.args.w.now cap 0) ≤ get_or c.args.w.now left 0
  rest = left-fits c.args.g c.args.w.now c.args.edge c.args.layer cap load left cap-is load_is left_is c.requires.free

pub overflow_sub-rest : goal.overflow_sub-rest
overflow_sub-rest c =
    omega (arith, c.full_of.ensures, rest (goal.at.overflow_sub-rest c).After-full_of)

pub overflow_add-w : goal.overflow_add-w
overflow_add-w c =
    omega (arith, few (goal.at.overflow_add-w c).After-full_of)

pub bounds-w-load-2 : goal.bounds-w-load-2
bounds-w-load-2 c =
    simp length-set (omega arith)

pub returns : goal.returns
returns c =
    let x = c.args in
    occupied-is x.g x.w.now x.edge x.layer (cap (goal.at.returns c).After-full_of) (load (goal.at.returns c).After-full_of) (left (goal.at.returns c).After-full_of) (cap-is (goal.at.returns c).After-full_of) (load_is (goal.at.returns c).After-full_of) (left_is (goal.at.returns c).After-full_of) c.full_of.result c.full_of.ensures
