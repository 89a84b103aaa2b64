-- `edge_excess` meets its contract. The loop's invariant: the layers above t are done (`Falling.antt`).
-- Assumes nothing.
use mathlib.Core.List.{List}
use mathlib.Core.Path.{◌≡◌, refl, ap}
use Prim.Native.Nat.{ℕ, ◌+◌, ◌-◌, ◌*◌, ◌≤◌, ◌<◌}
use native.Mathlib.Omega.{arith}
use lib.ListN.{length, get_or}
use Rattle.layout.specs.Areas.{loads_at}
use Rattle.model.specs.Limits.{most_capacity, most_nets}
use Rattle.directives.proofs.Falling.{Falling, falling-start, falling-next, falling-done}
use Rattle.directives.proofs.edge_excess.Goals as goal
use Rattle.directives.proofs.edge_excess.Goals.{After-loads_at, In-loop-t}

-- where the numbers of the edge stand, and how many they can be
module _ (a : After-loads_at) where
  abbrev w : List ℕ
  w = a.args.w.now

  abbrev caps : ℕ
  caps = a.edge_at-caps.result

  abbrev nets : ℕ
  nets = a.loads_at.result + caps

  nets-is : nets ≡ loads_at a.args.g + caps
  nets-is = ap (λ (m : ℕ). m + caps) a.loads_at.ensures.value

  inside : (t : ℕ) → t < a.args.g.k → (caps + t < length w) × (nets + t < length w) × (nets + t < 1048576)
  inside t h =
      let e = a.edge_at-caps.ensures.1 in
      let r = a.requires.edge_lt_e.1 in
      (omega (arith, e, r), omega (arith, e, r, nets-is), omega (arith, e, nets-is, a.loads_at.ensures.value, a.loads_at.ensures.upper_bound))

  few : (t : ℕ) → 2 ≤ t → t ≤ a.args.g.k → (get_or w (caps + (t - 1)) 0 ≤ most_capacity) × (get_or w (nets + (t - 1)) 0 ≤ most_nets)
  few t h k =
      let b = a.requires.edge_lt_e.2 t h k in
      let x = a.args in
      let p : caps + (t - 1) ≡ x.edge * x.g.k + (t - 1) = omega (arith, a.edge_at-caps.ensures.0) in
      let q : nets + (t - 1) ≡ loads_at x.g + (x.edge * x.g.k + (t - 1)) = omega (arith, nets-is, a.edge_at-caps.ensures.0) in
      (omega (arith, b.0, ap (λ (i : ℕ). get_or w i 0) p), omega (arith, b.1, ap (λ (i : ℕ). get_or w i 0) q))

-- a turn of the loop
module _ (i : In-loop-t) where
  abbrev f : Falling (w (goal.at.In-loop-t i).After-loads_at) (caps (goal.at.In-loop-t i).After-loads_at) (nets (goal.at.In-loop-t i).After-loads_at) i.args.g.k i.loop-t.room i.loop-t.served i.loop-t.excess i.loop-t.t
  f = i.loop-t.invariant

  here : (caps (goal.at.In-loop-t i).After-loads_at + (i.loop-t.t - 1) < length (w (goal.at.In-loop-t i).After-loads_at)) × (nets (goal.at.In-loop-t i).After-loads_at + (i.loop-t.t - 1) < length (w (goal.at.In-loop-t i).After-loads_at)) × (nets (goal.at.In-loop-t i).After-loads_at + (i.loop-t.t - 1) < 1048576)
  here = inside (goal.at.In-loop-t i).After-loads_at (i.loop-t.t - 1) (omega (arith, i.loop-t-test.true, f.high))

  small : (get_or (w (goal.at.In-loop-t i).After-loads_at) (caps (goal.at.In-loop-t i).After-loads_at + (i.loop-t.t - 1)) 0 ≤ most_capacity) × (get_or (w (goal.at.In-loop-t i).After-loads_at) (nets (goal.at.In-loop-t i).After-loads_at + (i.loop-t.t - 1)) 0 ≤ most_nets)
  small = few (goal.at.In-loop-t i).After-loads_at i.loop-t.t i.loop-t-test.true f.high

  bounded : (i.loop-t.room ≤ 8 * most_capacity) × (i.loop-t.excess ≤ 8 * most_nets)
  bounded = let k = i.args.g.shaped.k_most in (omega (arith, f.few_room, k), omega (arith, f.few_excess, k))

pub overflow_add-needs : goal.overflow_add-needs
overflow_add-needs c =
    omega (arith, c.loads_at.ensures.value, c.loads_at.ensures.upper_bound, c.edge_at-caps.ensures.1)

pub loop-t-init : goal.loop-t-init
loop-t-init c =
    falling-start (w (goal.at.loop-t-init c).After-loads_at) (caps (goal.at.loop-t-init c).After-loads_at) (nets (goal.at.loop-t-init c).After-loads_at) c.args.g.k (omega (arith, c.args.g.shaped.k_least))

pub overflow_add-room : goal.overflow_add-room
overflow_add-room c =
    omega (arith, here (goal.at.overflow_add-room c).In-loop-t)

pub offset_bounds-w-caps : goal.offset_bounds-w-caps
offset_bounds-w-caps c =
    omega (arith, here (goal.at.offset_bounds-w-caps c).In-loop-t)

pub bounds-w-caps : goal.bounds-w-caps
bounds-w-caps c =
    (here (goal.at.bounds-w-caps c).In-loop-t).0

pub overflow_add-room-in-loop-t : goal.overflow_add-room-in-loop-t
overflow_add-room-in-loop-t c =
    omega (arith, small (goal.at.overflow_add-room-in-loop-t c).In-loop-t, bounded (goal.at.overflow_add-room-in-loop-t c).In-loop-t)

pub overflow_add-demand : goal.overflow_add-demand
overflow_add-demand c =
    omega (arith, here (goal.at.overflow_add-demand c).In-loop-t)

pub offset_bounds-w-needs : goal.offset_bounds-w-needs
offset_bounds-w-needs c =
    omega (arith, here (goal.at.offset_bounds-w-needs c).In-loop-t)

pub bounds-w-needs : goal.bounds-w-needs
bounds-w-needs c =
    (here (goal.at.bounds-w-needs c).In-loop-t).1

pub overflow_add-demand-in-loop-t : goal.overflow_add-demand-in-loop-t
overflow_add-demand-in-loop-t c =
    omega (arith, small (goal.at.overflow_add-demand-in-loop-t c).In-loop-t, bounded (goal.at.overflow_add-demand-in-loop-t c).In-loop-t, (f (goal.at.overflow_add-demand-in-loop-t c).In-loop-t).few_served)

pub overflow_add-excess : goal.overflow_add-excess
overflow_add-excess c =
    omega (arith, small (goal.at.overflow_add-excess c).In-loop-t, bounded (goal.at.overflow_add-excess c).In-loop-t, (f (goal.at.overflow_add-excess c).In-loop-t).few_served, c.saturating_sub-excess.ensures)

pub loop-t-preserved : goal.loop-t-preserved
loop-t-preserved c =
    falling-next (w (goal.at.loop-t-preserved c).After-loads_at) (caps (goal.at.loop-t-preserved c).After-loads_at) (nets (goal.at.loop-t-preserved c).After-loads_at) c.args.g.k c.loop-t.room c.loop-t.served c.loop-t.excess c.loop-t.t (f (goal.at.loop-t-preserved c).In-loop-t) c.loop-t-test.true (small (goal.at.loop-t-preserved c).In-loop-t).0 (small (goal.at.loop-t-preserved c).In-loop-t).1
    _ _ c.saturating_sub-excess.result c.min-served.result refl refl c.saturating_sub-excess.ensures c.min-served.ensures

pub returns : goal.returns
returns c =
    let d = falling-done (w (goal.at.returns c).After-loads_at) (caps (goal.at.returns c).After-loads_at) (nets (goal.at.returns c).After-loads_at) c.args.g.k c.loop-t.room c.loop-t.served c.loop-t.excess c.loop-t.t c.loop-t.invariant (omega (arith, c.loop-t-test.false)) c.args.g c.args.edge
    refl c.edge_at-caps.ensures.0 (nets-is (goal.at.returns c).After-loads_at) in record { value = d.0; upper_bound = omega (arith, d.1, c.args.g.shaped.k_most) }
