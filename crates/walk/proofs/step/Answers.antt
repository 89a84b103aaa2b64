-- `step` meets its contract.
-- Assumes nothing.
use mathlib.Core.Bool.{true}
use mathlib.Core.Path.{◌≡◌, sym, ◌∙◌}
use Prim.Native.Nat.{◌+◌, ◌<◌}
use native.Mathlib.Omega.{arith}
use lib.ListN.{length-set}
use Rattle.layout.specs.Shapes.{WayRoom, way_of}
use Rattle.marks.specs.Words.{bit_of}
use Rattle.walk.proofs.Turns.{way-small, step-unused, step_back, step-on}
use Rattle.walk.proofs.step.Goals as goal
use Rattle.walk.proofs.step.Goals.{Else-not-bit, Else-y-x}

-- the net uses the way
module _ (e : Else-not-bit) where
  used : bit_of e.args.x.marks (8 + e.args.d) ≡ true
  used = sym e.bit.ensures ∙ e.if-not-bit.false

  room : WayRoom e.args.g e.args.x.tile e.args.d
  room = e.requires.way_room used

-- and it is not the way back
module _ (e : Else-y-x) where
  way-is : e.way_out-y.result ≡ way_of e.args.g e.args.x.tile e.args.d
  way-is = e.way_out-y.ensures

  small : (e.way_out-y.result.tile < 8192) × (e.way_out-y.result.edge < 16384)
  small = rw way-is (way-small e.args.g e.args.g.shaped e.args.x.tile e.args.d (room (goal.at.Else-y-x e).Else-not-bit).tile)

pub returns-then-not-bit : goal.returns-then-not-bit
returns-then-not-bit c =
    let x = c.args in let r = step-unused x.g x.x.tile x.x.marks x.x.above x.d x.n x.w.now (sym c.bit.ensures ∙ c.if-not-bit.true) in record { value = r.0; w_after = r.1 }

pub way_out-y-requires : goal.way_out-y-requires
way_out-y-requires c =
    record { way_room = room (goal.at.way_out-y-requires c).Else-not-bit }

pub returns-then-y-x : goal.returns-then-y-x
returns-then-y-x c =
    let x = c.args in let r = step_back x.g x.x.tile x.x.marks x.x.above x.d x.n x.w.now c.way_out-y.result c.way_out-y.ensures c.if-y-x.true in record { value = r.0; w_after = r.1 }

pub overflow_cast-w : goal.overflow_cast-w
overflow_cast-w c =
    omega (arith, small (goal.at.overflow_cast-w c).Else-y-x)

pub overflow_cast-w-2 : goal.overflow_cast-w-2
overflow_cast-w-2 c =
    omega (arith, small (goal.at.overflow_cast-w-2 c).Else-y-x)

pub bounds-w-above_at : goal.bounds-w-above_at
bounds-w-above_at c =
    omega (arith, c.args.g.shaped, c.requires.g_in_bounds, c.above_at.ensures.value, c.above_at.ensures.upper_bound, length-set c.args.w.now (c.stops_at.result + c.args.n) c.way_out-y.result.tile)

pub returns : goal.returns
returns c =
    let x = c.args in let r = step-on x.g x.x.tile x.x.marks x.x.above x.d x.n x.w.now (used (goal.at.returns c).Else-not-bit) c.way_out-y.result (way-is (goal.at.returns c).Else-y-x) c.if-y-x.false
    c.stops_at.result c.above_at.result c.stops_at.ensures.value c.above_at.ensures.value in record { value = r.0; w_after = r.1 }
