-- `close_edge` meets its contract. The loop's invariant: the nets of the first l layers are as they should be, and the rest is as it was.
-- Assumes nothing.
use mathlib.Core.Path.{◌≡◌, ap, ap₂, ◌∙◌}
use mathlib.Core.Bool.{Bool, cond}
use Prim.Native.Nat.{ℕ, ◌+◌, ◌≤◌, ◌<◌}
use native.Mathlib.Omega.{arith}
use lib.ListN.{length}
use Rattle.layout.specs.Dirs.{dirs_of, heading_number}
use Rattle.model.specs.Job.{runs as runs_in}
use Rattle.layout.specs.Fill.{filled_none, filled_next}
use Rattle.net.specs.SoFar.{closed_load}
use Rattle.tracks.specs.Shut.{row_at, shut_from, shut_row}
use Rattle.tracks.proofs.close_edge.Goals as goal
use Rattle.tracks.proofs.close_edge.Goals.{At-loop-l}

-- where the nets of the edge stand
module _ (i : At-loop-l) where
  abbrev at : ℕ
  at = i.loads_at.result + i.edge_at.result

  at-is : at ≡ row_at i.args.g i.args.edge
  at-is = ap₂ (λ (a b : ℕ). a + b) i.loads_at.ensures.value i.edge_at.ensures.0

  room : at + i.args.g.k ≤ length i.args.w.now
  room = omega (arith, i.loads_at.ensures.value, i.edge_at.ensures.1, i.requires.edge_lt_e.1)

pub loop-l-init : goal.loop-l-init
loop-l-init c =
    (omega arith, filled_none _ _ _)

pub overflow_add-nets : goal.overflow_add-nets
overflow_add-nets c =
    omega (arith, room (goal.at.overflow_add-nets c).At-loop-l)

pub bounds-w-at : goal.bounds-w-at
bounds-w-at c =
    omega (arith, room (goal.at.bounds-w-at c).At-loop-l, c.loop-l.invariant.1.outside.long)

pub runs-requires : goal.runs-requires
runs-requires c =
    omega (arith, c.loop-l-test.true, c.args.g.shaped.k_most)

pub overflow_add-w : goal.overflow_add-w
overflow_add-w c =
    omega (arith, room (goal.at.overflow_add-w c).At-loop-l, c.loop-l-test.true)

pub bounds-w-at-in-loop-l : goal.bounds-w-at-in-loop-l
bounds-w-at-in-loop-l c =
    omega (arith, room (goal.at.bounds-w-at-in-loop-l c).At-loop-l, c.loop-l-test.true, c.loop-l.invariant.1.outside.long)

pub loop-l-preserved : goal.loop-l-preserved
loop-l-preserved c =
    let a = c.args in
    let here : c.loop-l.l < a.g.k = c.loop-l-test.true in
    let kept = c.loop-l.invariant.1.outside.high (at (goal.at.loop-l-preserved c).At-loop-l + c.loop-l.l) (omega arith) in (
      omega arith,
      filled_next (at (goal.at.loop-l-preserved c).At-loop-l) c.loop-l.l (shut_from a.g.k a.g.dirs (heading_number a.heading) a.w.now (at (goal.at.loop-l-preserved c).At-loop-l)) a.w.now c.loop-l.w c.shut.result c.loop-l.invariant.1 (omega (arith, room (goal.at.loop-l-preserved c).At-loop-l))
          (c.shut.ensures ∙ ap₂ (λ (b : Bool) (n : ℕ). cond b n closed_load) (c.runs.ensures a.g.k here ∙ ap (λ (way : ℕ). runs_in (dirs_of a.g.k a.g.dirs) way (c.loop-l.l + 1)) c.number.ensures) kept),
    )

pub shape_of-w : goal.shape_of-w
shape_of-w c =
    c.loop-l.invariant.1.outside.long

pub returns : goal.returns
returns c =
    let a = c.args in
    shut_row a.g (heading_number a.heading) a.w.now c.loop-l.w a.edge (at (goal.at.returns c).At-loop-l) c.loop-l.l (at-is (goal.at.returns c).At-loop-l) (omega (arith, c.loop-l.invariant.0, c.loop-l-test.false)) c.loop-l.invariant.1
