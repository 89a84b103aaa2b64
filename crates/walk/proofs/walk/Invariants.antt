-- `walk` meets its contract. The loop's invariant: of the n places written, those below i are taken out, and what stands there is the walk up to there.
-- The measure is what is left of the grid's tiles.
-- Assumes nothing.
use mathlib.Core.List.{List}
use Prim.Native.Nat.{ℕ, ◌-◌}
use Rattle.model.specs.Job.{Job, Net}
use Rattle.walk.proofs.Going.{Going, Begun}
use Rattle.walk.proofs.walk.Given as goal

abbrev pub invariant-loop-i : goal.invariant-loop-i
invariant-loop-i l = (j : Job) (net : Net) (e : List ℕ) → Begun l.g l.stamp j net l.root e l.initial.w → Going l.g l.stamp j net e l.w l.i l.n

abbrev pub decreases-loop-i : goal.decreases-loop-i
decreases-loop-i l = l.g.m - l.i
