-- `place_all` meets its contract. The loop's invariant: k nets have had their turns (`Mid`), and no length has changed; n - k falls.
-- Assumes nothing.
use mathlib.Core.Path.{◌≡◌}
use Prim.Native.Nat.{◌-◌, ◌*◌, ◌≤◌}
use lib.ListN.{length}
use Rattle.model.specs.Job.{Job}
use Rattle.model.specs.Read.{Lent}
use Rattle.placing.specs.Turns.{Start}
use Rattle.placing.proofs.Loop.{Mid}
use Rattle.flat.specs.Limited.{limit_at}
use Rattle.placing.proofs.place_all.Given as goal

abbrev pub invariant-loop-k : goal.invariant-loop-k
invariant-loop-k l = (length l.w ≡ length l.initial.w) × (length l.table ≡ length l.initial.table) × (length l.answer ≡ length l.initial.answer) × (l.k ≤ l.job.nets) × (l.vias ≤ l.k * 4294967296)
    × ((lent : Lent) (j : Job) (start : Start l.s l.job.frame.shape l.job.nets (limit_at l.job.frame.limits) l.initial.w l.initial.table (length l.initial.answer) lent j)
    → Mid l.s l.job.frame.shape l.job.nets l.w l.table l.initial.answer l.answer l.vias l.k lent j start.accepted)

abbrev pub decreases-loop-k : goal.decreases-loop-k
decreases-loop-k l = l.job.nets - l.k
