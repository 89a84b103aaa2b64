-- `layers_in` meets its contract: those counted and those still to count are all.
-- Assumes nothing.
use mathlib.Core.Path.{◌≡◌}
use Prim.Native.Nat.{◌+◌, ◌-◌, ◌≤◌}
use lib.ListN.{length}
use Rattle.model.specs.Job.{runs}
use Rattle.model.specs.Lists.{up_from, keep}
use Rattle.layout.specs.Dirs.{dirs_of}
use Rattle.layout.proofs.layers_in.Given as goal

abbrev pub invariant-loop-l : goal.invariant-loop-l
invariant-loop-l l = (l.n ≤ l.l) × (l.l ≤ l.k) × (l.n + length (keep (runs (dirs_of l.k l.d) l.way) (up_from (l.l + 1) (l.k - l.l))) ≡ length (keep (runs (dirs_of l.k l.d) l.way) (up_from 1 l.k)))

abbrev pub decreases-loop-l : goal.decreases-loop-l
decreases-loop-l l = l.k - l.l
