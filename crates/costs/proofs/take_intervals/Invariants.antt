-- `take_intervals` meets its contract. The loop's invariant: the layers from b on have taken the least of the ends, and `least` is the least so far.
-- Assumes nothing.
use mathlib.Core.Path.{◌≡◌}
use Prim.Native.Nat.{◌≤◌, min}
use lib.ListN.{get_or}
use Rattle.costs.specs.Intervals.{least_end}
use Rattle.costs.proofs.Steps.{FilledDown}
use Rattle.costs.proofs.take_intervals.Given as goal

abbrev pub invariant-loop-b : goal.invariant-loop-b
invariant-loop-b l = (l.s ≤ l.b) × (l.b ≤ l.layers) × (l.least ≡ least_end (λ e. get_or l.v e 0) l.layers l.high l.b)
    × FilledDown l.initial.c l.c (λ t. min (get_or l.initial.c t 0) (least_end (λ e. get_or l.v e 0) l.layers l.high t)) l.layers l.b
