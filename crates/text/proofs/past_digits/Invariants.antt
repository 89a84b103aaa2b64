-- `past_digits` meets its contract: a loop over digits.
-- The invariant: the digits found so far and the run of digits from here on make the run from `at` on; what is left of the text falls.
-- Assumes nothing.
use mathlib.Core.Path.{◌≡◌}
use Prim.Native.Nat.{◌+◌, ◌-◌}
use lib.ListN.{length, drop}
use Rattle.text.specs.Number.{digit_run}
use Rattle.text.proofs.past_digits.Given as goal

abbrev pub invariant-loop-i : goal.invariant-loop-i
invariant-loop-i l = l.at + length (digit_run (drop l.at l.s)) ≡ l.i + length (digit_run (drop l.i l.s))

abbrev pub decreases-loop-i : goal.decreases-loop-i
decreases-loop-i l = length l.s - l.i
