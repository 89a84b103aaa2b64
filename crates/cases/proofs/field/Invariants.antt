-- What is read so far has at most seven digits.
use Rattle.std.proofs.Common.{◌<◌}
use Rattle.cases.proofs.field.Given as goal

abbrev pub invariant-loop-b : goal.invariant-loop-b
invariant-loop-b l = l.v < 10000000
