-- `read_nets` meets its contract.
-- Assumes nothing.
use mathlib.Core.Path.{◌≡◌}
use lib.ListN.{length}
use Rattle.layout.specs.Shapes.{sizes_of}
use Rattle.model.specs.Read.{nets}
use Rattle.text.specs.Refusals.{place_of}
use Rattle.nets.proofs.Loop.{Midway}
use Rattle.nets.proofs.read_nets.Given as goal

abbrev pub invariant-loop-i : goal.invariant-loop-i
invariant-loop-i l = Midway l.s l.g l.n l.initial.c.line l.initial.w l.w l.table (nets (sizes_of l.g) 1 l.n (place_of l.s l.initial.c)) l.c l.entries l.i × (length l.table ≡ length l.initial.table)
