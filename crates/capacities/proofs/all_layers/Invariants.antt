-- `all_layers` meets its contract.
-- Assumes nothing.
use mathlib.Core.Path.{◌≡◌}
use Prim.Native.Nat.{◌+◌, ◌-◌, ◌*◌, ◌≤◌}
use lib.ListN.{length}
use Rattle.model.specs.Read.{capacity_lines}
use Rattle.layout.specs.Dirs.{dirs_of}
use Rattle.text.specs.Refusals.{place_of}
use Rattle.lines.specs.Told.{mapped}
use Rattle.capacities.specs.Capacities.{spread_all}
use Rattle.capacities.proofs.all_layers.Given as goal

abbrev pub invariant-loop-layer : goal.invariant-loop-layer
invariant-loop-layer l = (l.c.at ≤ length l.s) × (l.c.line ≡ l.initial.c.line + 2 * l.layer) × (length l.w ≡ length l.initial.w)
    × (mapped (spread_all l.g.k l.initial.w 0) (capacity_lines l.g.w l.g.h (dirs_of l.g.k l.g.dirs) 1 l.g.k (place_of l.s l.initial.c))
    ≡ mapped (spread_all l.g.k l.w l.layer) (capacity_lines l.g.w l.g.h (dirs_of l.g.k l.g.dirs) (l.layer + 1) (l.g.k - l.layer) (place_of l.s l.c)))

abbrev pub decreases-loop-layer : goal.decreases-loop-layer
decreases-loop-layer l = l.g.k - l.layer
