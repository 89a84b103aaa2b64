-- `open_layers` meets its contract. The loop's invariant: the mask has the bits of the layers before i, and `value` is the next one's.
-- Assumes nothing.
use mathlib.Core.Path.{◌≡◌}
use Prim.Native.Nat.{◌-◌, ◌^◌, ◌≤◌}
use Rattle.tracks.specs.Legal.{open_in}
use Rattle.tracks.specs.Masks.{bits_up}
use Rattle.tracks.proofs.open_layers.Given as goal

abbrev pub invariant-loop-i : goal.invariant-loop-i
invariant-loop-i l = (l.i ≤ l.k) × (l.value ≡ 2 ^ l.i) × (l.mask ≡ bits_up (open_in l.w l.caps l.loads l.room) 0 l.i)

abbrev pub decreases-loop-i : goal.decreases-loop-i
decreases-loop-i l = l.k - l.i
