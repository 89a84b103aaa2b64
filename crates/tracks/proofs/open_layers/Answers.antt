-- `open_layers` meets its contract. The loop's invariant: the mask has the bits of the layers before i, and `value` is the next one's.
-- Assumes nothing.
use mathlib.Core.Bool.{Bool, cond}
use mathlib.Core.Path.{◌≡◌, refl, ap, ◌∙◌}
use Prim.Native.Nat.{ℕ, ◌≤◌, ◌<◌}
use native.Mathlib.Omega.{arith}
use Rattle.tracks.specs.Legal.{open_in}
use Rattle.tracks.specs.Masks.{bits_up, bits-few}
use Rattle.tracks.proofs.Turns.{bits-next, value-next, value-small, part_small}
use Rattle.tracks.proofs.open_layers.Goals as goal
use Rattle.tracks.proofs.open_layers.Goals.{At-loop-i}

-- mask and value are small
module _ (l : At-loop-i) where
  abbrev f : ℕ → Bool
  f = open_in l.args.w.now l.args.caps l.args.loads l.args.room

  few : l.loop-i.i ≤ 8
  few = omega (arith, l.loop-i.invariant.0, l.requires.k_in_bounds.2)

  mask-few : l.loop-i.mask < 256
  mask-few = omega (arith, l.loop-i.invariant.2, bits-few f 0 l.loop-i.i few)

  value-few : l.loop-i.value ≤ 256
  value-few = omega (arith, l.loop-i.invariant.1, value-small l.loop-i.i few)

pub loop-i-init : goal.loop-i-init
loop-i-init c =
    (omega arith, refl, refl)

pub open_to-mask-requires : goal.open_to-mask-requires
open_to-mask-requires c =
    c.requires.by_index c.loop-i.i (omega arith)

pub overflow_add-mask : goal.overflow_add-mask
overflow_add-mask c =
    omega (arith, mask-few (goal.at.overflow_add-mask c).At-loop-i, value-few (goal.at.overflow_add-mask c).At-loop-i, c.open_to-mask.ensures, part_small (f (goal.at.overflow_add-mask c).At-loop-i c.loop-i.i) c.loop-i.value)

pub overflow_mul-value : goal.overflow_mul-value
overflow_mul-value c =
    omega (arith, value-few (goal.at.overflow_mul-value c).At-loop-i)

pub loop-i-preserved : goal.loop-i-preserved
loop-i-preserved c = (
  omega arith,
  omega (arith, c.loop-i.invariant.1, value-next c.loop-i.i),
  omega (arith, c.loop-i.invariant.2, c.open_to-mask.ensures, ap (λ (v : ℕ). cond (f (goal.at.loop-i-preserved c).At-loop-i c.loop-i.i) v 0) c.loop-i.invariant.1, bits-next (f (goal.at.loop-i-preserved c).At-loop-i) c.loop-i.i),
)

pub returns : goal.returns
returns c =
    let e : c.loop-i.i ≡ c.args.k = omega arith in
    c.loop-i.invariant.2 ∙ ap (bits_up (f (goal.at.returns c).At-loop-i) 0) e
