-- `pin_at` meets its contract.
-- Assumes nothing.
use Prim.Native.Nat.{ℕ}
use native.Mathlib.Omega.{arith}
use Rattle.text.specs.Entries.{pin_entry_at}
use Rattle.known.proofs.Parts.{Layer, pin-first, pin-second, pin-third}
use Rattle.known.proofs.pin_at.Goals as goal
use Rattle.known.proofs.pin_at.Goals.{After-coordinate_at-y}

module _ (c : After-coordinate_at-y) where
  abbrev q : ℕ
  q = c.coordinate_at-y.result.next

  third : Layer c.args.s.now c.coordinate_at-x.result.value c.coordinate_at-y.result.value q (pin_entry_at c.args.s.now c.args.at)
  third =
      pin-third c.args.s.now c.args.at c.requires c.coordinate_at-x.result c.coordinate_at-x.ensures c.coordinate_at-y.result c.coordinate_at-y.ensures

pub coordinate_at-x-requires : goal.coordinate_at-x-requires
coordinate_at-x-requires c =
    pin-first c.args.s.now c.args.at c.requires

pub coordinate_at-y-requires : goal.coordinate_at-y-requires
coordinate_at-y-requires c =
    pin-second c.args.s.now c.args.at c.requires c.coordinate_at-x.result c.coordinate_at-x.ensures

pub bounds-s-n : goal.bounds-s-n
bounds-s-n c =
    omega (arith, (third (goal.at.bounds-s-n c).After-coordinate_at-y).room)

pub digit-l-requires : goal.digit-l-requires
digit-l-requires c =
    (third (goal.at.digit-l-requires c).After-coordinate_at-y).least

pub overflow_add-b : goal.overflow_add-b
overflow_add-b c =
    omega (arith, (third (goal.at.overflow_add-b c).After-coordinate_at-y).room)

pub bounds-s-n-2 : goal.bounds-s-n-2
bounds-s-n-2 c =
    omega (arith, (third (goal.at.bounds-s-n-2 c).After-coordinate_at-y).room)

pub overflow_add-result : goal.overflow_add-result
overflow_add-result c =
    omega (arith, (third (goal.at.overflow_add-result c).After-coordinate_at-y).room)

pub returns : goal.returns
returns c =
    ((third (goal.at.returns c).After-coordinate_at-y).ends c.digit-l.result c.digit-l.ensures.0).is
