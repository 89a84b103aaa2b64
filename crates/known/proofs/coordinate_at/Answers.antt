-- `coordinate_at` meets its contract.
-- Assumes nothing.
use mathlib.Core.Path.{ap₂, ◌∙◌}
use Prim.Native.Nat.{ℕ, ◌+◌, ◌-◌}
use native.Mathlib.Omega.{arith}
use Rattle.std.specs.Prelude.{Some}
use Rattle.text.specs.Number.{numeral}
use Rattle.known.proofs.Parts.{Coordinates, coordinates, decoded}
use Rattle.known.proofs.coordinate_at.Goals as goal
use Rattle.known.proofs.coordinate_at.Goals.{Start}

bytes : (s : Start) → Coordinates s.args.s.now s.args.at
bytes s = coordinates s.args.s.now s.args.at s.requires

pub bounds-s-at : goal.bounds-s-at
bounds-s-at c =
    omega (arith, (bytes (goal.at.bounds-s-at c).Start).room)

pub digit-first-requires : goal.digit-first-requires
digit-first-requires c =
    (bytes (goal.at.digit-first-requires c).Start).first_least

pub overflow_add-b : goal.overflow_add-b
overflow_add-b c =
    omega (arith, (bytes (goal.at.overflow_add-b c).Start).room)

pub bounds-s-at-2 : goal.bounds-s-at-2
bounds-s-at-2 c =
    (bytes (goal.at.bounds-s-at-2 c).Start).room

pub overflow_add-next : goal.overflow_add-next
overflow_add-next c =
    omega (arith, (bytes (goal.at.overflow_add-next c).Start).room)

pub returns : goal.returns
returns c =
    ap₂ (λ (a b : ℕ). Some (numeral a (c.args.at + 3 - b))) c.digits-value.ensures c.comma.ensures.value
    ∙ decoded c.args.s.now c.args.at (bytes (goal.at.returns c).Start) c.digit-first.result c.digit-first.ensures.0
