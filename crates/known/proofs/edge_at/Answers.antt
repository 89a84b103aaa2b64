-- `edge_at` meets its contract.
-- Assumes nothing.
use mathlib.Core.Bool.{cond}
use mathlib.Core.Path.{ap, ◌∙◌}
use Prim.Native.Nat.{ℕ, ◌+◌}
use native.Mathlib.Omega.{arith}
use lib.Dec.{eqb}
use lib.ListN.{get_or}
use Rattle.std.specs.Prelude.{Some}
use Rattle.text.specs.Entries.{entry, edge_entry_at}
use Rattle.known.proofs.Parts.{Ended, edge-first, edge-second, edge-third}
use Rattle.known.proofs.edge_at.Goals as goal
use Rattle.known.proofs.edge_at.Goals.{After-coordinate_at-y}

module _ (c : After-coordinate_at-y) where
  abbrev q : ℕ
  q = c.coordinate_at-y.result.next

  third : Ended c.args.s.now c.coordinate_at-x.result.value c.coordinate_at-y.result.value q (cond (eqb (get_or c.args.s.now q 0) 110) 1 0)
      (edge_entry_at c.args.s.now c.args.at)
  third =
      edge-third c.args.s.now c.args.at c.requires c.coordinate_at-x.result c.coordinate_at-x.ensures c.coordinate_at-y.result c.coordinate_at-y.ensures

pub coordinate_at-x-requires : goal.coordinate_at-x-requires
coordinate_at-x-requires c =
    edge-first c.args.s.now c.args.at c.requires

pub coordinate_at-y-requires : goal.coordinate_at-y-requires
coordinate_at-y-requires c =
    edge-second c.args.s.now c.args.at c.requires c.coordinate_at-x.result c.coordinate_at-x.ensures

pub bounds-s-n : goal.bounds-s-n
bounds-s-n c =
    omega (arith, (third (goal.at.bounds-s-n c).After-coordinate_at-y).room)

pub overflow_add-b : goal.overflow_add-b
overflow_add-b c =
    omega (arith, (third (goal.at.overflow_add-b c).After-coordinate_at-y).room)

pub bounds-s-n-2 : goal.bounds-s-n-2
bounds-s-n-2 c =
    omega (arith, (third (goal.at.bounds-s-n-2 c).After-coordinate_at-y).room)

pub overflow_add-result : goal.overflow_add-result
overflow_add-result c =
    omega (arith, (third (goal.at.overflow_add-result c).After-coordinate_at-y).room)

pub returns : goal.returns
returns c =
    let b = get_or c.args.s.now (q (goal.at.returns c).After-coordinate_at-y + 1) 0 in
    ap (λ (z : ℕ). Some (entry c.coordinate_at-x.result.value c.coordinate_at-y.result.value z (q (goal.at.returns c).After-coordinate_at-y + 2) (eqb b 10))) c.way-d.ensures
    ∙ (third (goal.at.returns c).After-coordinate_at-y).is
