-- `count_edge` meets its contract: one number is one more.
-- Assumes nothing.
use mathlib.Core.List.{List}
use mathlib.Core.Path.{◌≡◌}
use Prim.Native.Nat.{ℕ, ◌+◌, ◌-◌, ◌<◌}
use native.Mathlib.Omega.{arith}
use lib.ListN.{length, get_or, set}
use Rattle.layout.specs.declared.shape.Shape.{Shape}
use Rattle.directives.specs.Counts.{cell, one_more}
use Rattle.directives.specs.Marked.{cell-inside}
use Rattle.directives.proofs.count_edge.Goals as goal
use Rattle.directives.proofs.count_edge.Goals.{After-edge_at}

-- the number that is stored, at the place that the code finds
stored : (g : Shape) (t e : ℕ) (w : List ℕ) (at : ℕ) → at ≡ cell g e t → set w at (get_or w at 0 + 1) ≡ one_more g t e w
unfolding one_more
stored g t e w at h = rw h

module _ (c : After-edge_at) where
  abbrev at : ℕ
  at = c.loads_at.result + (c.edge_at.result + (c.args.low - 1))

  at-is : at ≡ cell c.args.g c.args.edge c.args.low
  at-is = omega (arith, c.loads_at.ensures.value, c.edge_at.ensures.0)

  inside : at < length c.args.w.now
  inside = omega (arith, at-is, cell-inside c.args.g c.args.edge c.args.low c.requires.edge_lt_e.0 c.requires.edge_lt_e.1 c.requires.edge_lt_e.2, c.requires.edge_lt_e.3)

  small : at < 1048576
  small = omega (arith, at-is, cell-inside c.args.g c.args.edge c.args.low c.requires.edge_lt_e.0 c.requires.edge_lt_e.1 c.requires.edge_lt_e.2, c.args.g.shaped.e_most)

  few : get_or c.args.w.now at 0 + 1 < 4294967296
  few = let e = at-is in rw e (omega (arith, c.requires.edge_lt_e.4))

pub overflow_sub-at : goal.overflow_sub-at
overflow_sub-at c =
    omega (arith, c.requires.edge_lt_e.1)

pub overflow_add-at : goal.overflow_add-at
overflow_add-at c =
    omega (arith, small (goal.at.overflow_add-at c).After-edge_at)

pub overflow_add-at-2 : goal.overflow_add-at-2
overflow_add-at-2 c =
    omega (arith, small (goal.at.overflow_add-at-2 c).After-edge_at)

pub offset_bounds-w-at : goal.offset_bounds-w-at
offset_bounds-w-at c =
    omega (arith, small (goal.at.offset_bounds-w-at c).After-edge_at)

pub bounds-w-at : goal.bounds-w-at
bounds-w-at c =
    inside (goal.at.bounds-w-at c).After-edge_at

pub overflow_add-w : goal.overflow_add-w
overflow_add-w c =
    omega (arith, few (goal.at.overflow_add-w c).After-edge_at)

pub offset_bounds-w-at-2 : goal.offset_bounds-w-at-2
offset_bounds-w-at-2 c =
    omega (arith, small (goal.at.offset_bounds-w-at-2 c).After-edge_at)

pub bounds-w-at-2 : goal.bounds-w-at-2
bounds-w-at-2 c =
    inside (goal.at.bounds-w-at-2 c).After-edge_at

pub returns : goal.returns
returns c =
    let x = c.args in stored x.g x.low x.edge x.w.now (at (goal.at.returns c).After-edge_at) (at-is (goal.at.returns c).After-edge_at)
