-- `mark_both` meets its contract.
-- Assumes nothing.
use mathlib.Core.List.{List}
use mathlib.Core.Path.{◌≡◌, ap, ◌∙◌}
use Prim.Native.Nat.{ℕ, ◌+◌}
use native.Mathlib.Omega.{arith}
use lib.ListN.{length}
use Rattle.marks.specs.Marks.{marks_after}
use Rattle.ways.specs.Ends.{after-long, after-fits}
use Rattle.netread.specs.Edges.{both_long}
use Rattle.netread.proofs.Adds.{way-bits}
use Rattle.netread.proofs.mark_both.Goals as goal
use Rattle.netread.proofs.mark_both.Goals.{After-add_mark, After-slice_known-3-1}

module _ (m : After-add_mark) where
  first : m.add_mark.new.a ≡ marks_after m.args.stamp m.args.a.now m.args.here (8 + m.args.d)
  first = m.add_mark.ensures (8 + m.args.d) (omega (arith, m.requires.here_in_bounds.2)) (way-bits m.args.d m.requires.here_in_bounds.2).0

pub add_mark-requires-2 : goal.add_mark-requires-2
add_mark-requires-2 c =
    let x = c.args in record {
      t_in_bounds = (
        omega (arith, c.requires.here_in_bounds.1, ap length (first (goal.at.add_mark-requires-2 c).After-add_mark), after-long x.stamp x.a.now x.here (8 + x.d)),
        c.requires.here_in_bounds.3,
      );
      fits = rw (first (goal.at.add_mark-requires-2 c).After-add_mark) (after-fits x.stamp x.a.now x.here (8 + x.d) c.requires.here_in_bounds.0 (omega (arith, c.requires.here_in_bounds.2)) c.requires.fits);
    }

pub returns : goal.returns
returns c =
    let x = c.args in
    c.add_mark-2.ensures (10 + x.d) (omega (arith, c.requires.here_in_bounds.2)) (way-bits x.d c.requires.here_in_bounds.2).1
    ∙ ap (λ (l : List ℕ). marks_after x.stamp l x.there (10 + x.d)) (first (goal.at.returns c).After-add_mark)

pub shape_of-a : goal.shape_of-a
shape_of-a c =
    let x = c.args in
    ap length (returns (goal.at.shape_of-a c).After-slice_known-3-1) ∙ both_long x.stamp x.a.now x.here x.there x.d
