-- `clear_way` meets its contract.
-- Assumes nothing.
use mathlib.Core.List.{List}
use mathlib.Core.Path.{ap, ◌∙◌}
use Prim.Native.Nat.{ℕ, ◌+◌}
use native.Mathlib.Omega.{arith}
use lib.ListN.{length}
use Rattle.marks.specs.Marks.{marked, unmark, unmark-long}
use Rattle.cut.specs.Stripping.{back_of}
use Rattle.cut.proofs.clear_way.Goals as goal

pub clear_mark-requires : goal.clear_mark-requires
clear_mark-requires c =
    (c.requires.here_in_bounds.0, omega (arith, c.requires.here_in_bounds.2), c.requires.d_value.0)

pub clear_mark-requires-2 : goal.clear_mark-requires-2
clear_mark-requires-2 c =
    let a = c.args in (
      omega (arith, c.requires.here_in_bounds.1, ap length c.clear_mark.ensures, unmark-long a.stamp a.a.now a.here (8 + a.d)),
      omega (arith, c.requires.here_in_bounds.2),
      ap (λ (l : List ℕ). marked a.stamp l a.there (8 + back_of a.d)) c.clear_mark.ensures ∙ c.requires.d_value.1,
    )

pub returns : goal.returns
returns c =
    let a = c.args in
    c.clear_mark-2.ensures
    ∙ ap (λ (l : List ℕ). unmark a.stamp l a.there (8 + back_of a.d)) c.clear_mark.ensures
