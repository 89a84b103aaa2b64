-- Both halves are read where they stand.
use mathlib.Core.Path.{ap, ap₂, ◌∙◌}
use Prim.Native.Nat.{ℕ, ◌+◌, ◌*◌, ◌/◌}
use lib.ListN.{get_or}
use Rattle.layout.proofs.score_in.Goals as goal

pub returns : goal.returns
returns c =
    let a = c.args in
    ap₂ (λ (x y : ℕ). x + 4294967296 * y)
    (c.from-low.ensures ∙ ap (λ (k : ℕ). get_or a.table.now k 0) c.at.ensures.value)
    (c.from-high.ensures ∙ ap (λ (k : ℕ). get_or a.table.now k 0 / 16) c.at-2.ensures.value)
