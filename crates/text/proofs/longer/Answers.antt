-- `longer` meets its contract.
-- Assumes nothing.
use mathlib.Core.Path.{sym, ap, subst, ◌∙◌}
use Prim.Native.Nat.{ℕ}
use native.Mathlib.Omega.{arith}
use lib.ListN.{get_or}
use Rattle.std.specs.Prelude.{Some}
use Rattle.text.specs.Entries.{Brief}
use Rattle.text.specs.Number.{numeral}
use Rattle.text.proofs.Spelt.{brief-three}
use Rattle.text.proofs.longer.Goals as goal

pub returns-then-s-n : goal.returns-then-s-n
returns-then-s-n c =
    let a = c.args in
    let p = c.requires in
    let three = c.in_ok-n.ensures in
    subst (λ (k : ℕ). Brief a.s.now a.at a.end (Some (numeral c.in_ok-n.n.value k))) (omega (arith, three.1))
    (brief-three a.s.now a.at a.end p.1 p.0 c.in_ok-n.n.value three.0 (ap (λ (k : ℕ). get_or a.s.now k 0) (sym three.1) ∙ c.if-s-n.true))
