-- `layers_in` meets its contract: those counted and those still to count are all.
-- Assumes nothing.
use mathlib.Core.Path.{◌≡◌, refl, ap, ◌∙◌}
use Prim.Native.Nat.{ℕ, ◌+◌, ◌<◌, ◌≤◌}
use native.Mathlib.Nat.{sub-zero}
use native.Mathlib.Omega.{arith}
use lib.ListN.{length}
use Rattle.std.specs.Int.{from_bool}
use Rattle.std.specs.Prelude.{Bool, true, false}
use Rattle.model.specs.Job.{runs}
use Rattle.model.specs.Lists.{up_from, bit, keep}
use Rattle.layout.specs.Dirs.{dirs_of, count-more, count_none}
use Rattle.layout.proofs.layers_in.Goals as goal

-- a test as a number
bit-is : (b : Bool) → from_bool b ≡ bit b
bit-is true = refl
bit-is false = refl

bit-few : (b : Bool) → from_bool b ≤ 1
bit-few true = omega arith
bit-few false = omega arith

pub loop-l-init : goal.loop-l-init
loop-l-init c =
    let all = ap (λ (n : ℕ). length (keep (runs (dirs_of c.args.k c.args.d) c.args.way) (up_from 1 n))) (sub-zero c.args.k) in
    (omega arith, omega arith, omega (arith, all))

pub loop-l-preserved : goal.loop-l-preserved
loop-l-preserved c =
    let a = c.args in
    let f = runs (dirs_of a.k a.d) a.way in
    let more : c.loop-l.l < a.k = c.loop-l-test.true in
    let one : c.from-n.result ≡ bit (f (c.loop-l.l + 1)) = c.from-n.ensures ∙ bit-is c.runs.result ∙ ap bit (c.runs.ensures a.k more) in
    (omega (arith, c.loop-l.invariant.0, c.from-n.ensures, bit-few c.runs.result), omega arith, omega (arith, one, c.loop-l.invariant.2, count-more f c.loop-l.l a.k more))

pub returns : goal.returns
returns c =
    let a = c.args in record { value = omega (arith, c.loop-l.invariant.2, count_none (runs (dirs_of a.k a.d) a.way) c.loop-l.l a.k c.loop-l-test.false); upper_bound = omega (arith, c.loop-l.invariant.0, c.loop-l.invariant.1) }
