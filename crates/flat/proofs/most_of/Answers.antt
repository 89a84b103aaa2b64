-- `most_of` meets its contract. The loop's invariant: what was found is the largest of the first numbers.
-- Assumes nothing.
use mathlib.Core.Path.{◌≡◌, refl, ap, ◌∙◌}
use Prim.Native.Nat.{ℕ, ◌+◌, ◌<◌}
use native.Mathlib.Omega.{arith}
use lib.ListN.{get_or}
use Rattle.flat.specs.FlatPlan.{most_at}
use Rattle.flat.proofs.Turns.{most-next, stretch-long, stretch_at}
use Rattle.flat.proofs.most_of.Goals as goal

pub loop-over-init : goal.loop-over-init
loop-over-init c =
    (omega arith, refl)

pub loop-over-preserved : goal.loop-over-preserved
loop-over-preserved c =
    let a = c.args in
    let i = c.loop-over.over-index in
    let h : i < a.n = omega (arith, c.loop-over-test.true, stretch-long a.at a.n a.w.now c.requires) in
    (omega (arith, h), omega (arith, c.loop-over.invariant.1, stretch_at a.at a.n a.w.now c.requires i h, most-next (λ i. get_or a.w.now (a.at + i) 0) i))

pub returns : goal.returns
returns c =
    let a = c.args in
    let e : c.loop-over.over-index ≡ a.n = omega (arith, c.loop-over.invariant.0, c.loop-over-test.false, stretch-long a.at a.n a.w.now c.requires) in
    c.loop-over.invariant.1 ∙ ap (λ (n : ℕ). most_at a.at n a.w.now) e
