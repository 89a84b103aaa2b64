-- `any_low` meets its contract. The loop's invariant: none of the first i nets has a line `low`.
-- Assumes nothing.
use mathlib.Core.Bool.{Bool, true, false, cond}
use mathlib.Core.List.{List}
use mathlib.Core.Path.{◌≡◌, ap, ◌∙◌, sym}
use Prim.Native.Nat.{ℕ, suc, ◌+◌, ◌-◌, ◌≤◌, ◌<◌}
use native.Mathlib.Omega.{arith}
use borrow.Author.Tests.{lt-ltb, le-ltb}
use lib.Dec.{ltb}
use Rattle.layout.specs.Table.{low_in}
use Rattle.model.specs.Lists.{up_from, any}
use Rattle.directives.proofs.any_low.Goals as goal

-- the nets from i on are left to look at
module _ (table : List ℕ) where
  abbrev low : ℕ → Bool
  low i = ltb 0 (low_in table i)

  step : (i n : ℕ) → i < n → any low (up_from i (n - i)) ≡ cond (low i) true (any low (up_from (suc i) (n - suc i)))
  step i n h = let e : n - i ≡ suc (n - suc i) = omega arith in ap (λ (m : ℕ). any low (up_from i m)) e

  there : (i n : ℕ) → i < n → 0 < low_in table i → any low (up_from i (n - i)) ≡ true
  there i n h p = let e : low i ≡ true = lt-ltb 0 (low_in table i) p in step i n h ∙ ap (λ (b : Bool). cond b true (any low (up_from (suc i) (n - suc i)))) e

  absent : (i n : ℕ) → i < n → low_in table i ≤ 0 → any low (up_from i (n - i)) ≡ any low (up_from (suc i) (n - suc i))
  absent i n h p = let e : low i ≡ false = le-ltb 0 (low_in table i) p in step i n h ∙ ap (λ (b : Bool). cond b true (any low (up_from (suc i) (n - suc i)))) e

pub loop-i-init : goal.loop-i-init
loop-i-init c =
    (omega arith, let e : c.args.n ≡ c.args.n - 0 = omega arith in ap (λ (m : ℕ). any (low c.args.table.now) (up_from 0 m)) e)

pub low_in-requires : goal.low_in-requires
low_in-requires c =
    (omega (arith, c.loop-i-test.true, c.requires.0), c.requires.1)

pub returns-then-low_in-gt0 : goal.returns-then-low_in-gt0
returns-then-low_in-gt0 c =
    let x = c.args in
    sym (c.loop-i.invariant.1 ∙ there x.table.now c.loop-i.i x.n c.loop-i-test.true (omega (arith, c.if-low_in-gt0.true, c.low_in.ensures.value)))

pub loop-i-preserved : goal.loop-i-preserved
loop-i-preserved c =
    let x = c.args in
    let e : suc c.loop-i.i ≡ c.loop-i.i + 1 = omega arith in (
      omega (arith, c.loop-i-test.true),
      c.loop-i.invariant.1
          ∙ absent x.table.now c.loop-i.i x.n c.loop-i-test.true (omega (arith, c.if-low_in-gt0.false, c.low_in.ensures.value))
          ∙ ap (λ (k : ℕ). any (low x.table.now) (up_from k (x.n - k))) e,
    )

pub returns : goal.returns
returns c =
    let x = c.args in
    let e : x.n - c.loop-i.i ≡ 0 = omega (arith, c.loop-i-test.false) in
    sym (c.loop-i.invariant.1 ∙ ap (λ (m : ℕ). any (low x.table.now) (up_from c.loop-i.i m)) e)
