-- `sum_excess` meets its contract. The loop's invariant: the excess of the first e edges is summed.
-- Assumes nothing.
use mathlib.Core.List.{List}
use mathlib.Core.Path.{◌≡◌, ap}
use Prim.Native.Nat.{ℕ, suc, ◌+◌}
use native.Mathlib.Omega.{arith}
use Rattle.layout.specs.declared.shape.Shape.{Shape}
use Rattle.model.specs.Lists.{up_from, sum}
use Rattle.theory.specs.congestion.Lists.{sum-snoc}
use Rattle.directives.specs.Counts.{excess_in}
use Rattle.directives.proofs.sum_excess.Goals as goal

-- one edge more
one_more : (g : Shape) (w : List ℕ) (e r : ℕ) → r ≡ excess_in g w e → sum (excess_in g w) (up_from 0 e) + r ≡ sum (excess_in g w) (up_from 0 (e + 1))
one_more g w e r h =
    let a : e + 1 ≡ suc e = omega arith in
    let z : 0 + e ≡ e = omega arith in
    omega (arith, h, sum-snoc (excess_in g w) 0 e, ap (excess_in g w) z, ap (λ (m : ℕ). sum (excess_in g w) (up_from 0 m)) a)

pub loop-e-init : goal.loop-e-init
loop-e-init c =
    (omega arith, omega arith, omega arith)

pub edge_excess-requires : goal.edge_excess-requires
edge_excess-requires c =
    record { edge_lt_e = (c.loop-e-test.true, c.requires.g_in_bounds.0, c.requires.g_in_bounds.1 c.loop-e.e c.loop-e-test.true) }

pub overflow_add-total : goal.overflow_add-total
overflow_add-total c =
    omega (arith, c.loop-e.invariant.2, c.edge_excess.ensures.upper_bound, c.loop-e-test.true, c.args.g.shaped.e_most)

pub loop-e-smaller : goal.loop-e-smaller
loop-e-smaller c =
    omega (arith, c.loop-e-test.true)

pub loop-e-preserved : goal.loop-e-preserved
loop-e-preserved c =
    let x = c.args in (
      omega (arith, c.loop-e-test.true),
      omega (arith, c.loop-e.invariant.1, one_more x.g x.w.now c.loop-e.e c.edge_excess.result c.edge_excess.ensures.value),
      omega (arith, c.loop-e.invariant.2, c.edge_excess.ensures.upper_bound),
    )

pub returns : goal.returns
returns c =
    let x = c.args in
    let q : c.loop-e.e ≡ x.g.e = omega (arith, c.loop-e.invariant.0, c.loop-e-test.false) in
    omega (arith, c.loop-e.invariant.1, ap (λ (m : ℕ). sum (excess_in x.g x.w.now) (up_from 0 m)) q)
