-- `one_way` meets its contract. The loop's invariant: the entries that are left say whether all go this way.
-- Assumes nothing.
use mathlib.Core.Path.{sym}
use native.Mathlib.Omega.{arith}
use Rattle.edges.proofs.Again.{left-bad, left-place, left_other, left-last, left-more}
use Rattle.edges.proofs.one_way.Goals as goal

pub returns-in_default : goal.returns-in_default
returns-in_default c =
    let a = c.args in
    rw (sym c.number-way.ensures) (left-bad a.s.now c.number-way.result a.from c.loop-e.i c.loop-e.invariant c.in_default.ensures)

pub returns-then-e-way : goal.returns-then-e-way
returns-then-e-way c =
    let a = c.args in
    rw (sym c.number-way.ensures) (left_other a.s.now c.number-way.result a.from c.loop-e.i c.loop-e.invariant c.in-Some.e c.in-Some.ensures c.if-e-way.true)

pub returns-then-e : goal.returns-then-e
returns-then-e c =
    let a = c.args in
    rw (sym c.number-way.ensures) (left-last a.s.now c.number-way.result a.from c.loop-e.i c.loop-e.invariant c.in-Some.e c.in-Some.ensures c.if-e-way.false c.if-e.true)

pub loop-e-smaller : goal.loop-e-smaller
loop-e-smaller c =
    let a = c.args in
    omega (arith, left-place a.s.now c.number-way.result a.from c.loop-e.i c.loop-e.invariant c.in-Some.e c.in-Some.ensures c.if-e.false)

pub loop-e-preserved : goal.loop-e-preserved
loop-e-preserved c =
    let a = c.args in
    left-more a.s.now c.number-way.result a.from c.loop-e.i c.loop-e.invariant c.in-Some.e c.in-Some.ensures c.if-e-way.false c.if-e.false
