-- `put_layers` meets its contract.
-- Assumes nothing.
use Prim.Native.Nat.{◌+◌}
use lib.ListN.{set, length-set}
use Rattle.engine.proofs.Layers.{put-none, put_one, put_two, put_three}
use native.Mathlib.Omega.{arith}
use Rattle.engine.proofs.put_layers.Goals as goal

pub returns-then-k-eq0 : goal.returns-then-k-eq0
returns-then-k-eq0 c =
    let g = c.args in
    put-none g.w.now g.at g.k g.a g.b g.c (omega arith)

pub returns-then-k-eq1 : goal.returns-then-k-eq1
returns-then-k-eq1 c =
    let g = c.args in
    put_one g.w.now g.at g.k g.a g.b g.c (omega arith)

pub bounds-w-at-2 : goal.bounds-w-at-2
bounds-w-at-2 c =
    let g = c.args in
    omega (arith, length-set g.w.now g.at g.a)

pub returns-then-k-eq2 : goal.returns-then-k-eq2
returns-then-k-eq2 c =
    let g = c.args in
    put_two g.w.now g.at g.k g.a g.b g.c (omega arith)

pub bounds-w-at-3 : goal.bounds-w-at-3
bounds-w-at-3 c =
    let g = c.args in
    omega (arith, length-set g.w.now g.at g.a, length-set (set g.w.now g.at g.a) (g.at + 1) g.b)

pub returns : goal.returns
returns c =
    let g = c.args in
    put_three g.w.now g.at g.k g.a g.b g.c (omega arith)
