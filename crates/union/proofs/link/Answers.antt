-- `link` meets its contract.
-- Assumes nothing.
use mathlib.Core.Path.{◌≡◌}
use Prim.Native.Nat.{min, max}
use native.Mathlib.Omega.{arith}
use Rattle.union.proofs.link.Goals as goal

pub returns-then-p-q : goal.returns-then-p-q
returns-then-p-q c =
    let a = c.args in
    let top : max a.p a.q ≡ a.q = omega (arith, c.if-p-q.true) in
    let low : min a.p a.q ≡ a.p = omega (arith, c.if-p-q.true) in
    rw (top, low) c.put.ensures

pub returns-else-p-q : goal.returns-else-p-q
returns-else-p-q c =
    let a = c.args in
    let top : max a.p a.q ≡ a.p = omega (arith, c.if-p-q.false) in
    let low : min a.p a.q ≡ a.q = omega (arith, c.if-p-q.false) in
    rw (top, low) c.put-else-p-q.ensures
