-- `ranged` meets its contract.
-- Assumes nothing.
use mathlib.Core.Path.{sym}
use Rattle.std.proofs.lemmas.Result.{err_from_is_err_and}
use Rattle.text.specs.Refusals.{place_of}
use Rattle.lines.proofs.Ranges.{range-refused, range-low, range-high, range-in}
use Rattle.lines.proofs.ranged.Goals as goal
use Rattle.lines.proofs.ranged.Goals.{then-v-low-via-then-v-low, then-v-low-via-else-v-low+then-high-v}

pub returns-in_err-v-clause-result_value : goal.returns-in_err-v-clause-result_value
returns-in_err-v-clause-result_value c =
    let a = c.args in
    let p = err_from_is_err_and c.from_residual.result c.from_residual.ensures.1 in
    rw (p.1, p.2) (sym (range-refused a.key.now a.low a.high (place_of a.s.now a.c) _ _ (sym c.in_err-v.ensures.result_value)))

pub returns-then-v-low-clause-result_value : goal.returns-then-v-low-clause-result_value
returns-then-v-low-clause-result_value c =
    let a = c.args in
    let q = place_of a.s.now c.in_ok-v.d in
    let e = sym c.in_ok-v.ensures.result_value in
    elim c.then-v-low.branch [
      | then-v-low-via-then-v-low w ↦ sym (range-low a.key.now a.low a.high (place_of a.s.now a.c) c.in_ok-v.v q e w.if-v-low.true)
      | then-v-low-via-else-v-low+then-high-v w ↦ sym (range-high a.key.now a.low a.high (place_of a.s.now a.c) c.in_ok-v.v q e w.if-v-low.false w.if-high-v.true)
    ]

pub returns-clause-result_value : goal.returns-clause-result_value
returns-clause-result_value c =
    let a = c.args in
    sym (range-in a.key.now a.low a.high (place_of a.s.now a.c) c.in_ok-v.v (place_of a.s.now c.in_ok-v.d) (sym c.in_ok-v.ensures.result_value) c.if-v-low.false c.if-high-v.false)
