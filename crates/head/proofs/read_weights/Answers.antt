-- `read_weights` meets its contract: each line is read at the place behind the one before, and the first refusal decides.
-- Assumes nothing.
use mathlib.Core.Path.{refl, sym}
use Rattle.std.proofs.lemmas.Result.{err_from_is_err_and}
use Rattle.head.specs.Reads.{weights_in}
use Rattle.head.proofs.Fields.{Got, not-got, got}
use native.Mathlib.Omega.{arith}
use Rattle.head.proofs.read_weights.Goals as goal
use Rattle.head.proofs.read_weights.Goals.{In_ok-alpha, In_ok-beta, In_ok-gamma}

-- alpha is read
module _ (c : In_ok-alpha) where
  alpha : Got "alpha" 0 255 c.args.s.now c.args.c c.in_ok-alpha.alpha c.in_ok-alpha.d
  alpha = got "alpha" 0 255 c.args.s.now c.args.c c.in_ok-alpha.alpha c.in_ok-alpha.d c.in_ok-alpha.ensures.result_value c.in_ok-alpha.ensures.field_in

-- then beta
module _ (c : In_ok-beta) where
  beta : Got "beta" 0 255 c.args.s.now c.in_ok-alpha.d c.in_ok-beta.beta c.in_ok-beta.e
  beta = got "beta" 0 255 c.args.s.now c.in_ok-alpha.d c.in_ok-beta.beta c.in_ok-beta.e c.in_ok-beta.ensures.result_value c.in_ok-beta.ensures.field_in

-- and then gamma
module _ (c : In_ok-gamma) where
  gamma : Got "gamma" 0 255 c.args.s.now c.in_ok-beta.e c.in_ok-gamma.gamma c.in_ok-gamma.f
  gamma = got "gamma" 0 255 c.args.s.now c.in_ok-beta.e c.in_ok-gamma.gamma c.in_ok-gamma.f c.in_ok-gamma.ensures.result_value c.in_ok-gamma.ensures.field_in

pub ranged-requires : goal.ranged-requires
ranged-requires c =
    let r = c.requires in (r.0, omega (arith, r.1), refl)

pub ranged-requires-2 : goal.ranged-requires-2
ranged-requires-2 c =
    let x = alpha (goal.at.ranged-requires-2 c).In_ok-alpha in (x.after.place, omega (arith, x.after.lines, c.requires.1), refl)

pub ranged-requires-3 : goal.ranged-requires-3
ranged-requires-3 c =
    let x = alpha (goal.at.ranged-requires-3 c).In_ok-alpha in
    let y = beta (goal.at.ranged-requires-3 c).In_ok-beta in (y.after.place, omega (arith, x.after.lines, y.after.lines, c.requires.1), refl)

pub returns-in_err-alpha-clause-result_value : goal.returns-in_err-alpha-clause-result_value
unfolding weights_in
returns-in_err-alpha-clause-result_value c =
    let p = err_from_is_err_and c.from_residual.result c.from_residual.ensures.1 in
    rw (p.1, p.2) (sym (rw (not-got "alpha" 0 255 c.args.s.now c.args.c c.in_err-alpha.field-0.0 c.in_err-alpha.ensures.result_value)))

pub returns-in_err-beta-clause-result_value : goal.returns-in_err-beta-clause-result_value
unfolding weights_in
returns-in_err-beta-clause-result_value c =
    let p = err_from_is_err_and c.from_residual-in_err-beta.result c.from_residual-in_err-beta.ensures.1 in
    let x = alpha (goal.at.returns-in_err-beta-clause-result_value c).In_ok-alpha in
    rw (p.1, p.2) (sym (rw (x.read, not-got "beta" 0 255 c.args.s.now c.in_ok-alpha.d c.in_err-beta.field-0.0 c.in_err-beta.ensures.result_value)))

pub returns-in_err-gamma-clause-result_value : goal.returns-in_err-gamma-clause-result_value
unfolding weights_in
returns-in_err-gamma-clause-result_value c =
    let p = err_from_is_err_and c.from_residual-in_err-gamma.result c.from_residual-in_err-gamma.ensures.1 in
    let x = alpha (goal.at.returns-in_err-gamma-clause-result_value c).In_ok-alpha in
    let y = beta (goal.at.returns-in_err-gamma-clause-result_value c).In_ok-beta in
    rw (p.1, p.2) (sym (rw (x.read, y.read, not-got "gamma" 0 255 c.args.s.now c.in_ok-beta.e c.in_err-gamma.field-0.0 c.in_err-gamma.ensures.result_value)))

pub returns : goal.returns
unfolding weights_in
returns c =
    let x = alpha (goal.at.returns c).In_ok-alpha in
    let y = beta (goal.at.returns c).In_ok-beta in
    let v = gamma (goal.at.returns c).In_ok-gamma in record { result_value = sym (rw (x.read, y.read, v.read)); weights_hold = (record { alpha = x.most; beta = y.most; gamma = v.most }, record { place = v.after.place; lines = omega (arith, x.after.lines, y.after.lines, v.after.lines) }) }
