-- `read_sizes` meets its contract: each line is read at the place behind the one before, and the first refusal decides.
-- Assumes nothing.
use mathlib.Core.Path.{◌≡◌, refl, sym}
use Prim.Native.Nat.{◌+◌}
use Rattle.std.proofs.lemmas.Result.{err_from_is_err_and}
use Rattle.head.specs.Reads.{sizes_in}
use Rattle.head.proofs.Fields.{Got, not-got, got}
use native.Mathlib.Omega.{arith}
use Rattle.head.proofs.read_sizes.Goals as goal
use Rattle.head.proofs.read_sizes.Goals.{In_ok-w, In_ok-h}

-- the width is read
module _ (c : In_ok-w) where
  width : Got "width" 1 64 c.args.s.now c.args.c c.in_ok-w.w c.in_ok-w.d
  width = got "width" 1 64 c.args.s.now c.args.c c.in_ok-w.w c.in_ok-w.d c.in_ok-w.ensures.result_value c.in_ok-w.ensures.field_in

-- and then the height
module _ (c : In_ok-h) where
  height : Got "height" 1 64 c.args.s.now c.in_ok-w.d c.in_ok-h.h c.in_ok-h.e
  height = got "height" 1 64 c.args.s.now c.in_ok-w.d c.in_ok-h.h c.in_ok-h.e c.in_ok-h.ensures.result_value c.in_ok-h.ensures.field_in

pub ranged-requires : goal.ranged-requires
ranged-requires c =
    let r = c.requires in (r.0, omega (arith, r.1), refl)

pub ranged-requires-2 : goal.ranged-requires-2
ranged-requires-2 c =
    let x = width (goal.at.ranged-requires-2 c).In_ok-w in (x.after.place, omega (arith, x.after.lines, c.requires.1), refl)

pub read_stack-requires : goal.read_stack-requires
read_stack-requires c =
    let x = width (goal.at.read_stack-requires c).In_ok-w in
    let y = height (goal.at.read_stack-requires c).In_ok-h in record { at_in_bounds = (y.after.place, omega (arith, y.after.lines, x.after.lines, c.requires.1)); le_w = (x.least, x.most, y.least, y.most) }

pub returns-in_err-w-clause-result_value : goal.returns-in_err-w-clause-result_value
unfolding sizes_in
returns-in_err-w-clause-result_value c =
    let p = err_from_is_err_and c.from_residual.result c.from_residual.ensures.1 in
    rw (p.1, p.2) (sym (rw (not-got "width" 1 64 c.args.s.now c.args.c c.in_err-w.field-0.0 c.in_err-w.ensures.result_value)))

pub returns-in_err-h-clause-result_value : goal.returns-in_err-h-clause-result_value
unfolding sizes_in
returns-in_err-h-clause-result_value c =
    let p = err_from_is_err_and c.from_residual-in_err-h.result c.from_residual-in_err-h.ensures.1 in
    let x = width (goal.at.returns-in_err-h-clause-result_value c).In_ok-w in
    rw (p.1, p.2) (sym (rw (x.read, not-got "height" 1 64 c.args.s.now c.in_ok-w.d c.in_err-h.field-0.0 c.in_err-h.ensures.result_value)))

pub returns : goal.returns
unfolding sizes_in
returns c =
    let x = width (goal.at.returns c).In_ok-w in
    let y = height (goal.at.returns c).In_ok-h in
    let l : c.args.c.line + 3 ≡ c.in_ok-h.e.line + 1 = omega (arith, x.after.lines, y.after.lines) in record { result_value = rw (x.read, y.read) c.read_stack.ensures.result_value; sizes_hold = rw l c.read_stack.ensures.sizes_hold }
