-- `read_stack` meets its contract: the number of the line `layers`, judged by the stack's limits (`Stacks.antt`).
-- Assumes nothing.
use mathlib.Core.Path.{◌≡◌, refl, sym, ap, ◌∙◌, subst}
use Prim.Native.Nat.{ℕ}
use lib.ListN.{length}
use Rattle.std.specs.Prelude.{Option, Some, None}
use Rattle.std.specs.Option.{ok_or}
use Rattle.std.specs.Result.{result_ok}
use Rattle.std.proofs.lemmas.Result.{err_from_is_err_and}
use Rattle.text.specs.Refusals.{place_of, number_of, line_of}
use Rattle.text.specs.declared.Fault.TheVariants.{Range}
use Rattle.text.specs.declared.Refusal.TheVariants.{Line}
use Rattle.layout.specs.Shapes.{stack_of}
use Rattle.layout.specs.declared.Stack.{Stack}
use Rattle.head.specs.Told.{sizes_hold}
use Rattle.head.proofs.Stacks.{stack-limits, stack-refused, stack-outside, stack-inside}
use native.Mathlib.Omega.{arith}
use Rattle.head.proofs.read_stack.Goals as goal
use Rattle.head.proofs.read_stack.Goals.{In_ok-stack}

-- the stack that was made
module _ (k : In_ok-stack) where
  made : stack_of k.in_ok-k.k ≡ Some k.in_ok-stack.stack
  made = sym k.new.ensures ∙ k.ok_or.ensures.ok_part ∙ ap result_ok k.in_ok-stack.was

pub number_line-requires : goal.number_line-requires
number_line-requires c =
    let r = c.requires.at_in_bounds in (r.0, omega (arith, r.1), refl)

pub read_ways-requires : goal.read_ways-requires
read_ways-requires c =
    let f = c.in_ok-k.ensures.field_in in
    let l = stack-limits c.in_ok-k.k c.in_ok-stack.stack (made (goal.at.read_ways-requires c).In_ok-stack) in
    record { at_in_bounds = (f.place, omega (arith, f.lines, c.requires.at_in_bounds.1)); le_w = (c.requires.le_w.0, c.requires.le_w.1, c.requires.le_w.2, c.requires.le_w.3, omega (arith, l.0, l.1), omega (arith, l.0, l.2)) }

pub returns-in_err-k-clause-result_value : goal.returns-in_err-k-clause-result_value
returns-in_err-k-clause-result_value c =
    let a = c.args in
    let r = c.in_err-k.field-0.0 in
    let p = err_from_is_err_and c.from_residual.result c.from_residual.ensures.1 in
    rw (p.1, p.2) (sym (stack-refused a.w a.h (place_of a.s.now a.c) (number_of r) (line_of r) (sym c.in_err-k.ensures.result_value)))

pub returns-in_err-stack-clause-result_value : goal.returns-in_err-stack-clause-result_value
returns-in_err-stack-clause-result_value c =
    let a = c.args in
    let p = err_from_is_err_and c.from_residual-in_err-stack.result c.from_residual-in_err-stack.ensures.1 in
    let n : c.new.result ≡ None = c.ok_or.ensures.ok_part ∙ ap result_ok c.in_err-stack.was in
    let e = sym c.in_err-stack.was ∙ c.ok_or.ensures.value ∙ ap (λ (o : Option Stack). ok_or o (Line Range c.in_ok-k.d.line)) n in
    let f : c.in_err-stack.field-0.0 ≡ Line Range c.in_ok-k.d.line = cc in
    rw (p.1, p.2, f) (sym (stack-outside a.w a.h (place_of a.s.now a.c) c.in_ok-k.k (place_of a.s.now c.in_ok-k.d) (sym c.in_ok-k.ensures.result_value) (sym c.new.ensures ∙ n)))

pub returns : goal.returns
returns c =
    let a = c.args in record {
      result_value = c.read_ways.ensures.result_value
          ∙ sym (stack-inside a.w a.h (place_of a.s.now a.c) c.in_ok-k.k (place_of a.s.now c.in_ok-k.d) (sym c.in_ok-k.ensures.result_value) c.in_ok-stack.stack (made (goal.at.returns c).In_ok-stack));
      sizes_hold = subst (λ (m : ℕ). sizes_hold (length a.s.now) m c.read_ways.result) c.in_ok-k.ensures.field_in.lines c.read_ways.ensures.sizes_hold;
    }
