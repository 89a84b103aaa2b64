-- `number_line` meets its contract: the line is opened, and a number that byte 10 ends is read from behind the key on.
-- Assumes nothing.
use mathlib.Core.Path.{◌≡◌, sym, ap, ◌∙◌}
use native.Mathlib.Omega.{arith}
use Rattle.std.proofs.lemmas.Result.{err_from_is_err_and}
use Rattle.std.specs.Prelude.{Some, None}
use Rattle.text.specs.declared.Cursor.{Cursor}
use Rattle.text.specs.declared.Fault.TheVariants.{Form}
use Rattle.text.specs.declared.Refusal.TheVariants.{Line as OnLine}
use Rattle.lines.specs.Digits.{ended-within}
use Rattle.lines.specs.Opens.{expected-there, place-is}
use Rattle.lines.proofs.Keys.{number-none, number-key}
use Rattle.lines.proofs.Places.{numeral_told}
use Rattle.lines.proofs.number_line.Goals as goal

pub returns-in_err-d : goal.returns-in_err-d
returns-in_err-d c =
    let a = c.args in
    let p = err_from_is_err_and c.from_residual.result c.from_residual.ensures.1 in
    rw (p.1, p.2) (record { result_value = sym (number-none a.s.now a.c a.key.now c.expect_line.result c.expect_line.ensures.result_value _ c.in_err-d.was); field_in = tt })

pub returns-in_err-n : goal.returns-in_err-n
returns-in_err-n c =
    let a = c.args in
    let p = err_from_is_err_and c.from_residual-in_err-n.result c.from_residual-in_err-n.ensures.1 in
    let none_there : c.ended.result ≡ None = grind arith in
    let refusal : c.in_err-n.field-0.0 ≡ OnLine Form c.in_ok-d.d.line = grind arith in
    rw (p.1, p.2, refusal) (record {
      result_value = sym (number-key a.s.now a.c a.key.now c.expect_line.result c.expect_line.ensures.result_value c.in_ok-d.d c.in_ok-d.was
          ∙ ap (numeral_told c.in_ok-d.d.line a.s.now) (sym c.ended.ensures ∙ none_there));
      field_in = tt;
    })

pub returns : goal.returns
returns c =
    let a = c.args in
    let found : c.ended.result ≡ Some c.in_ok-n.n = grind arith in
    let t = sym c.ended.ensures ∙ found in record {
      result_value = sym (number-key a.s.now a.c a.key.now c.expect_line.result c.expect_line.ensures.result_value c.in_ok-d.d c.in_ok-d.was
          ∙ ap (numeral_told c.in_ok-d.d.line a.s.now) t);
      field_in = record {
        place = ended-within a.s.now c.in_ok-d.d.at 10 c.in_ok-n.n (omega arith) (sym t);
        lines = ap (λ (x : Cursor). x.line) (place-is a.s.now a.c a.key.now c.in_ok-d.d (expected-there a.s.now a.c a.key.now c.in_ok-d.d (sym c.expect_line.ensures.opened ∙ c.in_ok-d.was)));
      };
    }
