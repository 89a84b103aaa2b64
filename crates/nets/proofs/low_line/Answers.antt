-- `low_line` meets its contract: where the line is there, its number is read; where it is not, nothing is read (`Lows.antt`).
-- Assumes nothing.
use mathlib.Core.Path.{sym}
use Prim.Native.Nat.{◌+◌}
use native.Mathlib.Omega.{arith}
use lib.ListN.{length}
use Rattle.std.proofs.lemmas.Result.{err_from_is_err_and}
use Rattle.lines.specs.Told.{field-after}
use Rattle.nets.proofs.Lows.{low-none, low-refused, low-range, low_value, low-after}
use Rattle.nets.proofs.low_line.Goals as goal

pub returns-then-is_err : goal.returns-then-is_err
returns-then-is_err c =
    record { result_value = low-none c.args.s.now c.args.c c.open_line.result c.open_line.ensures c.args.k (sym c.if-is_err.ensures.value); low_holds = record { place = c.requires.0; lines = omega arith } }

pub overflow_cast-result : goal.overflow_cast-result
overflow_cast-result c =
    let x = c.args in
    omega (arith, c.requires.2, low-range x.s.now x.c c.open_line.result c.open_line.ensures x.k (sym c.if-is_err.ensures.value) c.ranged.result c.ranged.ensures.result_value c.in_ok-n.n c.in_ok-n.d c.in_ok-n.was)

pub returns-in_err-n : goal.returns-in_err-n
returns-in_err-n c =
    let x = c.args in
    let p = err_from_is_err_and c.from_residual.result c.from_residual.ensures.1 in
    rw (p.1, p.2) (record { result_value = low-refused x.s.now x.c c.open_line.result c.open_line.ensures x.k (sym c.if-is_err.ensures.value) c.ranged.result c.ranged.ensures.result_value _ c.in_err-n.was; low_holds = tt })

pub returns : goal.returns
returns c =
    let x = c.args in record {
      result_value = low_value x.s.now x.c c.open_line.result c.open_line.ensures x.k (sym c.if-is_err.ensures.value) c.ranged.result c.ranged.ensures.result_value c.in_ok-n.n c.in_ok-n.d c.in_ok-n.was;
      low_holds = low-after x.s.now x.c c.open_line.result c.open_line.ensures x.k (sym c.if-is_err.ensures.value) c.ranged.result c.ranged.ensures.result_value c.in_ok-n.n c.in_ok-n.d c.in_ok-n.was (length x.s.now)
          (field-after c.ranged.result (length x.s.now) (x.c.line + 1) c.in_ok-n.n c.in_ok-n.d c.in_ok-n.was c.ranged.ensures.field_in);
    }
