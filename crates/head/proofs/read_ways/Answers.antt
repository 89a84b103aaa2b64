-- `read_ways` meets its contract: what the line says, or nothing, goes into the shape (`Stacks.antt`).
-- Assumes nothing.
use mathlib.Core.Path.{sym}
use lib.ListN.{length}
use Rattle.std.proofs.lemmas.Result.{err_from_is_err_and}
use Rattle.text.specs.Refusals.{place_of, number_of, line_of}
use Rattle.head.proofs.Stacks.{ways-refused, ways-found, ways-hold}
use Rattle.head.proofs.read_ways.Goals as goal

pub read_dirs-requires : goal.read_dirs-requires
read_dirs-requires c =
    record { at_in_bounds = c.requires.at_in_bounds; le_k = (c.requires.le_w.4, c.requires.le_w.5) }

pub shape_of-requires : goal.shape_of-requires
shape_of-requires c =
    c.requires.le_w

pub returns-in_err-ways-clause-result_value : goal.returns-in_err-ways-clause-result_value
returns-in_err-ways-clause-result_value c =
    let a = c.args in
    let r = c.in_err-ways.field-0.0 in
    let p = err_from_is_err_and c.from_residual.result c.from_residual.ensures.1 in
    rw (p.1, p.2) (sym (ways-refused a.w a.h a.stack.layers (place_of a.s.now a.c) (number_of r) (line_of r) (sym c.in_err-ways.ensures.result_value)))

pub returns : goal.returns
returns c =
    let a = c.args in
    let d = c.in_ok-ways.d in
    let ways = c.in_ok-ways.ways in record {
      result_value = ways-found a.w a.h a.stack.layers (place_of a.s.now a.c) ways (place_of a.s.now d) c.shape_of.result c.shape_of.ensures (sym c.in_ok-ways.ensures.result_value);
      sizes_hold = (
        c.shape_of.result.shaped,
        ways-hold (length a.s.now) a.c.line a.stack.layers ways a.w a.h c.shape_of.result d c.shape_of.ensures c.in_ok-ways.ensures.dirs_hold,
      );
    }
