-- `read_rest` meets its contract.
-- Assumes nothing.
use mathlib.Core.Path.{refl}
use native.Mathlib.Omega.{arith}
use Rattle.std.proofs.lemmas.Result.{err_from_is_err_and}
use Rattle.text.specs.Refusals.{place_of}
use Rattle.theory.specs.links.JobText.{lines-few}
use Rattle.reader.proofs.Ends.{rest-no-nets, rest-no-end, rest-found}
use Rattle.nets.proofs.Loop.{nets-few}
use Rattle.reader.proofs.read_rest.Goals as goal

pub read_end-requires : goal.read_end-requires
read_end-requires c =
    let x = c.args in
    let k = c.in_ok-d.ensures.nets_told in (
      k.after.place,
      omega (arith, k.after.lines, lines-few k.nets, k.count, c.requires.at_in_bounds),
      c.requires.at_in_bounds.3,
      omega (arith, nets-few x.s.now x.h.shape c.args.h.shape.shaped k.nets c.in_ok-d.entries x.w.now c.read_nets.new.w c.read_nets.new.table k.so_read, k.count, c.requires.at_in_bounds.3),
    )

pub returns-in_err-d-clause-rest_told : goal.returns-in_err-d-clause-rest_told
returns-in_err-d-clause-rest_told c =
    let x = c.args in
    let p = err_from_is_err_and c.from_residual.result c.from_residual.ensures.1 in
    rw (p.1, p.2) (rest-no-nets x.s.now x.h x.lists.answer x.lists.print (place_of x.s.now x.c) x.w.now _ c.in_err-d.ensures.nets_told)

pub returns-in_err-read_end-clause-rest_told : goal.returns-in_err-read_end-clause-rest_told
returns-in_err-read_end-clause-rest_told c =
    let x = c.args in
    let p = err_from_is_err_and c.from_residual-in_err-read_end.result c.from_residual-in_err-read_end.ensures.1 in
    rw (p.1, p.2) (rest-no-end x.s.now x.h x.lists.answer x.lists.print (place_of x.s.now x.c) x.w.now x.c.line c.read_nets.new.w c.read_nets.new.table c.in_ok-d.d c.in_ok-d.entries c.in_ok-d.ensures.nets_told _ c.in_err-read_end.ensures)

pub returns : goal.returns
returns c =
    let x = c.args in record {
      rest_told = (refl, rest-found x.s.now x.h x.lists.answer x.lists.print (place_of x.s.now x.c) x.w.now x.c.line c.read_nets.new.w c.read_nets.new.table c.in_ok-d.d c.in_ok-d.entries c.in_ok-d.ensures.nets_told _ c.in_ok-read_end.ensures);
      w_len_unchanged = c.read_nets.ensures.w_len_unchanged;
    }
