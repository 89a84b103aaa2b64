-- `print_opened` meets its contract: a refusal is passed on, and a job is planned and printed.
-- Assumes nothing.
use Rattle.std.specs.Prelude.{Ok, Result as Outcome}
use mathlib.Core.Path.{sym, subst}
use lib.ListN.{length}
use Rattle.head.specs.declared.Head.{Head}
use Rattle.planning.specs.Closing.{ToPrint, PrintClosed}
use Rattle.text.specs.declared.Refusal.{Refusal}
use Rattle.planning.proofs.print_opened.Goals as goal

pub print_nets-requires : goal.print_nets-requires
print_nets-requires c =
    let x = c.args in
    subst (ToPrint x.s.now x.w.now x.table.now (length x.answer.now) (length x.out.now)) c.in_ok-h.was c.requires

pub returns : goal.returns
returns c =
    let x = c.args in record {
      print_closed = subst (λ (v : Outcome Head Refusal). PrintClosed x.s.now x.w.now x.table.now x.answer.now c.print_nets.new.answer x.out.now c.print_nets.new.out v (Ok c.print_nets.result)) (sym c.in_ok-h.was)
          c.print_nets.ensures.print_done;
      w_len_unchanged = c.print_nets.ensures.w_len_unchanged;
    }
