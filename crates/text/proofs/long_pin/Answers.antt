-- `long_pin` meets its contract.
-- Assumes nothing.
use mathlib.Core.Path.{sym}
use Rattle.text.specs.Entries.{pin_entry_at}
use Rattle.text.proofs.Spelt.{comma-told}
use Rattle.text.proofs.long_pin.Goals as goal

pub returns-in_err-x : goal.returns-in_err-x
unfolding pin_entry_at
returns-in_err-x c =
    rw (c.from_residual.ensures, comma-told c.args.s.now c.args.at _ c.in_err-x.ensures)

pub returns-in_err-y : goal.returns-in_err-y
unfolding pin_entry_at
returns-in_err-y c =
    rw (c.from_residual-in_err-y.ensures, comma-told c.args.s.now c.args.at _ c.in_ok-x.ensures, comma-told c.args.s.now c.in_ok-x.x.next _ c.in_err-y.ensures)

pub returns-in_err-l : goal.returns-in_err-l
unfolding pin_entry_at
returns-in_err-l c =
    rw (c.from_residual-in_err-l.ensures, comma-told c.args.s.now c.args.at _ c.in_ok-x.ensures, comma-told c.args.s.now c.in_ok-x.x.next _ c.in_ok-y.ensures, sym c.in_err-l.ensures)

pub returns : goal.returns
unfolding pin_entry_at
returns c =
    rw (comma-told c.args.s.now c.args.at _ c.in_ok-x.ensures, comma-told c.args.s.now c.in_ok-x.x.next _ c.in_ok-y.ensures, sym c.in_ok-l.ensures) c.break_at.ensures
