-- `long_edge` meets its contract.
-- Assumes nothing.
use mathlib.Core.Path.{sym, ◌∙◌}
use borrow.Author.Tests.{leb-false}
use Rattle.text.specs.Entries.{edge_entry_at}
use Rattle.text.proofs.Spelt.{comma-told, way_out}
use Rattle.text.proofs.long_edge.Goals as goal

pub returns-in_err-x : goal.returns-in_err-x
unfolding edge_entry_at
returns-in_err-x c =
    rw (c.from_residual.ensures, comma-told c.args.s.now c.args.at _ c.in_err-x.ensures)

pub returns-in_err-y : goal.returns-in_err-y
unfolding edge_entry_at
returns-in_err-y c =
    rw (c.from_residual-in_err-y.ensures, comma-told c.args.s.now c.args.at _ c.in_ok-x.ensures, comma-told c.args.s.now c.in_ok-x.x.next _ c.in_err-y.ensures)

pub returns-then-not-room : goal.returns-then-not-room
unfolding edge_entry_at
returns-then-not-room c =
    rw (comma-told c.args.s.now c.args.at _ c.in_ok-x.ensures, comma-told c.args.s.now c.in_ok-x.x.next _ c.in_ok-y.ensures)
    (way_out c.args.s.now c.in_ok-x.x.value c.in_ok-y.y.value c.in_ok-y.y.next (leb-false _ _ (sym c.room.ensures ∙ c.if-not-room.true)))

pub returns : goal.returns
unfolding edge_entry_at
returns c =
    rw (comma-told c.args.s.now c.args.at _ c.in_ok-x.ensures, comma-told c.args.s.now c.in_ok-x.x.next _ c.in_ok-y.ensures) c.way_in.ensures
