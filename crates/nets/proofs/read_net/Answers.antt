-- `read_net` meets its contract: the `net` line, and behind it the others.
-- Assumes nothing.
use mathlib.Core.Path.{refl}
use Prim.Native.Nat.{◌+◌}
use lib.ListN.{length}
use Rattle.std.proofs.lemmas.Result.{err_from_is_err_and}
use Rattle.lines.specs.Told.{After, list-after}
use Rattle.nets.proofs.Turns.{net-refused, net-goes-on}
use Rattle.nets.proofs.read_net.Goals as goal
use Rattle.nets.proofs.read_net.Goals.{In_ok-d}

-- it is this net's turn
module _ (c : In_ok-d) where
  behind : After (length c.args.s.now) (c.args.c.line + 1) c.in_ok-d.d
  behind = list-after c.net_line.result (length c.args.s.now) (c.args.c.line + 1) c.in_ok-d.d c.in_ok-d.was c.net_line.ensures.list_in

pub returns-in_err-d : goal.returns-in_err-d
returns-in_err-d c =
    let x = c.args in
    let p = err_from_is_err_and c.from_residual.result c.from_residual.ensures.1 in
    rw (p.1, p.2) (record { net_told = net-refused x.s.now x.c x.g x.row.i c.net_line.result c.net_line.ensures.result_value _ c.in_err-d.was; w_len_unchanged = (refl, refl) })

pub returns : goal.returns
returns c =
    let x = c.args in record { net_told = net-goes-on x.s.now x.c x.g x.row.i c.net_line.result c.net_line.ensures.result_value c.in_ok-d.d c.in_ok-d.was (behind (goal.at.returns c).In_ok-d).lines x.row.first x.w.now c.net_rest.new.w x.table.now c.net_rest.new.table c.net_rest.result c.net_rest.ensures.net_told; w_len_unchanged = c.net_rest.ensures.w_len_unchanged }
