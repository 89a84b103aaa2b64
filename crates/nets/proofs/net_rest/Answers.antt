-- `net_rest` meets its contract: the line `low` where it stands, and behind it the `pins` and `edges` lines (`Lows.antt`).
-- Assumes nothing.
use mathlib.Core.Path.{◌≡◌, refl, ap, ◌∙◌}
use Prim.Native.Nat.{◌+◌}
use lib.ListN.{length, length-set}
use Rattle.theory.specs.links.JobText.{option_lines}
use Rattle.layout.specs.Table.{vias_column}
use Rattle.std.specs.Option.{unwrap_or}
use Rattle.std.proofs.lemmas.Result.{err_from_is_err_and}
use Rattle.lines.specs.Told.{After}
use Rattle.nets.specs.Nets.{low_at}
use Rattle.nets.proofs.Lows.{low-holds, rest-refused, rest-goes-on}
use Rattle.nets.proofs.net_rest.Goals as goal
use Rattle.nets.proofs.net_rest.Goals.{After-put_low, In_ok-low}

-- the place behind the line, or before the next where it is not there
module _ (c : In_ok-low) where
  behind : After (length c.args.s.now) (c.args.c.line + option_lines (low_at (unwrap_or c.in_ok-low.low 0))) c.in_ok-low.d
  behind = low-holds c.low_line.result (length c.args.s.now) c.args.c.line c.in_ok-low.low c.in_ok-low.d c.in_ok-low.was c.low_line.ensures.low_holds

-- its row has the number of the line, and the table is as long as before
module _ (c : After-put_low) where
  put-long : length c.put_low.new.table ≡ length c.args.table.now
  put-long = ap length c.put_low.ensures ∙ length-set c.args.table.now (vias_column c.args.row.i) (unwrap_or c.in_ok-low.low 0)

pub returns-in_err-low : goal.returns-in_err-low
returns-in_err-low c =
    let x = c.args in
    let p = err_from_is_err_and c.from_residual.result c.from_residual.ensures.1 in
    rw (p.1, p.2) (record { net_told = rest-refused x.s.now x.c x.g x.row.i x.row.first c.low_line.result c.low_line.ensures.result_value _ c.in_err-low.was; w_len_unchanged = (refl, refl) })

pub returns : goal.returns
returns c =
    let x = c.args in record {
      net_told = rest-goes-on x.s.now x.c x.g x.row.i x.row.first c.low_line.result c.low_line.ensures.result_value c.in_ok-low.low c.in_ok-low.d c.in_ok-low.was (behind (goal.at.returns c).In_ok-low).lines x.w.now c.net_body.new.w x.table.now c.put_low.new.table c.net_body.new.table c.net_body.result
          c.requires.net_ready.turn c.requires.table_size_in_bounds.0 c.put_low.ensures c.net_body.ensures.net_told;
      w_len_unchanged = (c.net_body.ensures.w_len_unchanged.0, c.net_body.ensures.w_len_unchanged.1 ∙ put-long (goal.at.returns c).After-put_low);
    }
