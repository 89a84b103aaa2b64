-- `put_plan` meets its contract: the lines of every plan, and behind them the last one.
-- Assumes nothing.
use mathlib.Core.List.{List, ◌++◌}
use mathlib.Core.Path.{◌≡◌, ap}
use Prim.Native.Nat.{ℕ, ◌+◌}
use native.Mathlib.Omega.{arith}
use lib.ListN.{length, length-append}
use Rattle.print.specs.Texts.{lines_text, ldof_text}
use Rattle.put.specs.Wrote.{wrote-long, wrote_then, from_start}
use Rattle.std.proofs.Common.{rules}
use Rattle.print.proofs.put_plan.Goals as goal
use Rattle.print.proofs.put_plan.Goals.{Start}

-- both texts have room
module _ (z : Start) where
  abbrev lines : List ℕ
  lines = lines_text z.args.p.nets z.args.table.now z.args.answer.now z.args.p.vias z.args.p.total z.args.p.most

  both : length (lines ++ ldof_text z.args.p.last) ≡ length lines + length (ldof_text z.args.p.last)
  both = length-append lines (ldof_text z.args.p.last)

pub put_lines-requires : goal.put_lines-requires
put_lines-requires c =
    record { rows = c.requires.rows; most_in_bounds = omega (arith, c.requires.last_in_bounds, ap length c.new-w.ensures.bytes, c.new-w.ensures.place, both (goal.at.put_lines-requires c).Start) }

pub put_ldof-requires : goal.put_ldof-requires
put_ldof-requires c =
    omega (arith, c.requires.last_in_bounds, both (goal.at.put_ldof-requires c).Start, ap length c.new-w.ensures.bytes, c.new-w.ensures.place, c.put_lines.ensures.next, wrote-long c.put_lines.ensures)

pub returns-clause-b_after : goal.returns-clause-b_after
returns-clause-b_after c =
    let end = (from_start c.new-w.ensures.place c.new-w.ensures.bytes (wrote_then c.put_lines.ensures c.put_ldof.ensures)).0 in
    search (end, rules)
