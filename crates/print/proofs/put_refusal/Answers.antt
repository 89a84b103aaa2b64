-- `put_refusal` meets its contract.
-- Assumes nothing.
use mathlib.Core.Path.{ap}
use native.Mathlib.Omega.{arith}
use lib.ListN.{length}
use Rattle.print.specs.Refusal.{refusal-long}
use Rattle.put.specs.Wrote.{wrote_then, wrote-long, from_start}
use Rattle.std.proofs.Common.{rules}
use Rattle.print.proofs.put_refusal.Goals as goal

pub text-requires : goal.text-requires
text-requires c =
    omega (arith, c.requires, refusal-long c.args.number c.args.line, ap length c.new-w.ensures.bytes, c.new-w.ensures.place)

pub number-requires : goal.number-requires
number-requires c =
    omega (arith, c.requires, refusal-long c.args.number c.args.line, ap length c.new-w.ensures.bytes, c.new-w.ensures.place, c.text.ensures.next, wrote-long c.text.ensures)

pub next_number-requires : goal.next_number-requires
next_number-requires c =
    omega (
      arith,
      c.requires,
      refusal-long c.args.number c.args.line,
      ap length c.new-w.ensures.bytes,
      c.new-w.ensures.place,
      c.text.ensures.next,
      wrote-long c.text.ensures,
      c.number.ensures.next,
      wrote-long c.number.ensures,
    )

pub byte-requires : goal.byte-requires
byte-requires c =
    omega (
      arith,
      c.requires,
      refusal-long c.args.number c.args.line,
      ap length c.new-w.ensures.bytes,
      c.new-w.ensures.place,
      c.text.ensures.next,
      wrote-long c.text.ensures,
      c.number.ensures.next,
      wrote-long c.number.ensures,
      c.next_number.ensures.next,
      wrote-long c.next_number.ensures,
    )

pub returns-clause-b_after : goal.returns-clause-b_after
returns-clause-b_after c =
    let told = wrote_then (wrote_then c.text.ensures (wrote_then c.number.ensures c.next_number.ensures)) c.byte.ensures in
    let end = (from_start c.new-w.ensures.place c.new-w.ensures.bytes told).0 in
    search (end, rules)
