-- `score_nets` meets its contract. The loop's invariant: the first i scores are stored, the other rows still have the tiles of their pins, and the marks and the
-- links are of the first i stamps; n - i falls.
-- Assumes nothing.
use mathlib.Core.List.{List}
use mathlib.Core.Path.{sym, subst}
use Prim.Native.Nat.{ℕ, ◌+◌}
use native.Mathlib.Omega.{arith}
use Rattle.order.specs.Ready.{SomeNet}
use Rattle.order.proofs.Scoring.{Scoring, scoring-first, scoring-marks, net-there, few, scoring-next, scoring-done}
use Rattle.order.proofs.score_nets.Goals as goal
use Rattle.order.proofs.score_nets.Goals.{In-loop-i}

-- a turn of the loop
module _ (t : In-loop-i) where
  net : SomeNet t.args.s.now t.args.g t.args.a t.loop-i.w t.loop-i.table t.loop-i.i
  net =
      let x = t.args in
      net-there x.s.now x.g x.a x.w.now x.table.now x.n t.loop-i.w t.loop-i.table t.loop-i.i t.loop-i.invariant t.requires.some_job t.loop-i-test.true

pub loop-i-init : goal.loop-i-init
loop-i-init c =
    let x = c.args in
    scoring-first x.s.now x.g x.a x.w.now x.table.now x.n c.requires.some_job c.requires.g_in_bounds.1

pub net_score-v-requires : goal.net_score-v-requires
net_score-v-requires c =
    record { g_in_bounds = (omega (arith, c.requires.g_in_bounds.0, c.loop-i.invariant.marks.out.long), c.loop-i.invariant.marks.after); some_net = net (goal.at.net_score-v-requires c).In-loop-i }

pub put_score-requires : goal.put_score-requires
put_score-requires c =
    let x = c.args in
    let f = few x.s.now x.g x.a x.w.now x.table.now x.n c.loop-i.w c.loop-i.table c.loop-i.i c.loop-i.invariant c.requires.some_job c.loop-i-test.true in
    (f.0, f.1, c.net_score-v.ensures.upper_bound)

pub loop-i-preserved : goal.loop-i-preserved
loop-i-preserved c =
    let x = c.args in
    subst (λ (r : List ℕ). Scoring x.s.now x.g x.a x.w.now x.table.now x.n c.net_score-v.new.w r (c.loop-i.i + 1)) (sym c.put_score.ensures)
    (scoring-next x.s.now x.g x.a x.w.now x.table.now x.n c.loop-i.w c.loop-i.table c.loop-i.i c.loop-i.invariant c.requires.some_job c.loop-i-test.true
    c.net_score-v.new.w c.net_score-v.ensures.remarked c.net_score-v.result c.net_score-v.ensures.value)

pub shape_of-w : goal.shape_of-w
shape_of-w c =
    c.loop-i.invariant.marks.out.long

pub shape_of-table : goal.shape_of-table
shape_of-table c =
    c.loop-i.invariant.long

pub returns : goal.returns
returns c =
    let x = c.args in record { scored = scoring-done x.s.now x.g x.a x.w.now x.table.now x.n c.loop-i.w c.loop-i.table c.loop-i.i c.loop-i.invariant c.loop-i-test.false; remarked = scoring-marks x.s.now x.g x.a x.w.now x.table.now x.n c.loop-i.w c.loop-i.table c.loop-i.i c.loop-i.invariant c.requires.some_job c.loop-i-test.false }
