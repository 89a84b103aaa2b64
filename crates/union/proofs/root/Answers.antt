-- `union::root` meets its contract. The loop's invariant: tile t has the root of tile x, and no root changed. The measure is t.
-- Assumes nothing.
use mathlib.Core.Path.{sym, ◌∙◌}
use native.Mathlib.Omega.{arith}
use Rattle.union.proofs.Words.{searched-start, searched-again, searched-done}
use Rattle.std.proofs.Common.{rules}
use Rattle.union.proofs.root.Goals as goal

pub loop-t-init : goal.loop-t-init
loop-t-init c =
    searched-start c.args.stamp c.args.a.now c.args.x c.requires.3 c.requires.2

pub shape_of-a-then-p-t : goal.shape_of-a-then-p-t
shape_of-a-then-p-t c =
    c.loop-t.invariant.kept.same_length

pub returns-then-p-t : goal.returns-then-p-t
returns-then-p-t c =
    searched-done c.args.stamp c.args.a.now c.args.x c.loop-t.a c.loop-t.t c.loop-t.invariant (sym c.parent-p.ensures ∙ c.if-p-t.true)

pub parent-q-requires : goal.parent-q-requires
parent-q-requires c =
    omega (arith, c.parent-p.ensures, c.loop-t.invariant.kept.links.falling c.loop-t.t)

pub put-requires : goal.put-requires
put-requires c = (
  search rules,
  search rules,
  omega (arith, c.parent-q.ensures, c.parent-p.ensures, c.loop-t.invariant.kept.same_length, c.loop-t.invariant.kept.links.falling c.loop-t.t, c.loop-t.invariant.kept.links.falling c.parent-p.result),
)

pub loop-t-smaller : goal.loop-t-smaller
loop-t-smaller c =
    omega (arith, c.parent-q.ensures, c.parent-p.ensures, c.if-p-t.false, c.loop-t.invariant.kept.links.falling c.loop-t.t, c.loop-t.invariant.kept.links.falling c.parent-p.result)

pub loop-t-preserved : goal.loop-t-preserved
loop-t-preserved c =
    searched-again c.args.stamp c.args.a.now c.args.x c.loop-t.a c.loop-t.t c.parent-p.result c.parent-q.result c.put.new.a c.loop-t.invariant c.requires.1 c.parent-p.ensures c.parent-q.ensures c.put.ensures
