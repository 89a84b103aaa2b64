-- `put` meets its contract.
-- Assumes nothing.
use mathlib.Core.Path.{sym}
use borrow.Author.Tests.{le-leb, lt-leb}
use Rattle.capacities.proofs.Steps.{and-true, and-false}
use Rattle.model.specs.Limits.{most_capacity}
use Rattle.capacities.proofs.put.Goals as goal

pub returns-then-v-gt-MOST_CAPACITY : goal.returns-then-v-gt-MOST_CAPACITY
returns-then-v-gt-MOST_CAPACITY c =
    let v = c.args.v in record { value = rw (lt-leb v most_capacity c.if-v-gt-MOST_CAPACITY.true) (sym (and-false c.args.inside)); w_after = rw (lt-leb v most_capacity c.if-v-gt-MOST_CAPACITY.true) }

pub returns : goal.returns
returns c =
    let v = c.args.v in record { value = rw (le-leb v most_capacity c.if-v-gt-MOST_CAPACITY.false) (sym (and-true c.args.inside)); w_after = rw (le-leb v most_capacity c.if-v-gt-MOST_CAPACITY.false) }
