-- `edge_capacity` meets its contract.
-- Assumes nothing.
use mathlib.Core.Path.{◌≡◌, sym, ap, ap₂, ◌∙◌, subst}
use Prim.Native.Nat.{ℕ, ◌+◌, ◌*◌, ◌≤◌, ◌<◌}
use native.Mathlib.Omega.{arith}
use lib.ListN.{get_or}
use Rattle.model.specs.Limits.{most_capacity}
use Rattle.flat.specs.FlatPlan.{sum_at}
use Rattle.flat.proofs.edge_capacity.Goals as goal
use Rattle.flat.proofs.edge_capacity.Goals.{Start}

-- the k capacities of an edge, where they stand
module _ (s : Start) where
  small : (at : ℕ) → at ≡ s.args.edge * s.args.g.k → (l : ℕ) → l < s.args.g.k → get_or s.args.w.now (at + l) 0 ≤ most_capacity
  small at e l h = subst (λ (a : ℕ). get_or s.args.w.now (a + l) 0 ≤ most_capacity) (sym e) (s.requires.small_capacities s.args.edge l s.requires.edge_lt_e.0 h)

pub sum_of-requires : goal.sum_of-requires
sum_of-requires c =
    record { k_in_bounds = (omega (arith, c.if-g-eq8.true, c.edge_at-at.ensures.1, c.requires.edge_lt_e), omega arith); by_index = λ l h. small (goal.at.sum_of-requires c).Start c.edge_at-at.result c.edge_at-at.ensures.0 l (omega (arith, c.if-g-eq8.true)) }

pub returns-then-g-eq8 : goal.returns-then-g-eq8
returns-then-g-eq8 c =
    let x = c.args in
    c.sum_of.ensures ∙ ap₂ (λ (a k : ℕ). sum_at a k x.w.now) c.edge_at-at.ensures.0 (sym c.if-g-eq8.true)

pub sum_of-requires-2 : goal.sum_of-requires-2
sum_of-requires-2 c =
    record { k_in_bounds = (omega (arith, c.edge_at-at.ensures.1, c.requires.edge_lt_e), c.args.g.shaped.k_most); by_index = small (goal.at.sum_of-requires-2 c).Start c.edge_at-at.result c.edge_at-at.ensures.0 }

pub returns : goal.returns
returns c =
    let x = c.args in
    c.sum_of-2.ensures ∙ ap (λ (a : ℕ). sum_at a x.g.k x.w.now) c.edge_at-at.ensures.0
