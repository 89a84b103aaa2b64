-- `way_limit` meets its contract: the largest overflow of these edges, shared among the layers of their way.
-- Assumes nothing.
use mathlib.Core.Path.{◌≡◌, ap, ap₂, subst, sym, ◌∙◌}
use Prim.Native.Nat.{ℕ, ◌+◌, ◌≤◌}
use native.Mathlib.Omega.{arith}
use lib.ListN.{get_or}
use Rattle.model.specs.Limits.{most_nets}
use Rattle.model.specs.Overflow.{ceil_div}
use Rattle.flat.specs.FlatPlan.{most_at}
use Rattle.flat.specs.Limited.{layers_for, most-few}
use Rattle.flat.proofs.way_limit.Goals as goal
use Rattle.flat.proofs.way_limit.Goals.{After-most_of-most}

-- the largest overflow is found
module _ (c : After-most_of-most) where
  few : c.most_of-most.result ≤ most_nets
  few =
      let a = c.args in
      omega (
        arith,
        c.most_of-most.ensures,
        most-few (c.demand_at.result + a.first) a.n most_nets a.w.now
            (λ i h.
            let p : c.demand_at.result + (a.first + i) ≡ c.demand_at.result + a.first + i = omega arith in
            subst (λ (q : ℕ). get_or a.w.now q 0 ≤ most_nets) (ap (λ (q : ℕ). q + (a.first + i)) (sym c.demand_at.ensures.value) ∙ p) (c.requires.by_index (a.first + i) (omega (arith, c.requires.n_bound.0)))),
      )

pub most_of-most-requires : goal.most_of-most-requires
most_of-most-requires c =
    omega (arith, c.demand_at.ensures, c.requires.n_bound)

pub layers_in-requires : goal.layers_in-requires
layers_in-requires c =
    c.args.g.shaped.k_most

pub share-requires : goal.share-requires
share-requires c =
    (few (goal.at.share-requires c).After-most_of-most, omega (arith, c.layers_in.ensures.upper_bound, c.args.g.shaped.k_most))

pub returns : goal.returns
returns c =
    let a = c.args in
    c.share.ensures ∙ ap₂ ceil_div (c.most_of-most.ensures ∙ ap (λ (q : ℕ). most_at (q + a.first) a.n a.w.now) c.demand_at.ensures.value) (c.layers_in.ensures.value ∙ ap (layers_for a.g) c.number.ensures)
