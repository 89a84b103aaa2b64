-- D and C of a net: the sums of d(e) and c(e) over its edges, from the working numbers.
-- Assumes nothing.
use Rattle.std.specs.Prelude.{List, ◌≡◌, ℕ, ◌+◌, ◌*◌, ◌/◌, ◌^◌, ◌≤◌, max, get_or}
use Rattle.std.proofs.Common.{sym, ap, ap₂, ◌∙◌, arith}
use Rattle.std.proofs.Math.Nat.{zero-div}
use Rattle.layout.specs.Areas.{demand_at, flat_at}
use Rattle.layout.specs.declared.shape.Shape.{Shape}
use Rattle.model.specs.Job.{Net, Job}
use Rattle.model.specs.Lists.{sum}
use Rattle.model.specs.Overflow.{flat_demand, flat_capacity}
use Rattle.model.specs.Score.{density_term}
use Rattle.order.specs.declared.Density.{Density}

-- d(e) and c(e) as they stand in the working numbers
abbrev pub demand_in : Shape → List ℕ → ℕ → ℕ
demand_in g w e = get_or w (demand_at g + e) 0

abbrev pub capacity_in : Shape → List ℕ → ℕ → ℕ
capacity_in g w e = get_or w (flat_at g + e) 0

-- r is v with edge e added
pub record Added (g : Shape) (w : List ℕ) (e : ℕ) (v r : Density) : Type 0 where
  pub demand : r.demand ≡ v.demand + demand_in g w e
  pub capacity : r.capacity ≡ v.capacity + capacity_in g w e
  -- each is a number of 32 bits
  pub demand_most : demand_in g w e ≤ 2 ^ 32
  pub capacity_most : capacity_in g w e ≤ 2 ^ 32

-- r is D and C over edges of the job
pub record DensityOf (j : Job) (es : List ℕ) (r : Density) : Type 0 where
  pub demand : r.demand ≡ sum (flat_demand j) es
  pub capacity : r.capacity ≡ sum (flat_capacity j) es

-- r gives the density term of a net of the job the value that D and C give it
pub record Weighed (gamma : ℕ) (j : Job) (n : Net) (r : Density) : Type 0 where
  pub most : r.demand ≤ sum (flat_demand j) n.edges
  pub term : density_term gamma r.demand r.capacity ≡ density_term gamma (sum (flat_demand j) n.edges) (sum (flat_capacity j) n.edges)

-- where gamma is 0 every D and C do
pub weighed-none : (j : Job) (n : Net) → Weighed 0 j n (record { demand = 0; capacity = 0 })
weighed-none j n = record { most = omega arith; term = sym (none (sum (flat_demand j) n.edges) (sum (flat_capacity j) n.edges)) }
  where
    none : (d c : ℕ) → density_term 0 d c ≡ 0
    none d c = let z : 1000 * 0 * d ≡ 0 = omega arith in ap (λ (k : ℕ). k / max c 1) z ∙ zero-div (max c 1)

pub weighed-sums : (gamma : ℕ) (j : Job) (n : Net) (r : Density) → DensityOf j n.edges r → Weighed gamma j n r
weighed-sums gamma j n r d = record { most = omega (arith, d.demand); term = ap₂ (density_term gamma) d.demand d.capacity }
