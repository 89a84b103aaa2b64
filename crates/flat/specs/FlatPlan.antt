-- The flat plan in the working numbers: each edge's demand and capacity, and its overflow.
-- Assumes nothing.
use Rattle.std.specs.Prelude.{true, false, List, [], ◌≡◌, ℕ, suc, ◌+◌, ◌-◌, ◌*◌, ◌≤◌, ◌<◌, get_or, replicate}
use Rattle.std.proofs.Common.{sym, ap, ◌∙◌, arith}
use Rattle.layout.specs.Areas.{loads_at, demand_at, flat_at}
use Rattle.layout.specs.declared.shape.Shape.{Shape}
use Rattle.model.specs.Job.{Job, net_count, edge_count, runs, group, layers_of, capacity, net_edges}
use Rattle.model.specs.Lists.{up_from, sum, most}
use Rattle.model.specs.Overflow.{over, flat_demand, flat_capacity, flat_overflow, TO, MO}
use Rattle.model.specs.Plan.{placed}
use Rattle.net.specs.SoFar.{Capacities, closed_load, SoFar}
use Rattle.theory.specs.congestion.Base.{in-up_from}
use Rattle.theory.specs.congestion.Order.{sum-shift}
use Rattle.theory.specs.congestion.Sums.{In, sum-eq, sum-zero, most-le, most-part}
use Rattle.theory.specs.links.Planned.{load-empty}
use Rattle.net.specs.Places.{cap-at}
use Rattle.flat.specs.declared.Flat.{Flat}

-- "c(e) is the sum of an edge's K capacities": so it is where a layer that runs another way has none
abbrev pub AllCounted : Job → Type 0
AllCounted j = (e : ℕ) → flat_capacity j e ≡ sum (capacity j e) (up_from 1 j.layers)

-- c(e) stands in the flat capacities
abbrev pub FlatCapacities : Shape → Job → List ℕ → Type 0
FlatCapacities g j w = (e : ℕ) → e < g.e → get_or w (flat_at g + e) 0 ≡ flat_capacity j e

-- d(e) stands in the flat demands
abbrev pub FlatDemands : Shape → Job → List ℕ → Type 0
FlatDemands g j w = (e : ℕ) → e < g.e → get_or w (demand_at g + e) 0 ≡ flat_demand j e

-- no net is on a layer yet
abbrev pub NoLoads : Shape → List ℕ → Type 0
NoLoads g w = (i : ℕ) → i < loads_at g → get_or w (loads_at g + i) 0 ≡ 0

-- o(e) stands in the place of d(e), and r is TO and MO
pub record Overflows (g : Shape) (j : Job) (w : List ℕ) (r : Flat) : Type 0 where
  pub each : (e : ℕ) → e < g.e → get_or w (demand_at g + e) 0 ≡ flat_overflow j e
  pub total : r.total ≡ TO j
  pub most : r.most ≡ MO j

-- ---- as the code finds them

-- the sum of k numbers from a on
abbrev pub sum_at : ℕ → ℕ → List ℕ → ℕ
sum_at a k w = sum (λ l. get_or w (a + l) 0) (up_from 0 k)

-- the largest of n numbers from a on
abbrev pub most_at : ℕ → ℕ → List ℕ → ℕ
most_at a n w = most (λ i. get_or w (a + i) 0) (up_from 0 n)

-- the sum of an edge's K capacities
abbrev pub capacity_sum : Shape → List ℕ → ℕ → ℕ
capacity_sum g w e = sum_at (e * g.k) g.k w

-- by how much the demand of edge e, of those from a on, is above its flat capacity, of those from b on
abbrev pub over_in : ℕ → ℕ → List ℕ → ℕ → ℕ
over_in a b w e = over (get_or w (b + e) 0) (get_or w (a + e) 0)

abbrev pub over_at : Shape → List ℕ → ℕ → ℕ
over_at g w e = over_in (demand_at g) (flat_at g) w e

pub most-eq : (f h : ℕ → ℕ) (xs : List ℕ) → ((x : ℕ) → In x xs → f x ≡ h x) → most f xs ≡ most h xs
most-eq f h xs e =
    omega (
      arith,
      most-le f (most h xs) xs (λ x i. omega (arith, e x i, most-part h x xs i)),
      most-le h (most f xs) xs (λ x i. omega (arith, e x i, most-part f x xs i)),
    )

module _ (g : Shape) (j : Job) (w : List ℕ) where
  pub capacity-sum : Capacities g j w → g.k ≡ j.layers → AllCounted j → (e : ℕ) → e < g.e → capacity_sum g w e ≡ flat_capacity j e
  capacity-sum c k all e h =
      sum-eq (λ l. get_or w (e * g.k + l) 0) (λ l. capacity j e (suc l)) (up_from 0 g.k)
      (λ l i. cap-at g j w c e l h (omega (arith, (in-up_from l 0 g.k).0 i)))
      ∙ sym (sum-shift (capacity j e) 0 g.k)
      ∙ ap (λ (n : ℕ). sum (capacity j e) (up_from 1 n)) k
      ∙ sym (all e)

  module _ (demands : FlatDemands g j w) (flat : FlatCapacities g j w) where
    over-at : (e : ℕ) → e < g.e → over_at g w e ≡ flat_overflow j e
    over-at e h = omega (arith, demands e h, flat e h)

    pub overflows-are : (w' : List ℕ) (r : Flat) → g.e ≡ edge_count j → ((e : ℕ) → e < g.e → get_or w' (demand_at g + e) 0 ≡ over_at g w e)
        → r.total ≡ sum (over_at g w) (up_from 0 g.e) → r.most ≡ most (over_at g w) (up_from 0 g.e) → Overflows g j w' r
    overflows-are w' r n each total largest = record {
      each = λ e h. each e h ∙ over-at e h;
      total = total ∙ sum-eq (over_at g w) (flat_overflow j) (up_from 0 g.e) inside ∙ ap (λ (m : ℕ). sum (flat_overflow j) (up_from 0 m)) n;
      most = largest ∙ most-eq (over_at g w) (flat_overflow j) (up_from 0 g.e) inside ∙ ap (λ (m : ℕ). most (flat_overflow j) (up_from 0 m)) n;
    }
      where
        inside : (e : ℕ) → In e (up_from 0 g.e) → over_at g w e ≡ flat_overflow j e
        inside e i = over-at e (omega (arith, (in-up_from e 0 g.e).0 i))

  -- the plan before the first turn: no net is on a layer that runs its edge's way, and the others are closed
  pub so-far-first : Capacities g j w → ((e l : ℕ) → e < g.e → 1 ≤ l → l ≤ g.k → runs j.dirs (group j e) l ≡ true → get_or w (loads_at g + e * g.k + (l - 1)) 0 ≡ 0)
      → ((e l : ℕ) → e < g.e → 1 ≤ l → l ≤ g.k → runs j.dirs (group j e) l ≡ false → closed_load ≤ get_or w (loads_at g + e * g.k + (l - 1)) 0)
      → ((e : ℕ) → e < g.e → get_or w (demand_at g + e) 0 ≡ flat_overflow j e) → SoFar g j (replicate (net_count j) []) w
  so-far-first c none shut each = record {
    capacities = c;
    loads = λ e l h a b r. none e l h a b r ∙ sym (load-empty e l (net_edges j) (net_count j));
    closed = shut;
    left = λ e h.
        omega (
          arith,
          each e h,
          sum-zero (λ l. over (capacity j e l) (placed j (replicate (net_count j) []) e l)) (layers_of j e)
              (λ l i. omega (arith, load-empty e l (net_edges j) (net_count j))),
        );
  }
