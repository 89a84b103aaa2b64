-- Jobs whose edges stand in groups: a choice is to be considered just where it is legal, there always is one, and a planner that goes by turns meets
-- demand 3.
-- Assumes nothing.
use Rattle.std.specs.Prelude.{◌≡◌, List, [], ◌↔◌, ℕ, ◌≤◌, ◌<◌, length, get_or}
use Rattle.std.proofs.Common.{arith}
use Rattle.theory.specs.congestion.Sums.{occurs}
use Rattle.theory.specs.congestion.Problem.{Problem, ProblemOk, NetsOk, demand, IsLayering, Keeps, LegalChoice, before, net_at, Considered, Demand3, Greedy}
use Rattle.theory.specs.congestion.Turns.{Room}
use Rattle.theory.specs.congestion.Order.{IsOrder, in_order, placing, Demand3At}
use Rattle.theory.specs.congestion.Directions.{group_job, limit_in, peak, Bounded, ok, room, bounded-iff, layering-low}
use Rattle.theory.proofs.congestion.Turns.{legal-exists, considered-iff-legal, greedy-demand3}
use Rattle.theory.proofs.congestion.Order.{demand3-at, demand3-greedy}

module _ (edges : List ℕ) (group : ℕ → ℕ) (layers_in : ℕ → List ℕ) (cap : ℕ → ℕ → ℕ) (nets : List (List ℕ))
    (once : (g l : ℕ) → occurs l (layers_in g) ≤ 1)
    (nets_ok : NetsOk edges nets)
    -- no net uses an edge whose group has no layer
    (has-layer : (e : ℕ) → length (layers_in (group e)) ≡ 0 → demand e nets ≡ 0) where
  abbrev job : Problem
  job = group_job edges group layers_in cap nets

  -- the limit of an edge is that of its group
  abbrev limit : ℕ → ℕ
  limit e = limit_in edges group layers_in cap nets (group e)

  abbrev bound : List (List ℕ) → Type 0
  bound = Bounded edges group layers_in cap nets

  abbrev okp : ProblemOk job
  okp = ok edges group layers_in cap nets once nets_ok has-layer

  abbrev roomp : Room job limit
  roomp = room edges group layers_in cap nets once nets_ok has-layer

  abbrev boundedp : (ys : List (List ℕ)) → bound ys ↔ Keeps job limit ys
  boundedp = bounded-iff edges group layers_in cap nets once nets_ok has-layer

  -- (2) a choice is to be considered at a net's turn just where it is legal
  pub considered↔legal : (plan : List (List ℕ)) (i : ℕ) → i < length nets → i ≤ length plan
      → ((k : ℕ) → k < i → LegalChoice job limit (before job plan k) (net_at job k) (get_or plan k []))
      → (choice : List ℕ) → Considered job bound plan i choice ↔ LegalChoice job limit (before job plan i) (net_at job i) choice
  considered↔legal = considered-iff-legal job okp limit roomp bound boundedp

  -- (3) there is one
  pub legal-choice : (plan : List (List ℕ)) (i : ℕ) → i < length nets → i ≤ length plan
      → ((k : ℕ) → k < i → LegalChoice job limit (before job plan k) (net_at job k) (get_or plan k []))
      → (choice : List ℕ) × LegalChoice job limit (before job plan i) (net_at job i) choice
  legal-choice = legal-exists job okp limit roomp

  -- where each group keeps its limit, its maximum is just the limit
  exact : (plan : List (List ℕ)) → IsLayering job.layers nets plan → bound plan
      → (g : ℕ) → peak edges group layers_in cap nets plan g ≡ limit_in edges group layers_in cap nets g
  exact plan ly b g = omega (arith, b g, (layering-low edges group layers_in cap nets once nets_ok has-layer plan ly).1 g)

  -- (4) a plan that takes a cheapest legal choice at each turn meets demand 3, and each group's maximum is just its limit
  pub demand3-groups : (cost : ℕ → List ℕ → ℕ) (plan : List (List ℕ)) → Greedy job limit cost plan
      → Demand3 job bound cost plan × ((g : ℕ) → peak edges group layers_in cap nets plan g ≡ limit_in edges group layers_in cap nets g)
  demand3-groups cost plan g =
      let r = greedy-demand3 job okp limit roomp bound boundedp cost plan g in
      (r, exact plan r.is_layering r.in_bounds)

  -- the same for a plan in job order
  pub demand3-groups-at : (order : List ℕ) → IsOrder order (length nets) → (cost : ℕ → List ℕ → ℕ) (plan : List (List ℕ)) → length plan ≡ length nets
      → Greedy (placing order job) limit (λ i. cost (get_or order i 0)) (in_order order plan)
      → Demand3At job bound order cost plan × ((g : ℕ) → peak edges group layers_in cap nets plan g ≡ limit_in edges group layers_in cap nets g)
  demand3-groups-at order is-order cost plan long g =
      let r = demand3-at job okp limit roomp order is-order bound boundedp cost plan long g in
      (r, exact plan r.is_layering r.in_bounds)

  -- and what meets it takes a cheapest legal choice at each turn
  pub groups-greedy : (order : List ℕ) → IsOrder order (length nets) → (cost : ℕ → List ℕ → ℕ) (plan : List (List ℕ)) → Demand3At job bound order cost plan
      → Greedy (placing order job) limit (λ i. cost (get_or order i 0)) (in_order order plan)
  groups-greedy order is-order = demand3-greedy job okp limit roomp order is-order bound boundedp
