-- A job without the line `dirs` is as document 01 has it: one group of edges, all layers, one limit, one maximum, and it is read as before. Document 02,
-- S-2: "jobs without the line read as before".
-- Assumes nothing.
use Rattle.std.specs.Prelude.{◌≡◌, refl, Bool, true, not, ◌↔◌, ℕ, zero, suc, ◌≤◌, T, eqb, leb, length}
use Rattle.std.proofs.Math.Path.{ap, fun_ext}
use Rattle.std.proofs.Common.{ap₂, ◌∙◌, arith}
use mathlib.Core.List.{List, [], ◌∷◌, ◌++◌, map}
use Rattle.std.proofs.Math.Option.{none}
use Prim.Native.String.{String}
use Rattle.model.specs.Demand3.{Layering}
use Rattle.model.specs.Job.{Pin, Job, all_edges, runs, group, layers_in, layers_of, edges_in, capacity, net_edges}
use Rattle.model.specs.Layering.{IsLayering}
use Rattle.model.specs.Legal.{is_legal}
use Rattle.model.specs.Limits.{most_capacity}
use Rattle.model.specs.Lists.{up_from, all, twice}
use Rattle.model.specs.Overflow.{over, flat_demand, flat_capacity, flat_overflow, MO, limit, layer_overflow, total_overflow, max_overflow, peak}
use Rattle.model.specs.Plan.{placed, legal}
use Rattle.model.specs.Read.{Place, found, Reading, form, need, give, line, ◌>>=◌, ◌>>◌, dirs_line, capacity_line, edge_entries, edge_inside, edge_at, Sizes, has_layer, edges_line}
use Rattle.model.specs.Text.{bytes, behind, numbers}
use Rattle.model.specs.Tree.{joined}
use Rattle.theory.specs.congestion.Sums.{sum, most, keep, keep_all, keep-none, eqb-false}
use Rattle.theory.specs.congestion.Base.{length-up_from}
use Rattle.theory.specs.congestion.Edge.{ceil_div, ceil-none}
use Rattle.theory.specs.congestion.Tests.{is_true, in_all}

-- ---- the terms

module _ (j : Job) (plain : j.dirs ≡ none) where
  abbrev all_layers : List ℕ
  all_layers = up_from 1 j.layers

  pub plain-group : (e : ℕ) → group j e ≡ 0
  plain-group e = rw plain refl

  pub plain-layers : (g : ℕ) → layers_in j g ≡ all_layers
  plain-layers g = rw plain (keep_all (runs none g) all_layers (λ l. tt))

  pub plain-edges : edges_in j 0 ≡ all_edges j
  plain-edges = keep_all (λ e. eqb (group j e) 0) (all_edges j) (λ e. rw (plain-group e) tt)

  pub plain-others : (g : ℕ) → edges_in j (suc g) ≡ []
  plain-others g = keep-none (λ e. eqb (group j e) (suc g)) (all_edges j) (λ e. eqb-false (group j e) (suc g) (λ k. omega (arith, plain-group e)))

  -- "c(e) is the sum of an edge's K capacities"
  pub plain-capacity : (e : ℕ) → flat_capacity j e ≡ sum (capacity j e) all_layers
  plain-capacity e = ap (sum (capacity j e)) (plain-layers (group j e))

  -- "MO/K rounded up"
  pub plain-limit : limit j 0 ≡ ceil_div (MO j) j.layers
  plain-limit =
      ap₂ ceil_div (ap (most (flat_overflow j)) plain-edges) (ap length (plain-layers 0) ∙ length-up_from 1 j.layers)

  pub plain-limit-at : (e : ℕ) → limit j (group j e) ≡ ceil_div (MO j) j.layers
  plain-limit-at e = ap (limit j) (plain-group e) ∙ plain-limit

  -- the legal layers
  pub plain-legal : (plan : List (List ℕ)) (e : ℕ)
      → legal j plan e
      ≡ keep (is_legal all_layers (capacity j e) (placed j plan e) (ceil_div (MO j) j.layers) (over (sum (capacity j e) all_layers) (flat_demand j e))) all_layers
  unfolding legal
  plain-legal plan e =
      ap (λ (m : ℕ). keep (is_legal (layers_of j e) (capacity j e) (placed j plan e) m (flat_overflow j e)) (layers_of j e)) (plain-limit-at e)
      ∙ ap (λ (ls : List ℕ). keep (is_legal ls (capacity j e) (placed j plan e) (ceil_div (MO j) j.layers) (over (sum (capacity j e) ls) (flat_demand j e))) ls)
      (plain-layers (group j e))

  -- layerings, their totals and maxima
  pub plain-layering : (ys : List (List ℕ)) → Layering j ys ≡ IsLayering (λ e. all_layers) (net_edges j) ys
  plain-layering ys = ap (λ (ls : ℕ → List ℕ). IsLayering ls (net_edges j) ys) (fun_ext (λ e. plain-layers (group j e)))

  pub plain-total : (ys : List (List ℕ)) → total_overflow j ys ≡ sum (λ e. sum (layer_overflow j ys e) all_layers) (all_edges j)
  plain-total ys = ap (λ (f : ℕ → ℕ). sum f (all_edges j)) (fun_ext (λ e. ap (sum (layer_overflow j ys e)) (plain-layers (group j e))))

  pub plain-maximum : (ys : List (List ℕ)) → max_overflow j ys ≡ most (λ e. most (layer_overflow j ys e) all_layers) (all_edges j)
  plain-maximum ys = ap (λ (f : ℕ → ℕ). most f (all_edges j)) (fun_ext (λ e. ap (most (layer_overflow j ys e)) (plain-layers (group j e))))

  -- the one group's maximum is the maximum; there is no other group
  pub plain-peak : (ys : List (List ℕ)) → peak j ys 0 ≡ max_overflow j ys
  plain-peak ys = ap (most (λ e. most (layer_overflow j ys e) (layers_of j e))) plain-edges

  pub plain-peak-none : (ys : List (List ℕ)) (g : ℕ) → peak j ys (suc g) ≡ 0
  plain-peak-none ys g = ap (most (λ e. most (layer_overflow j ys e) (layers_of j e))) (plain-others g)

  -- what demand 3 says of the maxima is what document 01 says of the one: considered, just the limit, none lower
  pub plain-considered : (ys : List (List ℕ)) → ((g : ℕ) → peak j ys g ≤ limit j g) ↔ (max_overflow j ys ≤ ceil_div (MO j) j.layers)
  plain-considered ys = (λ h. omega (arith, h 0, plain-peak ys, plain-limit), back)
    where
      back : max_overflow j ys ≤ ceil_div (MO j) j.layers → (g : ℕ) → peak j ys g ≤ limit j g
      back h zero = omega (arith, plain-peak ys, plain-limit)
      back h (suc g) = omega (arith, plain-peak-none ys g)

  pub plain-limit-none : (g : ℕ) → limit j (suc g) ≡ 0
  plain-limit-none g = omega (arith, ceil-none (length (layers_in j (suc g))), ap (λ (es : List ℕ). ceil_div (most (flat_overflow j) es) (length (layers_in j (suc g)))) (plain-others g))

  pub plain-exact : (ys : List (List ℕ)) → ((g : ℕ) → peak j ys g ≡ limit j g) ↔ (max_overflow j ys ≡ ceil_div (MO j) j.layers)
  plain-exact ys = (λ h. omega (arith, h 0, plain-peak ys, plain-limit), back)
    where
      back : max_overflow j ys ≡ ceil_div (MO j) j.layers → (g : ℕ) → peak j ys g ≡ limit j g
      back h zero = omega (arith, plain-peak ys, plain-limit)
      back h (suc g) = omega (arith, plain-peak-none ys g, plain-limit-none g)

  pub plain-none-lower : (xs ys : List (List ℕ)) → ((g : ℕ) → peak j xs g ≤ peak j ys g) ↔ (max_overflow j xs ≤ max_overflow j ys)
  plain-none-lower xs ys = (λ h. omega (arith, h 0, plain-peak xs, plain-peak ys), back)
    where
      back : max_overflow j xs ≤ max_overflow j ys → (g : ℕ) → peak j xs g ≤ peak j ys g
      back h zero = omega (arith, plain-peak xs, plain-peak ys)
      back h (suc g) = omega (arith, plain-peak-none xs g)

-- ---- the reading

-- where the rest of the text does not begin `dirs=`, nothing is read, and the job has no directions
pub plain-dirs : (K : ℕ) (p : Place) → behind (bytes "dirs" ++ (61 ∷ [])) p.rest ≡ none → dirs_line K p ≡ found none p
unfolding dirs_line
plain-dirs K p e = rw e refl

-- a capacity line of a layer that runs the edges' way, so every one without `dirs`, is read as before
pub plain-capacity-line : (key : String) (size : ℕ) (p : Place)
    → capacity_line key size true p
    ≡ (do
      v ← line 2 key
      cs ← form 2 (numbers v)
      need 2 (eqb (length cs) size)
      need 3 (all (λ c. leb c most_capacity) cs)
      give cs) p
unfolding capacity_line
plain-capacity-line key size p = refl

-- an `edges` line with some test of its edges last
abbrev edges_with : ℕ → ℕ → List Pin → (List ℕ → Bool) → Reading (List ℕ)
edges_with W H pins t = do
  v ← line 2 "edges"
  es ← form 2 (edge_entries v)
  need 3 (all (edge_inside W H) es)
  let edges = map (edge_at W H) es
  need 6 (not (twice eqb edges))
  need 8 (joined W H pins edges)
  need 13 (t edges)
  give edges

-- the sizes of a job without `dirs`
abbrev plain_sizes : ℕ → ℕ → ℕ → Sizes
plain_sizes W H K = record { width = W; height = H; layers = K; dirs = none }

-- without `dirs` every edge has a layer, so an `edges` line is read as before
pub plain-edges-line : (W H K : ℕ) (pins : List Pin) (p : Place) → 1 ≤ K
    → edges_line (plain_sizes W H K) pins p
    ≡ (do
      v ← line 2 "edges"
      es ← form 2 (edge_entries v)
      need 3 (all (edge_inside W H) es)
      let edges = map (edge_at W H) es
      need 6 (not (twice eqb edges))
      need 8 (joined W H pins edges)
      give edges) p
unfolding edges_line
plain-edges-line W H K pins p h = ap (λ (t : List ℕ → Bool). edges_with W H pins t p) (fun_ext served)
  where
    layer : (k : ℕ) → 1 ≤ k → (e : ℕ) → T (has_layer (plain_sizes W H k) e)
    layer zero b e = absurd (omega arith)
    layer (suc k) b e = tt

    served : (es : List ℕ) → all (has_layer (plain_sizes W H K)) es ≡ true
    served es = is_true (all (has_layer (plain_sizes W H K)) es) (in_all (has_layer (plain_sizes W H K)) es (λ e i. layer K h e))
