-- Overflow on the flat plan and on the layers. Document 01, "Terms of the plan".
-- Assumes nothing.
use Rattle.std.specs.Prelude.{List, [], ◌∷◌, ℕ, ◌+◌, ◌-◌, ◌*◌, ◌/◌, length}
use Rattle.model.specs.Job.{Job, all_edges, layers_in, layers_of, edges_in, capacity, net_edges}
use Rattle.model.specs.Lists.{sum, most, same, occurs}

-- "d − c or 0, whichever is larger": the overflow of x nets over a capacity c. The subtraction of numbers stops at 0.
abbrev pub over : ℕ → ℕ → ℕ
over c x = x - c

-- ---- the flat plan

-- "d(e) the nets using it"; `nets` holds the edges of each net
abbrev pub demand : ℕ → List (List ℕ) → ℕ
demand e [] = 0
demand e (n ∷ ns) = occurs e n + demand e ns

abbrev pub flat_demand : Job → ℕ → ℕ
flat_demand j e = demand e (net_edges j)

-- "c(e) is the sum of an edge's K capacities"; a layer that runs the other way has capacity 0 (row 12), so the layers of the edge are enough
abbrev pub flat_capacity : Job → ℕ → ℕ
flat_capacity j e = sum (capacity j e) (layers_of j e)

-- "o(e) = d − c or 0, whichever is larger"
abbrev pub flat_overflow : Job → ℕ → ℕ
flat_overflow j e = over (flat_capacity j e) (flat_demand j e)

-- "TO is the sum of all o, MO the largest, 0 where there are no edges."
abbrev pub TO : Job → ℕ
TO j = sum (flat_overflow j) (all_edges j)

abbrev pub MO : Job → ℕ
MO j = most (flat_overflow j) (all_edges j)

-- "rounded up"
unfoldable pub ceil_div : ℕ → ℕ → ℕ
ceil_div o k = (o + (k - 1)) / k

-- the largest flat overflow among the edges of a group: MO itself in a job without `dirs`
abbrev pub group_most : Job → ℕ → ℕ
group_most j g = most (flat_overflow j) (edges_in j g)

-- "for each direction, the largest flat overflow among edges of that direction divided by the number of its layers, rounded up, and 0 where it has no
-- edge or no layer" (a quotient by 0 is 0): in a job without `dirs`, "MO/K rounded up"
abbrev pub limit : Job → ℕ → ℕ
limit j g = ceil_div (group_most j g) (length (layers_in j g))

-- ---- the layers

-- how often a net with the edges es, put on the layers bs, uses edge e on layer l: 0 where the net has no layers yet
abbrev pub uses : ℕ → ℕ → List ℕ → List ℕ → ℕ
uses e l [] bs = 0
uses e l (a ∷ es) [] = 0
uses e l (a ∷ es) (b ∷ bs) = same e a * same b l + uses e l es bs

-- the nets that use edge e on layer l; `ys` holds the layers of each net's edges
abbrev pub load : ℕ → ℕ → List (List ℕ) → List (List ℕ) → ℕ
load e l [] ys = 0
load e l (n ∷ ns) [] = 0
load e l (n ∷ ns) (y ∷ ys) = uses e l n y + load e l ns ys

-- "On a layer the same with that layer's own capacity and nets."
abbrev pub layer_overflow : Job → List (List ℕ) → ℕ → ℕ → ℕ
layer_overflow j ys e l = over (capacity j e l) (load e l (net_edges j) ys)

-- "Its total and maximum are the sum and the largest of the overflows of all layers of all edges, under the nets it puts there, and 0 where there
-- are no edges."
abbrev pub total_overflow : Job → List (List ℕ) → ℕ
total_overflow j ys = sum (λ e. sum (layer_overflow j ys e) (layers_of j e)) (all_edges j)

abbrev pub max_overflow : Job → List (List ℕ) → ℕ
max_overflow j ys = most (λ e. most (layer_overflow j ys e) (layers_of j e)) (all_edges j)

-- the same among the edges of a group: "the mission's third demand has one maximum per direction"
abbrev pub peak : Job → List (List ℕ) → ℕ → ℕ
peak j ys g = most (λ e. most (layer_overflow j ys e) (layers_of j e)) (edges_in j g)
