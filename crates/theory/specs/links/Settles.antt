-- What the record `Met` of demand 3 settles by itself, of any returned numbers and any buffers. That it does, and that both calls give it, stands in
-- proofs/links/Settles.antt.
-- Assumes nothing.
use Rattle.std.specs.Prelude.{◌≡◌, List, [], ℕ, suc, ◌≤◌, ◌<◌, max, take, get_or}
use Rattle.std.proofs.Common.{ap₂, ◌∙◌}
use Rattle.model.specs.Calls.{Returned, Buffers}
use Rattle.model.specs.Demand3.{turns, order_in, plan_in, Met}
use Rattle.model.specs.Job.{Net, Job, net_count, layers_of, net_of, net_edges}
use Rattle.model.specs.Layering.{IsLayering}
use Rattle.model.specs.Overflow.{TO, limit, total_overflow, peak}
use Rattle.model.specs.Plan.{total_vias}
use Rattle.model.specs.Score.{Entry, order}
use Rattle.model.specs.Vias.{vias}
use Rattle.theory.specs.links.Best.{LegalFor}
use Rattle.theory.specs.links.Groups.{maximum-both}
use Rattle.theory.specs.links.Planned.{loads_at}

-- "An accepted job returns 0, 0, total vias, TO and MO of the layered plan"; the order list carries the order of the scores, and the plan's total and
-- maximum are just TO and the larger of the limits of the two groups: without `dirs`, MO/K rounded up
pub met-settles : (j : Job) (r : Returned) (b : Buffers) → Met j r b
    → (r.number ≡ 0) × (r.line ≡ 0) × (order_in j b.order ≡ order j) × (r.total ≡ TO j) × (r.maximum ≡ max (limit j 0) (limit j 1))
met-settles j r b m = (
  m.number,
  m.line,
  m.order_told,
  m.total_told ∙ m.demand.total,
  m.maximum_told ∙ maximum-both j (plan_in j b.answer) ∙ ap₂ max (m.demand.maximum 0) (m.demand.maximum 1),
)

-- ---- every field taken apart

-- the place of the net whose turn is i, and the net
abbrev pub place_at : Job → ℕ → ℕ
place_at j i = get_or (turns (order j)) i 0

abbrev pub net_in_turn : Job → ℕ → Net
net_in_turn j i = net_of j (suc (place_at j i))

-- its vias on the layers ys
abbrev pub vias_in_turn : Job → ℕ → List ℕ → ℕ
vias_in_turn j i ys = vias j (net_in_turn j i).pins (net_in_turn j i).edges ys

-- the layers ys are legal for it, "after this net is put there", over the nets placed before it as the plan has them
abbrev pub LegalInTurn : Job → List (List ℕ) → ℕ → List ℕ → Type 0
LegalInTurn j plan i ys = LegalFor j (loads_at j (turns (order j)) plan i) (net_in_turn j i) ys

-- A layering with every earlier net as in the plan, this net on the layers ys, the total TO, and in each group of edges a maximum of at most its
-- limit
abbrev pub Completes : Job → List (List ℕ) → ℕ → List ℕ → List (List ℕ) → Type 0
Completes j plan i ys whole =
    IsLayering (layers_of j) (net_edges j) whole × ((k : ℕ) → k < i → get_or whole (place_at j k) [] ≡ get_or plan (place_at j k) [])
    × (get_or whole (place_at j i) [] ≡ ys) × (total_overflow j whole ≡ TO j) × ((g : ℕ) → peak j whole g ≤ limit j g)

-- Demand 3 without its records: what stands here is said of the returned numbers r, the order list and the plan
pub record Settled (j : Job) (r : Returned) (list : List Entry) (plan : List (List ℕ)) : Type 0 where
  pub number : r.number ≡ 0
  pub line : r.line ≡ 0
  pub order_list : take (net_count j) list ≡ order j
  pub is_layering : IsLayering (layers_of j) (net_edges j) plan
  pub total : total_overflow j plan ≡ TO j
  pub maximum : (g : ℕ) → peak j plan g ≡ limit j g
  pub least_total : (ys : List (List ℕ)) → IsLayering (layers_of j) (net_edges j) ys → total_overflow j plan ≤ total_overflow j ys
  pub least_maximum : (ys : List (List ℕ)) → IsLayering (layers_of j) (net_edges j) ys → (g : ℕ) → peak j plan g ≤ peak j ys g
  pub vias_told : r.vias ≡ total_vias j plan
  pub total_told : r.total ≡ TO j
  pub maximum_told : r.maximum ≡ max (limit j 0) (limit j 1)
  -- at every turn there is a choice from which the later nets can be placed, and the plan's is one
  pub some_choice : (i : ℕ) → i < net_count j → (ys : List ℕ) × (whole : List (List ℕ)) × Completes j plan i ys whole
  pub completes : (i : ℕ) → i < net_count j → (whole : List (List ℕ)) × Completes j plan i (get_or plan (place_at j i) []) whole
  -- at every turn the plan's choice is legal, and no legal choice has fewer vias; nor has any from which the later nets can be placed
  pub legal : (i : ℕ) → i < net_count j → LegalInTurn j plan i (get_or plan (place_at j i) [])
  pub fewest : (i : ℕ) → i < net_count j → (ys : List ℕ) → LegalInTurn j plan i ys → vias_in_turn j i (get_or plan (place_at j i) []) ≤ vias_in_turn j i ys
  pub fewest_of_all : (i : ℕ) → i < net_count j → (ys : List ℕ) (whole : List (List ℕ)) → Completes j plan i ys whole
      → vias_in_turn j i (get_or plan (place_at j i) []) ≤ vias_in_turn j i ys
