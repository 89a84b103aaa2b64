-- Rows for the words of demand 3: choices and layerings, turns, the plan in the answer list, the vias of a choice.
-- Assumes nothing.
use Rattle.std.specs.Prelude.{List, [], ◌∷◌, ℕ, ◌≤◌}
use Rattle.model.specs.Demand3.{net_at, choice_at, choice_vias, order_in, plan_in}
use Rattle.model.specs.Job.{layers_of}
use Rattle.model.specs.Layering.{IsChoice, IsLayering}
use Rattle.model.specs.Rows.Row.{Row, ◌gives◌}
use Rattle.model.specs.Rows.Terms.{mixed, entry}
use Rattle.model.specs.Score.{Entry}

-- "A choice for a net names one layer from 1 to K for each of its edges; a net without edges has just the empty choice. A layering is one choice
-- for every net of the job." A layer from 1 to K stands once among the layers, and any other stands there 0 times.
abbrev choice : List ℕ → List ℕ → Type 0
choice es ys = IsChoice (layers_of mixed) es ys

abbrev pub layering_rows : List (Row (Type 0))
layering_rows =
    (choice [] [] gives Unit {0}) ∷ (choice [] (1 ∷ []) gives ⊥) ∷ (choice (4 ∷ []) [] gives ⊥) ∷ (choice (4 ∷ []) (0 ∷ []) gives ((1 ≤ 0) × Unit {0}))
    ∷ (choice (4 ∷ []) (1 ∷ []) gives ((1 ≤ 1) × Unit {0})) ∷ (choice (4 ∷ []) (3 ∷ []) gives ((1 ≤ 1) × Unit {0}))
    ∷ (choice (4 ∷ []) (4 ∷ []) gives ((1 ≤ 0) × Unit {0})) ∷ (choice (4 ∷ []) (1 ∷ 1 ∷ []) gives ((1 ≤ 1) × ⊥))
    ∷ (IsLayering (layers_of mixed) ([] ∷ []) ([] ∷ []) gives (Unit {0} × Unit {0})) ∷ (IsLayering (layers_of mixed) ([] ∷ []) [] gives ⊥)
    ∷ (IsLayering (layers_of mixed) [] ([] ∷ []) gives ⊥) ∷ []

-- "A net's turn is its place in the order of the scores, which the order list carries"
abbrev listed : List Entry
listed = entry 2 9 ∷ entry 1 8 ∷ entry 7 7 ∷ []

abbrev pub turn_rows : List (Row ℕ)
turn_rows =
    (net_at listed 0 gives 1) ∷ (net_at listed 1 gives 0)
    -- "Vias are counted from the layers as above": of net 2, whose pin is in tile 1 on layer 2
    ∷ (choice_vias mixed 1 (3 ∷ 1 ∷ []) gives 3) ∷ (choice_vias mixed 0 (3 ∷ 1 ∷ 1 ∷ 2 ∷ []) gives 2) ∷ []

abbrev pub order_in_rows : List (Row (List Entry))
order_in_rows = (order_in mixed listed gives entry 2 9 ∷ entry 1 8 ∷ []) ∷ []

-- "The plan is the layering in the answer list."
abbrev pub plan_in_rows : List (Row (List (List ℕ)))
plan_in_rows =
    (plan_in mixed (3 ∷ 1 ∷ 1 ∷ 2 ∷ 1 ∷ 2 ∷ 9 ∷ []) gives (3 ∷ 1 ∷ 1 ∷ 2 ∷ []) ∷ (1 ∷ 2 ∷ []) ∷ [])
    ∷ (choice_at ((1 ∷ []) ∷ (2 ∷ []) ∷ []) 1 ∷ [] gives (2 ∷ []) ∷ []) ∷ []
