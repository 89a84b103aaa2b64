-- The texts that are written, over what the net table and the answer list hold.
-- Assumes nothing.
use Rattle.std.specs.Prelude.{Option, Some, None, List, [], ◌∷◌, ◌++◌, map, ◌≡◌, ℕ, zero, suc, ◌+◌, ◌-◌, ◌*◌, ◌≤◌, ◌<◌, length, get_or}
use Rattle.std.proofs.Common.{sym, ap, ap₂, ◌∙◌, add-one, arith}
use Rattle.std.proofs.lemmas.List.{length-map}
use Rattle.layout.specs.Parts.{part}
use Rattle.layout.specs.Table.{turn_column, first_column, entries_in, vias_column, table_size, net_columns}
use Rattle.model.specs.Limits.{most_nets}
use Rattle.model.specs.Lists.{up_from}
use Rattle.model.specs.Print.{print_line, print_net, print_nets}
use Rattle.theory.specs.congestion.Base.{length-up_from}

-- ---- the nets of the table, counted from 0

-- the vias of net i, and its layers: its stretch of the answer list
abbrev pub vias_of : List ℕ → ℕ → ℕ
vias_of table i = get_or table (vias_column i) 0

abbrev pub layers_of : List ℕ → List ℕ → ℕ → List ℕ
layers_of table answer i = part (get_or table (first_column i) 0) (entries_in table i) answer

-- its lines
abbrev pub row_text : List ℕ → List ℕ → ℕ → List ℕ
row_text table answer i = print_net (i + 1) (vias_of table i) (layers_of table answer i)

-- the lines of k nets from net i on
abbrev pub nets_text : List ℕ → List ℕ → ℕ → ℕ → List ℕ
nets_text table answer i k = print_nets (i + 1) (map (vias_of table) (up_from i k)) (map (layers_of table answer) (up_from i k))

pub nets-more : (table answer : List ℕ) (i n : ℕ) → i < n
    → nets_text table answer i (n - i) ≡ row_text table answer i ++ nets_text table answer (i + 1) (n - (i + 1))
nets-more table answer i n h =
    let e : n - i ≡ suc (n - (i + 1)) = omega arith in
    ap (nets_text table answer i) e ∙ ap₂ (λ (a b : ℕ). row_text table answer i ++ print_nets a (map (vias_of table) (up_from b (n - (i + 1)))) (map (layers_of table answer) (up_from b (n - (i + 1))))) (omega arith) (sym (add-one i))

pub nets-done : (table answer : List ℕ) (i n : ℕ) → i ≡ n → nets_text table answer i (n - i) ≡ []
nets-done table answer i n h = let e : n - i ≡ 0 = omega arith in ap (nets_text table answer i) e

-- the table has a row for net i, and its stretch is inside the answer list
pub record RowInside (table answer : List ℕ) (i : ℕ) : Type 0 where
  pub few : i < most_nets
  pub row : table_size ≤ length table
  pub stretch : get_or table (first_column i) 0 + entries_in table i ≤ length answer

abbrev pub Rows : ℕ → List ℕ → List ℕ → Type 0
Rows n table answer = (i : ℕ) → i < n → RowInside table answer i

-- ---- the nets in placing order

-- the net of each of n turns, as the table has them
abbrev pub turns_of : List ℕ → ℕ → List ℕ
turns_of table n = map (λ k. get_or table (turn_column k) 0) (up_from 0 n)

pub turns-long : (table : List ℕ) (n : ℕ) → length (turns_of table n) ≡ n
turns-long table n = length-map {B = ℕ} (up_from 0 n) (λ k. get_or table (turn_column k) 0) ∙ length-up_from 0 n

up_at : (f : ℕ → ℕ) (a n i : ℕ) → i < n → get_or (map f (up_from a n)) i 0 ≡ f (a + i)
up_at f a zero i h = absurd (omega arith)
up_at f a (suc n) zero h = let e : a ≡ a + 0 = omega arith in ap f e
up_at f a (suc n) (suc i) h = let e : suc a + i ≡ a + suc i = omega arith in up_at f (suc a) n i (omega arith) ∙ ap f e

pub turns_at : (table : List ℕ) (n i : ℕ) → i < n → get_or (turns_of table n) i 0 ≡ get_or table (turn_column i) 0
turns_at table n i h =
    let e : 0 + i ≡ i = omega arith in up_at (λ k. get_or table (turn_column k) 0) 0 n i h ∙ ap (λ (k : ℕ). get_or table (turn_column k) 0) e

-- a table with a row for each of n nets has n turns
pub rows-turns : (n : ℕ) (table answer : List ℕ) → Rows n table answer → (n ≤ most_nets) × (net_columns * n ≤ length table)
rows-turns zero table answer rows = (omega arith, omega arith)
rows-turns (suc n) table answer rows = let r = rows n (omega arith) in (omega arith, omega arith)

-- ---- the whole print

abbrev pub totals_text : ℕ → ℕ → ℕ → List ℕ
totals_text vias total most =
    print_line "total_vias" (vias ∷ []) ++ print_line "total_overflow" (total ∷ []) ++ print_line "max_overflow" (most ∷ [])

-- the n nets in placing order, the n nets of the table, the totals
abbrev pub lines_text : ℕ → List ℕ → List ℕ → ℕ → ℕ → ℕ → List ℕ
lines_text n table answer vias total most =
    print_line "order" (turns_of table n) ++ nets_text table answer 0 n ++ totals_text vias total most

-- the line `ldof`, where it is printed
abbrev pub ldof_text : Option ℕ → List ℕ
ldof_text None = []
ldof_text (Some v) = print_line "ldof" (v ∷ [])

abbrev pub plan_text : ℕ → List ℕ → List ℕ → ℕ → ℕ → ℕ → Option ℕ → List ℕ
plan_text n table answer vias total most last = lines_text n table answer vias total most ++ ldof_text last
