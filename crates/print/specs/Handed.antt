-- The text written from what the net table and the answer list hold of a planned job is the job's print.
-- Assumes nothing.
use mathlib.Core.List.{List, [], ◌∷◌, ◌++◌, map, append_assoc}
use Rattle.std.specs.Prelude.{Option, ◌≡◌, refl, ℕ, zero, suc, ◌+◌, ◌-◌, ◌≤◌, ◌<◌, length, take, drop, get_or}
use Rattle.std.proofs.Common.{sym, ap₂, ◌∙◌, arith}
use Rattle.std.proofs.Math.Path.{ap}
use Rattle.std.proofs.lemmas.List.{length-map}
use Rattle.std.proofs.Math.ListN.{get_or-map}
use Rattle.std.proofs.lemmas.List.Edits.{sets}
use Rattle.layout.specs.Table.{turn_column}
use Rattle.model.specs.Calls.{overwrite}
use Rattle.model.specs.Job.{Net, Job, net_count, no_net, net_of, net_entries, entry_count}
use Rattle.model.specs.Limits.{most_nets}
use Rattle.model.specs.Lists.{up_from}
use Rattle.model.specs.Overflow.{total_overflow, max_overflow}
use Rattle.model.specs.Plan.{plan, answered, net_vias, total_vias}
use Rattle.model.specs.Print.{print_line, print_nets, plan_lines, ldof_line, printed}
use Rattle.model.specs.Read.{Lent, print_need}
use Rattle.model.specs.Score.{Entry, order}
use Rattle.model.specs.Vias.{vias}
use Rattle.theory.proofs.links.Meets.{order-long}
use Rattle.theory.specs.links.Placing.{no_entry, entry_at}
use Rattle.theory.proofs.links.Planned.{plan-in-turn}
use Rattle.theory.specs.links.Reading.{Accepted}
use Rattle.theory.proofs.links.Room.{print-room}
use Rattle.theory.specs.links.Stretches.{offset-room, cut-length, cut_at}
use Rattle.net.specs.Held.{Held}
use Rattle.print.specs.Texts.{vias_of, layers_of, nets_text, turns_of, totals_text, lines_text, ldof_text, plan_text, Rows}
use Rattle.put.specs.Wrote.{sets-overwrite}

-- ---- a list number by number

listed : {A : Type 0} (f : ℕ → A) (d : A) (xs : List A) (i : ℕ) → ((k : ℕ) → k < length xs → f (i + k) ≡ get_or xs k d) → map f (up_from i (length xs)) ≡ xs
listed f d [] i h = refl
listed {A} f d (x ∷ xs) i h =
    let z : i ≡ i + 0 = omega arith in
    ap₂ {C = List A} (λ a r. a ∷ r) (ap f z ∙ h 0 (omega arith))
    (listed f d xs (suc i) (λ k b. let e : suc i + k ≡ i + suc k = omega arith in ap f e ∙ h (suc k) (omega arith)))

module _ (j : Job) where
  vias-long : (ns : List Net) (ys : List (List ℕ)) → length ys ≡ length ns → length (net_vias j ns ys) ≡ length ns
  vias-long [] ys h = refl
  vias-long (n ∷ ns) [] h = absurd (omega arith)
  vias-long (n ∷ ns) (y ∷ ys) h = ap suc (vias-long ns ys (omega arith))

  vias-at : (ns : List Net) (ys : List (List ℕ)) (k : ℕ) → length ys ≡ length ns → k < length ns
      → get_or (net_vias j ns ys) k 0 ≡ vias j (get_or ns k no_net).pins (get_or ns k no_net).edges (get_or ys k [])
  vias-at [] ys k h b = absurd (omega arith)
  vias-at (n ∷ ns) [] k h b = absurd (omega arith)
  vias-at (n ∷ ns) (y ∷ ys) zero h b = refl
  vias-at (n ∷ ns) (y ∷ ys) (suc k) h b = vias-at ns ys k (omega arith) (omega arith)

regroup : (f a b c : List ℕ) → f ++ (a ++ b ++ c) ≡ f ++ a ++ b ++ c
regroup f a b c = simp append_assoc

module _ (j : Job) (y : List (List ℕ)) (plan-long : length y ≡ net_count j) (table answer : List ℕ) (held : Held j y table answer) where
  entries-long : length (net_entries j) ≡ net_count j
  entries-long = length-map {B = List ℕ} j.nets (λ n. n.entries)

  answered-long : length (answered j.nets y) ≡ net_count j
  answered-long = sym (ap length held.layers) ∙ cut-length (net_entries j) answer ∙ entries-long

  -- net i + 1 stands at place i
  at_place : (i : ℕ) → net_of j (suc i) ≡ get_or j.nets i no_net
  at_place i = let e : suc i - 1 ≡ i = omega arith in ap (λ (k : ℕ). get_or j.nets k no_net) e

  entries_at : (i : ℕ) → get_or (net_entries j) i [] ≡ (net_of j (suc i)).entries
  entries_at i = get_or-map {B = List ℕ} (λ n. n.entries) j.nets i no_net ∙ sym (ap (λ (n : Net). n.entries) (at_place i))

  -- every net has its row, and its stretch is inside the answer list
  pub held_rows : net_count j ≤ most_nets → Rows (net_count j) table answer
  held_rows few i h = record {
    few = omega arith;
    row = held.table_long;
    stretch =
        omega (
          arith,
          held.first i h,
          held.count i h,
          ap length (entries_at i),
          offset-room (net_entries j) i (omega (arith, entries-long)),
          held.answer_long,
        );
  }

  vias_are : map (vias_of table) (up_from 0 (net_count j)) ≡ net_vias j j.nets y
  vias_are =
      ap (λ (k : ℕ). map (vias_of table) (up_from 0 k)) (sym (vias-long j j.nets y plan-long))
      ∙ listed (vias_of table) 0 (net_vias j j.nets y) 0 at
    where
      at : (k : ℕ) → k < length (net_vias j j.nets y) → vias_of table (0 + k) ≡ get_or (net_vias j j.nets y) k 0
      at k b =
          let h : k < net_count j = omega (arith, vias-long j j.nets y plan-long) in
          let e : 0 + k ≡ k = omega arith in
          ap (vias_of table) e
          ∙ held.vias k h
          ∙ ap (λ (n : Net). vias j n.pins n.edges (get_or y k [])) (at_place k)
          ∙ sym (vias-at j j.nets y k plan-long h)

  layers-are : map (layers_of table answer) (up_from 0 (net_count j)) ≡ answered j.nets y
  layers-are = ap (λ (k : ℕ). map (layers_of table answer) (up_from 0 k)) (sym answered-long) ∙ listed (layers_of table answer) [] (answered j.nets y) 0 at
    where
      at : (k : ℕ) → k < length (answered j.nets y) → layers_of table answer (0 + k) ≡ get_or (answered j.nets y) k []
      at k b =
          let h : k < net_count j = omega (arith, answered-long) in
          let e : 0 + k ≡ k = omega arith in
          ap (layers_of table answer) e
          ∙ ap₂ (λ (m o : ℕ). take m (drop o answer)) (held.count k h ∙ sym (ap length (entries_at k))) (held.first k h)
          ∙ sym (cut_at (net_entries j) answer k (omega (arith, entries-long)))
          ∙ ap (λ (p : List (List ℕ)). get_or p k []) held.layers

  -- the nets' part of the print
  pub nets-printed : nets_text table answer 0 (net_count j) ≡ print_nets 1 (net_vias j j.nets y) (answered j.nets y)
  nets-printed = ap₂ (λ (vs : List ℕ) (ys : List (List ℕ)). print_nets 1 vs ys) vias_are layers-are

  lines-printed : (turns : List Entry) → turns_of table (net_count j) ≡ map (λ t. t.net) turns
      → lines_text (net_count j) table answer (total_vias j y) (total_overflow j y) (max_overflow j y) ≡ plan_lines j turns y
  lines-printed turns e =
      ap₂ (λ (o n : List ℕ). print_line "order" o ++ n ++ totals_text (total_vias j y) (total_overflow j y) (max_overflow j y)) e nets-printed
      ∙ regroup (print_line "order" (map (λ t. t.net) turns) ++ print_nets 1 (net_vias j j.nets y) (answered j.nets y))
      (print_line "total_vias" (total_vias j y ∷ [])) (print_line "total_overflow" (total_overflow j y ∷ [])) (print_line "max_overflow" (max_overflow j y ∷ []))

  -- the whole print
  pub plan-printed : (turns : List Entry) → turns_of table (net_count j) ≡ map (λ t. t.net) turns
      → lines_text (net_count j) table answer (total_vias j y) (total_overflow j y) (max_overflow j y) ++ ldof_line j ≡ printed j turns y
  unfolding printed
  plan-printed turns e = ap (λ (l : List ℕ). l ++ ldof_line j) (lines-printed turns e)

-- ---- what is written for an accepted job

-- what is handed over: N, the nets in placing order, which stand in the net table, and what is told of the plan
pub record Handed (j : Job) (n : ℕ) (table : List ℕ) (vias total most : ℕ) (last : Option ℕ) : Type 0 where
  pub count : n ≡ net_count j
  pub turns : (k : ℕ) → k < n → get_or table (turn_column k) 0 ≡ (entry_at (order j) k).net
  pub vias_told : vias ≡ total_vias j (plan j)
  pub total_told : total ≡ total_overflow j (plan j)
  pub most_told : most ≡ max_overflow j (plan j)
  pub last_told : ldof_text last ≡ ldof_line j

module _ (lent : Lent) (j : Job) (acc : Accepted lent j) (table answer : List ℕ) (held : Held j (plan j) table answer)
    (n vias total most : ℕ) (last : Option ℕ) (handed : Handed j n table vias total most last) where
  pub plan-rows : Rows n table answer
  plan-rows i h = held_rows j (plan j) (plan-in-turn lent j acc).one_each table answer held acc.count_of_nets i (omega (arith, handed.count))

  -- the nets of the turns are those of the order
  turns_are : turns_of table (net_count j) ≡ map (λ t. t.net) (order j)
  turns_are =
      ap (turns_of table) (sym long) ∙ listed (λ k. get_or table (turn_column k) 0) 0 (map (λ t. t.net) (order j)) 0 at
    where
      long : length (map (λ t. t.net) (order j)) ≡ net_count j
      long = length-map {B = ℕ} (order j) (λ t. t.net) ∙ order-long lent j acc

      at : (k : ℕ) → k < length (map (λ t. t.net) (order j)) → get_or table (turn_column (0 + k)) 0 ≡ get_or (map (λ t. t.net) (order j)) k 0
      at k b =
          let e : 0 + k ≡ k = omega arith in
          ap (λ (i : ℕ). get_or table (turn_column i) 0) e
          ∙ handed.turns k (omega (arith, long, handed.count))
          ∙ sym (get_or-map {B = ℕ} (λ t. t.net) (order j) k no_entry)

  -- the text is the job's print
  pub plan-text : plan_text n table answer vias total most last ≡ printed j (order j) (plan j)
  plan-text =
      ap₂ (λ (m v : ℕ). plan_text m table answer v total most last) handed.count handed.vias_told
      ∙ ap₂ (λ (t m : ℕ). plan_text (net_count j) table answer (total_vias j (plan j)) t m last) handed.total_told handed.most_told
      ∙ ap (λ (l : List ℕ). lines_text (net_count j) table answer (total_vias j (plan j)) (total_overflow j (plan j)) (max_overflow j (plan j)) ++ l) handed.last_told
      ∙ plan-printed j (plan j) (plan-in-turn lent j acc).one_each table answer held (order j) turns_are

  -- "a print buffer of 256 + 64 × N + 2 × A bytes" has room for it, and it fills its start
  module _ (w : List ℕ) (room : print_need (net_count j) (entry_count j) ≤ length w) where
    pub plan-fits : length (plan_text n table answer vias total most last) ≤ length w
    plan-fits = omega (arith, ap length plan-text, print-room lent j acc)

    pub plan-overwrites : sets w 0 (plan_text n table answer vias total most last) ≡ overwrite (printed j (order j) (plan j)) w
    plan-overwrites = ap (sets w 0) plan-text ∙ sets-overwrite w (printed j (order j) (plan j)) (omega (arith, print-room lent j acc))
