-- The turns of all nets, one after the other.
-- Assumes nothing.
use mathlib.Core.List.{List, [], ◌∷◌, map}
use mathlib.Core.Logic.{⊎_elim}
use mathlib.Core.Path.{◌≡◌, refl, sym, ap, ◌∙◌, subst}
use Prim.Native.Nat.{ℕ, zero, suc, ◌+◌, ◌-◌, ◌*◌, ◌≤◌, ◌<◌}
use native.Mathlib.Decide.{ℕ_discrete}
use native.Mathlib.Numerals.{add-one}
use native.Mathlib.Omega.{arith}
use lib.ListN.{length, drop, get_or, set, replicate, length-map, drop_of_length-le, get_or-map}
use lib.Seq.{drop-cons, ext_get_or, get_or-set_same, get_or-set_other}
use Rattle.layout.specs.Areas.{tiles_of, links_of}
use Rattle.layout.specs.Table.{count_column, entries_in, turn_column, vias_column}
use Rattle.layout.specs.Shapes.{Shaped}
use Rattle.layout.specs.declared.shape.Shape.{Shape}
use Rattle.marks.specs.Marks.{Older}
use Rattle.model.specs.Demand3.{turns, choice_vias, cut_by}
use Rattle.model.specs.Job.{Net, Job, net_count, no_net, net_of, net_entries, entry_count}
use Rattle.model.specs.Limits.{most_nets}
use Rattle.model.specs.Lists.{sum, occurs, In}
use Rattle.model.specs.Plan.{layer_of, plan_from, plan, answered, total_vias}
use Rattle.model.specs.Read.{Lent}
use Rattle.model.specs.Score.{Entry, order}
use Rattle.model.specs.Vias.{vias}
use Rattle.net.specs.Dropped.{told_entries}
use Rattle.net.specs.SoFar.{SoFar}
use Rattle.net.specs.Table.{Table, TurnsIn, table-set, beside-vias}
use Rattle.theory.specs.congestion.Base.{in-up_from}
use Rattle.theory.specs.congestion.Sums.{in_head, same_cases}
use Rattle.theory.proofs.links.Meets.{order-long}
use Rattle.theory.specs.links.Placing.{nets_in, nets-only, order_is}
use Rattle.theory.specs.links.Placing.{no_entry}
use Rattle.theory.specs.links.Planned.{Midway, midway_start, net-ok, same-net, turn-keeps, stands}
use Rattle.theory.proofs.links.Planned.{midway-next, plan-in-turn}
use Rattle.theory.specs.links.Reading.{Accepted}
use Rattle.theory.specs.links.Stretches.{cut-length, vias-by-turn}
use Rattle.theory.specs.links.Turn.{order-once}
use Rattle.turn.specs.Turn.{Turn, turn_layers, turn_answer}
use Rattle.placing.specs.Turns.{RowTurn, RowDone, Start, AllPlaced}

-- the vias that the plan gives net i
abbrev vias_in : Job → ℕ → ℕ
vias_in j i = choice_vias j i (get_or (plan j) i [])

-- the layers of the entries of net i, where those that it keeps have the layers y
abbrev answer_of : Job → ℕ → List ℕ → List ℕ
answer_of j i y = map (layer_of (net_of j (suc i)).edges y) (net_of j (suc i)).entries

answered-at : (ns : List Net) (ys : List (List ℕ)) → length ys ≡ length ns → (i : ℕ) → i < length ns
    → get_or (answered ns ys) i [] ≡ map (layer_of (get_or ns i no_net).edges (get_or ys i [])) (get_or ns i no_net).entries
answered-at [] ys h i b = absurd (omega arith)
answered-at (n ∷ ns) [] h i b = absurd (omega arith)
answered-at (n ∷ ns) (y ∷ ys) h zero b = refl
answered-at (n ∷ ns) (y ∷ ys) h (suc i) b = answered-at ns ys (omega arith) i (omega arith)

answered-count : (ns : List Net) (ys : List (List ℕ)) → length ys ≡ length ns → length (answered ns ys) ≡ length ns
answered-count [] ys h = refl
answered-count (n ∷ ns) [] h = absurd (omega arith)
answered-count (n ∷ ns) (y ∷ ys) h = ap suc (answered-count ns ys (omega arith))

-- ---- between two turns

-- k nets have had their turns; v is the sum of their vias, and answer₀ the answer list before the first
pub record Mid (s : List ℕ) (g : Shape) (n : ℕ) (w table answer₀ answer : List ℕ) (v k : ℕ) (lent : Lent) (j : Job) (acc : Accepted lent j) : Type 0 where
  pub so_planned : List (List ℕ)
  pub midway : Midway lent j acc (drop k (order j)) so_planned
  pub ends : plan_from j so_planned (drop k (order j)) ≡ plan j
  pub so_far : SoFar g j so_planned w
  pub older : Older (suc (4 * n + k)) (tiles_of g w)
  pub links : Older (suc (4 * n + k)) (links_of g w)
  pub rows : Table s j table
  pub turns_are : TurnsIn j table
  pub written : (i : ℕ) → i < net_count j → occurs i (turns (drop k (order j))) ≡ 0 → get_or (cut_by (net_entries j) answer) i [] ≡ answer_of j i (get_or so_planned i [])
  pub vias_stored : (i : ℕ) → i < net_count j → occurs i (turns (drop k (order j))) ≡ 0 → get_or table (vias_column i) 0 ≡ choice_vias j i (get_or so_planned i [])
  pub beyond : drop (entry_count j) answer ≡ drop (entry_count j) answer₀
  pub vias_left : v + sum (vias_in j) (turns (drop k (order j))) ≡ total_vias j (plan j)

module _ (s : List ℕ) (g : Shape) (n : ℕ) (m : ℕ → ℕ) (w₀ table₀ : List ℕ) (size : ℕ) (lent : Lent) (j : Job) (start : Start s g n m w₀ table₀ size lent j) where
  abbrev acc : Accepted lent j
  acc = start.accepted

  nets-long : length (order j) ≡ net_count j
  nets-long = order-long lent j acc

  entries-long : length (net_entries j) ≡ net_count j
  entries-long = length-map {B = List ℕ} j.nets (λ e. e.entries)

  pub mid_start : (answer : List ℕ) → Mid s g n w₀ table₀ answer answer 0 0 lent j start.accepted
  unfolding plan
  mid_start answer = record {
    so_planned = replicate (net_count j) [];
    midway = midway_start lent j acc;
    ends = refl;
    so_far = start.so_far;
    older = λ t. omega (arith, start.older t);
    links = λ t. omega (arith, start.links t);
    rows = start.rows;
    turns_are = start.turns_are;
    written = λ i h z. absurd (here i h z);
    vias_stored = λ i h z. absurd (here i h z);
    beyond = refl;
    vias_left = omega (arith, vias-by-turn j (plan j) (plan-in-turn lent j acc).one_each);
  }
    where
      here : (i : ℕ) → i < net_count j → occurs i (turns (order j)) ≡ 0 → ⊥
      here i h z = omega (arith, order-once j i, (in-up_from i 0 (net_count j)).1 (omega arith, omega arith))

  module _ (w table answer₀ answer : List ℕ) (v k : ℕ) (mid : Mid s g n w table answer₀ answer v k lent j start.accepted) where
    -- the last net has had its turn
    pub mid-end : Shaped g → n ≤ k → length answer ≡ size → AllPlaced j answer₀ answer table v
    mid-end shaped h long = record {
      held = record {
        table_long = mid.rows.long;
        answer_long = omega (arith, start.room, long);
        first = λ i b. (mid.rows.rows i b).first;
        count = λ i b. entries-told i b;
        vias = λ i b. mid.vias_stored i b (over i) ∙ ap (λ (ys : List (List ℕ)). choice_vias j i (get_or ys i [])) whole;
        layers = all-written ∙ ap (answered j.nets) whole;
      };
      turns_are = mid.turns_are;
      beyond = mid.beyond;
      vias_are = omega (arith, mid.vias_left, ap (λ (es : List Entry). sum (vias_in j) (turns es)) none);
    }
      where
        none : drop k (order j) ≡ []
        none = drop_of_length-le (order j) {i = k} (omega (arith, nets-long, start.count))

        over : (i : ℕ) → occurs i (turns (drop k (order j))) ≡ 0
        over i = ap (λ (es : List Entry). occurs i (turns es)) none

        whole : mid.so_planned ≡ plan j
        whole = ap (plan_from j mid.so_planned) (sym none) ∙ mid.ends

        entries-told : (i : ℕ) → i < net_count j → entries_in table i ≡ length (net_of j (suc i)).entries
        entries-told i b =
            told_entries g shaped (net_of j (suc i)) (rw (start.grid.width, start.grid.height, start.grid.layers) (net-ok lent j acc i b)) (get_or table (count_column i) 0) (mid.rows.rows i b).counts

        all-written : cut_by (net_entries j) answer ≡ answered j.nets mid.so_planned
        all-written =
            ext_get_or [] (cut_by (net_entries j) answer) (answered j.nets mid.so_planned)
            (cut-length (net_entries j) answer ∙ entries-long ∙ sym (answered-count j.nets mid.so_planned mid.midway.long))
            (λ i b.
            let k : i < net_count j = omega (arith, cut-length (net_entries j) answer, entries-long) in
            let e : suc i - 1 ≡ i = omega arith in
            mid.written i k (over i)
            ∙ ap (λ (q : ℕ). map (layer_of (get_or j.nets q no_net).edges (get_or mid.so_planned i [])) (get_or j.nets q no_net).entries) e
            ∙ sym (answered-at j.nets mid.so_planned mid.midway.long i k))

    -- the next net
    module _ (less : k < n) where
      abbrev t : Entry
      t = get_or (order j) k no_entry

      abbrev rest : List Entry
      rest = drop (k + 1) (order j)

      pub next-is : drop k (order j) ≡ get_or (order j) k no_entry ∷ drop (k + 1) (order j)
      next-is =
          drop-cons (order j) k no_entry (omega (arith, nets-long, start.count))
          ∙ ap (λ (q : ℕ). get_or (order j) k no_entry ∷ drop q (order j)) (sym (add-one k))

      abbrev pub turn : Turn
      turn = record {
        lent = lent;
        job = j;
        accepted = acc;
        entry = t;
        rest = rest;
        plan = mid.so_planned;
        midway = subst (λ (es : List Entry). Midway lent j acc es mid.so_planned) next-is mid.midway;
      }

      -- its number, as the order list has it
      net-told : get_or table (turn_column k) 0 ≡ (get_or (order j) k no_entry).net
      net-told = mid.turns_are k (omega (arith, start.count))

      in-turn : In ((get_or (order j) k no_entry).net - 1) (turns (drop k (order j)))
      in-turn = subst (λ (es : List Entry). In (t.net - 1) (turns es)) (sym next-is) (in_head (t.net - 1) (turns rest))

      net-inside : (get_or (order j) k no_entry).net - 1 < net_count j
      net-inside = mid.midway.inside (t.net - 1) in-turn

      pub net-number : get_or table (turn_column k) 0 - 1 < most_nets
      net-number = omega (arith, net-told, net-inside, acc.count_of_nets)

      -- it is counted from 1
      pub net-counted : 1 ≤ get_or table (turn_column k) 0
      net-counted =
          omega (
            arith,
            named,
            (in-up_from (get_or table (turn_column k) 0) 1 (net_count j)).0 (omega (arith, nets-only j (order j) (order_is j) (get_or table (turn_column k) 0), among)),
          )
        where
          named : get_or table (turn_column k) 0 ≡ get_or (nets_in (order j)) k 0
          named = net-told ∙ sym (get_or-map (λ e. e.net) (order j) k no_entry)

          among : In (get_or table (turn_column k) 0) (nets_in (order j))
          among =
              subst (λ (q : ℕ). In q (nets_in (order j))) (sym named)
              (stands (nets_in (order j)) k (omega (arith, length-map {B = ℕ} (order j) (λ e. e.net), nets-long, start.count)))

      pub row-turn : (i stamp : ℕ) → i ≡ get_or table (turn_column k) 0 - 1 → stamp ≡ 4 * n + 1 + k → length answer ≡ size → RowTurn s g stamp m w table (length answer) i turn
      row-turn i stamp i-is stamp-is long = record {
        grid = start.grid;
        so_far = mid.so_far;
        older = λ q. omega (arith, mid.older q);
        links = λ q. omega (arith, mid.links q);
        limit_is = start.limit_is;
        net_is = omega (arith, i-is, net-told);
        rows = mid.rows;
        room = omega (arith, start.room);
      }

      module _ (i stamp : ℕ) (i-is : i ≡ get_or table (turn_column k) 0 - 1) (stamp-is : stamp ≡ 4 * n + 1 + k) (w' answer' : List ℕ) (r : ℕ)
          (done : RowDone g stamp w' answer answer' i r turn) where
        abbrev y : List ℕ
        y = turn_layers turn

        abbrev ys' : List (List ℕ)
        ys' = set mid.so_planned ((get_or (order j) k no_entry).net - 1) (turn_layers turn)

        number : i ≡ (get_or (order j) k no_entry).net - 1
        number = omega (arith, i-is, net-told)

        ends_next : plan_from j (set mid.so_planned ((get_or (order j) k no_entry).net - 1) (turn_layers turn)) (drop (k + 1) (order j)) ≡ plan j
        ends_next = ap (plan_from j mid.so_planned) (sym next-is) ∙ mid.ends

        -- a net that has no turn left had its turn before, or just now
        cases : (x : ℕ) → occurs x (turns (drop (k + 1) (order j))) ≡ 0 → (x ≡ i → ⊥) → occurs x (turns (drop k (order j))) ≡ 0
        cases x z h =
            ⊎_elim
            (λ q. absurd (h (omega (arith, q.0, number))))
            (λ q. omega (arith, ap (λ (es : List Entry). occurs x (turns es)) next-is, q.1, z))
            (same_cases x (t.net - 1))

        same-vias : r ≡ choice_vias j ((get_or (order j) k no_entry).net - 1) (turn_layers turn)
        same-vias =
            done.vias_are
            ∙ ap (λ (a : Net). vias j a.pins a.edges y) (sym (same-net lent j acc t rest mid.so_planned turn.midway))

        keeps : get_or (plan j) ((get_or (order j) k no_entry).net - 1) [] ≡ turn_layers turn
        keeps = ap (λ (ys : List (List ℕ)). get_or ys (t.net - 1) []) (sym ends_next) ∙ turn-keeps lent j acc t rest mid.so_planned turn.midway

        inside-plan : (get_or (order j) k no_entry).net - 1 < length mid.so_planned
        inside-plan = omega (arith, net-inside, mid.midway.long)

        inside-cut : i < length (cut_by (net_entries j) answer)
        inside-cut = omega (arith, number, net-inside, cut-length (net_entries j) answer, entries-long)

        -- the layers of its entries
        same_answer : turn_answer turn ≡ answer_of j i (turn_layers turn)
        same_answer =
            ap (λ (a : Net). map (layer_of a.edges y) a.entries)
            (sym (same-net lent j acc t rest mid.so_planned turn.midway) ∙ ap (λ (q : ℕ). net_of j (suc q)) (sym number))

        written_next : (x : ℕ) → x < net_count j → occurs x (turns (drop (k + 1) (order j))) ≡ 0
            → get_or (cut_by (net_entries j) answer') x [] ≡ answer_of j x (get_or (set mid.so_planned ((get_or (order j) k no_entry).net - 1) (turn_layers turn)) x [])
        written_next x b z = ap (λ (ys : List (List ℕ)). get_or ys x []) done.answer_is ∙ go (ℕ_discrete x i)
          where
            go : Dec (x ≡ i) → get_or (set (cut_by (net_entries j) answer) i (turn_answer turn)) x [] ≡ answer_of j x (get_or ys' x [])
            go (yes e) =
                rw e (get_or-set_same (cut_by (net_entries j) answer) i (turn_answer turn) [] inside-cut
                ∙ same_answer
                ∙ ap (answer_of j i) (sym (ap (λ (q : ℕ). get_or ys' q []) number ∙ get_or-set_same mid.so_planned (t.net - 1) y [] inside-plan)))
            go (no e) =
                get_or-set_other (cut_by (net_entries j) answer) i x (turn_answer turn) [] e
                ∙ mid.written x b (cases x z e)
                ∙ ap (answer_of j x) (sym (get_or-set_other mid.so_planned (t.net - 1) x y [] (λ q. e (omega (arith, number)))))

        vias-next : (x : ℕ) → x < net_count j → occurs x (turns (drop (k + 1) (order j))) ≡ 0
            → get_or (set table (vias_column i) r) (vias_column x) 0 ≡ choice_vias j x (get_or (set mid.so_planned ((get_or (order j) k no_entry).net - 1) (turn_layers turn)) x [])
        vias-next x b z = go (ℕ_discrete x i)
          where
            go : Dec (x ≡ i) → get_or (set table (vias_column i) r) (vias_column x) 0 ≡ choice_vias j x (get_or ys' x [])
            go (yes e) =
                let here : x ≡ t.net - 1 = omega (arith, number) in
                ap (λ (q : ℕ). get_or (set table (vias_column i) r) (vias_column q) 0) e
                ∙ get_or-set_same table (vias_column i) r 0 (omega (arith, mid.rows.long, number, net-inside, acc.count_of_nets))
                ∙ same-vias
                ∙ ap (choice_vias j (t.net - 1)) (sym (get_or-set_same mid.so_planned (t.net - 1) y [] inside-plan))
                ∙ ap (λ (q : ℕ). choice_vias j q (get_or ys' q [])) (sym here)
            go (no e) =
                get_or-set_other table (vias_column i) (vias_column x) r 0 (λ q. e (omega arith))
                ∙ mid.vias_stored x b (cases x z e)
                ∙ ap (choice_vias j x) (sym (get_or-set_other mid.so_planned (t.net - 1) x y [] (λ q. e (omega (arith, number)))))

        pub mid-next : Mid s g n w' (set table (vias_column i) r) answer₀ answer' (v + r) (k + 1) lent j start.accepted
        mid-next = record {
          so_planned = ys';
          midway = midway-next lent j acc t rest mid.so_planned turn.midway;
          ends = ends_next;
          so_far = done.so_far;
          older = λ q. omega (arith, done.older q);
          links = λ q. omega (arith, done.links q);
          rows = table-set s j table (vias_column i) r (beside-vias i) mid.rows;
          turns_are = λ x b. get_or-set_other table (vias_column i) (turn_column x) r 0 (λ q. omega arith) ∙ mid.turns_are x b;
          written = written_next;
          vias_stored = vias-next;
          beyond = done.beyond ∙ mid.beyond;
          vias_left =
              omega (
                arith,
                mid.vias_left,
                ap (λ (es : List Entry). sum (vias_in j) (turns es)) next-is,
                same-vias,
                ap (choice_vias j (t.net - 1)) keeps,
              );
        }
