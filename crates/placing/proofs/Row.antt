-- One turn: what the row of the net lends to it, and what it leaves in the answer list.
-- Assumes nothing.
use mathlib.Core.List.{List, [], ◌++◌, append_assoc}
use mathlib.Core.Path.{◌≡◌, sym, ap, ap₂, ◌∙◌, subst}
use Prim.Native.Nat.{ℕ, suc, ◌+◌, ◌-◌, ◌≤◌, ◌<◌}
use native.Mathlib.Omega.{arith}
use borrow.Author.Tests.{ltb-true, ltb-false}
use lib.Dec.{ltb}
use lib.ListN.{length, take, drop, get_or, length-append, length-take, length-drop, length-map, get_or-map}
use lib.Seq.{drop-drop, drop-append-add, sets, sets-eq}
use borrow.Rule.Slice.PartMut.{put_mid}
use Rattle.layout.specs.Parts.{back-outside}
use Rattle.layout.specs.Table.{pins_column, edges_column, first_column, count_column, entries_in, dropped_in}
use Rattle.layout.specs.Shapes.{Shaped}
use Rattle.layout.specs.declared.shape.Shape.{Shape}
use Rattle.model.specs.Demand3.{cut_by}
use Rattle.model.specs.Job.{Net, Job, net_count, no_net, net_of, net_entries, entry_count}
use Rattle.model.specs.Plan.{layer_of}
use Rattle.model.specs.Tree.{ring}
use Rattle.net.specs.Dropped.{told_entries, told_none, told-ring}
use Rattle.net.specs.Table.{PinsAt, EdgesAt, counts_of, Row}
use Rattle.theory.specs.links.Nets.{NetOk}
use Rattle.theory.specs.links.Planned.{same-net, turn_inside, turn-ok}
use Rattle.theory.specs.links.Stretches.{offset, offset-room, cut-sets}
use Rattle.turn.specs.Turn.{Turn, turn_net, turn_layers, turn_answer, TurnAt, TurnDone}
use Rattle.placing.specs.Turns.{row_of, RowTurn, RowDone}
use Rattle.placing.specs.declared.NetRow.{NetRow}

-- what lies beyond a stretch that is written
drop_past : (a k b : ℕ) (w p : List ℕ) → a + k ≤ length w → length p ≡ k → a + k ≤ b → drop b (put_mid a k w p) ≡ drop b w
drop_past a k b w p room long h =
    let x : b ≡ length (take a w ++ p) + (b - (a + k)) = omega (arith, length-append (take a w) p, length-take a w) in
    let y : b ≡ a + (k + (b - (a + k))) = omega arith in
    ap₂ (λ (m : ℕ) (l : List ℕ). drop m l) x (sym (append_assoc (take a w) p (drop k (drop a w))))
    ∙ drop-append-add (take a w ++ p) (drop k (drop a w)) (b - (a + k))
    ∙ drop-drop (b - (a + k)) k (drop a w)
    ∙ drop-drop (k + (b - (a + k))) a w
    ∙ ap (λ (m : ℕ). drop m w) (sym y)

module _ (s : List ℕ) (g : Shape) (stamp : ℕ) (m : ℕ → ℕ) (w table answer : List ℕ) (i : ℕ) (u : Turn) (shaped : Shaped g) (at : RowTurn s g stamp m w table (length answer) i u) where
  abbrev j : Job
  j = u.job

  inside-turn : u.entry.net - 1 < net_count u.job
  inside-turn = turn_inside u.lent j u.accepted u.entry u.rest u.plan u.midway

  pub inside : i < net_count u.job
  inside = omega (arith, at.net_is, inside-turn)

  same : net_of u.job (suc i) ≡ turn_net u
  same = ap (λ (k : ℕ). net_of j (suc k)) at.net_is ∙ same-net u.lent j u.accepted u.entry u.rest u.plan u.midway

  entries-here : get_or (net_entries u.job) i [] ≡ (turn_net u).entries
  entries-here = get_or-map (λ n. n.entries) j.nets i no_net ∙ ap (λ (n : Net). n.entries) (at-net i ∙ same)
    where
      at-net : (k : ℕ) → get_or j.nets k no_net ≡ net_of j (suc k)
      at-net k = let e : k ≡ suc k - 1 = omega arith in ap (λ (m : ℕ). get_or j.nets m no_net) e

  answer-count : length (turn_answer u) ≡ length (turn_net u).entries
  answer-count = length-map {B = ℕ} (turn_net u).entries (layer_of (turn_net u).edges (turn_layers u))

  row : Row s u.job table i
  row = at.rows.rows i inside

  entries-long : length (net_entries u.job) ≡ net_count u.job
  entries-long = length-map {B = List ℕ} j.nets (λ n. n.entries)

  -- it is one that the reading let pass
  ok : NetOk g.w g.h g.k (turn_net u)
  ok = rw (at.grid.width, at.grid.height, at.grid.layers) (turn-ok u.lent j u.accepted u.entry u.rest u.plan u.midway)

  counts-are : get_or table (count_column i) 0 ≡ counts_of (turn_net u)
  counts-are = row.counts ∙ ap counts_of same

  count_is : entries_in table i ≡ length (turn_net u).entries
  count_is = told_entries g shaped (turn_net u) ok (get_or table (count_column i) 0) counts-are

  stretch : offset (net_entries u.job) i + length (turn_net u).entries ≤ entry_count u.job
  stretch = omega (arith, offset-room (net_entries j) i (omega (arith, entries-long, inside)), ap length entries-here)

  stretch-in : get_or table (first_column i) 0 + entries_in table i ≤ length answer
  stretch-in = omega (arith, row.first, count_is, stretch, at.room)

  -- the row as the code has it
  module _ (r : NetRow) (is_row : r ≡ row_of table i) where
    pins-is : r.pins ≡ get_or table (pins_column i) 0
    pins-is = ap (λ (n : NetRow). n.pins) is_row

    edges-is : r.edges ≡ get_or table (edges_column i) 0
    edges-is = ap (λ (n : NetRow). n.edges) is_row

    first_is : r.first ≡ get_or table (first_column i) 0
    first_is = ap (λ (n : NetRow). n.first) is_row

    dropped-is : r.dropped ≡ ltb 0 (dropped_in table i)
    dropped-is = ap (λ (n : NetRow). n.dropped) is_row

    counted : r.count ≡ entries_in table i
    counted = ap (λ (n : NetRow). n.count) is_row

    size : r.first + r.count - r.first ≡ length (turn_net u).entries
    size = omega (arith, counted, count_is)

    pub lent-inside : r.first + r.count ≤ length answer
    lent-inside = omega (arith, first_is, counted, stretch-in)

    lent-long : length (take (r.first + r.count - r.first) (drop r.first answer)) ≡ length (turn_net u).entries
    lent-long = omega (arith, length-take (r.first + r.count - r.first) (drop r.first answer), length-drop r.first answer, size, lent-inside)

    pub turn_at : TurnAt s r.pins r.edges r.dropped g stamp m w (length (take (r.first + r.count - r.first) (drop r.first answer))) u
    turn_at = record {
      before = record {
        grid = at.grid;
        so_far = at.so_far;
        older = at.older;
        links = at.links;
        pins = subst (λ (n : Net). PinsAt s j.width j.height j.layers r.pins n) same
            (subst (λ (p : ℕ). PinsAt s j.width j.height j.layers p (net_of j (suc i))) (sym pins-is) row.pins);
        edges = subst (λ (n : Net). EdgesAt s j.width j.height r.edges n) same
            (subst (λ (p : ℕ). EdgesAt s j.width j.height p (net_of j (suc i))) (sym edges-is) row.edges);
        whole = λ e. told_none g shaped (turn_net u) ok (get_or table (count_column i) 0) counts-are (omega (arith, ltb-false 0 (dropped_in table i) (sym dropped-is ∙ e)));
        cut = λ e.
            ap₂ (λ (W H : ℕ). ring W H (turn_net u).entries) (sym at.grid.width) (sym at.grid.height)
            ∙ told-ring g shaped (turn_net u) ok (get_or table (count_column i) 0) counts-are (ltb-true 0 (dropped_in table i) (sym dropped-is ∙ e));
      };
      limit_is = at.limit_is;
      count = lent-long;
    }

    module _ (w' out : List ℕ) (v : ℕ) (done : TurnDone g stamp w' out v u) where
      out-long : length out ≡ length (turn_net u).entries
      out-long = ap length done.placed.layers ∙ answer-count

      put_is : put_mid r.first (r.first + r.count - r.first) answer out ≡ sets answer (offset (net_entries u.job) i) (turn_answer u)
      put_is =
          let k : r.first + (r.first + r.count - r.first) ≡ r.first + length out = omega (arith, size, out-long) in
          ap (λ (l : List ℕ). take r.first answer ++ (out ++ l)) (drop-drop (r.first + r.count - r.first) r.first answer ∙ ap (λ (n : ℕ). drop n answer) k)
          ∙ sym (append_assoc (take r.first answer) out (drop (r.first + length out) answer))
          ∙ sym (sets-eq out answer r.first (omega (arith, lent-inside, size, out-long)))
          ∙ ap₂ (λ (n : ℕ) (y : List ℕ). sets answer n y) (first_is ∙ row.first) done.placed.layers

      pub answer_long : length (put_mid r.first (r.first + r.count - r.first) answer out) ≡ length answer
      answer_long =
          (back-outside r.first (r.first + r.count - r.first) answer out (omega (arith, lent-inside)) (omega (arith, out-long, size))).long

      pub row_done : RowDone g stamp w' answer (put_mid r.first (r.first + r.count - r.first) answer out) i v u
      row_done = record {
        so_far = done.placed.so_far;
        older = done.placed.older;
        links = done.placed.links;
        vias_are = done.vias_are;
        answer_is =
            ap (cut_by (net_entries j)) put_is
            ∙ cut-sets (net_entries j) answer i (turn_answer u) (omega (arith, entries-long, inside)) at.room (answer-count ∙ sym (ap length entries-here));
        beyond =
            drop_past r.first (r.first + r.count - r.first) (entry_count j) answer out (omega (arith, lent-inside)) (omega (arith, out-long, size))
            (omega (arith, first_is, row.first, size, stretch));
      }
