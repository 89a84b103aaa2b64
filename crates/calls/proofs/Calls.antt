-- From what the steps of a call say to what the definitions say of the call.
-- Assumes nothing.
use Rattle.std.specs.Prelude.{Some, None, Ok, Err, Result as Outcome}
use mathlib.Core.List.{List, ◌++◌}
use mathlib.Core.Option.{Option, some, none}
use mathlib.Core.Path.{◌≡◌, refl, sym, ap, ap₂, ◌∙◌, subst}
use Prim.Native.Nat.{ℕ, zero, suc, ◌%◌, ◌≤◌, ◌<◌, max}
use native.Mathlib.Omega.{arith}
use lib.Dec.{T, leb→le}
use lib.ListN.{length, drop, get_or, replicate}
use lib.Seq.{get_or-set_other}
use Rattle.head.specs.declared.Head.{Head}
use Rattle.layout.specs.Table.{turn_column, vias_column, table_size, low_in}
use Rattle.model.specs.Calls.{refusal, outcome_of, outcome, overwrite, stretches, planned_by, Planned as PlannedBy, plan_lent, plan_call, printed_by, Printed as PrintedBy, print_lent, print_call}
use Rattle.model.specs.Demand3.{Met}
use Rattle.model.specs.Job.{Job, low_of, net_count, net_of, net_entries, entry_count}
use Rattle.model.specs.Limits.{most_nets}
use Rattle.model.specs.Overflow.{total_overflow, max_overflow}
use Rattle.model.specs.Plan.{plan, answered}
use Rattle.model.specs.Read.{Lent, Place, Result, refused, found, print_need, print_fits, read}
use Rattle.model.specs.Score.{order}
use Rattle.net.specs.Table.{Table, mark-told, table-set, beside-tiles}
use Rattle.planning.specs.Closing.{Turned, ToClose, ToPrint, PlanMade, PlanClosed, PrintClosed}
use Rattle.planning.specs.Opening.{OpenFound, OpenTold, nets_of}
use Rattle.planning.specs.declared.Totals.{Totals}
use Rattle.reader.specs.Whole.{lent_by}
use Rattle.sort.specs.Entries.{order_of, no_entry, listed}
use Rattle.sort.specs.Placing.{order-count, sorted-order, turns-listed}
use Rattle.sort.specs.Sorted.{Arranged}
use Rattle.sort.specs.declared.Entry.{Entry}
use Rattle.text.specs.Refusals.{number_of, line_of}
use Rattle.text.specs.declared.Refusal.{Refusal}
use Rattle.theory.specs.links.Directives.{low-inside}
use Rattle.theory.proofs.links.Meets.{plan-call, print-call, plan-total-is, plan-maximum-both, plan-meets-demand3, print-meets-demand3}
use Rattle.theory.specs.links.Reading.{Accepted, accepted}
use Rattle.theory.proofs.links.Room.{plan-long}
use Rattle.theory.specs.links.Stretches.{cut-whole}
use Rattle.calls.specs.Calls.{buffers_of, returned_of, plan_of, size_of}

-- the rows of the net table are kept where net numbers are written
rows-listed : (s : List ℕ) (j : Job) (es : List Entry) (table : List ℕ) (n : ℕ) → Table s j table → Table s j (listed es table n)
rows-listed s j es table zero t = t
rows-listed s j es table (suc k) t = table-set s j (listed es table k) (turn_column k) (get_or es k no_entry).net (beside-tiles k) (rows-listed s j es table k t)

-- and so are the lowest wanted layers
lows-listed : (es : List Entry) (table : List ℕ) (n i : ℕ) → low_in (listed es table n) i ≡ low_in table i
lows-listed es table zero i = refl
lows-listed es table (suc k) i =
    ap (λ (x : ℕ). x % 16) (get_or-set_other (listed es table k) (turn_column k) (vias_column i) (get_or es k no_entry).net 0 (λ e. omega arith)) ∙ lows-listed es table k i

-- ---- the order list is made in the lent entries

module _ (s : List ℕ) (lent : Lent) (w table : List ℕ) (ys os : List Entry) where
  -- what is asked where it is made
  pub arrange-asked : (o : Outcome Head Refusal) → lent.order ≡ length ys → OpenTold s lent w table o → (nets_of o ≤ most_nets) × (nets_of o ≤ length ys)
  arrange-asked (Err r) e k = (omega arith, omega arith)
  arrange-asked (Ok h) e k =
      let acc = accepted lent s k.job k.place k.is in
      (omega (arith, k.given.count, acc.count_of_nets), omega (arith, k.given.count, acc.order_fits))

  module _ (long : length os ≡ length ys) (e : lent.order ≡ length ys) (wide : table_size ≤ length table) where
    -- of a job
    module _ (h : Head) (k : OpenFound s lent w table h) (table' : List ℕ) (made : Arranged h.nets ys os table table') where
      room : h.nets ≤ length ys
      room = (arrange-asked (Ok h) e k).1

      lows-told : (i : ℕ) → i < net_count k.job → max 1 (low_in table i) ≡ low_of (net_of k.job (suc i))
      lows-told i b = ap (max 1) (k.scored.lows i b) ∙ mark-told (net_of k.job (suc i)).low (low-inside k.job lent k.given.accepted i b).0

      order-made : order_of os ≡ overwrite (order k.job) (order_of ys)
      order-made = sorted-order k.job table h.nets k.given.count k.scored.scores lows-told lent k.given.accepted ys os room long made.sorted

      turned : (size : ℕ) → entry_count k.job ≤ size → Turned 3 s h w table' size lent k.job
      turned size fits = record {
        given = k.given;
        rows = subst (Table s k.job) (sym made.numbers) (rows-listed s k.job os table h.nets k.scored.rows);
        turns = λ i b.
            ap (λ (l : List ℕ). get_or l (turn_column i) 0) made.numbers
            ∙ turns-listed k.job table h.nets k.given.count k.scored.scores lows-told lent k.given.accepted ys os room long made.sorted wide i b;
        lows = λ i b. ap (λ (l : List ℕ). low_in l i) made.numbers ∙ lows-listed os table h.nets i ∙ k.scored.lows i b;
        room = fits;
      }

    -- what is asked where the nets are placed
    pub close-asked : (o : Outcome Head Refusal) (table' : List ℕ) (size : ℕ) → size ≡ lent.answer → OpenTold s lent w table o → Arranged (nets_of o) ys os table table' → ToClose s w table' size o
    close-asked (Err r) table' size l k made = tt
    close-asked (Ok h) table' size l k made = record { lent = lent; job = k.job; turned = turned h k table' made size (omega (arith, l, k.given.accepted.answer_fits)) }

    print-room : (h : Head) (k : OpenFound s lent w table h) (bytes : ℕ) → lent.print ≡ some bytes → print_need (net_count k.job) (entry_count k.job) ≤ bytes
    print-room h k bytes l =
        leb→le (print_need (net_count k.job) (entry_count k.job)) bytes
        (subst (λ (o : Option ℕ). T (print_fits (print_need (net_count k.job) (entry_count k.job)) o)) l k.given.accepted.printed_fits)

    pub print-asked : (o : Outcome Head Refusal) (table' : List ℕ) (size bytes : ℕ) → size ≡ lent.answer → lent.print ≡ some bytes → OpenTold s lent w table o → Arranged (nets_of o) ys os table table' → ToPrint s w table' size bytes o
    print-asked (Err r) table' size bytes l p k made = tt
    print-asked (Ok h) table' size bytes l p k made = record {
      lent = lent;
      job = k.job;
      turned = turned h k table' made size (omega (arith, l, k.given.accepted.answer_fits));
      bytes_room = print-room h k bytes p;
    }

-- nothing is written for a refusal
none-arranged : (ys os : List Entry) (table table' : List ℕ) → Arranged 0 ys os table table' → os ≡ ys
none-arranged ys os table table' made = made.sorted.rest

answer-made : (lent : Lent) (j : Job) → Accepted lent j → (answer answer' table' : List ℕ) (t : Totals) → PlanMade j answer answer' table' t → answer' ≡ overwrite (stretches (answered j.nets (plan j))) answer
answer-made lent j acc answer answer' table' t made =
    cut-whole (net_entries j) answer'
    ∙ ap₂ (λ (ys : List (List ℕ)) (l : List ℕ). stretches ys ++ l) made.placed.held.layers made.placed.beyond
    ∙ ap (λ (k : ℕ). stretches (answered j.nets (plan j)) ++ drop k answer) (sym (plan-long lent j acc))

-- ---- Plan

module _ (s work work₁ work' : List ℕ) (ys os : List Entry) (table table' answer answer' : List ℕ) (long : length os ≡ length ys) (wide : table_size ≤ length table) (again : work' ≡ replicate (length work) 0) where
  abbrev lent_plan : Lent
  lent_plan = lent_by (length work) (length ys) (length answer) None

  lent-plan : plan_lent (buffers_of work ys answer) ≡ lent_by (length work) (length ys) (length answer) None
  lent-plan = ap {B = Lent} (λ y. record { working = length work; order = y; answer = length answer; print = none }) (order-count ys)

  call-refused : (n l : ℕ) → read (plan_lent (buffers_of work ys answer)) s ≡ refused n l → plan_call s (buffers_of work ys answer) ≡ planned_by (refusal n l) (buffers_of work ys answer)
  unfolding outcome
  call-refused n l e = ap (λ (r : Result Job). planned_by (outcome_of r) (buffers_of work ys answer)) e

  plan-equals : (o : Outcome Head Refusal) (p : Outcome Totals Refusal) → OpenTold s (lent_by (length work) (length ys) (length answer) None) work₁ table o → Arranged (nets_of o) ys os table table' → PlanClosed s work₁ table' answer answer' o p
      → record { returned = returned_of p; buffers = buffers_of work' os answer' } ≡ plan_call s (buffers_of work ys answer)
  plan-equals (Err r) p k made closed =
      (λ i. record { returned = returned_of (closed.0 i); buffers = record { working = again i; order = order_of (none-arranged ys os table table' made i); answer = closed.1 i } })
      ∙ sym (call-refused (number_of r) (line_of r) (ap (λ (x : Lent). read x s) lent-plan ∙ k))
  plan-equals (Ok h) p k made closed =
      let j = k.job in
      let acc = k.given.accepted in
      let turn = turned s lent_plan work₁ table ys os long refl wide h k table' made (length answer) (omega (arith, acc.answer_fits)) in
      let done = closed.made lent_plan j turn in
      let total : closed.totals.total ≡ total_overflow j (plan j) = done.total_is ∙ sym (plan-total-is lent_plan s j k.place k.is) in
      let most : closed.totals.maximum ≡ max_overflow j (plan j) = done.maximum_is ∙ sym (plan-maximum-both lent_plan s j k.place k.is) in
      let entries = order-made s lent_plan work₁ table ys os long refl wide h k table' made in
      let layers = answer-made lent_plan j acc answer answer' closed.table' closed.totals done in
      ap {B = PlannedBy} (λ (x : Outcome Totals Refusal). record { returned = returned_of x; buffers = buffers_of work' os answer' }) closed.is
      ∙ (λ i. record {
        returned = record { number = 0; line = 0; vias = done.placed.vias_are i; total = total i; maximum = most i };
        buffers = record { working = again i; order = entries i; answer = layers i };
      })
      ∙ sym (plan-call s (buffers_of work ys answer) j k.place (ap (λ (x : Lent). read x s) lent-plan ∙ k.is))

  pub plan-whole : (o : Outcome Head Refusal) (p : Outcome Totals Refusal) → OpenTold s (lent_by (length work) (length ys) (length answer) None) work₁ table o → Arranged (nets_of o) ys os table table' → PlanClosed s work₁ table' answer answer' o p
      → (record { returned = returned_of p; buffers = buffers_of work' os answer' } ≡ plan_call s (buffers_of work ys answer))
      × ((j : Job) (q : Place) → read (plan_lent (buffers_of work ys answer)) s ≡ found j q → Met j (returned_of p) (buffers_of work' os answer'))
  plan-whole o p k made closed = (
    plan-equals o p k made closed,
    λ j q found-is. subst (λ (x : PlannedBy). Met j x.returned x.buffers) (sym (plan-equals o p k made closed)) (plan-meets-demand3 s (buffers_of work ys answer) j q found-is),
  )

-- ---- Print

module _ (s work work₁ work' : List ℕ) (ys os : List Entry) (table table' answer answer' out out' : List ℕ) (long : length os ≡ length ys) (wide : table_size ≤ length table) (again : work' ≡ replicate (length work) 0) where
  abbrev lent_all : Lent
  lent_all = lent_by (length work) (length ys) (length answer) (Some (length out))

  lent-print : print_lent (buffers_of work ys answer) out ≡ lent_by (length work) (length ys) (length answer) (Some (length out))
  lent-print = ap {B = Lent} (λ y. record { working = length work; order = y; answer = length answer; print = some (length out) }) (order-count ys)

  printing-refused : (n l : ℕ) → read (print_lent (buffers_of work ys answer) out) s ≡ refused n l → print_call s (buffers_of work ys answer) out ≡ printed_by (refusal n l) (buffers_of work ys answer) out
  unfolding outcome
  printing-refused n l e = ap (λ (r : Result Job). printed_by (outcome_of r) (buffers_of work ys answer) out) e

  print-equals : (o : Outcome Head Refusal) (p : Outcome (Totals × ℕ) Refusal) → OpenTold s (lent_by (length work) (length ys) (length answer) (Some (length out))) work₁ table o → Arranged (nets_of o) ys os table table'
      → PrintClosed s work₁ table' answer answer' out out' o p
      → record { returned = returned_of (plan_of p); length = size_of p; buffers = buffers_of work' os answer'; print = out' } ≡ print_call s (buffers_of work ys answer) out
  print-equals (Err r) p k made closed =
      (λ i. record {
        returned = returned_of (plan_of (closed.0 i));
        length = size_of (closed.0 i);
        buffers = record { working = again i; order = order_of (none-arranged ys os table table' made i); answer = closed.1.0 i };
        print = closed.1.1 i;
      })
      ∙ sym (printing-refused (number_of r) (line_of r) (ap (λ (x : Lent). read x s) lent-print ∙ k))
  print-equals (Ok h) p k made closed =
      let j = k.job in
      let acc = k.given.accepted in
      let turn = turned s lent_all work₁ table ys os long refl wide h k table' made (length answer) (omega (arith, acc.answer_fits)) in
      let done = closed.made lent_all j turn in
      let told = closed.told lent_all j turn (print-room s lent_all work₁ table ys os long refl wide h k (length out) refl) in
      let total : closed.totals.total ≡ total_overflow j (plan j) = done.total_is ∙ sym (plan-total-is lent_all s j k.place k.is) in
      let most : closed.totals.maximum ≡ max_overflow j (plan j) = done.maximum_is ∙ sym (plan-maximum-both lent_all s j k.place k.is) in
      let entries = order-made s lent_all work₁ table ys os long refl wide h k table' made in
      let layers = answer-made lent_all j acc answer answer' closed.table' closed.totals done in
      ap {B = PrintedBy} (λ (x : Outcome (Totals × ℕ) Refusal). record { returned = returned_of (plan_of x); length = size_of x; buffers = buffers_of work' os answer'; print = out' }) closed.is
      ∙ (λ i. record {
        returned = record { number = 0; line = 0; vias = done.placed.vias_are i; total = total i; maximum = most i };
        length = told.size_is i;
        buffers = record { working = again i; order = entries i; answer = layers i };
        print = told.text_is i;
      })
      ∙ sym (print-call s (buffers_of work ys answer) out j k.place (ap (λ (x : Lent). read x s) lent-print ∙ k.is))

  pub print-whole : (o : Outcome Head Refusal) (p : Outcome (Totals × ℕ) Refusal) → OpenTold s (lent_by (length work) (length ys) (length answer) (Some (length out))) work₁ table o → Arranged (nets_of o) ys os table table'
      → PrintClosed s work₁ table' answer answer' out out' o p
      → (record { returned = returned_of (plan_of p); length = size_of p; buffers = buffers_of work' os answer'; print = out' } ≡ print_call s (buffers_of work ys answer) out)
      × ((j : Job) (q : Place) → read (print_lent (buffers_of work ys answer) out) s ≡ found j q → Met j (returned_of (plan_of p)) (buffers_of work' os answer'))
  print-whole o p k made closed = (
    print-equals o p k made closed,
    λ j q found-is. subst (λ (x : PrintedBy). Met j x.returned x.buffers) (sym (print-equals o p k made closed)) (print-meets-demand3 s (buffers_of work ys answer) out j q found-is),
  )
