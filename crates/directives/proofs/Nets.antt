-- The nets of a job, counted one after another, and what their counts say of it.
-- Assumes nothing.
use mathlib.Core.Bool.{Bool, true, false, cond}
use mathlib.Core.List.{List, [], ◌∷◌, ◌++◌}
use mathlib.Core.Logic.{inr}
use mathlib.Core.Option.{Option, none, some}
use mathlib.Core.Path.{◌≡◌, refl, sym, ap, ap₂, ◌∙◌, subst}
use Prim.Native.Nat.{ℕ, zero, suc, ◌+◌, ◌-◌, ◌*◌, ◌≤◌, ◌<◌}
use native.Mathlib.Decide.{dec_lt}
use native.Mathlib.Omega.{arith}
use borrow.Author.Tests.{lt-ltb, le-ltb}
use lib.Dec.{ltb}
use lib.ListN.{length, take, get_or, length-take}
use Rattle.cut.specs.Again.{ring_told}
use Rattle.cut.specs.Net.{RingAt}
use Rattle.flat.specs.FlatPlan.{NoLoads}
use Rattle.layout.specs.Areas.{loads_at, demand_at, tiles_at, links_at, edge-room}
use Rattle.layout.specs.Fill.{PartCleared}
use Rattle.layout.specs.Parts.{part-outside, Outside, outside-then}
use Rattle.layout.specs.Shapes.{Shaped}
use Rattle.layout.specs.Table.{pins_column, edges_column, count_column, dropped_in, low_in}
use Rattle.layout.specs.declared.shape.Shape.{Shape}
use Rattle.marks.specs.Marks.{Older}
use Rattle.marks.specs.Words.{most_stamp}
use Rattle.model.specs.Directives.{summed_excess, wanting, ldof_at, ldof, given, has_low}
use Rattle.model.specs.Job.{Net, Job, low_from, low_of, no_net, net_of, net_count, capacity}
use Rattle.model.specs.Limits.{most_capacity}
use Rattle.model.specs.Lists.{up_from, sum, any}
use Rattle.model.specs.Print.{print_line, ldof_line}
use Rattle.model.specs.Read.{Lent}
use Rattle.net.specs.Dropped.{Unmarked, unmarked-more, Remarked, remarked-same, told_none}
use Rattle.net.specs.Left.{EdgesThere, edges-there}
use Rattle.net.specs.SoFar.{Capacities}
use Rattle.net.specs.Table.{PinsAt, EdgesAt, mark_of}
use Rattle.print.specs.Texts.{ldof_text}
use Rattle.std.specs.Prelude.{None, Some}
use Rattle.theory.specs.congestion.Base.{in-up_from}
use Rattle.theory.specs.congestion.Sums.{sum-eq}
use Rattle.theory.specs.directives.Demand.{excess-eq}
use Rattle.theory.specs.links.Directives.{low-inside}
use Rattle.theory.specs.links.Nets.{NetOk, EachNet}
use Rattle.theory.specs.links.Planned.{net-at}
use Rattle.directives.specs.Asked.{Asked, AskedSome, SomeNet}
use Rattle.directives.specs.Counts.{cell, marked, marked_net, marked_nets, room_in, need_in, excess_in, any_low, SmallRooms}
use Rattle.directives.specs.Marked.{Known, Fine, wants, marked-outside, marked-both, net-both, nets-outside, nets-at, nets-snoc, count-few}

-- ---- a lowest wanted layer as the table has it

mark-above : (o : Option ℕ) → 1 < mark_of o → low_from o ≡ mark_of o
mark-above none h = absurd (omega arith)
mark-above (some l) h = refl

mark-below : (o : Option ℕ) → mark_of o ≤ 1 → low_from o ≤ 1
mark-below none h = omega arith
mark-below (some l) h = h

mark-given : (o : Option ℕ) → 1 ≤ low_from o → ltb 0 (mark_of o) ≡ given o
mark-given none h = refl
mark-given (some l) h = lt-ltb 0 l h

-- ---- one net

module _ (s : List ℕ) (g : Shape) (table : List ℕ) (lent : Lent) (j : Job) (asked : Asked s g table lent j) where
  ok_at : (i : ℕ) → i < net_count j → NetOk g.w g.h g.k (net_of j (suc i))
  ok_at i h =
      subst (λ (w : ℕ). NetOk w g.h g.k (net_of j (suc i))) (sym asked.width)
      (subst (λ (v : ℕ). NetOk j.width v g.k (net_of j (suc i))) (sym asked.height)
      (subst (λ (k : ℕ). NetOk j.width j.height k (net_of j (suc i))) (sym asked.layers)
      (net-at (NetOk j.width j.height j.layers) j.nets no_net (suc i - 1) (omega arith) asked.accepted.nets)))

  pub line_at : (i : ℕ) → i < net_count j → (p : ℕ) → p ≡ get_or table (edges_column i) 0 → EdgesAt s g.w g.h p (net_of j (suc i))
  line_at i h p e =
      subst (λ (q : ℕ). EdgesAt s g.w g.h q (net_of j (suc i))) (sym e)
      (subst (λ (w : ℕ). EdgesAt s w g.h (get_or table (edges_column i) 0) (net_of j (suc i))) (sym asked.width)
      (subst (λ (v : ℕ). EdgesAt s j.width v (get_or table (edges_column i) 0) (net_of j (suc i))) (sym asked.height) (asked.rows.rows i h).edges))

  pub line-there : Shaped g → (i : ℕ) → i < net_count j → (p : ℕ) → p ≡ get_or table (edges_column i) 0 → EdgesThere s g p
  line-there shaped i h p e = edges-there s g p shaped (net_of j (suc i)) (line_at i h p e) (ok_at i h)

  -- a layer above 1 in the table is the net's
  pub low_is : (i : ℕ) → i < net_count j → (m : ℕ) → m ≡ low_in table i → 1 < m → (low_of (net_of j (suc i)) ≡ m) × (m ≤ g.k)
  low_is i h m e k =
      let mark = asked.lows i h in
      let same = mark-above (net_of j (suc i)).low (omega (arith, mark, e)) in
      (omega (arith, same, mark, e), omega (arith, same, mark, e, low-inside j lent asked.accepted i h, asked.layers))

  pub line-all : Shaped g → (i : ℕ) → i < net_count j → dropped_in table i ≡ 0 → (net_of j (suc i)).edges ≡ (net_of j (suc i)).entries
  line-all shaped i h = told_none g shaped (net_of j (suc i)) (ok_at i h) (get_or table (count_column i) 0) (asked.rows.rows i h).counts

  -- where some entry is dropped there is a ring
  pub line-ring : Shaped g → (i : ℕ) → i < net_count j → 0 < dropped_in table i → (p q : ℕ) → p ≡ get_or table (pins_column i) 0 → q ≡ get_or table (edges_column i) 0
      → RingAt s g p q (net_of j (suc i))
  line-ring shaped i h dropped p q p-is q-is =
      let row = asked.rows.rows i h in
      let pins = subst (λ (k : ℕ). PinsAt s j.width j.height j.layers k (net_of j (suc i))) (sym p-is) row.pins in
      ring_told s g p q (net_of j (suc i)) shaped (rw (asked.width, asked.height, asked.layers) pins) (line_at i h q q-is) (ok_at i h) (get_or table (count_column i) 0) row.counts dropped

  pub net-counted : (i : ℕ) → i < net_count j → (m : ℕ) → m ≡ low_in table i → 1 < m → (w w' : List ℕ) → w' ≡ marked g m (net_of j (suc i)).edges w → w' ≡ marked_net g (net_of j (suc i)) w
  net-counted i h m e k w w' q =
      let low = (low_is i h m e k).0 in
      let n = net_of j (suc i) in
      q
      ∙ ap (λ (t : ℕ). marked g t n.edges w) (sym low)
      ∙ sym (ap (λ (b : Bool). cond b (marked g (low_of n) n.edges w) w) (lt-ltb 1 (low_of n) (omega (arith, low))))

  pub net-passed : (i : ℕ) → i < net_count j → low_in table i ≤ 1 → (w : List ℕ) → w ≡ marked_net g (net_of j (suc i)) w
  net-passed i h k w =
      let n = net_of j (suc i) in
      let few = mark-below n.low (omega (arith, asked.lows i h)) in
      sym (ap (λ (b : Bool). cond b (marked g (low_of n) n.edges w) w) (le-ltb 1 (low_of n) few))

  -- a net with dropped entries is marked, which makes w₁ of w, and then counted
  pub net-recounted : Shaped g → (i : ℕ) → i < net_count j → (t : ℕ) → t ≡ low_in table i → 1 < t → (m : ℕ) (w w₁ w₂ : List ℕ) → demand_at g ≤ length w → Remarked g m w w₁
      → w₂ ≡ marked g t (net_of j (suc i)).edges w₁ → Remarked g m (marked_net g (net_of j (suc i)) w) w₂
  net-recounted shaped i h t e k m w w₁ w₂ room a q =
      let low = low_is i h t e k in
      let n = net_of j (suc i) in
      let known : Known g n.edges = λ x b. omega (arith, (ok_at i h).known x b, shaped.e_is) in
      let out = marked-outside g t (omega arith) low.1 n.edges w₁ known in
      subst (λ (l : List ℕ). Remarked g m l w₂) (net-counted i h t e k w (marked g t n.edges w) refl)
      (subst (Remarked g m (marked g t n.edges w)) (sym q)
      (record {
        out = marked-both g t (omega arith) low.1 n.edges w w₁ known room a.out;
        after = record {
          marks = subst (Older m) (sym (part-outside (loads_at g) (loads_at g) w₁ (marked g t n.edges w₁) out (tiles_at g) g.t (inr (omega arith)))) a.after.marks;
          links = subst (Older m) (sym (part-outside (loads_at g) (loads_at g) w₁ (marked g t n.edges w₁) out (links_at g) g.t (inr (omega arith)))) a.after.links;
        };
      }))

  -- ---- all of them

  each-fine : (ns : List Net) → EachNet (NetOk j.width j.height j.layers) ns → EachNet (λ n. (1 ≤ low_of n) × (low_of n ≤ j.layers)) ns → Shaped g → EachNet (Fine g) ns
  each-fine [] a b shaped = tt
  each-fine (n ∷ ns) a b shaped = (
    record {
      known = λ e i. omega (arith, a.0.known e i, asked.edges);
      once = a.0.once;
      low = b.0.0;
      high = omega (arith, b.0.1, asked.layers);
    },
    each-fine ns a.1 b.1 shaped,
  )

  pub all-fine : Shaped g → EachNet (Fine g) j.nets
  all-fine shaped = each-fine j.nets asked.accepted.nets asked.accepted.lows shaped

take-each : (P : Net → Type 0) (ns : List Net) (i : ℕ) → EachNet P ns → EachNet P (take i ns)
take-each P ns zero h = tt
take-each P [] (suc i) h = tt
take-each P (n ∷ ns) (suc i) h = (h.0, take-each P ns i h.1)

take_next : (ns : List Net) (i : ℕ) → i < length ns → take (suc i) ns ≡ take i ns ++ (get_or ns i no_net ∷ [])
take_next [] i h = absurd (omega arith)
take_next (n ∷ ns) zero h = refl
take_next (n ∷ ns) (suc i) h = ap {B = List Net} (λ r. n ∷ r) (take_next ns i (omega arith))

take_all : (ns : List Net) (i : ℕ) → length ns ≤ i → take i ns ≡ ns
take_all [] zero h = refl
take_all [] (suc i) h = refl
take_all (n ∷ ns) zero h = absurd (omega arith)
take_all (n ∷ ns) (suc i) h = ap {B = List Net} (λ r. n ∷ r) (take_all ns i (omega arith))

-- the first i nets are counted, which makes w of w₀, but for the marks and the links of the tiles
pub record Counted (s : List ℕ) (g : Shape) (table : List ℕ) (n i : ℕ) (w₀ w : List ℕ) : Type 0 where
  pub below : i ≤ n
  pub long : length w ≡ length w₀
  pub w_is : (lent : Lent) (j : Job) → Asked s g table lent j → n ≡ net_count j → Remarked g (3 * n + 1 + i) (marked_nets g (take i j.nets) w₀) w

module _ (s : List ℕ) (g : Shape) (shaped : Shaped g) (table : List ℕ) (n : ℕ) (w₀ : List ℕ) where
  pub counted_start : Unmarked g (suc (3 * n)) w₀ → Counted s g table n 0 w₀ w₀
  counted_start u = record { below = omega arith; long = refl; w_is = λ lent j asked c. remarked-same g (suc (3 * n)) (3 * n + 1 + 0) w₀ (omega arith) u }

  module _ (i : ℕ) (w : List ℕ) (now : Counted s g table n i w₀ w) (room : demand_at g ≤ length w₀) where
    fine-so-far : (lent : Lent) (j : Job) → Asked s g table lent j → EachNet (Fine g) (take i j.nets)
    fine-so-far lent j asked = take-each (Fine g) j.nets i (all-fine s g table lent j asked shaped)

    module _ (o : AskedSome s g w₀ table n) (h : i < n) where
      pub next-there : SomeNet s g w table i
      next-there = record {
        lent = o.lent;
        job = o.job;
        asked = o.asked;
        there = omega (arith, o.count);
        few = λ t t2 tk e b.
            omega (
              arith,
              (now.w_is o.lent o.job o.asked o.count).out.low (cell g e t) (omega (arith, edge-room g e b)),
              nets-at g (take i o.job.nets) w₀ (fine-so-far o.lent o.job o.asked) room e t t2 tk,
              o.loads (e * g.k + (t - 1)) (omega (arith, edge-room g e b)),
              count-few (wants g e t) (take i o.job.nets),
              length-take i o.job.nets,
              o.count,
              o.asked.accepted.count_of_nets,
            );
      }

      pub next-stamp : (3 * n + 1 + i ≤ most_stamp) × Unmarked g (3 * n + 1 + i) w
      next-stamp = (omega (arith, o.count, o.asked.accepted.count_of_nets), (now.w_is o.lent o.job o.asked o.count).after)

    pub counted_next : i < n → (w' : List ℕ) → length w' ≡ length w
        → ((lent : Lent) (j : Job) → Asked s g table lent j → i < net_count j → Remarked g (3 * n + 1 + i + 1) (marked_net g (net_of j (suc i)) w) w') → Counted s g table n (i + 1) w₀ w'
    counted_next h w' long is = record { below = omega arith; long = long ∙ now.long; w_is = one_more }
      where
        before : Job → List ℕ
        before j = marked_nets g (take i j.nets) w₀

        whole : (j : Job) → i < net_count j → marked_net g (net_of j (suc i)) (before j) ≡ marked_nets g (take (i + 1) j.nets) w₀
        whole j b =
            let p : suc i - 1 ≡ i = omega arith in
            let q : i + 1 ≡ suc i = omega arith in
            ap (λ (k : ℕ). marked_net g (get_or j.nets k no_net) (before j)) p
            ∙ sym (nets-snoc g (take i j.nets) (get_or j.nets i no_net) w₀)
            ∙ ap (λ (ns : List Net). marked_nets g ns w₀) (sym (take_next j.nets i b) ∙ ap (λ (k : ℕ). take k j.nets) (sym q))

        one_more : (lent : Lent) (j : Job) → Asked s g table lent j → n ≡ net_count j → Remarked g (3 * n + 1 + (i + 1)) (marked_nets g (take (i + 1) j.nets) w₀) w'
        one_more lent j asked c =
            let b : i < net_count j = omega (arith, c) in
            let r = is lent j asked b in
            subst (λ (l : List ℕ). Remarked g (3 * n + 1 + (i + 1)) l w') (whole j b)
            (record {
              out =
                  outside-then (tiles_at g) (2 * g.t) (marked_net g (net_of j (suc i)) (before j)) (marked_net g (net_of j (suc i)) w) w'
                  (net-both g (net_of j (suc i)) (before j) w (net-at (Fine g) j.nets no_net (suc i - 1) (omega arith) (all-fine s g table lent j asked shaped))
                  (omega (arith, room, (nets-outside g (take i j.nets) w₀ (fine-so-far lent j asked)).long)) (now.w_is lent j asked c).out)
                  r.out;
              after = unmarked-more g (3 * n + 1 + i + 1) (3 * n + 1 + (i + 1)) w' (omega arith) r.after;
            })

    pub counted-done : n ≤ i → (lent : Lent) (j : Job) → Asked s g table lent j → n ≡ net_count j → Remarked g (suc (4 * n)) (marked_nets g j.nets w₀) w
    counted-done h lent j asked c =
        let r = now.w_is lent j asked c in
        subst (λ (ns : List Net). Remarked g (suc (4 * n)) (marked_nets g ns w₀) w) (take_all j.nets i (omega (arith, c)))
        (record { out = r.out; after = unmarked-more g (3 * n + 1 + i) (suc (4 * n)) w (omega (arith, now.below)) r.after })

-- ---- what the counts say

any-index : (p : Net → Bool) (q : ℕ → Bool) (ns : List Net) (a : ℕ) → ((k : ℕ) → k < length ns → q (a + k) ≡ p (get_or ns k no_net)) → any q (up_from a (length ns)) ≡ any p ns
any-index p q [] a h = refl
any-index p q (n ∷ ns) a h =
    let z : a + 0 ≡ a = omega arith in
    ap₂ (λ (b c : Bool). cond b true c) (ap q (sym z) ∙ h 0 (omega arith))
    (any-index p q ns (suc a) (λ k b. let e : suc a + k ≡ a + suc k = omega arith in ap q e ∙ h (suc k) (omega arith)))

module _ (s : List ℕ) (g : Shape) (shaped : Shaped g) (table : List ℕ) (n : ℕ) (lent : Lent) (j : Job) (asked : Asked s g table lent j) (c : n ≡ net_count j) where
  -- the table has a line `low` where the job has one
  any-is : any_low table n ≡ has_low j
  any-is =
      ap (any_low table) c
      ∙ any-index (λ m. given m.low) (λ i. ltb 0 (low_in table i)) j.nets 0
      (λ k b.
      let z : 0 + k ≡ k = omega arith in
      let p : suc k - 1 ≡ k = omega arith in
      ap (λ (i : ℕ). ltb 0 (low_in table i)) z ∙ ap (ltb 0) (asked.lows k b)
      ∙ mark-given (net_of j (suc k)).low (low-inside j lent asked.accepted k b).0
      ∙ ap (λ (i : ℕ). given (get_or j.nets i no_net).low) p)

  pub none-printed : any_low table n ≡ false → ldof_text None ≡ ldof_line j
  none-printed h = sym (ap (λ (b : Bool). cond b (print_line "ldof" (ldof j ∷ [])) []) (sym any-is ∙ h))

  -- the nets are counted, which makes w₁ of w, but for the marks and the links of the tiles
  module _ (w w₁ : List ℕ) (room : demand_at g ≤ length w) (capacities : Capacities g j w) (loads : NoLoads g w) (counts : Outside (tiles_at g) (2 * g.t) (marked_nets g j.nets w) w₁) where
    changed : Outside (loads_at g) (loads_at g) w (marked_nets g j.nets w)
    changed = nets-outside g j.nets w (all-fine s g table lent j asked shaped)

    rooms-are : (e : ℕ) → e < g.e → (t : ℕ) → 1 ≤ t → t ≤ g.k → room_in g w₁ e t ≡ capacity j e t
    rooms-are e h t t1 tk =
        counts.low (e * g.k + (t - 1)) (omega (arith, edge-room g e h)) ∙ changed.low (e * g.k + (t - 1)) (omega (arith, edge-room g e h)) ∙ capacities.caps e t h t1 tk

    needs-are : (e : ℕ) → e < g.e → (t : ℕ) → 2 ≤ t → t ≤ g.k → need_in g w₁ e t ≡ wanting j e t
    needs-are e h t t2 tk =
        omega (
          arith,
          counts.low (cell g e t) (omega (arith, edge-room g e h)),
          nets-at g j.nets w (all-fine s g table lent j asked shaped) room e t t2 tk,
          loads (e * g.k + (t - 1)) (omega (arith, edge-room g e h)),
        )

    edge-is : (e : ℕ) → e < g.e → excess_in g w₁ e ≡ ldof_at j e
    edge-is e h =
        excess-eq (room_in g w₁ e) (capacity j e) (need_in g w₁ e) (wanting j e) g.k (λ l a b. rooms-are e h l (omega arith) b) (needs-are e h)
        ∙ ap (λ (k : ℕ). summed_excess (capacity j e) k (wanting j e)) asked.layers

    sum_is : sum (excess_in g w₁) (up_from 0 g.e) ≡ ldof j
    unfolding ldof
    sum_is =
        sum-eq (excess_in g w₁) (ldof_at j) (up_from 0 g.e) (λ e i. edge-is e (omega (arith, ((in-up_from e 0 g.e).0 i).1)))
        ∙ ap (λ (m : ℕ). sum (ldof_at j) (up_from 0 m)) asked.edges

    pub sum-printed : any_low table n ≡ true → (v : ℕ) → v ≡ sum (excess_in g w₁) (up_from 0 g.e) → ldof_text (Some v) ≡ ldof_line j
    sum-printed h v e =
        ap (λ (m : ℕ). print_line "ldof" (m ∷ [])) (e ∙ sum_is)
        ∙ sym (ap (λ (b : Bool). cond b (print_line "ldof" (ldof j ∷ [])) []) (sym any-is ∙ h))

    -- the numbers of an edge are small
    pub rooms-small : ((e l : ℕ) → capacity j e l ≤ most_capacity) → (e : ℕ) → e < g.e → SmallRooms g w₁ e
    rooms-small most e h t t2 tk =
        (omega (arith, rooms-are e h t (omega arith) tk, most e t), omega (arith, needs-are e h t t2 tk, count-few (wants g e t) j.nets, asked.accepted.count_of_nets))

    -- what is counted is zeroed again
    pub cleared : (m : ℕ) (w₂ : List ℕ) → PartCleared (loads_at g) (demand_at g) w₁ w₂ → Unmarked g m w₁ → Remarked g m w w₂
    cleared m w₂ p u = record {
      out = record {
        long = p.outside.long ∙ counts.long ∙ changed.long;
        low = λ k b. go k b (dec_lt k (loads_at g)) (dec_lt k (demand_at g));
        high = λ k b. p.outside.high k (omega arith) ∙ counts.high k b ∙ changed.high k (omega arith);
      };
      after = record {
        marks = subst (Older m) (sym (part-outside (loads_at g) (demand_at g - loads_at g) w₁ w₂ p.outside (tiles_at g) g.t (inr (omega arith)))) u.marks;
        links = subst (Older m) (sym (part-outside (loads_at g) (demand_at g - loads_at g) w₁ w₂ p.outside (links_at g) g.t (inr (omega arith)))) u.links;
      };
    }
      where
        go : (k : ℕ) → k < tiles_at g → Dec (k < loads_at g) → Dec (k < demand_at g) → get_or w₂ k 0 ≡ get_or w k 0
        go k b (yes a) d = p.outside.low k a ∙ counts.low k b ∙ changed.low k a
        go k b (no a) (yes d) =
            let q : loads_at g + (k - loads_at g) ≡ k = omega arith in
            p.zeros k (omega arith) d ∙ sym (ap (λ (i : ℕ). get_or w i 0) (sym q) ∙ loads (k - loads_at g) (omega arith))
        go k b (no a) (no d) = p.outside.high k (omega arith) ∙ counts.low k b ∙ changed.high k (omega arith)
