-- `count_cut` meets its contract: the lines of the net are found by its row, its edges are marked, and those entries are counted that are marked.
-- Assumes nothing.
use mathlib.Core.List.{List}
use mathlib.Core.Path.{◌≡◌, ap, ◌∙◌}
use Prim.Native.Nat.{ℕ, suc, ◌+◌, ◌≤◌, ◌<◌}
use native.Mathlib.Omega.{arith}
use lib.ListN.{length, get_or}
use Rattle.cut.specs.Again.{kept_at, cut-remarked}
use Rattle.cut.specs.Net.{RingAt, entries-there, some-entry}
use Rattle.layout.specs.Table.{pins_column, edges_column}
use Rattle.model.specs.Job.{Job, net_count, net_of}
use Rattle.model.specs.Read.{Lent}
use Rattle.net.specs.Dropped.{Remarked}
use Rattle.directives.specs.Asked.{Asked, SomeNet}
use Rattle.directives.specs.Counts.{cell, Few}
use Rattle.directives.specs.Marked.{cell-inside}
use Rattle.directives.proofs.Nets.{line-ring, low_is, net-recounted}
use Rattle.directives.proofs.count_cut.Goals as goal
use Rattle.directives.proofs.count_cut.Goals.{After-count_kept, After-at-2, After-mark_net}

-- the lines of the net, and its lowest wanted layer
module _ (c : After-at-2) where
  abbrev low : ℕ
  low = c.low_in-low.result

  abbrev pins : ℕ
  pins = get_or c.args.table.now c.at.result 0

  abbrev edges : ℕ
  edges = get_or c.args.table.now c.at-2.result 0

  abbrev o : SomeNet c.args.s.now c.args.g c.args.w.now c.args.table.now c.args.i
  o = c.requires.some_net.0

  above : 1 < low
  above = omega (arith, c.low_in-low.ensures.value, c.requires.some_net.2)

  below : low ≤ c.args.g.k
  below = let x = c.args in (low_is x.s.now x.g x.table.now o.lent o.job o.asked x.i o.there low c.low_in-low.ensures.value above).1

  pins-is : pins ≡ get_or c.args.table.now (pins_column c.args.i) 0
  pins-is = ap (λ (k : ℕ). get_or c.args.table.now k 0) c.at.ensures.value

  edges-is : edges ≡ get_or c.args.table.now (edges_column c.args.i) 0
  edges-is = ap (λ (k : ℕ). get_or c.args.table.now k 0) c.at-2.ensures.value

  ring : (lent : Lent) (j : Job) → Asked c.args.s.now c.args.g c.args.table.now lent j → c.args.i < net_count j
      → RingAt c.args.s.now c.args.g pins edges (net_of j (suc c.args.i))
  ring lent j asked h =
      let x = c.args in
      line-ring x.s.now x.g x.table.now lent j asked c.args.g.shaped x.i h c.requires.some_net.1 pins edges pins-is edges-is

  here : RingAt c.args.s.now c.args.g pins edges (net_of o.job (suc c.args.i))
  here = ring o.lent o.job o.asked o.there

-- its edges are marked
module _ (m : After-mark_net) where
  abbrev w₁ : List ℕ
  w₁ = m.mark_net.new.w

  again : Remarked m.args.g (m.args.stamp + 1) m.args.w.now w₁
  again =
      let x = m.args in
      let n = net_of (o (goal.at.After-mark_net m).After-at-2).job (suc x.i) in
      cut-remarked x.g x.stamp (x.stamp + 1) n x.w.now w₁ m.mark_net.result (m.mark_net.ensures n (here (goal.at.After-mark_net m).After-at-2)) (omega arith)

  -- the counts are as they were
  few : Few m.args.g (low (goal.at.After-mark_net m).After-at-2) w₁
  few e h =
      let x = m.args in
      let a = above (goal.at.After-mark_net m).After-at-2 in
      let b = below (goal.at.After-mark_net m).After-at-2 in
      omega (
        arith,
        again.out.low (cell x.g e (low (goal.at.After-mark_net m).After-at-2)) (omega (arith, cell-inside x.g e (low (goal.at.After-mark_net m).After-at-2) h (omega (arith, a)) b)),
        (o (goal.at.After-mark_net m).After-at-2).few (low (goal.at.After-mark_net m).After-at-2) a b e h,
      )

-- and counted
module _ (d : After-count_kept) where
  abbrev w₂ : List ℕ
  w₂ = d.count_kept.new.w

  long : length d.count_kept.new.w ≡ length d.args.w.now
  long = d.count_kept.ensures.w_len_unchanged ∙ (again (goal.at.After-count_kept d).After-mark_net).out.long

pub low_in-low-requires : goal.low_in-low-requires
low_in-low-requires c =
    let n = c.requires.some_net.0 in (omega (arith, n.there, n.asked.accepted.count_of_nets), n.asked.rows.long)

pub at-requires : goal.at-requires
at-requires c =
    let n = c.requires.some_net.0 in omega (arith, n.there, n.asked.accepted.count_of_nets)

pub offset_bounds-table-at : goal.offset_bounds-table-at
offset_bounds-table-at c =
    omega (arith, c.at.ensures.upper_bound)

pub bounds-table-at : goal.bounds-table-at
bounds-table-at c =
    let n = c.requires.some_net.0 in omega (arith, c.at.ensures.upper_bound, n.asked.rows.long)

pub at-requires-2 : goal.at-requires-2
at-requires-2 c =
    let n = c.requires.some_net.0 in omega (arith, n.there, n.asked.accepted.count_of_nets)

pub offset_bounds-table-at-2 : goal.offset_bounds-table-at-2
offset_bounds-table-at-2 c =
    omega (arith, c.at-2.ensures.upper_bound)

pub bounds-table-at-2 : goal.bounds-table-at-2
bounds-table-at-2 c =
    let n = c.requires.some_net.0 in omega (arith, c.at-2.ensures.upper_bound, n.asked.rows.long)

pub mark_net-requires : goal.mark_net-requires
mark_net-requires c =
    record { g_in_bounds = (c.requires.g_in_bounds.0, c.requires.g_in_bounds.1, c.requires.g_in_bounds.2.marks, c.requires.g_in_bounds.2.links); ring_there = record { net = net_of (o (goal.at.mark_net-requires c).After-at-2).job (suc c.args.i); lines = here (goal.at.mark_net-requires c).After-at-2 } }

pub count_kept-requires : goal.count_kept-requires
count_kept-requires c =
    let x = c.args in
    let net = net_of (o (goal.at.count_kept-requires c).After-at-2).job (suc x.i) in record {
      le_low = (omega (arith, above (goal.at.count_kept-requires c).After-at-2), below (goal.at.count_kept-requires c).After-at-2, omega (arith, c.requires.g_in_bounds.0, (again (goal.at.count_kept-requires c).After-mark_net).out.long), few (goal.at.count_kept-requires c).After-mark_net);
      edges_there = (
        entries-there x.s.now x.g c.args.g.shaped (pins (goal.at.count_kept-requires c).After-at-2) (edges (goal.at.count_kept-requires c).After-at-2) net (here (goal.at.count_kept-requires c).After-at-2),
        some-entry x.s.now x.g c.args.g.shaped (pins (goal.at.count_kept-requires c).After-at-2) (edges (goal.at.count_kept-requires c).After-at-2) net (here (goal.at.count_kept-requires c).After-at-2),
      );
    }

pub shape_of-w : goal.shape_of-w
shape_of-w c =
    long (goal.at.shape_of-w c).After-count_kept

pub returns : goal.returns
returns c =
    let x = c.args in record {
      remarked = (λ lent j asked h.
          let net = net_of j (suc x.i) in
          let at = ring (goal.at.returns c).After-at-2 lent j asked h in
          net-recounted x.s.now x.g x.table.now lent j asked c.args.g.shaped x.i h (low (goal.at.returns c).After-at-2) c.low_in-low.ensures.value (above (goal.at.returns c).After-at-2) (x.stamp + 1) x.w.now (w₁ (goal.at.returns c).After-mark_net) (w₂ (goal.at.returns c).After-count_kept)
          (omega (arith, c.requires.g_in_bounds.0)) (again (goal.at.returns c).After-mark_net)
          (c.count_kept.ensures.w_after net
          (kept_at x.s.now x.g (pins (goal.at.returns c).After-at-2) (edges (goal.at.returns c).After-at-2) x.stamp net at x.w.now (w₁ (goal.at.returns c).After-mark_net) c.mark_net.result (c.mark_net.ensures net at))));
      w_len_unchanged = long (goal.at.returns c).After-count_kept;
    }
