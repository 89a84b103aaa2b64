-- `cut_density` meets its contract: where gamma is not 0 the lines of the net are found by its row, its edges are marked, and those entries are summed that are
-- marked.
-- Assumes nothing.
use mathlib.Core.List.{List}
use mathlib.Core.Path.{◌≡◌, sym, ap, subst, ◌∙◌}
use Prim.Native.Nat.{ℕ, suc, ◌+◌, ◌≤◌, ◌<◌}
use native.Mathlib.Omega.{arith}
use lib.ListN.{get_or}
use Rattle.cut.specs.Again.{kept_at, cut-remarked}
use Rattle.cut.specs.Net.{RingAt, CutMarked, entries-there, some-entry}
use Rattle.layout.specs.Areas.{demand_at, flat_at}
use Rattle.layout.specs.Table.{pins_column, edges_column}
use Rattle.model.specs.Job.{Job, net_count, net_of}
use Rattle.model.specs.Read.{Lent}
use Rattle.net.specs.Dropped.{Remarked, remarked-same}
use Rattle.order.specs.Density.{Weighed, weighed-none, weighed-sums}
use Rattle.order.specs.Ready.{Ready, SomeNet}
use Rattle.order.proofs.Scores.{line-ring, stamp-small}
use Rattle.order.proofs.cut_density.Goals as goal
use Rattle.order.proofs.cut_density.Goals.{After-at-2, After-mark_net}

-- the lines of the net
module _ (c : After-at-2) where
  abbrev pins : ℕ
  pins = get_or c.args.table.now c.at.result 0

  abbrev edges : ℕ
  edges = get_or c.args.table.now c.at-2.result 0

  abbrev o : SomeNet c.args.s.now c.args.g c.args.a c.args.w.now c.args.table.now c.args.i
  o = c.requires.some_net.0

  pins-is : pins ≡ get_or c.args.table.now (pins_column c.args.i) 0
  pins-is = ap (λ (k : ℕ). get_or c.args.table.now k 0) c.at.ensures.value

  edges-is : edges ≡ get_or c.args.table.now (edges_column c.args.i) 0
  edges-is = ap (λ (k : ℕ). get_or c.args.table.now k 0) c.at-2.ensures.value

  ring : (lent : Lent) (j : Job) → Ready c.args.s.now c.args.g c.args.a c.args.w.now c.args.table.now lent j → (h : c.args.i < net_count j)
      → RingAt c.args.s.now c.args.g pins edges (net_of j (suc c.args.i))
  ring lent j ready h =
      let x = c.args in
      line-ring x.s.now x.g x.a x.w.now x.table.now lent j ready x.i h c.args.g.shaped c.requires.some_net.1 pins edges pins-is edges-is

  here : RingAt c.args.s.now c.args.g pins edges (net_of o.job (suc c.args.i))
  here = ring o.lent o.job o.ready o.there

  small : c.args.a.stamp + c.args.i ≤ 20480
  small = let x = c.args in stamp-small x.s.now x.g x.a x.w.now x.table.now o.lent o.job o.ready x.i o.there

-- its edges are marked
module _ (m : After-mark_net) where
  abbrev w' : List ℕ
  w' = m.mark_net.new.w

  marked : CutMarked m.args.g (m.args.a.stamp + m.args.i) (net_of (o (goal.at.After-mark_net m).After-at-2).job (suc m.args.i)) m.args.w.now w' m.mark_net.result
  marked = m.mark_net.ensures (net_of (o (goal.at.After-mark_net m).After-at-2).job (suc m.args.i)) (here (goal.at.After-mark_net m).After-at-2)

  again : Remarked m.args.g (m.args.a.stamp + (m.args.i + 1)) m.args.w.now w'
  again =
      let x = m.args in
      cut-remarked x.g (x.a.stamp + x.i) (x.a.stamp + (x.i + 1)) (net_of (o (goal.at.After-mark_net m).After-at-2).job (suc x.i)) x.w.now w' m.mark_net.result marked (omega arith)

-- gamma is 0
pub returns-then-a-eq0 : goal.returns-then-a-eq0
returns-then-a-eq0 c =
    let x = c.args in record { weighed = (λ lent j ready h. subst (λ (k : ℕ). Weighed k j (net_of j (suc x.i)) (record { demand = 0; capacity = 0 })) (sym c.if-a-eq0.true) (weighed-none j (net_of j (suc x.i)))); remarked = remarked-same x.g (x.a.stamp + x.i) (x.a.stamp + (x.i + 1)) x.w.now (omega arith) c.requires.g_in_bounds.1 }

pub mark_net-requires : goal.mark_net-requires
mark_net-requires c =
    record { g_in_bounds = (c.requires.g_in_bounds.0, small (goal.at.mark_net-requires c).After-at-2, c.requires.g_in_bounds.1.marks, c.requires.g_in_bounds.1.links); ring_there = record { net = net_of (o (goal.at.mark_net-requires c).After-at-2).job (suc c.args.i); lines = here (goal.at.mark_net-requires c).After-at-2 } }

pub kept_density-requires : goal.kept_density-requires
kept_density-requires c =
    let x = c.args in
    let net = net_of (o (goal.at.kept_density-requires c).After-at-2).job (suc x.i) in record {
      g_in_bounds = omega (arith, c.requires.g_in_bounds.0, (marked (goal.at.kept_density-requires c).After-mark_net).around.long);
      edges_there = (
        entries-there x.s.now x.g c.args.g.shaped (pins (goal.at.kept_density-requires c).After-at-2) (edges (goal.at.kept_density-requires c).After-at-2) net (here (goal.at.kept_density-requires c).After-at-2),
        some-entry x.s.now x.g c.args.g.shaped (pins (goal.at.kept_density-requires c).After-at-2) (edges (goal.at.kept_density-requires c).After-at-2) net (here (goal.at.kept_density-requires c).After-at-2),
      );
    }

pub shape_of-w : goal.shape_of-w
shape_of-w c =
    (again (goal.at.shape_of-w c).After-mark_net).out.long

pub returns : goal.returns
returns c =
    let x = c.args in record {
      weighed = (λ lent j ready h.
          let net = net_of j (suc x.i) in
          let at = ring (goal.at.returns c).After-at-2 lent j ready h in
          weighed-sums x.a.gamma j net c.kept_density.result
          (c.kept_density.ensures j net
          (kept_at x.s.now x.g (pins (goal.at.returns c).After-at-2) (edges (goal.at.returns c).After-at-2) (x.a.stamp + x.i) net at x.w.now (w' (goal.at.returns c).After-mark_net) c.mark_net.result (c.mark_net.ensures net at))
          (λ e b. (again (goal.at.returns c).After-mark_net).out.low (demand_at x.g + e) (omega arith) ∙ ready.demands e b)
          (λ e b. (again (goal.at.returns c).After-mark_net).out.low (flat_at x.g + e) (omega arith) ∙ ready.capacities e b)));
      remarked = again (goal.at.returns c).After-mark_net;
    }
