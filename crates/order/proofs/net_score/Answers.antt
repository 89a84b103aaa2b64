-- `net_score` meets its contract: L and P stand in the row of the net, and D and C come from the entries of its line, all of them or those that it keeps.
-- Assumes nothing.
use mathlib.Core.Path.{◌≡◌, ap, ap₂, ◌∙◌}
use Prim.Native.Nat.{ℕ, suc, ◌+◌, ◌-◌, ◌≤◌, ◌<◌}
use native.Mathlib.Omega.{arith}
use lib.ListN.{get_or}
use Rattle.layout.specs.Table.{edges_column, tiles_column, entries_in, dropped_in}
use Rattle.model.specs.Job.{Job, net_count, net_of}
use Rattle.model.specs.Read.{Lent}
use Rattle.model.specs.Score.{length_term, pin_term, density_term, different_tiles}
use Rattle.model.specs.Score as scores
use Rattle.net.specs.Dropped.{remarked-same}
use Rattle.order.specs.Density.{Weighed}
use Rattle.order.specs.Ready.{Ready, SomeNet}
use Rattle.order.specs.declared.Density.{Density}
use Rattle.order.proofs.Scores.{line-there, line_at, line-all, kept-length, weights-small, pins_small, demand-small, score-is}
use Rattle.order.proofs.net_score.Goals as goal
use Rattle.order.proofs.net_score.Goals.{After-weighed_density-x, After-from-pins}

-- what the code reads of the net's row
module _ (c : After-from-pins) where
  abbrev p : ℕ
  p = get_or c.args.table.now c.at.result 0

  abbrev dropped : ℕ
  dropped = c.dropped_in-dropped.result

  abbrev edges : ℕ
  edges = c.entries_in.result - dropped

  abbrev pins : ℕ
  pins = c.from-pins.result

  abbrev o : SomeNet c.args.s.now c.args.g c.args.a c.args.w.now c.args.table.now c.args.i
  o = c.requires.some_net

  p-is : p ≡ get_or c.args.table.now (edges_column c.args.i) 0
  p-is = ap (λ (k : ℕ). get_or c.args.table.now k 0) c.at.ensures.value

  edges-is : edges ≡ entries_in c.args.table.now c.args.i - dropped_in c.args.table.now c.args.i
  edges-is = ap₂ (λ (x y : ℕ). x - y) c.entries_in.ensures.0 c.dropped_in-dropped.ensures.0

  pins-is : pins ≡ get_or c.args.table.now (tiles_column c.args.i) 0
  pins-is = c.from-pins.ensures ∙ ap (λ (k : ℕ). get_or c.args.table.now k 0) (omega arith)

  -- x gives the density term of each such job
  abbrev Weighs : Density → Type 0
  Weighs x =
      (lent : Lent) (j : Job) → Ready c.args.s.now c.args.g c.args.a c.args.w.now c.args.table.now lent j → c.args.i < net_count j
      → Weighed c.args.a.gamma j (net_of j (suc c.args.i)) x

  module _ (x : Density) (weighs : Weighs x) where
    asked : (c.args.a.alpha ≤ 255) × (c.args.a.beta ≤ 255) × (c.args.a.gamma ≤ 255) × (pins ≤ 1048576) × (x.demand ≤ 4294967296)
    asked =
        let y = c.args in
        let a = weights-small y.s.now y.g y.a y.w.now y.table.now o.lent o.job o.ready y.i o.there in (
          a.0,
          a.1,
          a.2,
          pins_small y.s.now y.g y.a y.w.now y.table.now o.lent o.job o.ready y.i o.there pins pins-is o.pins,
          demand-small y.s.now y.g y.a y.w.now y.table.now o.lent o.job o.ready y.i o.there x (weighs o.lent o.job o.ready o.there),
        )

    scored : (r : ℕ) → r ≡ length_term c.args.a.alpha edges + pin_term c.args.a.beta pins + density_term c.args.a.gamma x.demand x.capacity → (lent : Lent) (j : Job)
        → Ready c.args.s.now c.args.g c.args.a c.args.w.now c.args.table.now lent j → c.args.i < net_count j
        → get_or c.args.table.now (tiles_column c.args.i) 0 ≡ different_tiles (net_of j (suc c.args.i)).pins → r ≡ scores.score j (net_of j (suc c.args.i))
    scored r r-is lent j ready h are =
        let y = c.args in
        score-is y.s.now y.g y.a y.w.now y.table.now lent j ready y.i h edges pins x edges-is c.args.g.shaped pins-is are (weighs lent j ready h) r r-is

-- D and C over all entries
weighs-all : (c : After-weighed_density-x) → Weighs (goal.at.After-weighed_density-x c).After-from-pins c.weighed_density-x.result
weighs-all c lent j ready h =
    let y = c.args in
    c.weighed_density-x.ensures j (net_of j (suc y.i))
    (line_at y.s.now y.g y.a y.w.now y.table.now lent j ready y.i h (p (goal.at.After-weighed_density-x c).After-from-pins) (p-is (goal.at.After-weighed_density-x c).After-from-pins))
    (line-all y.s.now y.g y.a y.w.now y.table.now lent j ready y.i h c.args.g.shaped
    (omega (arith, c.dropped_in-dropped.ensures.0)))
    ready.demands ready.capacities

-- the row has a dropped count at most its entries
pub overflow_sub-edges : goal.overflow_sub-edges
overflow_sub-edges c =
    let y = c.args in
    let o = c.requires.some_net in
    let k = kept-length y.s.now y.g y.a y.w.now y.table.now o.lent o.job o.ready y.i o.there c.args.g.shaped in
    omega (arith, k.0, c.entries_in.ensures.0, c.dropped_in-dropped.ensures.0)

pub cut_density-x-requires : goal.cut_density-x-requires
cut_density-x-requires c =
    record { g_in_bounds = c.requires.g_in_bounds; some_net = (o (goal.at.cut_density-x-requires c).After-from-pins, omega (arith, c.dropped_in-dropped.ensures.0)) }

pub score-requires : goal.score-requires
score-requires c =
    asked (goal.at.score-requires c).After-from-pins c.cut_density-x.result c.cut_density-x.ensures.weighed

pub shape_of-w-then-dropped-ne0 : goal.shape_of-w-then-dropped-ne0
shape_of-w-then-dropped-ne0 c =
    c.cut_density-x.ensures.remarked.out.long

pub returns-then-dropped-ne0 : goal.returns-then-dropped-ne0
returns-then-dropped-ne0 c =
    record { value = scored (goal.at.returns-then-dropped-ne0 c).After-from-pins c.cut_density-x.result c.cut_density-x.ensures.weighed c.score.result c.score.ensures.value; upper_bound = c.score.ensures.upper_bound; remarked = c.cut_density-x.ensures.remarked }

pub weighed_density-x-requires : goal.weighed_density-x-requires
weighed_density-x-requires c =
    let y = c.args in record { g_in_bounds = omega (arith, c.requires.g_in_bounds.0); edges_there = line-there y.s.now y.g y.a y.w.now y.table.now (o (goal.at.weighed_density-x-requires c).After-from-pins).lent (o (goal.at.weighed_density-x-requires c).After-from-pins).job (o (goal.at.weighed_density-x-requires c).After-from-pins).ready y.i (o (goal.at.weighed_density-x-requires c).After-from-pins).there c.args.g.shaped (p (goal.at.weighed_density-x-requires c).After-from-pins) (p-is (goal.at.weighed_density-x-requires c).After-from-pins) }

pub score-requires-2 : goal.score-requires-2
score-requires-2 c =
    asked (goal.at.score-requires-2 c).After-from-pins c.weighed_density-x.result (weighs-all (goal.at.score-requires-2 c).After-weighed_density-x)

pub returns : goal.returns
returns c =
    let y = c.args in record { value = scored (goal.at.returns c).After-from-pins c.weighed_density-x.result (weighs-all (goal.at.returns c).After-weighed_density-x) c.score-2.result c.score-2.ensures.value; upper_bound = c.score-2.ensures.upper_bound; remarked = remarked-same y.g (y.a.stamp + y.i) (y.a.stamp + (y.i + 1)) y.w.now (omega arith) c.requires.g_in_bounds.1 }
