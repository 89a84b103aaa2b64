-- `count_net` meets its contract: the edges of a net that wants a layer above 1 are counted, and nothing is done for another. Where no entry is dropped, the edges
-- are all entries of its line (`Nets.antt`).
-- Assumes nothing.
use mathlib.Core.List.{List}
use mathlib.Core.Path.{◌≡◌, refl, sym, ap, subst, ◌∙◌}
use Prim.Native.Nat.{ℕ, suc, ◌+◌, ◌<◌}
use native.Mathlib.Omega.{arith}
use lib.ListN.{get_or}
use Rattle.layout.specs.Table.{edges_column}
use Rattle.model.specs.Job.{net_of}
use Rattle.net.specs.Dropped.{Remarked, remarked-same}
use Rattle.directives.specs.Asked.{SomeNet}
use Rattle.directives.specs.Counts.{marked}
use Rattle.directives.proofs.Nets.{line_at, line-there, line-all, low_is, net-recounted, net-passed}
use Rattle.directives.proofs.count_net.Goals as goal
use Rattle.directives.proofs.count_net.Goals.{After-dropped_in, After-at, After-low_in-low}

-- the net of some job, and its lowest wanted layer
module _ (c : After-low_in-low) where
  abbrev some : SomeNet c.args.s.now c.args.g c.args.w.now c.args.table.now c.args.i
  some = c.requires.some_net

  inside : c.args.i < 4096
  inside = omega (arith, some.there, some.asked.accepted.count_of_nets)

-- how many of its entries are dropped
module _ (d : After-dropped_in) where
  above : 1 < d.low_in-low.result
  above = omega arith

-- its `edges` line
module _ (c : After-at) where
  place_is : get_or c.args.table.now c.at.result 0 ≡ get_or c.args.table.now (edges_column c.args.i) 0
  place_is = ap (λ (k : ℕ). get_or c.args.table.now k 0) c.at.ensures.value

pub low_in-low-requires : goal.low_in-low-requires
low_in-low-requires c =
    let o = c.requires.some_net in (omega (arith, o.there, o.asked.accepted.count_of_nets), o.asked.rows.long)

pub dropped_in-requires : goal.dropped_in-requires
dropped_in-requires c =
    let o = some (goal.at.dropped_in-requires c).After-low_in-low in (inside (goal.at.dropped_in-requires c).After-low_in-low, o.asked.rows.long)

pub overflow_cast-i : goal.overflow_cast-i
overflow_cast-i c =
    omega (arith, inside (goal.at.overflow_cast-i c).After-low_in-low)

pub overflow_add-stamp : goal.overflow_add-stamp
overflow_add-stamp c =
    omega (arith, c.requires.g_in_bounds.1)

pub count_cut-requires : goal.count_cut-requires
count_cut-requires c =
    record { g_in_bounds = (c.requires.g_in_bounds.0, c.requires.g_in_bounds.1, c.requires.g_in_bounds.2); some_net = (some (goal.at.count_cut-requires c).After-low_in-low, omega (arith, c.dropped_in.ensures.0, c.if-dropped_in-gt0.true), omega (arith, above (goal.at.count_cut-requires c).After-dropped_in, c.low_in-low.ensures.value)) }

pub shape_of-w-then-dropped_in-gt0 : goal.shape_of-w-then-dropped_in-gt0
shape_of-w-then-dropped_in-gt0 c =
    c.count_cut.ensures.w_len_unchanged

pub returns-then-dropped_in-gt0 : goal.returns-then-dropped_in-gt0
returns-then-dropped_in-gt0 c =
    record { remarked = c.count_cut.ensures.remarked; w_len_unchanged = c.count_cut.ensures.w_len_unchanged }

pub at-requires : goal.at-requires
at-requires c =
    inside (goal.at.at-requires c).After-low_in-low

pub offset_bounds-table-at : goal.offset_bounds-table-at
offset_bounds-table-at c =
    omega (arith, c.at.ensures.upper_bound)

pub bounds-table-at : goal.bounds-table-at
bounds-table-at c =
    let o = some (goal.at.bounds-table-at c).After-low_in-low in omega (arith, c.at.ensures.upper_bound, o.asked.rows.long)

pub count_line-requires : goal.count_line-requires
count_line-requires c =
    let x = c.args in
    let o = some (goal.at.count_line-requires c).After-low_in-low in
    let t = above (goal.at.count_line-requires c).After-dropped_in in
    let low = low_is x.s.now x.g x.table.now o.lent o.job o.asked x.i o.there c.low_in-low.result c.low_in-low.ensures.value t in record { le_low = (omega (arith, t), low.1, omega (arith, c.requires.g_in_bounds.0), o.few c.low_in-low.result t low.1); edges_there = line-there x.s.now x.g x.table.now o.lent o.job o.asked c.args.g.shaped x.i o.there (get_or x.table.now c.at.result 0) (place_is (goal.at.count_line-requires c).After-at) }

pub shape_of-w : goal.shape_of-w
shape_of-w c =
    c.count_line.ensures.w_len_unchanged

pub returns-else-dropped_in-gt0 : goal.returns-else-dropped_in-gt0
returns-else-dropped_in-gt0 c =
    let x = c.args in
    let m = x.stamp + x.i in record {
      remarked = (λ lent j asked h.
          let all = line-all x.s.now x.g x.table.now lent j asked c.args.g.shaped x.i h (omega (arith, c.dropped_in.ensures.0, c.if-dropped_in-gt0.false)) in
          net-recounted x.s.now x.g x.table.now lent j asked c.args.g.shaped x.i h c.low_in-low.result c.low_in-low.ensures.value (above (goal.at.returns-else-dropped_in-gt0 c).After-dropped_in) (m + 1) x.w.now x.w.now c.count_line.new.w
          (omega (arith, c.requires.g_in_bounds.0)) (remarked-same x.g m (m + 1) x.w.now (omega arith) c.requires.g_in_bounds.2)
          (c.count_line.ensures.w_after (net_of j (suc x.i)) (line_at x.s.now x.g x.table.now lent j asked x.i h (get_or x.table.now c.at.result 0) (place_is (goal.at.returns-else-dropped_in-gt0 c).After-at))
          ∙ ap (λ (es : List ℕ). marked x.g c.low_in-low.result es x.w.now) (sym all)));
      w_len_unchanged = c.count_line.ensures.w_len_unchanged;
    }

pub returns-else-low-gt1 : goal.returns-else-low-gt1
returns-else-low-gt1 c =
    let x = c.args in
    let m = x.stamp + x.i in record {
      remarked = (λ lent j asked h.
          subst (λ (w : List ℕ). Remarked x.g (m + 1) w x.w.now)
          (net-passed x.s.now x.g x.table.now lent j asked x.i h (omega (arith, c.if-low-gt1.false, c.low_in-low.ensures.value)) x.w.now)
          (remarked-same x.g m (m + 1) x.w.now (omega arith) c.requires.g_in_bounds.2));
      w_len_unchanged = refl;
    }
