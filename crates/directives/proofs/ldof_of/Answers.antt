-- `ldof_of` meets its contract: where no net has a line `low` nothing is printed; else the nets are counted, the excess is summed over the counts, and they are
-- zeroed again (`Nets.antt`).
-- Assumes nothing.
use mathlib.Core.List.{List}
use mathlib.Core.Path.{sym, ◌∙◌, subst}
use Prim.Native.Nat.{ℕ, suc, ◌*◌, ◌≤◌, ◌<◌}
use native.Mathlib.Omega.{arith}
use lib.ListN.{length}
use Rattle.layout.specs.Areas.{loads_at, demand_at}
use Rattle.layout.specs.Fill.{PartCleared}
use Rattle.net.specs.Dropped.{Remarked, remarked-same}
use Rattle.theory.specs.links.Limits.{capacity-small}
use Rattle.directives.specs.Asked.{AskedSome}
use Rattle.directives.specs.Counts.{marked_nets, SmallRooms}
use Rattle.directives.proofs.Nets.{none-printed, sum-printed, rooms-small, cleared}
use Rattle.directives.proofs.ldof_of.Goals as goal
use Rattle.directives.proofs.ldof_of.Goals.{After-clear_part, After-count_nets, Start}

-- some job asks for it
module _ (z : Start) where
  abbrev o : AskedSome z.args.s.now z.args.g z.args.w.now z.args.table.now z.args.n
  o = z.requires.asked_some

  room : demand_at z.args.g ≤ length z.args.w.now
  room = omega (arith, z.requires.g_in_bounds.0)

-- its nets are counted
module _ (c : After-count_nets) where
  abbrev counts : List ℕ
  counts = c.count_nets.new.w

  counts-are : Remarked c.args.g (suc (4 * c.args.n)) (marked_nets c.args.g (o (goal.at.After-count_nets c).Start).job.nets c.args.w.now) counts
  counts-are = c.count_nets.ensures.remarked (o (goal.at.After-count_nets c).Start).lent (o (goal.at.After-count_nets c).Start).job (o (goal.at.After-count_nets c).Start).asked (o (goal.at.After-count_nets c).Start).count

  small : (e : ℕ) → e < c.args.g.e → SmallRooms c.args.g counts e
  small =
      let x = c.args in
      rooms-small x.s.now x.g c.args.g.shaped x.table.now x.n (o (goal.at.After-count_nets c).Start).lent (o (goal.at.After-count_nets c).Start).job (o (goal.at.After-count_nets c).Start).asked (o (goal.at.After-count_nets c).Start).count x.w.now counts (room (goal.at.After-count_nets c).Start) (o (goal.at.After-count_nets c).Start).capacities (o (goal.at.After-count_nets c).Start).loads counts-are.out
      (capacity-small (o (goal.at.After-count_nets c).Start).lent (o (goal.at.After-count_nets c).Start).job (o (goal.at.After-count_nets c).Start).asked.accepted)

-- and the counts zeroed again
module _ (c : After-clear_part) where
  zeroed : Remarked c.args.g (suc (4 * c.args.n)) c.args.w.now c.clear_part.new.w
  zeroed =
      let x = c.args in
      cleared x.s.now x.g c.args.g.shaped x.table.now x.n (o (goal.at.After-clear_part c).Start).lent (o (goal.at.After-clear_part c).Start).job (o (goal.at.After-clear_part c).Start).asked (o (goal.at.After-clear_part c).Start).count x.w.now (counts (goal.at.After-clear_part c).After-count_nets) (room (goal.at.After-clear_part c).Start) (o (goal.at.After-clear_part c).Start).capacities (o (goal.at.After-clear_part c).Start).loads
      (counts-are (goal.at.After-clear_part c).After-count_nets).out (suc (4 * x.n)) c.clear_part.new.w
      (subst (λ (b : ℕ). PartCleared (loads_at x.g) b (counts (goal.at.After-clear_part c).After-count_nets) c.clear_part.new.w) c.demand_at.ensures.value
      (subst (λ (a : ℕ). PartCleared a c.demand_at.result (counts (goal.at.After-clear_part c).After-count_nets) c.clear_part.new.w) c.loads_at.ensures.value c.clear_part.ensures))
      (counts-are (goal.at.After-clear_part c).After-count_nets).after

pub any_low-requires : goal.any_low-requires
any_low-requires c =
    let a = o (goal.at.any_low-requires c).Start in (omega (arith, a.count, a.asked.accepted.count_of_nets), a.asked.rows.long)

pub returns-then-not-any_low : goal.returns-then-not-any_low
returns-then-not-any_low c =
    let x = c.args in record {
      result_value = (λ lent j asked capacities n.
          none-printed x.s.now x.g c.args.g.shaped x.table.now x.n lent j asked n (sym c.any_low.ensures ∙ c.if-not-any_low.true));
      remarked = remarked-same x.g (suc (3 * x.n)) (suc (4 * x.n)) x.w.now (omega arith) c.requires.g_in_bounds.1;
    }

pub count_nets-requires : goal.count_nets-requires
count_nets-requires c =
    record { g_in_bounds = c.requires.g_in_bounds; asked_some = c.requires.asked_some }

pub sum_excess-sum-requires : goal.sum_excess-sum-requires
sum_excess-sum-requires c =
    record { g_in_bounds = (omega (arith, room (goal.at.sum_excess-sum-requires c).Start, c.count_nets.ensures.w_len_unchanged), small (goal.at.sum_excess-sum-requires c).After-count_nets) }

pub clear_part-requires : goal.clear_part-requires
clear_part-requires c =
    (omega (arith, c.loads_at.ensures.value, c.demand_at.ensures.value), omega (arith, c.demand_at.ensures.value, room (goal.at.clear_part-requires c).Start, c.count_nets.ensures.w_len_unchanged))

pub shape_of-w : goal.shape_of-w
shape_of-w c =
    (zeroed (goal.at.shape_of-w c).After-clear_part).out.long

pub returns : goal.returns
returns c =
    let x = c.args in record {
      result_value = (λ lent j asked capacities n.
          sum-printed x.s.now x.g c.args.g.shaped x.table.now x.n lent j asked n x.w.now (counts (goal.at.returns c).After-count_nets) (room (goal.at.returns c).Start) capacities (o (goal.at.returns c).Start).loads (c.count_nets.ensures.remarked lent j asked n).out
          (sym c.any_low.ensures ∙ c.if-not-any_low.false) c.sum_excess-sum.result c.sum_excess-sum.ensures);
      remarked = zeroed (goal.at.returns c).After-clear_part;
    }
