-- `place_nets` meets its contract: overflow in the place of demand, the limits, the layers that run the other way closed, then the turns of all nets
-- (`Steps.antt`).
-- Assumes nothing.
use mathlib.Core.Path.{◌∙◌}
use mathlib.Core.List.{List}
use Prim.Native.Nat.{ℕ}
use native.Mathlib.Omega.{arith}
use lib.ListN.{length}
use Rattle.model.specs.Job.{Job}
use Rattle.model.specs.Read.{Lent}
use Rattle.placing.specs.Turns.{Start}
use Rattle.planning.specs.Closing.{Turned}
use Rattle.planning.proofs.Steps.{tiles-room, few-nets, few-demands, overflows-here, few-most, few-over, flat-room-still, all_room, largest-told, placing-starts}
use Rattle.flat.specs.Limited.{limit_at}
use Rattle.planning.proofs.place_nets.Goals as goal
use Rattle.planning.proofs.place_nets.Goals.{After-close_layers, After-overflows-flat}

abbrev w₁ : After-overflows-flat → List ℕ
w₁ v = v.overflows-flat.new.w

-- the layers that run the other way are closed
module _ (t : After-close_layers) where
  abbrev w₂ : List ℕ
  w₂ = t.close_layers.new.w

  starts : (lent : Lent) (j : Job) → Turned 4 t.args.s.now t.args.h t.args.w.now t.args.table.now (length t.args.answer.now) lent j
      → Start t.args.s.now t.args.h.shape t.args.h.nets (limit_at t.limits_of-limits.result) w₂ t.args.table.now (length t.args.answer.now) lent j
  starts lent j at =
      let x = t.args in
      placing-starts x.s.now x.h x.w.now x.table.now (length x.answer.now) lent j at (w₁ (goal.at.After-close_layers t).After-overflows-flat) t.overflows-flat.result t.overflows-flat.ensures.overflows t.overflows-flat.ensures.outside w₂ t.close_layers.ensures
      t.limits_of-limits.result t.limits_of-limits.ensures

pub overflows-flat-requires : goal.overflows-flat-requires
overflows-flat-requires c =
    let x = c.args in
    let o = c.requires in record { g_in_bounds = tiles-room x.s.now x.h x.w.now x.table.now (length x.answer.now) o.lent o.job o.turned; by_index = few-demands x.s.now x.h x.w.now x.table.now (length x.answer.now) o.lent o.job o.turned }

pub limits_of-limits-requires : goal.limits_of-limits-requires
limits_of-limits-requires c =
    let x = c.args in
    let o = c.requires in record {
      g_in_bounds = (
        flat-room-still x.s.now x.h x.w.now x.table.now (length x.answer.now) o.lent o.job o.turned (w₁ (goal.at.limits_of-limits-requires c).After-overflows-flat) c.overflows-flat.result c.overflows-flat.ensures.overflows c.overflows-flat.ensures.outside,
        few-most x.s.now x.h x.w.now x.table.now (length x.answer.now) o.lent o.job o.turned (w₁ (goal.at.limits_of-limits-requires c).After-overflows-flat) c.overflows-flat.result c.overflows-flat.ensures.overflows c.overflows-flat.ensures.outside,
      );
      by_index = few-over x.s.now x.h x.w.now x.table.now (length x.answer.now) o.lent o.job o.turned (w₁ (goal.at.limits_of-limits-requires c).After-overflows-flat) c.overflows-flat.result c.overflows-flat.ensures.overflows c.overflows-flat.ensures.outside;
    }

pub close_layers-requires : goal.close_layers-requires
close_layers-requires c =
    let x = c.args in
    let o = c.requires in record { g_in_bounds = omega (arith, c.overflows-flat.ensures.outside.long, o.turned.given.room) }

pub place_all-vias-requires : goal.place_all-vias-requires
place_all-vias-requires c =
    let x = c.args in
    let o = c.requires in record {
      shape_in_bounds = (
        all_room x.s.now x.h x.w.now x.table.now (length x.answer.now) o.lent o.job o.turned (w₁ (goal.at.place_all-vias-requires c).After-overflows-flat) c.overflows-flat.result c.overflows-flat.ensures.overflows c.overflows-flat.ensures.outside (w₂ (goal.at.place_all-vias-requires c).After-close_layers) c.close_layers.ensures,
        few-nets x.s.now x.h x.w.now x.table.now (length x.answer.now) o.lent o.job o.turned,
        o.turned.rows.long,
      );
      start_some = record { lent = o.lent; job = o.job; start = starts (goal.at.place_all-vias-requires c).After-close_layers o.lent o.job o.turned };
    }

pub returns : goal.returns
returns c =
    let x = c.args in record {
      plan_made = λ lent j at. record {
        placed = c.place_all-vias.ensures.all_placed lent j (starts (goal.at.returns c).After-close_layers lent j at);
        total_is = (overflows-here x.s.now x.h x.w.now x.table.now (length x.answer.now) lent j at (w₁ (goal.at.returns c).After-overflows-flat) c.overflows-flat.result c.overflows-flat.ensures.overflows c.overflows-flat.ensures.outside).total;
        maximum_is = largest-told x.s.now x.h x.w.now x.table.now (length x.answer.now) lent j at (w₁ (goal.at.returns c).After-overflows-flat) c.overflows-flat.result c.overflows-flat.ensures.overflows c.overflows-flat.ensures.outside (w₂ (goal.at.returns c).After-close_layers) c.close_layers.ensures
            c.limits_of-limits.result c.largest_limit.result c.limits_of-limits.ensures c.largest_limit.ensures;
      };
      w_len_unchanged = c.place_all-vias.ensures.w_len_unchanged.0 ∙ c.close_layers.ensures.outside.long ∙ c.overflows-flat.ensures.outside.long;
    }
