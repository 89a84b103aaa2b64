-- `write_layers` meets its contract.
-- Assumes nothing.
use mathlib.Core.Path.{◌≡◌}
use Prim.Native.Nat.{◌≤◌}
use native.Mathlib.Omega.{arith}
use lib.ListN.{length}
use Rattle.layout.specs.Areas.{areas_end}
use Rattle.turn.proofs.Writing.{tiles-fit, known, put-kept, takes, can-answer, answer_fits, net-placed, still-long}
use Rattle.turn.proofs.write_layers.Goals as goal
use Rattle.turn.proofs.write_layers.Goals.{After-occupy_all, After-put_chosen}

-- the layers are put by edge
module _ (p : After-put_chosen) where
  still-room : areas_end p.args.g ≤ length p.put_chosen.new.w
  still-room =
      let x = p.args in
      let s = p.requires.chosen_some in
      omega (arith, p.requires.g_in_bounds, (put-kept x.g p.args.g.shaped x.n x.w.now p.requires.g_in_bounds s.stamp s.turn s.chosen p.put_chosen.new.w p.put_chosen.ensures).long)

-- one more net is on its layers
module _ (c : After-occupy_all) where
  long : length c.occupy_all.new.w ≡ length c.args.w.now
  long =
      let x = c.args in
      let s = c.requires.chosen_some in
      still-long x.g c.args.g.shaped x.n x.w.now c.requires.g_in_bounds s.stamp s.turn s.chosen c.put_chosen.new.w c.put_chosen.ensures c.occupy_all.new.w c.occupy_all.ensures

pub put_chosen-requires : goal.put_chosen-requires
put_chosen-requires c =
    let x = c.args in
    let s = c.requires.chosen_some in record {
      g_in_bounds = (
        c.requires.g_in_bounds,
        tiles-fit x.g c.args.g.shaped x.n x.w.now c.requires.g_in_bounds s.stamp s.turn s.chosen,
        known x.g c.args.g.shaped x.n x.w.now c.requires.g_in_bounds s.stamp s.turn s.chosen,
      );
    }

pub put_answer-requires : goal.put_answer-requires
put_answer-requires c =
    let x = c.args in
    let s = c.requires.chosen_some in record {
      g_in_bounds = (
        still-room (goal.at.put_answer-requires c).After-put_chosen,
        answer_fits x.g c.args.g.shaped x.n x.w.now c.requires.g_in_bounds s.stamp s.turn s.chosen c.put_chosen.new.w c.put_chosen.ensures (length x.out.now) s.count,
      );
      can_answer = can-answer x.g c.args.g.shaped x.n x.w.now c.requires.g_in_bounds s.stamp s.turn s.chosen c.put_chosen.new.w c.put_chosen.ensures (length x.out.now) s.count;
    }

pub occupy_all-requires : goal.occupy_all-requires
occupy_all-requires c =
    let x = c.args in
    let s = c.requires.chosen_some in record { n_le_m = (tiles-fit x.g c.args.g.shaped x.n x.w.now c.requires.g_in_bounds s.stamp s.turn s.chosen, still-room (goal.at.occupy_all-requires c).After-put_chosen); can_take = takes x.g c.args.g.shaped x.n x.w.now c.requires.g_in_bounds s.stamp s.turn s.chosen c.put_chosen.new.w c.put_chosen.ensures }

pub shape_of-w : goal.shape_of-w
shape_of-w c =
    long (goal.at.shape_of-w c).After-occupy_all

pub returns : goal.returns
returns c =
    let x = c.args in
    let s = c.requires.chosen_some in record {
      net_placed = λ u stamp h count.
          net-placed x.g c.args.g.shaped x.n x.w.now c.requires.g_in_bounds stamp u h c.put_chosen.new.w c.put_chosen.ensures (length x.out.now)
          count c.occupy_all.new.w c.put_answer.new.out
          c.occupy_all.ensures c.put_answer.ensures;
      w_len_unchanged = long (goal.at.returns c).After-occupy_all;
    }
