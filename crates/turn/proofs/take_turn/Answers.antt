-- `take_turn` meets its contract: its three steps one after the other.
-- Assumes nothing.
use mathlib.Core.Path.{◌≡◌, ◌∙◌}
use native.Mathlib.Omega.{arith}
use lib.ListN.{length}
use Rattle.turn.specs.Turn.{Turn, turn_vias, TurnAt, NetWalked, NetChosen}
use Rattle.flat.specs.Limited.{limit_at}
use Rattle.turn.proofs.take_turn.Goals as goal
use Rattle.turn.proofs.take_turn.Goals.{After-choose_layers-vias, After-read_and_walk-n, After-write_layers}

-- the net is walked
module _ (a : After-read_and_walk-n) where
  abbrev At : Turn → Type 0
  At u = TurnAt a.args.s.now a.args.net.pins a.args.net.edges a.args.net.dropped a.args.frame.shape a.args.net.stamp (limit_at a.args.frame.limits) a.args.w.now (length a.args.out.now) u

  walked : (u : Turn) → At u → NetWalked a.args.frame.shape a.args.net.stamp a.read_and_walk-n.result a.read_and_walk-n.new.w u
  walked u t = a.read_and_walk-n.ensures.net_walked u t.before

-- its layers are chosen
module _ (b : After-choose_layers-vias) where
  chosen : (u : Turn) → At (goal.at.After-choose_layers-vias b).After-read_and_walk-n u → NetChosen b.args.frame.shape b.args.net.stamp b.read_and_walk-n.result b.choose_layers-vias.new.w u × (b.choose_layers-vias.result ≡ turn_vias u)
  chosen u t = b.choose_layers-vias.ensures.net_chosen u b.args.net.stamp (walked (goal.at.After-choose_layers-vias b).After-read_and_walk-n u t) t.limit_is

  long : length b.choose_layers-vias.new.w ≡ length b.args.w.now
  long = b.choose_layers-vias.ensures.w_len_unchanged ∙ b.read_and_walk-n.ensures.w_len_unchanged

-- they are written
module _ (d : After-write_layers) where
  kept : length d.write_layers.new.w ≡ length d.args.w.now
  kept = d.write_layers.ensures.w_len_unchanged ∙ long (goal.at.After-write_layers d).After-choose_layers-vias

pub read_and_walk-n-requires : goal.read_and_walk-n-requires
read_and_walk-n-requires c =
    let s = c.requires.turn_some in record { g_in_bounds = c.requires.shape_in_bounds; before_some = record { turn = s.turn; before = s.at.before } }

pub choose_layers-vias-requires : goal.choose_layers-vias-requires
choose_layers-vias-requires c =
    let s = c.requires.turn_some in record { g_in_bounds = omega (arith, c.requires.shape_in_bounds.0, c.read_and_walk-n.ensures.w_len_unchanged); walked_some = record { turn = s.turn; stamp = c.args.net.stamp; walked = walked (goal.at.choose_layers-vias-requires c).After-read_and_walk-n s.turn s.at; limit_is = s.at.limit_is } }

pub write_layers-requires : goal.write_layers-requires
write_layers-requires c =
    let s = c.requires.turn_some in record { g_in_bounds = omega (arith, c.requires.shape_in_bounds.0, long (goal.at.write_layers-requires c).After-choose_layers-vias); chosen_some = record { turn = s.turn; stamp = c.args.net.stamp; chosen = (chosen (goal.at.write_layers-requires c).After-choose_layers-vias s.turn s.at).0; count = s.at.count } }

pub shape_of-w : goal.shape_of-w
shape_of-w c =
    kept (goal.at.shape_of-w c).After-write_layers

pub returns : goal.returns
returns c =
    record {
      turn_done = λ u t.
          let h = chosen (goal.at.returns c).After-choose_layers-vias u t in
          record { placed = c.write_layers.ensures.net_placed u c.args.net.stamp h.0 t.count; vias_are = h.1 };
      w_len_unchanged = kept (goal.at.returns c).After-write_layers;
    }
