-- `read_and_walk` meets its contract.
-- Assumes nothing.
use mathlib.Core.Path.{◌≡◌, ◌∙◌}
use native.Mathlib.Omega.{arith}
use lib.ListN.{length}
use Rattle.walk.specs.Walked.{Walked}
use Rattle.turn.specs.Turn.{Turn, turn_net, Before, NetAgain}
use Rattle.turn.proofs.Reading.{net-walks, net-walked}
use Rattle.turn.proofs.read_and_walk.Goals as goal
use Rattle.turn.proofs.read_and_walk.Goals.{After-read_again-low, After-walk}

-- the net whose turn it is, once it is read
module _ (c : After-read_again-low) where
  again : (u : Turn) → Before c.args.s.now c.args.net.pins c.args.net.edges c.args.net.dropped c.args.g c.args.net.stamp c.args.w.now u
      → NetAgain c.args.g c.args.net.stamp c.args.w.now c.read_again-low.new.w c.read_again-low.result u
  again u b = c.read_again-low.ensures u b

-- the same, once it is walked
module _ (c : After-walk) where
  walks : (u : Turn) → Before c.args.s.now c.args.net.pins c.args.net.edges c.args.net.dropped c.args.g c.args.net.stamp c.args.w.now u
      → Walked c.args.g u.job (turn_net u) c.read_again-low.new.w c.walk.new.w c.walk.result
  walks u b =
      let x = c.args in
      c.walk.ensures u.job (turn_net u)
      (net-walks x.s.now x.net.pins x.net.edges x.net.dropped x.g c.args.g.shaped x.net.stamp x.w.now u b c.read_again-low.new.w c.read_again-low.result (again (goal.at.After-walk c).After-read_again-low u b))

  long : length c.walk.new.w ≡ length c.args.w.now
  long = let b = c.requires.before_some in (walks b.turn b.before).outside.long ∙ (again (goal.at.After-walk c).After-read_again-low b.turn b.before).long

pub read_again-low-requires : goal.read_again-low-requires
read_again-low-requires c =
    record { g_in_bounds = c.requires.g_in_bounds; before_some = c.requires.before_some }

pub walk-requires : goal.walk-requires
walk-requires c =
    let x = c.args in
    let b = c.requires.before_some in
    let read = again (goal.at.walk-requires c).After-read_again-low b.turn b.before in record {
      g_in_bounds = omega (arith, c.requires.g_in_bounds.0, read.long);
      walk_ready = record {
        job = b.turn.job;
        net = turn_net b.turn;
        walks = net-walks x.s.now x.net.pins x.net.edges x.net.dropped x.g c.args.g.shaped x.net.stamp x.w.now b.turn b.before c.read_again-low.new.w c.read_again-low.result read;
      };
      stamp_le_most_stamp = c.requires.g_in_bounds.1;
    }

pub shape_of-w : goal.shape_of-w
shape_of-w c =
    long (goal.at.shape_of-w c).After-walk

pub returns : goal.returns
returns c =
    let x = c.args in record {
      net_walked = λ u b.
          net-walked x.s.now x.net.pins x.net.edges x.net.dropped x.g c.args.g.shaped x.net.stamp x.w.now u b c.read_again-low.new.w c.read_again-low.result (again (goal.at.returns c).After-read_again-low u b)
          c.walk.new.w c.walk.result (walks (goal.at.returns c).After-walk u b);
      w_len_unchanged = long (goal.at.returns c).After-walk;
    }
