-- `read_cut` meets its contract: what the net keeps is at hand, and nothing is chosen for any of its entries.
-- Assumes nothing.
use mathlib.Core.Bool.{true}
use mathlib.Core.Path.{refl}
use native.Mathlib.Omega.{arith}
use Rattle.netread.specs.Net.{NetRead}
use Rattle.turn.specs.Turn.{Turn, turn_net, Before}
use Rattle.turn.proofs.Reading.{ring-at, listed-known, listed-few, again_cut}
use Rattle.turn.proofs.read_cut.Goals as goal
use Rattle.turn.proofs.read_cut.Goals.{After-read_net-again}

-- the net is read
module _ (c : After-read_net-again) where
  read : (u : Turn) → Before c.args.s.now c.args.net.pins c.args.net.edges true c.args.g c.args.net.stamp c.args.w.now u
      → NetRead c.args.g c.args.net.stamp u.job (turn_net u) c.args.w.now c.read_net-again.new.w c.read_net-again.result
  read u b =
      c.read_net-again.ensures u.job (turn_net u) (ring-at c.args.s.now c.args.net.pins c.args.net.edges true c.args.g c.args.g.shaped c.args.net.stamp c.args.w.now u b refl)
      b.grid.width b.grid.height

pub read_net-again-requires : goal.read_net-again-requires
read_net-again-requires c =
    let x = c.args in
    let k = c.requires.before_some in record { g_in_bounds = (c.requires.g_in_bounds.0, c.requires.g_in_bounds.1, k.before.older, k.before.links); ring_there = record { net = turn_net k.turn; lines = ring-at x.s.now x.net.pins x.net.edges true x.g c.args.g.shaped x.net.stamp x.w.now k.turn k.before refl } }

pub clear_chosen-requires : goal.clear_chosen-requires
clear_chosen-requires c =
    let x = c.args in
    let k = c.requires.before_some in
    let h = read (goal.at.clear_chosen-requires c).After-read_net-again k.turn k.before in record {
      g_in_bounds = (
        omega (arith, c.requires.g_in_bounds.0, h.long),
        listed-few x.s.now x.net.pins x.net.edges true x.g c.args.g.shaped x.net.stamp x.w.now k.turn k.before c.read_net-again.new.w c.read_net-again.result h,
        listed-known x.s.now x.net.pins x.net.edges true x.g c.args.g.shaped x.net.stamp x.w.now k.turn k.before c.read_net-again.new.w c.read_net-again.result h,
      );
    }

pub returns : goal.returns
returns c =
    let x = c.args in
    λ u b.
    again_cut x.s.now x.net.pins x.net.edges true x.g c.args.g.shaped x.net.stamp x.w.now u b c.read_net-again.new.w c.read_net-again.result (read (goal.at.returns c).After-read_net-again u b)
    c.clear_chosen.new.w c.clear_chosen.ensures
