-- `read_net` meets its contract.
-- Assumes nothing.
use native.Mathlib.Omega.{arith}
use Rattle.netread.proofs.Whole.{pins-are, edges_are, still-room, still-fits, net-read}
use Rattle.netread.proofs.read_net.Goals as goal
use Rattle.netread.proofs.read_net.Goals.{After-put_pins-low}

pub put_pins-low-requires : goal.put_pins-low-requires
put_pins-low-requires c =
    record { g_in_bounds = (omega (arith, c.requires.g_in_bounds.0), c.requires.g_in_bounds.1); pins_there = pins-are c.args.s.now c.args.g c.args.pins c.args.edges c.args.g.shaped c.requires.net_there }

pub mark_edges-requires : goal.mark_edges-requires
mark_edges-requires c =
    let x = c.args in record {
      g_in_bounds = (
        still-room x.s.now x.g x.pins x.edges c.args.g.shaped c.requires.net_there x.stamp x.w.now c.put_pins-low.new.w c.requires.g_in_bounds.0 c.put_pins-low.result c.put_pins-low.ensures,
        c.requires.g_in_bounds.1,
        still-fits x.s.now x.g x.pins x.edges c.args.g.shaped c.requires.net_there x.stamp x.w.now c.put_pins-low.new.w c.requires.g_in_bounds.0 c.put_pins-low.result c.put_pins-low.ensures c.requires.g_in_bounds.2,
      );
      edges_there = edges_are x.s.now x.g x.pins x.edges c.args.g.shaped c.requires.net_there;
    }

pub returns : goal.returns
returns c =
    let x = c.args in
    net-read x.s.now x.g x.pins x.edges c.args.g.shaped c.requires.net_there x.stamp x.w.now c.put_pins-low.new.w c.requires.g_in_bounds.0 c.put_pins-low.result c.put_pins-low.ensures
    c.requires.g_in_bounds.2 c.mark_edges.new.w c.mark_edges.result c.mark_edges.ensures
