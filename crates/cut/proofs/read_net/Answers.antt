-- `read_net` meets its contract: what the net keeps is marked, and all its entries are listed.
-- Assumes nothing.
use native.Mathlib.Omega.{arith}
use Rattle.cut.specs.Net.{CutMarked, entries-there, some-entry}
use Rattle.cut.specs.Listing.{ring-read}
use Rattle.cut.proofs.read_net.Goals as goal
use Rattle.cut.proofs.read_net.Goals.{After-mark_net-low}

-- the net is marked
module _ (m : After-mark_net-low) where
  marked : CutMarked m.args.g m.args.stamp m.requires.ring_there.net m.args.w.now m.mark_net-low.new.w m.mark_net-low.result
  marked = m.mark_net-low.ensures m.requires.ring_there.net m.requires.ring_there.lines

pub mark_net-low-requires : goal.mark_net-low-requires
mark_net-low-requires c =
    let r = c.requires.g_in_bounds in record { g_in_bounds = (omega (arith, r.0), r.1, r.2, r.3); ring_there = c.requires.ring_there }

pub list_entries-requires : goal.list_entries-requires
list_entries-requires c =
    let x = c.args in
    let k = c.requires.ring_there in record {
      g_in_bounds = (omega (arith, c.requires.g_in_bounds.0, (marked (goal.at.list_entries-requires c).After-mark_net-low).around.long), record { pins = k.net.pins; edges = k.net.edges; drawn = (marked (goal.at.list_entries-requires c).After-mark_net-low).drawn });
      edges_there = (
        entries-there x.s.now x.g c.args.g.shaped x.pins x.edges k.net k.lines,
        some-entry x.s.now x.g c.args.g.shaped x.pins x.edges k.net k.lines,
      );
    }

pub returns : goal.returns
returns c =
    let x = c.args in
    λ j n at width height.
    ring-read x.s.now x.g c.args.g.shaped x.pins x.edges j n at x.stamp x.w.now c.mark_net-low.new.w c.list_entries.new.w c.mark_net-low.result (c.mark_net-low.ensures n at) c.list_entries.result
    (c.list_entries.ensures.listing n at.edges n.pins n.edges (c.mark_net-low.ensures n at).drawn) width height
