-- `cut_net` meets its contract: what the net keeps is marked, and what is not marked is taken out of the demand.
-- Assumes nothing.
use mathlib.Core.Path.{◌∙◌}
use native.Mathlib.Omega.{arith}
use Rattle.cut.specs.Net.{CutMarked, entries-there, some-entry}
use Rattle.cut.specs.Dropped.{still-counting, cut-done}
use Rattle.cut.proofs.cut_net.Goals as goal
use Rattle.cut.proofs.cut_net.Goals.{After-mark_net}

-- the net is marked
module _ (m : After-mark_net) where
  marked : CutMarked m.args.g m.args.stamp m.requires.ring_counted.net m.args.w.now m.mark_net.new.w m.mark_net.result
  marked = m.mark_net.ensures m.requires.ring_counted.net m.requires.ring_counted.lines

pub mark_net-requires : goal.mark_net-requires
mark_net-requires c =
    let k = c.requires.ring_counted in record { g_in_bounds = c.requires.g_in_bounds; ring_there = record { net = k.net; lines = k.lines } }

pub drop_entries-requires : goal.drop_entries-requires
drop_entries-requires c =
    let x = c.args in
    let k = c.requires.ring_counted in record {
      g_in_bounds = (omega (arith, c.requires.g_in_bounds.0, (marked (goal.at.drop_entries-requires c).After-mark_net).around.long), record { pins = k.net.pins; edges = k.net.edges; drawn = (marked (goal.at.drop_entries-requires c).After-mark_net).drawn });
      edges_there = (
        entries-there x.s.now x.g c.args.g.shaped x.pins x.edges k.net k.lines,
        some-entry x.s.now x.g c.args.g.shaped x.pins x.edges k.net k.lines,
      );
      entries_counted = still-counting x.s.now x.g c.args.g.shaped x.pins x.edges x.stamp k.net k.lines x.w.now c.mark_net.new.w c.mark_net.result (marked (goal.at.drop_entries-requires c).After-mark_net) k.counted;
    }

pub returns : goal.returns
returns c =
    let x = c.args in record {
      cut_done = (λ n at.
          cut-done x.s.now x.g c.args.g.shaped x.pins x.edges x.stamp n at x.w.now c.mark_net.new.w c.mark_net.result (c.mark_net.ensures n at)
          c.drop_entries.new.w c.drop_entries.result (c.drop_entries.ensures.dropping n at.edges));
      w_len_unchanged = c.drop_entries.ensures.w_len_unchanged ∙ (marked (goal.at.returns c).After-mark_net).around.long;
    }
