-- `mark_net` meets its contract: pins, then the entries that join, then what the strips leave of them.
-- Assumes nothing.
use mathlib.Core.List.{List}
use Prim.Native.Nat.{ℕ}
use native.Mathlib.Omega.{arith}
use Rattle.netread.specs.Net.{PinsPut}
use Rattle.cut.specs.Joining.{Joined}
use Rattle.cut.specs.Net.{pins-there, entries-there, some-entry, fits-pins, older-links, strippable, cut-marked}
use Rattle.cut.proofs.mark_net.Goals as goal
use Rattle.cut.proofs.mark_net.Goals.{After-join_entries, After-put_pins-low}

-- the pins are marked
module _ (p : After-put_pins-low) where
  abbrev w₁ : List ℕ
  w₁ = p.put_pins-low.new.w

  put : PinsPut p.args.g p.args.stamp p.requires.ring_there.net p.args.w.now p.put_pins-low.new.w p.put_pins-low.result
  put = p.put_pins-low.ensures p.requires.ring_there.net p.requires.ring_there.lines.pins

-- the entries are joined
module _ (j : After-join_entries) where
  abbrev w₂ : List ℕ
  w₂ = j.join_entries.new.w

  joined : Joined j.args.g j.args.stamp j.requires.ring_there.net.entries (w₁ (goal.at.After-join_entries j).After-put_pins-low) j.join_entries.new.w
  joined = j.join_entries.ensures.joined j.requires.ring_there.net j.requires.ring_there.lines.edges

pub put_pins-low-requires : goal.put_pins-low-requires
put_pins-low-requires c =
    let k = c.requires.ring_there in record { g_in_bounds = (c.requires.g_in_bounds.0, c.requires.g_in_bounds.1); pins_there = pins-there c.args.s.now c.args.g c.args.g.shaped c.args.pins c.args.edges k.net k.lines }

pub join_entries-requires : goal.join_entries-requires
join_entries-requires c =
    let x = c.args in
    let k = c.requires.ring_there in record {
      g_in_bounds = (
        omega (arith, c.requires.g_in_bounds.0, (put (goal.at.join_entries-requires c).After-put_pins-low).out.long),
        c.requires.g_in_bounds.1,
        fits-pins x.s.now x.g c.args.g.shaped x.pins x.edges k.net k.lines x.stamp x.w.now (w₁ (goal.at.join_entries-requires c).After-put_pins-low) c.requires.g_in_bounds.0 c.requires.g_in_bounds.2 c.requires.g_in_bounds.3 c.put_pins-low.result (put (goal.at.join_entries-requires c).After-put_pins-low),
        older-links x.s.now x.g c.args.g.shaped x.pins x.edges k.net k.lines x.stamp x.w.now (w₁ (goal.at.join_entries-requires c).After-put_pins-low) c.requires.g_in_bounds.0 c.requires.g_in_bounds.2 c.requires.g_in_bounds.3 c.put_pins-low.result (put (goal.at.join_entries-requires c).After-put_pins-low),
      );
      edges_there = (
        entries-there x.s.now x.g c.args.g.shaped x.pins x.edges k.net k.lines,
        some-entry x.s.now x.g c.args.g.shaped x.pins x.edges k.net k.lines,
      );
    }

pub strip_net-requires : goal.strip_net-requires
strip_net-requires c =
    let x = c.args in
    let k = c.requires.ring_there in record {
      g_in_bounds = (
        omega (arith, c.requires.g_in_bounds.0, (put (goal.at.strip_net-requires c).After-put_pins-low).out.long, c.join_entries.ensures.w_len_unchanged),
        strippable x.s.now x.g c.args.g.shaped x.pins x.edges k.net k.lines x.stamp x.w.now (w₁ (goal.at.strip_net-requires c).After-put_pins-low) c.requires.g_in_bounds.0 c.requires.g_in_bounds.2 c.requires.g_in_bounds.3 c.put_pins-low.result (put (goal.at.strip_net-requires c).After-put_pins-low) (w₂ (goal.at.strip_net-requires c).After-join_entries) (joined (goal.at.strip_net-requires c).After-join_entries),
      );
      edges_there = (
        entries-there x.s.now x.g c.args.g.shaped x.pins x.edges k.net k.lines,
        some-entry x.s.now x.g c.args.g.shaped x.pins x.edges k.net k.lines,
      );
    }

pub returns : goal.returns
returns c =
    let x = c.args in
    λ n at.
    cut-marked x.s.now x.g c.args.g.shaped x.pins x.edges n at x.stamp x.w.now (w₁ (goal.at.returns c).After-put_pins-low) c.requires.g_in_bounds.0 c.requires.g_in_bounds.2 c.requires.g_in_bounds.3 c.put_pins-low.result (c.put_pins-low.ensures n at.pins)
    (w₂ (goal.at.returns c).After-join_entries) (c.join_entries.ensures.joined n at.edges) c.strip_net.new.w (c.strip_net.ensures.stripped n at.edges) c.strip_net.ensures.outside
