-- `close_layers` meets its contract: the edges that go east, and then those that go north (`Shut.antt`).
-- Assumes nothing.
use mathlib.Core.Path.{◌∙◌}
use native.Mathlib.Omega.{arith}
use Rattle.tracks.specs.Shut.{closed-any, closed-given}
use Rattle.tracks.proofs.close_layers.Goals as goal

pub close_edges-requires : goal.close_edges-requires
close_edges-requires c =
    record { from_le_to = (omega arith, c.args.g.shaped.east_most, c.requires.g_in_bounds) }

pub close_edges-requires-2 : goal.close_edges-requires-2
close_edges-requires-2 c =
    record { from_le_to = (c.args.g.shaped.east_most, omega arith, omega (arith, c.requires.g_in_bounds, c.close_edges.ensures.outside.long)) }

pub returns-then-is_none : goal.returns-then-is_none
returns-then-is_none c =
    closed-any c.args.g c.args.w.now c.if-is_none.ensures

pub shape_of-w : goal.shape_of-w
shape_of-w c =
    c.close_edges-2.ensures.outside.long ∙ c.close_edges.ensures.outside.long

pub returns : goal.returns
returns c =
    closed-given c.args.g c.if-is_none.ensures c.args.g.shaped.east_most c.args.w.now c.close_edges.new.w c.close_edges-2.new.w c.close_edges.ensures c.close_edges-2.ensures
