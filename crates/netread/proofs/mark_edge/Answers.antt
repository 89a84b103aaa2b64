-- `mark_edge` meets its contract.
-- Assumes nothing.
use native.Mathlib.Omega.{arith}
use Rattle.netread.proofs.Marked.{at, there-in, edge-small, edge-marked}
use Rattle.netread.proofs.mark_edge.Goals as goal

pub tile_at-here-requires : goal.tile_at-here-requires
tile_at-here-requires c =
    let x = c.args in
    let p = at x.g c.args.g.shaped x.e.x x.e.y x.e.third c.requires.g_in_bounds.3 c.requires.g_in_bounds.4 in record { x_lt_w = (p.column, p.row) }

pub mark_ways-requires : goal.mark_ways-requires
mark_ways-requires c =
    let x = c.args in record {
      g_in_bounds = (
        omega (arith, c.requires.g_in_bounds.0),
        c.tile_at-here.ensures.1,
        there-in x.g c.args.g.shaped x.e.x x.e.y x.e.third c.requires.g_in_bounds.3 c.requires.g_in_bounds.4 c.tile_at-here.result c.tile_at-here.ensures.0 c.way_out-way.result c.way_out-way.ensures,
        c.requires.g_in_bounds.3,
        c.requires.g_in_bounds.1,
      );
      fits = c.requires.fits;
    }

pub overflow_cast-w : goal.overflow_cast-w
overflow_cast-w c =
    let x = c.args in
    omega (arith, edge-small x.g c.args.g.shaped x.e.x x.e.y x.e.third c.requires.g_in_bounds.3 c.requires.g_in_bounds.4 c.tile_at-here.result c.tile_at-here.ensures.0 c.way_out-way.result c.way_out-way.ensures)

pub returns : goal.returns
returns c =
    let x = c.args in
    edge-marked x.g c.args.g.shaped x.e.x x.e.y x.e.third c.requires.g_in_bounds.3 c.requires.g_in_bounds.4 c.tile_at-here.result c.tile_at-here.ensures.0 c.way_out-way.result c.way_out-way.ensures
    x.stamp x.v c.requires.g_in_bounds.2 x.w.now c.mark_ways.new.w c.requires.g_in_bounds.0 c.mark_ways.ensures.w_after c.mark_ways.ensures.outside c.list_at.result c.min.result c.list_at.ensures.value c.min.ensures
