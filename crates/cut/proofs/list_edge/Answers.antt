-- `list_edge` meets its contract.
-- Assumes nothing.
use Prim.Native.Nat.{◌+◌, ◌*◌}
use native.Mathlib.Omega.{arith}
use lib.ListN.{set}
use Rattle.layout.specs.Areas.{list_at}
use Rattle.layout.specs.Parts.{set-outside, outside_wider}
use Rattle.scan.specs.Pins.{triple}
use Rattle.ways.specs.Entry.{edge_of}
use Rattle.cut.specs.Listing.{listed_more}
use Rattle.cut.proofs.list_edge.Goals as goal

pub kept_low-low-requires : goal.kept_low-low-requires
kept_low-low-requires c =
    record { g_in_bounds = (omega (arith, c.requires.g_in_bounds.0), c.requires.g_in_bounds.2, c.requires.g_in_bounds.3) }

pub overflow_cast-w : goal.overflow_cast-w
overflow_cast-w c =
    omega (arith, c.edge_of-edge.ensures.1, c.args.g.shaped.e_most)

pub bounds-w-i : goal.bounds-w-i
bounds-w-i c =
    omega (arith, c.list_at.ensures.value, c.requires.g_in_bounds.0, c.requires.g_in_bounds.1, c.args.g.shaped.e_tiles)

pub returns : goal.returns
returns c =
    let x = c.args in
    let g = x.g in
    let edge = edge_of g (triple x.e.x x.e.y x.e.third) in record {
      listed = rw (c.list_at.ensures.value, c.edge_of-edge.ensures.0) (λ ps es xs w₀ low drawn so_far.
          rw so_far.count (listed_more g c.args.g.shaped es xs low w₀ x.w.now x.v so_far edge (omega (arith, c.requires.g_in_bounds.1, so_far.count)) (omega (arith, c.requires.g_in_bounds.0)) c.kept_low-low.result (c.kept_low-low.ensures ps es drawn)));
      outside = rw (c.list_at.ensures.value, c.edge_of-edge.ensures.0) (outside_wider (list_at g + x.v.entries) 1 (list_at g) (2 * g.t) x.w.now (set x.w.now (list_at g + x.v.entries) edge) (set-outside x.w.now (list_at g + x.v.entries) edge) (omega arith) (omega (arith, c.requires.g_in_bounds.1, c.args.g.shaped.e_tiles)));
    }
