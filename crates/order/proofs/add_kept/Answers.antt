-- `add_kept` meets its contract: the sums grow by the edge, or stay as they are.
-- Assumes nothing.
use native.Mathlib.Omega.{arith}
use Rattle.model.specs.Read.{Triple}
use Rattle.scan.specs.Pins.{triple}
use Rattle.ways.specs.Entry.{edge_of, placed}
use Rattle.order.specs.Sums.{kept-added, kept-passed}
use Rattle.order.proofs.add_kept.Goals as goal
use Rattle.order.proofs.add_kept.Goals.{After-keeps}

-- whether the edge is kept is known
module _ (k : After-keeps) where
  abbrev entry : Triple
  entry = triple k.args.e.x k.args.e.y k.args.e.third

pub keeps-requires : goal.keeps-requires
keeps-requires c =
    record { g_in_bounds = (c.requires.g_in_bounds.0, c.requires.g_in_bounds.3, c.requires.g_in_bounds.4) }

pub add_entry-requires : goal.add_entry-requires
add_entry-requires c =
    record { g_in_bounds = (omega (arith, c.requires.g_in_bounds.0), c.requires.g_in_bounds.1, c.requires.g_in_bounds.2, c.requires.g_in_bounds.3, c.requires.g_in_bounds.4) }

pub returns-then-keeps : goal.returns-then-keeps
returns-then-keeps c =
    let x = c.args in
    λ xs so_far.
    kept-added x.g x.stamp x.w.now xs x.v so_far (edge_of x.g (entry (goal.at.returns-then-keeps c).After-keeps)) c.keeps.result c.keeps.ensures c.if-keeps.true
    (placed x.g c.args.g.shaped (entry (goal.at.returns-then-keeps c).After-keeps) c.requires.g_in_bounds.4 c.requires.g_in_bounds.3).known c.add_entry.result c.add_entry.ensures

pub returns : goal.returns
returns c =
    let x = c.args in
    λ xs so_far. kept-passed x.g x.stamp x.w.now xs x.v so_far (edge_of x.g (entry (goal.at.returns c).After-keeps)) c.keeps.result c.keeps.ensures c.if-keeps.false
