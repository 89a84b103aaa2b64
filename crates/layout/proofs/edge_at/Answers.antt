-- `edge_at` meets its contract.
-- Assumes nothing.
use mathlib.Core.Path.{refl}
use native.Mathlib.Omega.{arith}
use Rattle.layout.specs.Areas.{edge-room}
use Rattle.layout.proofs.edge_at.Goals as goal

pub overflow_mul-result : goal.overflow_mul-result
overflow_mul-result c =
    omega (arith, edge-room c.args.g c.args.edge c.requires.edge_lt_e, c.args.g.shaped.all_most)

pub returns : goal.returns
returns c =
    (refl, edge-room c.args.g c.args.edge c.requires.edge_lt_e)
