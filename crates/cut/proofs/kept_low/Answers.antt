-- `kept_low` meets its contract.
-- Assumes nothing.
use mathlib.Core.Bool.{Bool, cond}
use mathlib.Core.Path.{sym, ap, ◌∙◌}
use Prim.Native.Nat.{min}
use Rattle.model.specs.Read.{Triple}
use Rattle.scan.specs.Pins.{triple}
use Rattle.theory.specs.links.Reach.{lo_of}
use Rattle.ways.specs.Entry.{edge_of, Placed, placed}
use Rattle.cut.proofs.kept_low.Goals as goal
use Rattle.cut.proofs.kept_low.Goals.{Start}

-- the entry
module _ (z : Start) where
  abbrev entry : Triple
  entry = triple z.args.e.x z.args.e.y z.args.e.third

  at : Placed z.args.g (triple z.args.e.x z.args.e.y z.args.e.third)
  at = placed z.args.g z.args.g.shaped entry z.requires.g_in_bounds.2 z.requires.g_in_bounds.1

pub tile_at-here-requires : goal.tile_at-here-requires
tile_at-here-requires c =
    record { x_lt_w = ((at (goal.at.tile_at-here-requires c).Start).column, (at (goal.at.tile_at-here-requires c).Start).row) }

pub returns-then-keeps : goal.returns-then-keeps
returns-then-keeps c ps es drawn =
    let e = edge_of c.args.g (entry (goal.at.returns-then-keeps c).Start) in
    let lo = lo_of c.args.g.w c.args.g.h e in
    c.min.ensures
    ∙ ap (min c.args.low) (c.tile_at-here.ensures.0 ∙ sym (at (goal.at.returns-then-keeps c).Start).starts)
    ∙ ap (λ (q : Bool). cond q (min c.args.low lo) c.args.low) (sym c.if-keeps.true ∙ c.keeps.ensures ps es drawn)

pub returns : goal.returns
returns c ps es drawn =
    let lo = lo_of c.args.g.w c.args.g.h (edge_of c.args.g (entry (goal.at.returns c).Start)) in
    ap (λ (q : Bool). cond q (min c.args.low lo) c.args.low) (sym c.if-keeps.false ∙ c.keeps.ensures ps es drawn)
