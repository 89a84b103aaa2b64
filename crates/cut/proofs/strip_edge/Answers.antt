-- `strip_edge` meets its contract.
-- Assumes nothing.
use mathlib.Core.List.{[], ◌∷◌}
use mathlib.Core.Path.{◌≡◌, sym, subst, ◌∙◌}
use Prim.Native.Nat.{ℕ}
use native.Mathlib.Omega.{arith}
use Rattle.model.specs.Read.{Triple}
use Rattle.scan.specs.Pins.{triple}
use Rattle.theory.specs.links.Reach.{lo_of, hi_of}
use Rattle.ways.specs.Entry.{edge_of, Placed, placed, ends_there}
use Rattle.cut.specs.Strips.{Stripped, stripped-then, still-strippable}
use Rattle.cut.proofs.strip_edge.Goals as goal
use Rattle.cut.proofs.strip_edge.Goals.{After-strip_from, After-way_out-out, Start}

-- the entry
module _ (z : Start) where
  abbrev entry : Triple
  entry = triple z.args.e.x z.args.e.y z.args.e.third

  at : Placed z.args.g (triple z.args.e.x z.args.e.y z.args.e.third)
  at = placed z.args.g z.args.g.shaped entry z.requires.a_len.2 z.requires.a_len.1

-- its two tiles
module _ (o : After-way_out-out) where
  here-is : o.tile_at-here.result ≡ lo_of o.args.g.w o.args.g.h (edge_of o.args.g (entry (goal.at.After-way_out-out o).Start))
  here-is = o.tile_at-here.ensures.0 ∙ sym (at (goal.at.After-way_out-out o).Start).starts

  there-is : o.way_out-out.result.tile ≡ hi_of o.args.g.w o.args.g.h (edge_of o.args.g (entry (goal.at.After-way_out-out o).Start))
  there-is =
      ends_there o.args.g o.args.g.shaped (entry (goal.at.After-way_out-out o).Start) o.requires.a_len.2 o.requires.a_len.1 o.tile_at-here.result o.tile_at-here.ensures.0 o.way_out-out.result o.way_out-out.ensures

pub tile_at-here-requires : goal.tile_at-here-requires
tile_at-here-requires c =
    record { x_lt_w = ((at (goal.at.tile_at-here-requires c).Start).column, (at (goal.at.tile_at-here-requires c).Start).row) }

pub strip_from-requires : goal.strip_from-requires
strip_from-requires c =
    record { a_len = (c.requires.a_len.0, c.tile_at-here.ensures.1); strippable = c.requires.strippable }

pub strip_from-requires-2 : goal.strip_from-requires-2
strip_from-requires-2 c =
    let s = c.strip_from.ensures in record { a_len = (s.long ∙ c.requires.a_len.0, omega (arith, there-is (goal.at.strip_from-requires-2 c).After-way_out-out, (at (goal.at.strip_from-requires-2 c).Start).end_in)); strippable = still-strippable c.args.g c.args.stamp (c.tile_at-here.result ∷ []) c.args.a.now c.strip_from.new.a s c.requires.strippable }

pub shape_of-a : goal.shape_of-a
shape_of-a c =
    c.strip_from-2.ensures.long ∙ c.strip_from.ensures.long

pub returns : goal.returns
returns c =
    let g = c.args.g in
    let n = c.args.stamp in
    let both = stripped-then g n (c.tile_at-here.result ∷ []) (c.way_out-out.result.tile ∷ []) c.args.a.now c.strip_from.new.a c.strip_from-2.new.a c.strip_from.ensures c.strip_from-2.ensures in
    subst (λ (x : ℕ). Stripped g n (x ∷ hi_of g.w g.h (edge_of g (entry (goal.at.returns c).Start)) ∷ []) c.args.a.now c.strip_from-2.new.a) (here-is (goal.at.returns c).After-way_out-out)
    (subst (λ (y : ℕ). Stripped g n (c.tile_at-here.result ∷ y ∷ []) c.args.a.now c.strip_from-2.new.a) (there-is (goal.at.returns c).After-way_out-out) both)
