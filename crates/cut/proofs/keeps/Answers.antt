-- `keeps` meets its contract: the bit of its way, in the tile where it starts, is marked exactly where the edge is kept.
-- Assumes nothing.
use mathlib.Core.Path.{◌≡◌, sym, ap, ap₂, ◌∙◌}
use Prim.Native.Nat.{ℕ, ◌+◌}
use lib.ListN.{get_or}
use Rattle.layout.specs.Areas.{tiles_at, tiles_of}
use Rattle.layout.specs.Parts.{part_at}
use Rattle.marks.specs.Words.{bits_in, bit_of}
use Rattle.model.specs.Read.{Triple}
use Rattle.scan.specs.Pins.{triple}
use Rattle.ways.specs.Entry.{start_of, Placed, placed}
use Rattle.cut.specs.Stripping.{start-marked}
use Rattle.cut.proofs.keeps.Goals as goal
use Rattle.cut.proofs.keeps.Goals.{Start}

-- the entry
module _ (z : Start) where
  abbrev entry : Triple
  entry = triple z.args.e.x z.args.e.y z.args.e.third

  at : Placed z.args.g (triple z.args.e.x z.args.e.y z.args.e.third)
  at = placed z.args.g z.args.g.shaped entry z.requires.g_in_bounds.2 z.requires.g_in_bounds.1

pub tile_at-here-requires : goal.tile_at-here-requires
tile_at-here-requires c =
    record { x_lt_w = ((at (goal.at.tile_at-here-requires c).Start).column, (at (goal.at.tile_at-here-requires c).Start).row) }

pub returns : goal.returns
returns c ps es drawn =
    let g = c.args.g in
    let word : get_or c.args.w.now (c.tiles_at.result + c.tile_at-here.result) 0 ≡ get_or (tiles_of g c.args.w.now) (start_of g (entry (goal.at.returns c).Start)) 0 = ap₂ (λ (x y : ℕ). get_or c.args.w.now (x + y) 0) c.tiles_at.ensures.value c.tile_at-here.ensures.0 ∙ sym (part_at (tiles_at g) g.t c.args.w.now (start_of g (entry (goal.at.returns c).Start)) (at (goal.at.returns c).Start).start_in) in
    c.bit.ensures
    ∙ ap (λ (m : ℕ). bit_of m (8 + c.args.e.third)) (c.bits-m.ensures.value ∙ ap (bits_in c.args.stamp) word)
    ∙ start-marked g c.args.g.shaped c.args.stamp ps es (tiles_of g c.args.w.now) drawn (entry (goal.at.returns c).Start) c.requires.g_in_bounds.2 c.requires.g_in_bounds.1
