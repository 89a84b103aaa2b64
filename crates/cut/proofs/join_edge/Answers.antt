-- `join_edge` meets its contract: the links tell whether the entry's two tiles were apart, and only then its edge is marked.
-- Assumes nothing.
use mathlib.Core.Logic.{inl}
use mathlib.Core.Path.{◌≡◌, sym, ap₂, subst, ◌∙◌}
use Prim.Native.Nat.{ℕ, ◌<◌}
use native.Mathlib.Omega.{arith}
use Rattle.layout.specs.Areas.{tiles_at, links_at, tiles_of, links_of}
use Rattle.layout.specs.Parts.{part-outside}
use Rattle.marks.specs.Words.{Fits}
use Rattle.model.specs.Read.{Triple}
use Rattle.netread.specs.Edges.{both_after}
use Rattle.scan.specs.Pins.{triple}
use Rattle.theory.specs.links.Reach.{hi_of}
use Rattle.union.specs.Links.{Merged}
use Rattle.ways.specs.Entry.{start_of, edge_of, Placed, placed, ends_there}
use Rattle.cut.specs.Joining.{joined-closes, joined-joins}
use Rattle.cut.proofs.join_edge.Goals as goal
use Rattle.cut.proofs.join_edge.Goals.{After-put_join, After-way_out-out, Start}

-- the entry
module _ (z : Start) where
  abbrev entry : Triple
  entry = triple z.args.e.x z.args.e.y z.args.e.third

  at : Placed z.args.g (triple z.args.e.x z.args.e.y z.args.e.third)
  at = placed z.args.g z.args.g.shaped entry z.requires.g_in_bounds.3 z.requires.g_in_bounds.2

-- its two tiles
module _ (o : After-way_out-out) where
  there-is : o.way_out-out.result.tile ≡ hi_of o.args.g.w o.args.g.h (edge_of o.args.g (entry (goal.at.After-way_out-out o).Start))
  there-is =
      ends_there o.args.g o.args.g.shaped (entry (goal.at.After-way_out-out o).Start) o.requires.g_in_bounds.3 o.requires.g_in_bounds.2 o.tile_at-here.result o.tile_at-here.ensures.0 o.way_out-out.result o.way_out-out.ensures

  there-in : o.way_out-out.result.tile < o.args.g.t
  there-in = omega (arith, there-is, (at (goal.at.After-way_out-out o).Start).end_in)

-- they are joined
module _ (j : After-put_join) where
  merged : let a = j.args in Merged a.stamp (links_of a.g a.w.now) (start_of a.g (entry (goal.at.After-put_join j).Start)) (hi_of a.g.w a.g.h (edge_of a.g (entry (goal.at.After-put_join j).Start))) (links_of a.g j.put_join.new.w) j.put_join.result
  merged =
      let a = j.args in
      subst (λ (x : ℕ). Merged a.stamp (links_of a.g a.w.now) x (hi_of a.g.w a.g.h (edge_of a.g (entry (goal.at.After-put_join j).Start))) (links_of a.g j.put_join.new.w) j.put_join.result) j.tile_at-here.ensures.0
      (subst (λ (y : ℕ). Merged a.stamp (links_of a.g a.w.now) j.tile_at-here.result y (links_of a.g j.put_join.new.w) j.put_join.result) (there-is (goal.at.After-put_join j).After-way_out-out) j.put_join.ensures.merged)

  tiles-same : tiles_of j.args.g j.put_join.new.w ≡ tiles_of j.args.g j.args.w.now
  tiles-same =
      let g = j.args.g in
      part-outside (links_at g) g.t j.args.w.now j.put_join.new.w j.put_join.ensures.outside (tiles_at g) g.t (inl (omega arith))

pub tile_at-here-requires : goal.tile_at-here-requires
tile_at-here-requires c =
    record { x_lt_w = ((at (goal.at.tile_at-here-requires c).Start).column, (at (goal.at.tile_at-here-requires c).Start).row) }

pub put_join-requires : goal.put_join-requires
put_join-requires c =
    record { g_in_bounds = (c.requires.g_in_bounds.0, c.tile_at-here.ensures.1, there-in (goal.at.put_join-requires c).After-way_out-out, c.requires.g_in_bounds.1, c.requires.fits.1) }

pub mark_ways-requires : goal.mark_ways-requires
mark_ways-requires c =
    record { g_in_bounds = (omega (arith, c.requires.g_in_bounds.0, c.put_join.ensures.outside.long), c.tile_at-here.ensures.1, there-in (goal.at.mark_ways-requires c).After-way_out-out, c.requires.g_in_bounds.2, c.requires.g_in_bounds.1); fits = subst (Fits c.args.stamp) (sym (tiles-same (goal.at.mark_ways-requires c).After-put_join)) c.requires.fits.0 }

pub returns-then-put_join : goal.returns-then-put_join
returns-then-put_join c =
    let g = c.args.g in
    let marks : tiles_of g c.mark_ways.new.w ≡ both_after c.args.stamp (tiles_of g c.put_join.new.w) (start_of g (entry (goal.at.returns-then-put_join c).Start)) (hi_of g.w g.h (edge_of g (entry (goal.at.returns-then-put_join c).Start))) c.args.e.third = c.mark_ways.ensures.w_after ∙ ap₂ (λ (x y : ℕ). both_after c.args.stamp (tiles_of g c.put_join.new.w) x y c.args.e.third) c.tile_at-here.ensures.0 (there-is (goal.at.returns-then-put_join c).After-way_out-out) in record {
      by_index = (λ es w₀ new so_far.
          joined-joins g c.args.g.shaped c.args.stamp es w₀ c.args.w.now c.put_join.new.w c.requires.g_in_bounds.0 (entry (goal.at.returns-then-put_join c).Start) c.requires.g_in_bounds.3 c.requires.g_in_bounds.2 new so_far
          c.put_join.result (merged (goal.at.returns-then-put_join c).After-put_join) c.put_join.ensures.outside c.mark_ways.new.w marks c.mark_ways.ensures.outside (grind arith));
      w_len_unchanged = c.mark_ways.ensures.outside.long ∙ c.put_join.ensures.outside.long;
    }

pub returns-else-put_join : goal.returns-else-put_join
returns-else-put_join c =
    let g = c.args.g in record {
      by_index = (λ es w₀ new so_far.
          joined-closes g c.args.g.shaped c.args.stamp es w₀ c.args.w.now c.put_join.new.w c.requires.g_in_bounds.0 (entry (goal.at.returns-else-put_join c).Start) c.requires.g_in_bounds.3 c.requires.g_in_bounds.2 new so_far
          c.put_join.result (merged (goal.at.returns-else-put_join c).After-put_join) c.put_join.ensures.outside c.if-put_join.false);
      w_len_unchanged = c.put_join.ensures.outside.long;
    }
