-- `mark_ways` meets its contract.
-- Assumes nothing.
use mathlib.Core.List.{List}
use mathlib.Core.Path.{◌≡◌, sym, ap, subst, ◌∙◌}
use Prim.Native.Nat.{ℕ, ◌+◌, ◌≤◌}
use native.Mathlib.Omega.{arith}
use lib.ListN.{length}
use Rattle.layout.specs.Areas.{tiles_at, tiles_of}
use Rattle.layout.specs.Lent.{lent-part, put-part, put-outside}
use Rattle.layout.specs.Parts.{part-long}
use Rattle.marks.specs.Words.{Fits}
use Rattle.netread.specs.Edges.{both_after, both_long}
use Rattle.netread.proofs.mark_ways.Goals as goal

pub mark_both-requires : goal.mark_both-requires
mark_both-requires c =
    let x = c.args in
    let lent = lent-part (tiles_at x.g) x.g.t x.w.now c.tiles_at-from.result c.links_at-to.result c.tiles_at-from.ensures.value c.links_at-to.ensures.value in
    let long = part-long (tiles_at x.g) x.g.t x.w.now (omega (arith, c.requires.g_in_bounds)) in record { here_in_bounds = (omega (arith, c.requires.g_in_bounds, ap length lent, long), omega (arith, c.requires.g_in_bounds, ap length lent, long), c.requires.g_in_bounds.3, c.requires.g_in_bounds.4); fits = subst (Fits x.stamp) (sym lent) c.requires.fits }

pub returns : goal.returns
returns c =
    let x = c.args in
    let room : tiles_at x.g + x.g.t ≤ length x.w.now = omega (arith, c.requires.g_in_bounds) in
    let after : c.mark_both.new.a ≡ both_after x.stamp (tiles_of x.g x.w.now) x.here x.there x.d = c.mark_both.ensures
    ∙ ap (λ (l : List ℕ). both_after x.stamp l x.here x.there x.d) (lent-part (tiles_at x.g) x.g.t x.w.now c.tiles_at-from.result c.links_at-to.result c.tiles_at-from.ensures.value c.links_at-to.ensures.value) in
    let long : length c.mark_both.new.a ≡ x.g.t = ap length after ∙ both_long x.stamp (tiles_of x.g x.w.now) x.here x.there x.d ∙ part-long (tiles_at x.g) x.g.t x.w.now room in record { w_after = put-part (tiles_at x.g) x.g.t x.w.now c.tiles_at-from.result c.links_at-to.result c.tiles_at-from.ensures.value c.links_at-to.ensures.value c.mark_both.new.a room long ∙ after; outside = put-outside (tiles_at x.g) x.g.t x.w.now c.tiles_at-from.result c.links_at-to.result c.tiles_at-from.ensures.value c.links_at-to.ensures.value c.mark_both.new.a room long }
