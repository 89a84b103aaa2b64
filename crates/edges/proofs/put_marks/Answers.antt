-- `put_marks` meets its contract.
-- Assumes nothing.
use mathlib.Core.List.{List}
use mathlib.Core.Path.{◌≡◌, ap, ◌∙◌}
use Prim.Native.Nat.{ℕ, ◌+◌, ◌≤◌}
use native.Mathlib.Omega.{arith}
use lib.ListN.{length}
use Rattle.layout.specs.Areas.{tiles_at, tiles_of}
use Rattle.layout.specs.Parts.{part-long}
use Rattle.ways.specs.Ends.{ends_of, ends_after, ends-long}
use Rattle.layout.specs.Lent.{lent-part, put-part, put-outside}
use Rattle.edges.proofs.put_marks.Goals as goal

pub returns : goal.returns
returns c =
    let x = c.args in
    let lent = lent-part (tiles_at x.g) x.g.t x.w.now c.tiles_at-from.result c.links_at-to.result c.tiles_at-from.ensures.value c.links_at-to.ensures.value in
    let room : tiles_at x.g + x.g.t ≤ length x.w.now = omega (arith, c.requires.g_in_bounds) in
    let after : c.mark_ends.new.a ≡ ends_after x.stamp (tiles_of x.g x.w.now) x.here x.there x.d = c.mark_ends.ensures.a_after ∙ ap (λ (l : List ℕ). ends_after x.stamp l x.here x.there x.d) lent in
    let long : length c.mark_ends.new.a ≡ x.g.t = ap length after ∙ ends-long x.stamp (tiles_of x.g x.w.now) x.here x.there x.d ∙ part-long (tiles_at x.g) x.g.t x.w.now room in record { value = c.mark_ends.ensures.value ∙ ap (λ (l : List ℕ). ends_of x.stamp l x.here x.there x.d) lent; w_after = put-part (tiles_at x.g) x.g.t x.w.now c.tiles_at-from.result c.links_at-to.result c.tiles_at-from.ensures.value c.links_at-to.ensures.value c.mark_ends.new.a room long ∙ after; outside = put-outside (tiles_at x.g) x.g.t x.w.now c.tiles_at-from.result c.links_at-to.result c.tiles_at-from.ensures.value c.links_at-to.ensures.value c.mark_ends.new.a room long }
