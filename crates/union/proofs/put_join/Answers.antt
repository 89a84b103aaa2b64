-- `put_join` meets its contract.
-- Assumes nothing.
use mathlib.Core.Path.{◌≡◌, ◌∙◌}
use Prim.Native.Nat.{◌+◌, ◌≤◌}
use native.Mathlib.Omega.{arith}
use lib.ListN.{length}
use Rattle.layout.specs.Areas.{links_at, links_of}
use Rattle.layout.specs.Parts.{part-long}
use Rattle.union.specs.Links.{Merged}
use Rattle.layout.specs.Lent.{lent-part, put-part, put-outside}
use Rattle.union.proofs.put_join.Goals as goal

pub join-requires : goal.join-requires
join-requires c =
    let x = c.args in
    let long = part-long (links_at x.g) x.g.t x.w.now (omega (arith, c.requires.g_in_bounds.0)) in
    rw (lent-part (links_at x.g) x.g.t x.w.now c.links_at-from.result c.chosen_at-to.result c.links_at-from.ensures.value c.chosen_at-to.ensures.value)
    (c.requires.g_in_bounds.3, omega (arith, long, c.args.g.shaped.t_most), omega (arith, long, c.requires.g_in_bounds.1), omega (arith, long, c.requires.g_in_bounds.2), c.requires.g_in_bounds.4)

pub returns : goal.returns
returns c =
    let x = c.args in
    let lent = lent-part (links_at x.g) x.g.t x.w.now c.links_at-from.result c.chosen_at-to.result c.links_at-from.ensures.value c.chosen_at-to.ensures.value in
    let room : links_at x.g + x.g.t ≤ length x.w.now = omega (arith, c.requires.g_in_bounds) in
    let merged : Merged x.stamp (links_of x.g x.w.now) x.here x.there c.join.new.a c.join.result = rw lent at c.join.ensures in
    let long : length c.join.new.a ≡ x.g.t = merged.same_length ∙ part-long (links_at x.g) x.g.t x.w.now room in record { merged = rw (put-part (links_at x.g) x.g.t x.w.now c.links_at-from.result c.chosen_at-to.result c.links_at-from.ensures.value c.chosen_at-to.ensures.value c.join.new.a room long) merged; outside = put-outside (links_at x.g) x.g.t x.w.now c.links_at-from.result c.chosen_at-to.result c.links_at-from.ensures.value c.chosen_at-to.ensures.value c.join.new.a room long }
