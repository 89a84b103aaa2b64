-- `strip_net` meets its contract.
-- Assumes nothing.
use mathlib.Core.List.{List}
use mathlib.Core.Path.{◌≡◌, sym, ap, subst, ◌∙◌}
use Prim.Native.Nat.{ℕ, ◌+◌, ◌≤◌}
use native.Mathlib.Omega.{arith}
use lib.ListN.{length}
use Rattle.layout.specs.Areas.{tiles_at, tiles_of}
use Rattle.layout.specs.Lent.{lent-part, put-part, put-outside}
use Rattle.layout.specs.Parts.{part-long}
use Rattle.cut.specs.Strips.{both_tiles, Strippable, Stripped}
use Rattle.cut.proofs.strip_net.Goals as goal

pub strip_entries-requires : goal.strip_entries-requires
strip_entries-requires c =
    let x = c.args in
    let lent = lent-part (tiles_at x.g) x.g.t x.w.now c.tiles_at-from.result c.links_at-to.result c.tiles_at-from.ensures.value c.links_at-to.ensures.value in record { a_len = (ap length lent ∙ part-long (tiles_at x.g) x.g.t x.w.now (omega (arith, c.requires.g_in_bounds.0)), subst (Strippable x.g x.stamp) (sym lent) c.requires.g_in_bounds.1); edges_there = c.requires.edges_there }

pub returns : goal.returns
returns c =
    let x = c.args in
    let room : tiles_at x.g + x.g.t ≤ length x.w.now = omega (arith, c.requires.g_in_bounds.0) in
    let lent = lent-part (tiles_at x.g) x.g.t x.w.now c.tiles_at-from.result c.links_at-to.result c.tiles_at-from.ensures.value c.links_at-to.ensures.value in
    let long : length c.strip_entries.new.a ≡ x.g.t = c.strip_entries.ensures.a_len_unchanged ∙ ap length lent ∙ part-long (tiles_at x.g) x.g.t x.w.now room in
    let put = put-part (tiles_at x.g) x.g.t x.w.now c.tiles_at-from.result c.links_at-to.result c.tiles_at-from.ensures.value c.links_at-to.ensures.value c.strip_entries.new.a room long in record {
      stripped = (λ n at.
          subst (λ (l : List ℕ). Stripped x.g x.stamp (both_tiles x.g n.entries) (tiles_of x.g x.w.now) l) (sym put)
          (subst (λ (l : List ℕ). Stripped x.g x.stamp (both_tiles x.g n.entries) l c.strip_entries.new.a) lent (c.strip_entries.ensures.stripped n at)));
      outside = put-outside (tiles_at x.g) x.g.t x.w.now c.tiles_at-from.result c.links_at-to.result c.tiles_at-from.ensures.value c.links_at-to.ensures.value c.strip_entries.new.a room long;
    }
