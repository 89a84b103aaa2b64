-- `put_pins` meets its contract.
-- Assumes nothing.
use mathlib.Core.Path.{◌≡◌, ap, ◌∙◌}
use mathlib.Core.List.{List}
use Prim.Native.Nat.{ℕ, ◌+◌, ◌≤◌}
use native.Mathlib.Omega.{arith}
use lib.ListN.{length}
use Rattle.layout.specs.Areas.{tiles_at}
use Rattle.layout.specs.Lent.{lent-part, put-part, put-outside}
use Rattle.layout.specs.Parts.{part-long}
use Rattle.netread.specs.Pins.{after_pins}
use Rattle.netread.proofs.put_pins.Goals as goal

pub mark_pins-requires : goal.mark_pins-requires
mark_pins-requires c =
    let x = c.args in
    let lent = lent-part (tiles_at x.g) x.g.t x.w.now c.tiles_at-from.result c.links_at-to.result c.tiles_at-from.ensures.value c.links_at-to.ensures.value in record { t_in_bounds = (omega (arith, ap length lent, part-long (tiles_at x.g) x.g.t x.w.now (omega (arith, c.requires.g_in_bounds.0))), c.requires.g_in_bounds.1); pins_there = c.requires.pins_there }

pub returns : goal.returns
returns c =
    let x = c.args in
    let room : tiles_at x.g + x.g.t ≤ length x.w.now = omega (arith, c.requires.g_in_bounds.0) in
    let lent = lent-part (tiles_at x.g) x.g.t x.w.now c.tiles_at-from.result c.links_at-to.result c.tiles_at-from.ensures.value c.links_at-to.ensures.value in
    λ n at.
    let p = c.mark_pins.ensures n at in
    let long : length c.mark_pins.new.a ≡ x.g.t = p.long ∙ ap length lent ∙ part-long (tiles_at x.g) x.g.t x.w.now room in
    record {
      marks =
          put-part (tiles_at x.g) x.g.t x.w.now c.tiles_at-from.result c.links_at-to.result c.tiles_at-from.ensures.value c.links_at-to.ensures.value c.mark_pins.new.a room long
          ∙ p.marks
          ∙ ap (λ (l : List ℕ). after_pins x.stamp l n.pins) lent;
      low = p.low;
      out = put-outside (tiles_at x.g) x.g.t x.w.now c.tiles_at-from.result c.links_at-to.result c.tiles_at-from.ensures.value c.links_at-to.ensures.value c.mark_pins.new.a room long;
    }
