-- `net_pins` meets its contract.
-- Assumes nothing.
use mathlib.Core.List.{List}
use mathlib.Core.Path.{◌≡◌, ap, ◌∙◌}
use Prim.Native.Nat.{ℕ, ◌+◌, ◌≤◌}
use native.Mathlib.Omega.{arith}
use lib.ListN.{length}
use Rattle.layout.specs.Shapes.{sizes_of}
use Rattle.layout.specs.Areas.{tiles_at}
use Rattle.layout.specs.Lent.{lent-part, put-part, put-outside}
use Rattle.layout.specs.Parts.{part-long}
use Rattle.model.specs.Read.{pins_line}
use Rattle.lines.specs.Told.{mapped}
use Rattle.pins.specs.Pins.{pins_told, pins_marked}
use Rattle.text.specs.Refusals.{place_of}
use Rattle.nets.proofs.net_pins.Goals as goal

pub returns : goal.returns
returns c =
    let x = c.args in
    let lent = lent-part (tiles_at x.g) x.g.t x.w.now c.tiles_at-from.result c.links_at-to.result c.tiles_at-from.ensures.value c.links_at-to.ensures.value in
    let room : tiles_at x.g + x.g.t ≤ length x.w.now = omega (arith, c.requires.g_in_bounds.0) in
    let long : length c.pins_line.new.a ≡ x.g.t = c.pins_line.ensures.a_len_unchanged ∙ ap length lent ∙ part-long (tiles_at x.g) x.g.t x.w.now room in
    let back = put-part (tiles_at x.g) x.g.t x.w.now c.tiles_at-from.result c.links_at-to.result c.tiles_at-from.ensures.value c.links_at-to.ensures.value c.pins_line.new.a room long in record {
      result_after = ap (λ (l : List ℕ). pins_told x.s.now l c.pins_line.result) back
          ∙ c.pins_line.ensures.result_after
          ∙ ap (λ (l : List ℕ). mapped (pins_marked x.stamp l) (pins_line (sizes_of x.g) (place_of x.s.now x.c))) lent;
      pins_in = c.pins_line.ensures.pins_in;
      outside = put-outside (tiles_at x.g) x.g.t x.w.now c.tiles_at-from.result c.links_at-to.result c.tiles_at-from.ensures.value c.links_at-to.ensures.value c.pins_line.new.a room long;
    }
