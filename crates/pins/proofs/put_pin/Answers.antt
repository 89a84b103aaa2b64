-- `put_pin` meets its contract.
-- Assumes nothing.
use mathlib.Core.Bool.{true}
use mathlib.Core.Path.{◌≡◌, sym, ◌∙◌}
use Rattle.model.specs.Read.{pin_inside}
use Rattle.scan.specs.Pins.{triple}
use Rattle.pins.proofs.Entry.{put-outside, put-inside}
use Rattle.pins.proofs.put_pin.Goals as goal
use Rattle.pins.proofs.put_pin.Goals.{Else-not-inside}

-- the pin is inside
module _ (c : Else-not-inside) where
  is : pin_inside c.args.g.w c.args.g.h c.args.g.k (triple c.args.e.x c.args.e.y c.args.e.third) ≡ true
  is = sym c.inside.ensures ∙ c.if-not-inside.false

pub returns-then-not-inside : goal.returns-then-not-inside
returns-then-not-inside c =
    let x = c.args in let r = put-outside x.g x.stamp x.a.now x.v x.e.x x.e.y x.e.third (sym c.inside.ensures ∙ c.if-not-inside.true) in record { value = r.0; a_after = r.1 }

pub returns : goal.returns
returns c =
    let x = c.args in let r = put-inside x.g x.stamp x.a.now x.v x.e.x x.e.y x.e.third (is (goal.at.returns c).Else-not-inside) c.tile_at-here.result c.tile_at-here.ensures.0 c.mark_pin.result c.mark_pin.new.a c.mark_pin.ensures.value c.mark_pin.ensures.a_after in record { value = r.0; a_after = r.1 }
