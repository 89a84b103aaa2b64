-- `put_edge` meets its contract.
-- Assumes nothing.
use mathlib.Core.Bool.{true}
use mathlib.Core.Path.{◌≡◌, refl, sym, ◌∙◌}
use Rattle.model.specs.Read.{edge_inside}
use Rattle.scan.specs.Pins.{triple}
use Rattle.edges.proofs.Turns.{all-out, after_stop}
use Rattle.edges.proofs.put_edge.Goals as goal
use Rattle.edges.proofs.put_edge.Goals.{Else-not-inside}

-- the entry is inside the grid
module _ (m : Else-not-inside) where
  is-inside : edge_inside m.args.g.w m.args.g.h (triple m.args.e.x m.args.e.y m.args.e.third) ≡ true
  is-inside = sym m.inside.ensures ∙ m.if-not-inside.false

pub returns-then-not-inside : goal.returns-then-not-inside
returns-then-not-inside c =
    let x = c.args in record { shown = λ ps w₀ ts s. all-out x.g ts (triple x.e.x x.e.y x.e.third) (sym c.inside.ensures ∙ c.if-not-inside.true); entries_value = refl; w_len_unchanged = refl }

pub returns-then-goes_on : goal.returns-then-goes_on
returns-then-goes_on c =
    record { shown = c.add_edge.ensures.shown; entries_value = c.add_edge.ensures.entries_value; w_len_unchanged = c.add_edge.ensures.w_len_unchanged }

pub returns : goal.returns
returns c =
    let x = c.args in record { shown = λ ps w₀ ts s. after_stop x.g x.stamp ps w₀ ts x.v.parts x.w.now (triple x.e.x x.e.y x.e.third) x.v.judged (sym c.goes_on.ensures ∙ c.if-goes_on.false) (is-inside (goal.at.returns c).Else-not-inside) s; entries_value = refl; w_len_unchanged = refl }
