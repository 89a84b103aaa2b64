-- `layer_lines` meets its contract: the line `east`, and behind it the line `north`, each stored in its part of the layer's column (`Layers.antt`).
-- Assumes nothing.
use mathlib.Core.Path.{◌≡◌, refl, ap, ◌∙◌}
use Prim.Native.Nat.{ℕ, ◌+◌}
use lib.ListN.{length}
use Rattle.std.proofs.lemmas.Result.{err_from_is_err_and}
use Rattle.model.specs.Job.{runs}
use Rattle.layout.specs.Dirs.{dirs_of}
use Rattle.lines.specs.Told.{After}
use Rattle.capacities.specs.Told.{list_told}
use Rattle.capacities.proofs.Layers.{east-part, east-room, north-room, layer-refused, layer-both}
use native.Mathlib.Omega.{arith}
use Rattle.capacities.proofs.layer_lines.Goals as goal
use Rattle.capacities.proofs.layer_lines.Goals.{In_ok-d, After-judged_line}

-- both directions are judged
module _ (d : After-judged_line) where
  eastward : d.runs-eastward.result ≡ runs (dirs_of d.args.g.k d.args.g.dirs) 0 (d.args.layer + 1)
  eastward = d.runs-eastward.ensures d.args.g.k d.requires.layer_lt_k.0 ∙ ap (λ (way : ℕ). runs (dirs_of d.args.g.k d.args.g.dirs) way (d.args.layer + 1)) d.number.ensures

  northward : d.runs-northward.result ≡ runs (dirs_of d.args.g.k d.args.g.dirs) 1 (d.args.layer + 1)
  northward = d.runs-northward.ensures d.args.g.k d.requires.layer_lt_k.0 ∙ ap (λ (way : ℕ). runs (dirs_of d.args.g.k d.args.g.dirs) way (d.args.layer + 1)) d.number-2.ensures

-- the line `east` is read
module _ (d : In_ok-d) where
  behind : After (length d.args.s.now) (d.args.c.line + 1) d.in_ok-d.d
  behind = d.in_ok-d.ensures.list_in

pub runs-eastward-requires : goal.runs-eastward-requires
runs-eastward-requires c =
    omega (arith, c.requires.layer_lt_k.0, c.args.g.shaped.k_most)

pub runs-northward-requires : goal.runs-northward-requires
runs-northward-requires c =
    omega (arith, c.requires.layer_lt_k.0, c.args.g.shaped.k_most)

pub judged_line-requires : goal.judged_line-requires
judged_line-requires c =
    record { at_in_bounds = (c.requires.at_in_bounds.0, omega (arith, c.requires.at_in_bounds.1), refl); room = east-room c.args.g c.args.g.shaped (length c.args.w.now) c.args.layer c.requires.layer_lt_k.0 c.requires.layer_lt_k.1 }

pub overflow_mul-north : goal.overflow_mul-north
overflow_mul-north c =
    omega (arith, east-part c.args.g c.args.g.shaped, c.args.g.shaped.all_most)

pub overflow_add-north : goal.overflow_add-north
overflow_add-north c =
    omega (arith, east-part c.args.g c.args.g.shaped, c.args.g.shaped.all_most, c.requires.layer_lt_k.0, c.args.g.shaped.k_most)

pub overflow_sub-north : goal.overflow_sub-north
overflow_sub-north c =
    omega (arith, c.args.g.shaped.east_most)

pub judged_line-requires-2 : goal.judged_line-requires-2
judged_line-requires-2 c =
    record { at_in_bounds = ((behind (goal.at.judged_line-requires-2 c).In_ok-d).place, omega (arith, (behind (goal.at.judged_line-requires-2 c).In_ok-d).lines, c.requires.at_in_bounds.1), refl); room = north-room c.args.g c.args.g.shaped (length c.judged_line.new.w) c.args.layer c.requires.layer_lt_k.0 (omega (arith, c.requires.layer_lt_k.1, c.judged_line.ensures.w_len_unchanged)) }

pub returns-in_err-d-clause-result_after : goal.returns-in_err-d-clause-result_after
returns-in_err-d-clause-result_after c =
    let a = c.args in
    let p = err_from_is_err_and c.from_residual.result c.from_residual.ensures.1 in
    rw (p.1, p.2) (layer-refused a.s.now a.c a.g c.args.g.shaped a.w.now c.judged_line.new.w a.layer c.judged_line.result c.runs-eastward.result c.runs-northward.result
    (eastward (goal.at.returns-in_err-d-clause-result_after c).After-judged_line) (northward (goal.at.returns-in_err-d-clause-result_after c).After-judged_line) c.judged_line.ensures.result_after c.in_err-d.field-0.0 c.in_err-d.was)

pub returns : goal.returns
returns c =
    let a = c.args in
    let k : a.c.line + 2 ≡ c.in_ok-d.d.line + 1 = omega (arith, (behind (goal.at.returns c).In_ok-d).lines) in record { result_after = layer-both a.s.now a.c a.g c.args.g.shaped a.w.now c.judged_line.new.w a.layer c.judged_line.result c.runs-eastward.result c.runs-northward.result (eastward (goal.at.returns c).After-judged_line) (northward (goal.at.returns c).After-judged_line) c.judged_line.ensures.result_after c.in_ok-d.d (list_told a.s.now c.judged_line-2.new.w c.judged_line-2.result) c.in_ok-d.was c.judged_line-2.ensures.result_after; list_in = rw k c.judged_line-2.ensures.list_in; w_len_unchanged = c.judged_line-2.ensures.w_len_unchanged ∙ c.judged_line.ensures.w_len_unchanged }
