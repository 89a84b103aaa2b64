-- `all_layers` meets its contract.
-- Assumes nothing.
use mathlib.Core.Path.{refl, sym, ◌∙◌}
use native.Mathlib.Nat.{sub-zero}
use Rattle.std.specs.Prelude.{Ok, Err}
use Rattle.std.proofs.lemmas.Result.{err_from_is_err_and}
use Rattle.layout.specs.Dirs.{dirs_of}
use Rattle.text.specs.Refusals.{place_of}
use Rattle.capacities.proofs.Layers.{caps-refused, caps-next, caps-done, caps-told}
use native.Mathlib.Omega.{arith}
use Rattle.capacities.proofs.all_layers.Goals as goal

pub loop-layer-init : goal.loop-layer-init
loop-layer-init c =
    (c.requires.at_in_bounds.0, omega arith, refl, rw (sub-zero c.args.g.k))

pub layer_lines-requires : goal.layer_lines-requires
layer_lines-requires c =
    record { at_in_bounds = (c.loop-layer.invariant.0, omega (arith, c.loop-layer.invariant.1, c.requires.at_in_bounds.1, c.loop-layer-test.true, c.args.g.shaped.k_most)); layer_lt_k = (c.loop-layer-test.true, omega (arith, c.requires.e_in_bounds, c.loop-layer.invariant.2)) }

pub returns-in_err-c-clause-result_after : goal.returns-in_err-c-clause-result_after
returns-in_err-c-clause-result_after c =
    let a = c.args in
    let p = err_from_is_err_and c.from_residual.result c.from_residual.ensures.1 in
    rw (p.1, p.2) (caps-told a.s.now a.g c.args.g.shaped a.w.now c.layer_lines.new.w c.requires.e_in_bounds (Err c.in_err-c.field-0.0) (place_of a.s.now a.from)
    (sym (c.loop-layer.invariant.3 ∙ caps-refused a.s.now a.g.k c.loop-layer.w c.layer_lines.new.w c.loop-layer.layer a.g.w a.g.h (dirs_of a.g.k a.g.dirs) a.g.k c.loop-layer.c c.layer_lines.result c.in_err-c.field-0.0 c.loop-layer-test.true c.layer_lines.ensures.result_after c.in_err-c.was))).0

pub loop-layer-preserved : goal.loop-layer-preserved
loop-layer-preserved c =
    let a = c.args in
    let d = c.in_ok-c.ensures.list_in in (
      d.place,
      omega (arith, d.lines, c.loop-layer.invariant.1),
      c.layer_lines.ensures.w_len_unchanged ∙ c.loop-layer.invariant.2,
      c.loop-layer.invariant.3 ∙ caps-next a.s.now a.g.k c.loop-layer.w c.layer_lines.new.w c.loop-layer.layer a.g.w a.g.h (dirs_of a.g.k a.g.dirs) a.g.k c.loop-layer.c c.layer_lines.result c.in_ok-c.c c.loop-layer-test.true c.layer_lines.ensures.result_after c.in_ok-c.was,
    )

pub returns : goal.returns
returns c =
    let a = c.args in
    let t = caps-told a.s.now a.g c.args.g.shaped a.w.now c.loop-layer.w c.requires.e_in_bounds (Ok c.loop-layer.c) (place_of a.s.now a.from)
    (sym (c.loop-layer.invariant.3 ∙ caps-done a.g.k c.loop-layer.w c.loop-layer.layer a.g.w a.g.h (dirs_of a.g.k a.g.dirs) a.g.k (place_of a.s.now c.loop-layer.c) c.loop-layer-test.false)) in record { result_after = t.0; beyond_of = t.1; list_in = record { place = c.loop-layer.invariant.0; lines = omega (arith, c.loop-layer.invariant.1, c.loop-layer-test.false) }; w_len_unchanged = c.loop-layer.invariant.2 }
