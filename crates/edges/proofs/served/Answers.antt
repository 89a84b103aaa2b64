-- `served` meets its contract: no entries, or layers that run one way or both.
-- Assumes nothing.
use mathlib.Core.Bool.{false}
use mathlib.Core.Path.{◌≡◌, sym, ◌∙◌}
use native.Mathlib.Omega.{arith}
use Rattle.edges.proofs.Again.{some_layer, north-runs, served-none, served-way, served-both}
use Rattle.edges.proofs.served.Goals as goal

pub returns-then-e-eq0 : goal.returns-then-e-eq0
returns-then-e-eq0 c =
    λ ts k. served-none c.args.g c.args.g.shaped c.args.s.now c.args.e ts k c.if-e-eq0.true

pub returns-then-not-has_layer : goal.returns-then-not-has_layer
returns-then-not-has_layer c =
    let a = c.args in
    let none : some_layer a.g.k a.g.dirs 0 ≡ false = sym c.has_layer.ensures ∙ c.if-not-has_layer.true in
    λ ts k. served-way a.g c.args.g.shaped a.s.now a.e ts k c.if-e-eq0.false 1 none (north-runs a.g.k a.g.dirs (omega (arith, c.args.g.shaped.k_least)) none)
    c.one_way.result c.one_way.ensures

pub returns-then-not-has_layer-2 : goal.returns-then-not-has_layer-2
returns-then-not-has_layer-2 c =
    let a = c.args in
    λ ts k. served-way a.g c.args.g.shaped a.s.now a.e ts k c.if-e-eq0.false 0
    (sym c.has_layer.ensures ∙ c.if-not-has_layer.false)
    (sym c.has_layer-2.ensures ∙ c.if-not-has_layer-2.true)
    c.one_way-then-not-has_layer-2.result c.one_way-then-not-has_layer-2.ensures

pub returns : goal.returns
returns c =
    let a = c.args in
    λ ts k. served-both a.g c.args.g.shaped a.s.now a.e ts k
    (sym c.has_layer.ensures ∙ c.if-not-has_layer.false)
    (sym c.has_layer-2.ensures ∙ c.if-not-has_layer-2.false)
