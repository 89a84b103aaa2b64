-- `limits_of` meets its contract: one limit for all edges, or one for each direction.
-- Assumes nothing.
use mathlib.Core.Path.{sym, ap, ap₂, ◌∙◌}
use Prim.Native.Nat.{ℕ}
use native.Mathlib.Omega.{arith}
use Rattle.flat.specs.Limited.{limits-plain, limits-given}
use Rattle.flat.specs.declared.Limits.{Limits}
use Rattle.flat.proofs.limits_of.Goals as goal

pub share-each-requires : goal.share-each-requires
share-each-requires c =
    (c.requires.g_in_bounds.1, c.args.g.shaped.k_most)

pub way_limit-east-requires : goal.way_limit-east-requires
way_limit-east-requires c =
    record { n_bound = (omega (arith, c.args.g.shaped.east_most), c.requires.g_in_bounds.0); by_index = c.requires.by_index }

pub overflow_sub-g : goal.overflow_sub-g
overflow_sub-g c =
    omega (arith, c.args.g.shaped.east_most)

pub way_limit-north-requires : goal.way_limit-north-requires
way_limit-north-requires c =
    record { n_bound = (omega (arith, c.args.g.shaped.east_most), c.requires.g_in_bounds.0); by_index = c.requires.by_index }

pub returns-then-is_none : goal.returns-then-is_none
returns-then-is_none c =
    let a = c.args in
    ap {B = Limits} (λ (x : ℕ). record { border = a.g.east; east = x; north = x }) c.share-each.ensures ∙ sym (limits-plain a.g.dirs c.if-is_none.ensures a.g a.w.now a.most)

pub returns : goal.returns
returns c =
    let a = c.args in
    ap₂ {C = Limits} (λ (x y : ℕ). record { border = a.g.east; east = x; north = y }) c.way_limit-east.ensures c.way_limit-north.ensures
    ∙ sym (limits-given a.g.dirs c.if-is_none.ensures a.g a.w.now a.most)
