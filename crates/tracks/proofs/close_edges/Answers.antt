-- `close_edges` meets its contract: edge after edge (`Shut.antt`).
-- Assumes nothing.
use mathlib.Core.Path.{◌≡◌, subst}
use Prim.Native.Nat.{ℕ}
use native.Mathlib.Omega.{arith}
use Rattle.layout.specs.Dirs.{heading_number}
use Rattle.tracks.specs.Shut.{Shut, shut_none, shut-next}
use Rattle.tracks.proofs.close_edges.Goals as goal

pub loop-e-init : goal.loop-e-init
loop-e-init c =
    (omega arith, c.requires.from_le_to.0, shut_none c.args.g c.args.from (heading_number c.args.heading) c.args.w.now)

pub close_edge-requires : goal.close_edge-requires
close_edge-requires c =
    record { edge_lt_e = (omega (arith, c.loop-e-test.true, c.requires.from_le_to.1), omega (arith, c.requires.from_le_to.2, c.loop-e.invariant.2.outside.long)) }

pub loop-e-preserved : goal.loop-e-preserved
loop-e-preserved c =
    let a = c.args in
    (omega (arith, c.loop-e.invariant.0), omega (arith, c.loop-e-test.true), shut-next a.g a.from (heading_number a.heading) a.w.now c.loop-e.e c.loop-e.w c.close_edge.new.w c.loop-e.invariant.0 c.loop-e.invariant.2 c.close_edge.ensures)

pub shape_of-w : goal.shape_of-w
shape_of-w c =
    c.loop-e.invariant.2.outside.long

pub returns : goal.returns
returns c =
    let a = c.args in
    let e : c.loop-e.e ≡ a.to = omega (arith, c.loop-e.invariant.1, c.loop-e-test.false) in
    subst (λ (n : ℕ). Shut a.g a.from n (heading_number a.heading) a.w.now c.loop-e.w) e c.loop-e.invariant.2
