-- `read_nets` meets its contract.
-- Assumes nothing.
use mathlib.Core.Path.{refl, ◌∙◌, subst}
use Prim.Native.Nat.{◌+◌}
use native.Mathlib.Omega.{arith}
use Rattle.std.proofs.lemmas.Result.{err_from_is_err_and}
use Rattle.layout.specs.Shapes.{sizes_of}
use Rattle.model.specs.Read.{net_lines}
use Rattle.text.specs.Refusals.{place_of}
use Rattle.theory.specs.links.JobText.{option_lines}
use Rattle.nets.specs.Nets.{NetRead, NetTold}
use Rattle.nets.proofs.Loop.{midway_start, midway-ready, midway-lines, midway-few, midway-stop, midway-next, midway_end}
use Rattle.nets.proofs.read_nets.Goals as goal

pub loop-i-init : goal.loop-i-init
loop-i-init c =
    let x = c.args in
    (midway_start x.s.now x.g c.args.g.shaped x.n x.from.line x.w.now _ x.table.now x.from c.requires.nets_ready c.requires.at_in_bounds.0 refl refl, refl)

pub read_net-requires : goal.read_net-requires
read_net-requires c =
    let x = c.args in
    let m = c.loop-i.invariant.0 in
    let t = c.loop-i-test.true in record {
      at_in_bounds = (
        m.place,
        omega (arith, t, c.requires.at_in_bounds, midway-lines x.s.now x.g c.args.g.shaped x.n x.from.line x.w.now _ c.loop-i.w c.loop-i.table c.loop-i.c c.loop-i.entries c.loop-i.i m),
        c.requires.at_in_bounds.2,
      );
      table_size_in_bounds = (m.so_read.table_long, omega (arith, t, c.requires.at_in_bounds.3, midway-few x.s.now x.g c.args.g.shaped x.n x.from.line x.w.now _ c.loop-i.w c.loop-i.table c.loop-i.c c.loop-i.entries c.loop-i.i m));
      net_ready = midway-ready x.s.now x.g c.args.g.shaped x.n x.from.line x.w.now _ c.loop-i.w c.loop-i.table c.loop-i.c c.loop-i.entries c.loop-i.i m t c.requires.at_in_bounds.3 c.requires.nets_ready.room;
    }

pub returns-in_err-d : goal.returns-in_err-d
returns-in_err-d c =
    let x = c.args in
    let t = c.loop-i-test.true in
    let told = subst (λ (v : NetRead). NetTold x.s.now x.g c.loop-i.i c.loop-i.entries (λ n. c.loop-i.c.line + 3 + option_lines n.low) c.loop-i.w c.read_net.new.w c.loop-i.table c.read_net.new.table (net_lines (sizes_of x.g) (c.loop-i.i + 1) (place_of x.s.now c.loop-i.c)) v) c.in_err-d.was c.read_net.ensures.net_told in
    let p = err_from_is_err_and c.from_residual.result c.from_residual.ensures.1 in
    rw (p.1, p.2) (record { nets_told = midway-stop x.s.now x.g c.args.g.shaped x.n x.from.line x.w.now _ c.loop-i.w c.loop-i.table c.loop-i.c c.loop-i.entries c.loop-i.i c.loop-i.invariant.0 t _ told; w_len_unchanged = (c.read_net.ensures.w_len_unchanged.0 ∙ c.loop-i.invariant.0.so_read.long, c.read_net.ensures.w_len_unchanged.1 ∙ c.loop-i.invariant.1) })

pub loop-i-preserved : goal.loop-i-preserved
loop-i-preserved c =
    let x = c.args in
    let t = c.loop-i-test.true in
    let told = subst (λ (v : NetRead). NetTold x.s.now x.g c.loop-i.i c.loop-i.entries (λ n. c.loop-i.c.line + 3 + option_lines n.low) c.loop-i.w c.read_net.new.w c.loop-i.table c.read_net.new.table (net_lines (sizes_of x.g) (c.loop-i.i + 1) (place_of x.s.now c.loop-i.c)) v) c.in_ok-d.was c.read_net.ensures.net_told in (
      midway-next x.s.now x.g c.args.g.shaped x.n x.from.line x.w.now _ c.loop-i.w c.loop-i.table c.loop-i.c c.loop-i.entries c.loop-i.i c.loop-i.invariant.0 t c.read_net.new.w c.read_net.new.table c.in_ok-d.d c.in_ok-d.count told,
      c.read_net.ensures.w_len_unchanged.1 ∙ c.loop-i.invariant.1,
    )

pub returns : goal.returns
returns c =
    let x = c.args in record { nets_told = midway_end x.s.now x.g c.args.g.shaped x.n x.from.line x.w.now _ c.loop-i.w c.loop-i.table c.loop-i.c c.loop-i.entries c.loop-i.i c.loop-i.invariant.0 c.loop-i-test.false; w_len_unchanged = (c.loop-i.invariant.0.so_read.long, c.loop-i.invariant.1) }
