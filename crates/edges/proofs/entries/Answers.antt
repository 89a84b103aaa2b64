-- `entries` meets its contract. The loop's invariant: the entries read so far, and what they have shown.
-- Assumes nothing.
use mathlib.Core.Path.{◌∙◌}
use native.Mathlib.Omega.{arith}
use Rattle.std.specs.Prelude.{Some}
use Rattle.edges.specs.Entries.{entry-fits, place-more}
use Rattle.edges.proofs.Loop.{passed_start, passed-ready, passed-bad, passed-more, passed-last}
use Rattle.edges.proofs.entries.Goals as goal

pub loop-e-init : goal.loop-e-init
loop-e-init c =
    let x = c.args in passed_start x.g x.stamp x.parts x.s.now x.c x.w.now

pub returns-in_default : goal.returns-in_default
returns-in_default c =
    let x = c.args in
    record { entries_read = λ ps b h k. passed-bad x.g x.stamp x.parts x.s.now x.c x.w.now c.loop-e.w c.loop-e.i c.loop-e.v c.loop-e.invariant c.in_default.ensures ps b; w_len_unchanged = c.loop-e.invariant.long }

pub put_edge-v-requires : goal.put_edge-v-requires
put_edge-v-requires c =
    let x = c.args in
    let f = entry-fits x.s.now c.loop-e.i (Some c.in-Some.e) c.in-Some.ensures in record { g_in_bounds = (omega (arith, c.requires.g_in_bounds.0, c.loop-e.invariant.long), c.requires.g_in_bounds.1, omega (arith, c.requires.g_in_bounds.2, c.loop-e.invariant.few), f.0); ready = passed-ready x.g x.stamp x.parts x.s.now x.c x.w.now c.loop-e.w c.loop-e.i c.loop-e.v c.loop-e.invariant c.args.g.shaped c.requires.g_in_bounds.1 c.requires.few.0 c.requires.few.1 }

pub returns-then-e : goal.returns-then-e
returns-then-e c =
    let x = c.args in
    let r = c.in-Some.e in record {
      entries_read = passed-last x.g x.stamp x.parts x.s.now x.c x.w.now c.loop-e.w c.loop-e.i c.loop-e.v c.loop-e.invariant r c.in-Some.ensures c.put_edge-v.new.w c.put_edge-v.result
          c.put_edge-v.ensures.w_len_unchanged c.put_edge-v.ensures.entries_value c.put_edge-v.ensures.shown c.if-e.true c.verdict.result c.verdict.ensures;
      w_len_unchanged = c.put_edge-v.ensures.w_len_unchanged ∙ c.loop-e.invariant.long;
    }

pub loop-e-smaller : goal.loop-e-smaller
loop-e-smaller c =
    let x = c.args in
    omega (arith, place-more x.s.now x.c.at c.loop-e.i c.loop-e.invariant.entries c.loop-e.invariant.text c.in-Some.e c.in-Some.ensures c.if-e.false, (entry-fits x.s.now c.loop-e.i (Some c.in-Some.e) c.in-Some.ensures).1)

pub loop-e-preserved : goal.loop-e-preserved
loop-e-preserved c =
    let x = c.args in
    passed-more x.g x.stamp x.parts x.s.now x.c x.w.now c.loop-e.w c.loop-e.i c.loop-e.v c.loop-e.invariant c.in-Some.e c.in-Some.ensures c.put_edge-v.new.w c.put_edge-v.result
    c.put_edge-v.ensures.w_len_unchanged c.put_edge-v.ensures.entries_value c.put_edge-v.ensures.shown c.if-e.false
