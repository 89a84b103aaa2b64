-- `mark_ends` meets its contract.
-- Assumes nothing.
use mathlib.Core.Path.{refl, sym, ◌∙◌}
use Prim.Native.Nat.{◌+◌}
use native.Mathlib.Omega.{arith}
use Rattle.marks.specs.declared.Put.TheVariants.{Fresh, Known}
use Rattle.ways.proofs.Puts.{put-finds, first-fresh, first-known, ends-marked, ends-new}
use Rattle.ways.proofs.mark_ends.Goals as goal

pub returns-in-Twice : goal.returns-in-Twice
returns-in-Twice c =
    let x = c.args in let r = ends-marked x.stamp x.a.now x.here x.there x.d c.set_mark.new.a c.set_mark.ensures.a_after (sym c.in-Twice.is ∙ c.set_mark.ensures.value) in record { value = r.0; a_after = r.1 }

pub returns-in-Fresh : goal.returns-in-Fresh
returns-in-Fresh c =
    let x = c.args in
    let p = sym c.in-Fresh.is ∙ c.set_mark.ensures.value in
    let r = ends-new x.stamp x.a.now x.here x.there x.d c.set_mark.new.a c.set_mark.ensures.a_after 1 c.mark_back.result (1 + c.mark_back.result) c.mark_back.new.a (put-finds x.stamp x.a.now x.here (8 + x.d) Fresh p).0 (first-fresh x.stamp x.a.now x.here (8 + x.d) p) c.mark_back.ensures.value c.mark_back.ensures.a_after refl in
    record { value = r.0; a_after = r.1 }

pub returns-in-Known : goal.returns-in-Known
returns-in-Known c =
    let x = c.args in
    let p = sym c.in-Known.is ∙ c.set_mark.ensures.value in
    let b = c.mark_back-in-Known in
    let r = ends-new x.stamp x.a.now x.here x.there x.d c.set_mark.new.a c.set_mark.ensures.a_after 0 b.result b.result b.new.a (put-finds x.stamp x.a.now x.here (8 + x.d) Known p).0 (first-known x.stamp x.a.now x.here (8 + x.d) p) b.ensures.value b.ensures.a_after (omega arith) in
    record { value = r.0; a_after = r.1 }
