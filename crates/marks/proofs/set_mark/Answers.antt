-- `set_mark` meets its contract.
-- Assumes nothing.
use Rattle.marks.proofs.Puts.{put-twice, put-fresh, put-known}
use Rattle.marks.proofs.set_mark.Goals as goal

pub returns-then-bit : goal.returns-then-bit
returns-then-bit c =
    let x = c.args in let r = put-twice x.stamp x.a.now x.t x.i c.bits-m.result c.bits-m.ensures.value c.bit.result c.bit.ensures c.if-bit.true in record { value = r.0; a_after = r.1 }

pub returns-then-m-eq0 : goal.returns-then-m-eq0
returns-then-m-eq0 c =
    let x = c.args in let r = put-fresh x.stamp x.a.now x.t x.i c.bits-m.result c.bits-m.ensures.value c.bit.result c.bit.ensures c.power.result c.power.ensures.value c.if-bit.false c.if-m-eq0.true in record { value = r.0; a_after = r.1 }

pub returns : goal.returns
returns c =
    let x = c.args in let r = put-known x.stamp x.a.now x.t x.i c.bits-m.result c.bits-m.ensures.value c.bit.result c.bit.ensures c.power.result c.power.ensures.value c.if-bit.false c.if-m-eq0.false in record { value = r.0; a_after = r.1 }
