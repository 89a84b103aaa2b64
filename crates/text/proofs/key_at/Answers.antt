-- `key_at` meets its contract.
-- Assumes nothing.
use native.Mathlib.Omega.{arith}
use lib.ListN.{length, drop, length-drop}
use Prim.Native.Nat.{◌-◌}
use lib.Seq.{take_all}
use Rattle.text.proofs.Prefix.{key-is}
use Rattle.text.proofs.key_at.Goals as goal

pub returns : goal.returns
returns c =
    let a = c.args in
    rw (c.starts_with.ensures.value, take_all (length a.s.now - a.at) (drop a.at a.s.now) (omega (arith, length-drop a.at a.s.now))) (key-is a.key.now (drop a.at a.s.now))
