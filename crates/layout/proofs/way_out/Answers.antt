-- `way_out` meets its contract.
-- Assumes nothing.
use mathlib.Core.Path.{◌≡◌}
use Prim.Native.Nat.{◌≤◌}
use native.Mathlib.Nat.{div-le_self}
use native.Mathlib.Omega.{arith}
use Rattle.layout.proofs.way_out.Goals as goal
use Rattle.layout.proofs.way_out.Goals.{In_default}

three : (m : In_default) → m.args.d ≡ 3
three m = omega (arith, m.requires.way_room.way, m.in_default.in_default-own.rest.1, m.in_default.in_default-own.rest.0.1, m.in_default.in_default-own.rest.0.0.1)

south : (m : In_default) → m.args.g.w ≤ m.args.t
south m = m.requires.way_room.south (three m)

pub overflow_add-result : goal.overflow_add-result
overflow_add-result c =
    omega arith

pub overflow_sub-result : goal.overflow_sub-result
overflow_sub-result c =
    omega (arith, div-le_self c.args.t c.args.g.w)

pub overflow_add-result-in-1 : goal.overflow_add-result-in-1
overflow_add-result-in-1 c =
    omega arith

pub overflow_add-result-in-1-2 : goal.overflow_add-result-in-1-2
overflow_add-result-in-1-2 c =
    omega arith

pub overflow_sub-result-in-2 : goal.overflow_sub-result-in-2
overflow_sub-result-in-2 c =
    omega (arith, c.requires.way_room.west c.in-2.is)

pub overflow_sub-result-in-2-2 : goal.overflow_sub-result-in-2-2
overflow_sub-result-in-2-2 c =
    omega (arith, c.requires.way_room.west c.in-2.is)

pub overflow_sub-result-in-2-3 : goal.overflow_sub-result-in-2-3
overflow_sub-result-in-2-3 c =
    omega (arith, c.requires.way_room.west c.in-2.is)

pub overflow_sub-result-in_default : goal.overflow_sub-result-in_default
overflow_sub-result-in_default c =
    omega (arith, south (goal.at.overflow_sub-result-in_default c).In_default)

pub overflow_sub-result-in_default-2 : goal.overflow_sub-result-in_default-2
overflow_sub-result-in_default-2 c =
    omega (arith, south (goal.at.overflow_sub-result-in_default-2 c).In_default)

pub overflow_add-result-in_default : goal.overflow_add-result-in_default
overflow_add-result-in_default c =
    omega (arith, south (goal.at.overflow_add-result-in_default c).In_default)

pub returns-in-0 : goal.returns-in-0
returns-in-0 c =
    rw c.in-0.is

pub returns-in-1 : goal.returns-in-1
returns-in-1 c =
    rw c.in-1.is

pub returns-in-2 : goal.returns-in-2
returns-in-2 c =
    rw c.in-2.is

pub returns-in_default : goal.returns-in_default
returns-in_default c =
    rw (three (goal.at.returns-in_default c).In_default)
