-- `score` meets its contract.
-- Assumes nothing.
use Prim.Native.Nat.{ℕ, ◌*◌, ◌≤◌}
use native.Mathlib.Nat.{mul-le-mul}
use native.Mathlib.Omega.{arith}
use Rattle.order.proofs.score.Goals as goal
use Rattle.order.proofs.score.Goals.{Start}

-- a thousand weights of numbers that are at most m
weighed : (a b m : ℕ) → a ≤ 255 → b ≤ m → 1000 * a * b ≤ 255000 * m
weighed a b m h k = let p : 1000 * a ≤ 255000 = omega arith in mul-le-mul p k

small-pins : (x : Start) → x.args.a.beta ≤ 255 → x.args.pins ≤ 1048576 → 1000 * x.args.a.beta * x.args.pins ≤ 255000 * 1048576
small-pins x h k = weighed x.args.a.beta x.args.pins 1048576 h k

small-demand : (x : Start) → x.args.a.gamma ≤ 255 → x.args.x.demand ≤ 4294967296 → 1000 * x.args.a.gamma * x.args.x.demand ≤ 255000 * 4294967296
small-demand x h k = weighed x.args.a.gamma x.args.x.demand 4294967296 h k

pub overflow_mul-result-2 : goal.overflow_mul-result-2
overflow_mul-result-2 c =
    omega (arith, small-pins (goal.at.overflow_mul-result-2 c).Start (omega arith) (omega arith))

pub overflow_add-result : goal.overflow_add-result
overflow_add-result c =
    omega (arith, small-pins (goal.at.overflow_add-result c).Start (omega arith) (omega arith))

pub overflow_mul-a-3 : goal.overflow_mul-a-3
overflow_mul-a-3 c =
    omega (arith, small-demand (goal.at.overflow_mul-a-3 c).Start (omega arith) (omega arith))

pub overflow_add-result-2 : goal.overflow_add-result-2
overflow_add-result-2 c =
    omega (
      arith,
      small-pins (goal.at.overflow_add-result-2 c).Start (omega arith) (omega arith),
      small-demand (goal.at.overflow_add-result-2 c).Start (omega arith) (omega arith),
      c.floor_of.ensures.value,
      c.floor_of.ensures.upper_bound,
      c.floor_of-2.ensures.value,
      c.floor_of-2.ensures.upper_bound,
    )

pub returns : goal.returns
returns c =
    record { value = omega (arith, c.floor_of.ensures.value, c.floor_of-2.ensures.value); upper_bound = omega (arith, c.floor_of.ensures.upper_bound, c.floor_of-2.ensures.upper_bound, small-pins (goal.at.returns c).Start (omega arith) (omega arith), small-demand (goal.at.returns c).Start (omega arith) (omega arith), c.requires) }
