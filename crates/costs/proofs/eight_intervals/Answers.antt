-- `eight_intervals` meets its contract. After each start c has the least cost of the intervals that start there or below.
-- Assumes nothing.
use mathlib.Core.Path.{◌≡◌, refl}
use mathlib.Core.Logic.{◌≢◌}
use Prim.Native.Nat.{ℕ, ◌≤◌}
use native.Mathlib.Omega.{arith}
use lib.ListN.{get_or-replicate}
use Rattle.costs.specs.Rows.{illegal_cost}
use Rattle.costs.proofs.Steps.{around-none, around-end}
use Rattle.costs.proofs.eight_intervals.Goals as goal
use Rattle.costs.proofs.eight_intervals.Goals.{After-take_start-8}

-- a number from 1 to 8 that is none of the first seven
past-four : (x : ℕ) → 1 ≤ x → x ≢ 1 → x ≢ 2 → x ≢ 3 → x ≢ 4 → 5 ≤ x
past-four x p a b d e = omega arith

past-seven : (x : ℕ) → 5 ≤ x → x ≤ 8 → x ≢ 5 → x ≢ 6 → x ≢ 7 → x ≡ 8
past-seven x p q a b d = omega arith

last : (c : After-take_start-8) → c.args.starts ≡ 8
last c =
    past-seven c.args.starts
    (past-four c.args.starts c.requires.k_bound.1 c.if-starts-eq1.false c.if-starts-eq2.false c.if-starts-eq3.false c.if-starts-eq4.false)
    c.requires.k_bound.2 c.if-starts-eq5.false c.if-starts-eq6.false c.if-starts-eq7.false

pub take_start-requires : goal.take_start-requires
take_start-requires c =
    let g = c.args in record { count_bound = (omega arith, omega arith, omega arith); first_bound = (omega arith, omega arith); count_in_bounds = omega arith; eight = around-none g.w.now g.o g.first g.k 8 g.starts g.high _ refl (λ b h. get_or-replicate 8 b illegal_cost 0 h) (omega arith) }

pub returns-then-starts-eq1 : goal.returns-then-starts-eq1
returns-then-starts-eq1 c =
    around-end _ _ _ _ _ 1 _ _ c.if-starts-eq1.true c.take_start.ensures

pub take_start-requires-2 : goal.take_start-requires-2
take_start-requires-2 c =
    record { count_bound = (c.requires.k_bound.0, omega arith, omega arith); first_bound = c.requires.first_bound; count_in_bounds = c.requires.k_in_bounds; eight = c.take_start.ensures }

pub returns-then-starts-eq2 : goal.returns-then-starts-eq2
returns-then-starts-eq2 c =
    around-end _ _ _ _ _ 2 _ _ c.if-starts-eq2.true c.take_start-2.ensures

pub take_start-requires-3 : goal.take_start-requires-3
take_start-requires-3 c =
    record { count_bound = (c.requires.k_bound.0, omega arith, omega arith); first_bound = c.requires.first_bound; count_in_bounds = c.requires.k_in_bounds; eight = c.take_start-2.ensures }

pub returns-then-starts-eq3 : goal.returns-then-starts-eq3
returns-then-starts-eq3 c =
    around-end _ _ _ _ _ 3 _ _ c.if-starts-eq3.true c.take_start-3.ensures

pub take_start-requires-4 : goal.take_start-requires-4
take_start-requires-4 c =
    record { count_bound = (c.requires.k_bound.0, omega arith, omega arith); first_bound = c.requires.first_bound; count_in_bounds = c.requires.k_in_bounds; eight = c.take_start-3.ensures }

pub returns-then-starts-eq4 : goal.returns-then-starts-eq4
returns-then-starts-eq4 c =
    around-end _ _ _ _ _ 4 _ _ c.if-starts-eq4.true c.take_start-4.ensures

pub take_start-requires-5 : goal.take_start-requires-5
take_start-requires-5 c =
    record { count_bound = (c.requires.k_bound.0, omega arith, omega arith); first_bound = c.requires.first_bound; count_in_bounds = c.requires.k_in_bounds; eight = c.take_start-4.ensures }

pub returns-then-starts-eq5 : goal.returns-then-starts-eq5
returns-then-starts-eq5 c =
    around-end _ _ _ _ _ 5 _ _ c.if-starts-eq5.true c.take_start-5.ensures

pub take_start-requires-6 : goal.take_start-requires-6
take_start-requires-6 c =
    record { count_bound = (c.requires.k_bound.0, omega arith, omega arith); first_bound = c.requires.first_bound; count_in_bounds = c.requires.k_in_bounds; eight = c.take_start-5.ensures }

pub returns-then-starts-eq6 : goal.returns-then-starts-eq6
returns-then-starts-eq6 c =
    around-end _ _ _ _ _ 6 _ _ c.if-starts-eq6.true c.take_start-6.ensures

pub take_start-requires-7 : goal.take_start-requires-7
take_start-requires-7 c =
    record { count_bound = (c.requires.k_bound.0, omega arith, omega arith); first_bound = c.requires.first_bound; count_in_bounds = c.requires.k_in_bounds; eight = c.take_start-6.ensures }

pub returns-then-starts-eq7 : goal.returns-then-starts-eq7
returns-then-starts-eq7 c =
    around-end _ _ _ _ _ 7 _ _ c.if-starts-eq7.true c.take_start-7.ensures

pub take_start-requires-8 : goal.take_start-requires-8
take_start-requires-8 c =
    record { count_bound = (c.requires.k_bound.0, omega arith, omega arith); first_bound = c.requires.first_bound; count_in_bounds = c.requires.k_in_bounds; eight = c.take_start-7.ensures }

pub returns : goal.returns
returns c =
    around-end _ _ _ _ _ 8 _ _ (last (goal.at.returns c).After-take_start-8) c.take_start-8.ensures
