-- `first_combination` meets its contract. Each loop's invariant: no combination that is passed costs the goal.
-- Assumes nothing.
use mathlib.Core.Logic.{◌≢◌}
use Prim.Native.Nat.{◌+◌, ◌-◌}
use Rattle.theory.specs.engine.Loops.{Passed}
use Rattle.costs.specs.Rows.{combination_cost}
use Rattle.engine.proofs.first_combination.Given as goal

abbrev pub invariant-loop-c : goal.invariant-loop-c
invariant-loop-c l = Passed l.n1 l.n2 l.n3 (λ a' b' c'. combination_cost l.w l.o l.t.first l.k l.t.base a' b' c' ≢ l.t.goal) (l.a + 1) (l.b + 1) (l.c + 1)

abbrev pub decreases-loop-c : goal.decreases-loop-c
decreases-loop-c l = l.n3 - l.c

abbrev pub invariant-loop-b : goal.invariant-loop-b
invariant-loop-b l = Passed l.n1 l.n2 l.n3 (λ a' b' c'. combination_cost l.w l.o l.t.first l.k l.t.base a' b' c' ≢ l.t.goal) (l.a + 1) (l.b + 1) 1

abbrev pub decreases-loop-b : goal.decreases-loop-b
decreases-loop-b l = l.n2 - l.b

abbrev pub invariant-search : goal.invariant-search
invariant-search l = Passed l.n1 l.n2 l.n3 (λ a' b' c'. combination_cost l.w l.o l.t.first l.k l.t.base a' b' c' ≢ l.t.goal) (l.a + 1) 1 1

abbrev pub decreases-search : goal.decreases-search
decreases-search l = l.n1 - l.a
