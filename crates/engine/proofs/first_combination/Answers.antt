-- `first_combination` meets its contract. Each loop's invariant: no combination that is passed costs the goal.
-- Assumes nothing.
use mathlib.Core.Path.{◌≡◌}
use mathlib.Core.Bool.{true, false}
use mathlib.Core.Logic.{◌≢◌}
use Prim.Native.Nat.{ℕ, ◌+◌, ◌-◌, ◌≤◌}
use native.Mathlib.Omega.{arith}
use Rattle.theory.specs.engine.Loops.{HasTurn, passed_start, passed-turn, passed-inner, passed-middle, passed-all}
use Rattle.sets.specs.Mask.{span_of}
use Rattle.costs.specs.Rows.{combination_cost}
use Rattle.engine.proofs.Branches.{is-over, is_within, skip_first, skip-second, over_first, over-second, tested}
use Rattle.engine.proofs.Layers.{attained-of, first-combination}
use Rattle.engine.proofs.first_combination.Goals as goal
use Rattle.engine.proofs.first_combination.Goals.{After-reaches, At-loop-b, At-loop-c, At-search, In-loop-b, In-loop-c, In-search, Start}

-- the loop over the first branch: where it began, and how many layers each loop tries
module _ (l : At-search) where
  abbrev n₁ : ℕ
  n₁ = l.layers_tried-n1.result

  abbrev n₂ : ℕ
  n₂ = l.layers_tried-n2.result

  abbrev n₃ : ℕ
  n₃ = l.layers_tried-n3.result

  few : (n₁ ≤ 8) × (n₂ ≤ 8) × (n₃ ≤ 8)
  few = (l.layers_tried-n1.ensures.upper_bound, l.layers_tried-n2.ensures.upper_bound, l.layers_tried-n3.ensures.upper_bound)

  abbrev cost_of : ℕ → ℕ → ℕ → ℕ
  cost_of = combination_cost l.args.w.now l.args.o l.args.t.first l.args.k l.args.t.base

  abbrev Other : ℕ → ℕ → ℕ → Type 0
  Other a b c = cost_of a b c ≢ l.args.t.goal

  there : HasTurn n₁ n₂ n₃ cost_of l.args.t.goal
  there =
      let g = l.args in
      attained-of g.w.now g.o g.t.first g.k g.layers g.t.base g.t.goal n₁ n₂ n₃ l.layers_tried-n1.ensures.value l.layers_tried-n2.ensures.value l.layers_tried-n3.ensures.value
      l.requires.attained

-- the loop over the second branch, in a turn of the first
module _ (l : At-loop-b) where
  -- the first branch and the vias with it are within the goal
  within_first : span_of l.branch_mask-m1.result + l.branch_cost-p.result ≤ l.args.t.goal
  within_first =
      is_within l.exceeds.result l.args.t.goal (span_of l.branch_mask-m1.result + l.branch_cost-p.result) l.exceeds.ensures l.if-exceeds.false

-- the loop over the third branch, in a turn of the second
module _ (l : At-loop-c) where
  -- the second branch and the vias with it are within what the first leaves
  within-second : span_of l.branch_mask-m2.result + l.branch_cost-q.result ≤ l.args.t.goal - l.branch_cost-p.result
  within-second =
      is_within l.exceeds-in-loop-b.result (l.args.t.goal - l.branch_cost-p.result) (span_of l.branch_mask-m2.result + l.branch_cost-q.result)
      l.exceeds-in-loop-b.ensures l.if-exceeds-2.false

-- a combination is tested
module _ (x : After-reaches) where
  abbrev a : ℕ
  a = x.search.a

  abbrev b : ℕ
  b = x.loop-b.b

  abbrev last : ℕ
  last = x.loop-c.c

  test : (x.reaches.result ≡ true → cost_of (goal.at.After-reaches x).At-search (a + 1) (b + 1) (last + 1) ≡ x.args.t.goal) × (x.reaches.result ≡ false → Other (goal.at.After-reaches x).At-search (a + 1) (b + 1) (last + 1))
  test =
      let g = x.args in
      tested g.w.now g.o g.t.first g.k g.t.base g.t.goal x.requires.k_bound x.requires.base_bound a b last x.branch_cost-p.result x.branch_cost-q.result x.branch_cost-r.result x.branch_mask-m1.result x.branch_mask-m2.result x.branch_mask-m3.result
      x.branch_cost-p.ensures x.branch_cost-q.ensures x.branch_cost-r.ensures x.branch_mask-m1.ensures.value x.branch_mask-m2.ensures.value x.branch_mask-m3.ensures.value (omega (arith, within_first (goal.at.After-reaches x).At-loop-b)) (omega (arith, within-second (goal.at.After-reaches x).At-loop-c)) x.reaches.result x.reaches.ensures

pub search-init : goal.search-init
search-init c =
    passed_start _ _ _ _

pub search-preserved-then-exceeds : goal.search-preserved-then-exceeds
search-preserved-then-exceeds c =
    let g = c.args in
    skip_first (n₁ (goal.at.search-preserved-then-exceeds c).At-search) (n₂ (goal.at.search-preserved-then-exceeds c).At-search) (n₃ (goal.at.search-preserved-then-exceeds c).At-search) (Other (goal.at.search-preserved-then-exceeds c).At-search) (c.search.a + 1)
    (over_first g.w.now g.o g.t.first g.k g.t.base g.t.goal c.requires.k_bound c.requires.base_bound (n₁ (goal.at.search-preserved-then-exceeds c).At-search) (n₂ (goal.at.search-preserved-then-exceeds c).At-search) (n₃ (goal.at.search-preserved-then-exceeds c).At-search) c.search.a c.branch_cost-p.result c.branch_mask-m1.result (few (goal.at.search-preserved-then-exceeds c).At-search).1 (few (goal.at.search-preserved-then-exceeds c).At-search).2 (omega (arith, (goal.at.search-preserved-then-exceeds c).In-search, few (goal.at.search-preserved-then-exceeds c).At-search)) c.branch_cost-p.ensures c.branch_mask-m1.ensures.value
    (is-over c.exceeds.result g.t.goal (span_of c.branch_mask-m1.result + c.branch_cost-p.result) c.exceeds.ensures c.if-exceeds.true))
    c.search.invariant

pub loop-b-init : goal.loop-b-init
loop-b-init c =
    c.search.invariant

pub overflow_sub-t : goal.overflow_sub-t
overflow_sub-t c =
    omega (arith, within_first (goal.at.overflow_sub-t c).At-loop-b)

pub loop-b-preserved-then-exceeds-2 : goal.loop-b-preserved-then-exceeds-2
loop-b-preserved-then-exceeds-2 c =
    let g = c.args in
    skip-second (n₁ (goal.at.loop-b-preserved-then-exceeds-2 c).At-search) (n₂ (goal.at.loop-b-preserved-then-exceeds-2 c).At-search) (n₃ (goal.at.loop-b-preserved-then-exceeds-2 c).At-search) (Other (goal.at.loop-b-preserved-then-exceeds-2 c).At-search) (c.search.a + 1) (c.loop-b.b + 1)
    (over-second g.w.now g.o g.t.first g.k g.t.base g.t.goal c.requires.k_bound c.requires.base_bound (n₁ (goal.at.loop-b-preserved-then-exceeds-2 c).At-search) (n₂ (goal.at.loop-b-preserved-then-exceeds-2 c).At-search) (n₃ (goal.at.loop-b-preserved-then-exceeds-2 c).At-search) c.search.a c.loop-b.b c.branch_cost-p.result c.branch_cost-q.result c.branch_mask-m1.result c.branch_mask-m2.result (few (goal.at.loop-b-preserved-then-exceeds-2 c).At-search).2
    (omega (arith, (goal.at.loop-b-preserved-then-exceeds-2 c).In-search, few (goal.at.loop-b-preserved-then-exceeds-2 c).At-search)) (omega (arith, (goal.at.loop-b-preserved-then-exceeds-2 c).In-loop-b, few (goal.at.loop-b-preserved-then-exceeds-2 c).At-search)) c.branch_cost-p.ensures c.branch_cost-q.ensures c.branch_mask-m1.ensures.value c.branch_mask-m2.ensures.value
    (is-over c.exceeds-in-loop-b.result (g.t.goal - c.branch_cost-p.result) (span_of c.branch_mask-m2.result + c.branch_cost-q.result) c.exceeds-in-loop-b.ensures c.if-exceeds-2.true))
    c.loop-b.invariant

pub loop-c-init : goal.loop-c-init
loop-c-init c =
    c.loop-b.invariant

pub branch_cost-r-requires : goal.branch_cost-r-requires
branch_cost-r-requires c =
    record { k_bound = omega (arith, (goal.at.branch_cost-r-requires c).Start, few (goal.at.branch_cost-r-requires c).At-search); first_bound = omega (arith, (goal.at.branch_cost-r-requires c).Start, few (goal.at.branch_cost-r-requires c).At-search); k_in_bounds = omega (arith, (goal.at.branch_cost-r-requires c).Start, few (goal.at.branch_cost-r-requires c).At-search) }

pub branch_mask-m3-requires : goal.branch_mask-m3-requires
branch_mask-m3-requires c =
    record { l_bound = omega (arith, (goal.at.branch_mask-m3-requires c).Start, few (goal.at.branch_mask-m3-requires c).At-search); mask_bound = omega (arith, (goal.at.branch_mask-m3-requires c).Start, few (goal.at.branch_mask-m3-requires c).At-search) }

pub overflow_sub-t-in-loop-c : goal.overflow_sub-t-in-loop-c
overflow_sub-t-in-loop-c c =
    omega (arith, within_first (goal.at.overflow_sub-t-in-loop-c c).At-loop-b)

pub overflow_sub-t-in-loop-c-2 : goal.overflow_sub-t-in-loop-c-2
overflow_sub-t-in-loop-c-2 c =
    omega (arith, within-second (goal.at.overflow_sub-t-in-loop-c-2 c).At-loop-c)

pub reaches-requires : goal.reaches-requires
reaches-requires c =
    omega arith

pub overflow_add-x : goal.overflow_add-x
overflow_add-x c =
    omega (arith, (goal.at.overflow_add-x c).In-search, few (goal.at.overflow_add-x c).At-search)

pub overflow_add-y : goal.overflow_add-y
overflow_add-y c =
    omega (arith, (goal.at.overflow_add-y c).In-loop-b, few (goal.at.overflow_add-y c).At-search)

pub overflow_add-z : goal.overflow_add-z
overflow_add-z c =
    omega (arith, (goal.at.overflow_add-z c).In-loop-c, few (goal.at.overflow_add-z c).At-search)

pub overflow_step-c : goal.overflow_step-c
overflow_step-c c =
    omega (arith, (goal.at.overflow_step-c c).In-loop-c, few (goal.at.overflow_step-c c).At-search)

pub loop-c-preserved : goal.loop-c-preserved
loop-c-preserved c =
    passed-turn (n₁ (goal.at.loop-c-preserved c).At-search) (n₂ (goal.at.loop-c-preserved c).At-search) (n₃ (goal.at.loop-c-preserved c).At-search) (Other (goal.at.loop-c-preserved c).At-search) (a (goal.at.loop-c-preserved c).After-reaches + 1) (b (goal.at.loop-c-preserved c).After-reaches + 1) (last (goal.at.loop-c-preserved c).After-reaches + 1) c.loop-c.invariant ((test (goal.at.loop-c-preserved c).After-reaches).1 c.if-reaches.false)

pub loop-b-preserved : goal.loop-b-preserved
loop-b-preserved c =
    passed-inner (n₁ (goal.at.loop-b-preserved c).At-search) (n₂ (goal.at.loop-b-preserved c).At-search) (n₃ (goal.at.loop-b-preserved c).At-search) (Other (goal.at.loop-b-preserved c).At-search) (c.search.a + 1) (c.loop-b.b + 1) (c.loop-c.c + 1) (omega arith) c.loop-c.invariant

pub search-preserved : goal.search-preserved
search-preserved c =
    passed-middle (n₁ (goal.at.search-preserved c).At-search) (n₂ (goal.at.search-preserved c).At-search) (n₃ (goal.at.search-preserved c).At-search) (Other (goal.at.search-preserved c).At-search) (c.search.a + 1) (c.loop-b.b + 1) (omega arith) c.loop-b.invariant

pub returns-after-search : goal.returns-after-search
returns-after-search c =
    let h = there (goal.at.returns-after-search c).At-search in
    absurd (passed-all (n₁ (goal.at.returns-after-search c).At-search) (n₂ (goal.at.returns-after-search c).At-search) (n₃ (goal.at.returns-after-search c).At-search) (Other (goal.at.returns-after-search c).At-search) (c.search.a + 1) (omega arith) c.search.invariant h.a h.b h.c h.turn h.costs)

pub returns-then-reaches : goal.returns-then-reaches
returns-then-reaches c =
    let g = c.args in
    first-combination g.w.now g.o g.t.first g.k g.layers g.t.base g.t.goal (n₁ (goal.at.returns-then-reaches c).At-search) (n₂ (goal.at.returns-then-reaches c).At-search) (n₃ (goal.at.returns-then-reaches c).At-search) (a (goal.at.returns-then-reaches c).After-reaches + 1) (b (goal.at.returns-then-reaches c).After-reaches + 1) (last (goal.at.returns-then-reaches c).After-reaches + 1)
    c.layers_tried-n1.ensures.value c.layers_tried-n2.ensures.value c.layers_tried-n3.ensures.value
    (record { turn = omega (arith, (goal.at.returns-then-reaches c).In-search, (goal.at.returns-then-reaches c).In-loop-b, (goal.at.returns-then-reaches c).In-loop-c); costs = (test (goal.at.returns-then-reaches c).After-reaches).0 c.if-reaches.true; none = c.loop-c.invariant })
