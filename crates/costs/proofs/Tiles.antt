-- The ways to a tile's costs: without branches, with branches and no pin, and over intervals.
-- Assumes nothing.
use mathlib.Core.Path.{◌≡◌, sym, subst}
use mathlib.Core.List.{List}
use Prim.Native.Nat.{ℕ, suc, ◌+◌, ◌-◌, ◌*◌, ◌≤◌, ◌<◌}
use native.Mathlib.Omega.{arith}
use lib.ListN.{get_or}
use Rattle.sets.specs.Mask.{with_layer, span_of}
use Rattle.costs.specs.Rows.{Eight, LeastCost, TileCosts, LayerMask}
use Rattle.costs.specs.Intervals.{around, PinEnds}
use Rattle.costs.specs.Sweeps.{swept, met, pair_met, triple_met}
use Rattle.costs.proofs.Around.{around-least}
use Rattle.costs.proofs.Meets.{swept-least, pair-least, triple-least, pin-least, leaf-least}
use Rattle.costs.proofs.Steps.{ends-one}

-- by layers from 0
by-layer : (w : List ℕ) (o first k K pins : ℕ) (c : List ℕ) → ((b : ℕ) → b < K → LeastCost w o first k K (with_layer pins (suc b)) (get_or c b 0)) → TileCosts w o first k K pins c
by-layer w o first k K pins c h l p q =
    let e : suc (l - 1) ≡ l = omega arith in
    subst (λ (x : ℕ). LeastCost w o first k K (with_layer pins x) (get_or c (l - 1) 0)) e (h (l - 1) (omega arith))

pub leaf-costs : (w : List ℕ) (o first k K pins : ℕ) (c : List ℕ) → k ≡ 0 → 1 ≤ K → K ≤ 8 → Eight c (λ l. span_of (with_layer pins (suc l))) 0 8 → TileCosts w o first k K pins c
leaf-costs w o first k K pins c e some deep p =
    by-layer w o first k K pins c (λ b h. rw e (leaf-least w o first K (with_layer pins (suc b)) (get_or c b 0) some (p.at b (omega arith) (omega arith))))

pub sweep-costs : (w : List ℕ) (o first k K pins : ℕ) (c : List ℕ) → k ≡ 1 → pins ≡ 0 → K ≤ 8
    → Eight c (swept (λ u. get_or w (o + 8 * first + u) 0) K) 0 K → TileCosts w o first k K pins c
sweep-costs w o first k K pins c e e' deep p = by-layer w o first k K pins c (λ b h. rw (e, e', p.at b (omega arith) h) (swept-least w o first K b deep h))

pub pair-costs : (w : List ℕ) (o first k K pins : ℕ) (c : List ℕ) → k ≡ 2 → pins ≡ 0 → K ≤ 8
    → Eight c (pair_met (λ u. get_or w (o + 8 * first + u) 0) (λ u. get_or w (o + 8 * first + 8 + u) 0) K) 0 K → TileCosts w o first k K pins c
pair-costs w o first k K pins c e e' deep p = by-layer w o first k K pins c (λ b h. rw (e, e', p.at b (omega arith) h) (pair-least w o first K b deep h))

pub triple-costs : (w : List ℕ) (o first k K pins : ℕ) (c : List ℕ) → k ≡ 3 → pins ≡ 0 → K ≤ 8
    → Eight c (triple_met (λ u. get_or w (o + 8 * first + u) 0) (λ u. get_or w (o + 8 * first + 8 + u) 0) (λ u. get_or w (o + 8 * first + 16 + u) 0) K) 0 K → TileCosts w o first k K pins c
triple-costs w o first k K pins c e e' deep p = by-layer w o first k K pins c (λ b h. rw (e, e', p.at b (omega arith) h) (triple-least w o first K b deep h))

pub interval-costs : (w : List ℕ) (o first k K pins starts high : ℕ) (c : List ℕ) → k ≤ 3 → 1 ≤ K → K ≤ 8 → LayerMask K pins → PinEnds K pins starts high
    → Eight c (around w o first k K starts high) 0 K → TileCosts w o first k K pins c
interval-costs w o first k K pins starts high c few some deep mask ends p =
    by-layer w o first k K pins c (λ b h. rw (p.at b (omega arith) h) (around-least w o first k K pins starts high b few some deep mask ends h))

pub pin-costs : (w : List ℕ) (o first k pins starts high : ℕ) (c : List ℕ) → k ≡ 1 → LayerMask 8 pins → PinEnds 8 pins starts high → starts ≡ high + 1
    → Eight c (met (swept (λ u. get_or w (o + 8 * first + u) 0) 8) (λ l. span_of (with_layer pins (suc l))) 8) 0 8 → TileCosts w o first k 8 pins c
pin-costs w o first k pins starts high c e mask ends one p =
    by-layer w o first k 8 pins c
    (λ b h. rw (e, p.at b (omega arith) h) (pin-least w o first 8 b (omega arith) h pins high ends.top (ends-one pins starts high mask ends one)))

-- the same where the number of branches is given as a number of its own
pub interval-costs-of : (w : List ℕ) (o first k n pins starts high : ℕ) (c : List ℕ) → k ≡ n → n ≤ 3 → LayerMask 8 pins → PinEnds 8 pins starts high
    → Eight c (around w o first n 8 starts high) 0 8 → TileCosts w o first k 8 pins c
interval-costs-of w o first k n pins starts high c e few mask ends p =
    subst (λ (x : ℕ). TileCosts w o first x 8 pins c) (sym e) (interval-costs w o first n 8 pins starts high c few (omega arith) (omega arith) mask ends p)
