-- `fill_row` meets its contract. One number more is written.
-- Assumes nothing.
use mathlib.Core.List.{List}
use mathlib.Core.Logic.{◌⊎◌, inl, inr}
use mathlib.Core.Path.{◌≡◌, refl, ◌∙◌}
use Prim.Native.Nat.{ℕ, ◌+◌, ◌*◌, ◌≤◌, ◌<◌}
use native.Mathlib.Omega.{arith}
use lib.ListN.{get_or, length, set, length-set}
use lib.Seq.{get_or-set_same, get_or-set_other}
use Rattle.theory.specs.congestion.Sums.{lt-or-ge}
use Rattle.sets.specs.Mask.{Rowed}
use Rattle.sets.proofs.fill_row.Goals as goal

-- one number more
rowed-more : (row : List ℕ) (r n : ℕ) (c d : List ℕ) → Rowed row r n c d → 16 * r + n < length d → (x : ℕ) → x ≡ get_or row n 0 → Rowed row r (n + 1) c (set d (16 * r + n) x)
rowed-more row r n c d h l x e = record {
  long = length-set d (16 * r + n) x ∙ h.long;
  written = λ i p. go i p (lt-or-ge i n);
  before = λ t p. get_or-set_other d (16 * r + n) t x 0 (λ z. omega (arith, z)) ∙ h.before t p;
}
  where
    go : (i : ℕ) → i < n + 1 → (i < n) ⊎ (n ≤ i) → get_or (set d (16 * r + n) x) (16 * r + i) 0 ≡ get_or row i 0
    go i p (inl k) = get_or-set_other d (16 * r + n) (16 * r + i) x 0 (λ z. omega (arith, z)) ∙ h.written i k
    go i p (inr k) = let q : i ≡ n = omega arith in rw q (get_or-set_same d (16 * r + n) x 0 l ∙ e)

pub loop-i-init : goal.loop-i-init
loop-i-init c =
    record { long = refl; written = λ i h. absurd (omega arith); before = λ t h. refl }

pub loop-i-preserved : goal.loop-i-preserved
loop-i-preserved c = rowed-more _ _ _ _ _ c.loop-i.invariant (omega (arith, c.loop-i.invariant.long)) _ refl

pub returns : goal.returns
returns c =
    let w = c.loop-i.invariant in record { long = w.long; written = λ i h. w.written i (omega arith); before = w.before }
