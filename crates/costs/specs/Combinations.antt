-- Combinations as lists: a list of k layers from 1 to K for a tile's k branches, k at most 3.
-- Assumes nothing.
use Rattle.std.specs.Prelude.{◌≡◌, refl, List, [], ◌∷◌, ℕ, zero, suc, ◌≤◌, length}
use Rattle.std.proofs.Common.{arith, length-take-le}
use Rattle.theory.specs.congestion.Sums.{in_head, in_tail}
use Rattle.theory.specs.engine.Loops.{comb, Turn}
use Rattle.theory.specs.engine.Span.{Covers, covers-cons}
use Rattle.costs.specs.Rows.{layers_tried}

pub comb-length : (k a b c : ℕ) → k ≤ 3 → length (comb k a b c) ≡ k
comb-length k a b c h = length-take-le k (a ∷ b ∷ c ∷ []) h

pub covers-none : (lo hi : ℕ) → Covers lo hi []
covers-none lo hi x i = absurd (omega arith)

module _ (lo hi : ℕ) where
  pub covers-comb : (k a b c : ℕ) → (lo ≤ a) × (a ≤ hi) → (lo ≤ b) × (b ≤ hi) → (lo ≤ c) × (c ≤ hi) → Covers lo hi (comb k a b c)
  covers-comb zero a b c p q r = covers-none lo hi
  covers-comb (suc zero) a b c p q r = covers-cons lo hi a [] p.0 p.1 (covers-none lo hi)
  covers-comb (suc (suc zero)) a b c p q r = covers-cons lo hi a (b ∷ []) p.0 p.1 (covers-cons lo hi b [] q.0 q.1 (covers-none lo hi))
  covers-comb (suc (suc (suc zero))) a b c p q r =
      covers-cons lo hi a (b ∷ c ∷ []) p.0 p.1 (covers-cons lo hi b (c ∷ []) q.0 q.1 (covers-cons lo hi c [] r.0 r.1 (covers-none lo hi)))
  covers-comb (suc (suc (suc (suc k)))) a b c p q r =
      covers-cons lo hi a (b ∷ c ∷ []) p.0 p.1 (covers-cons lo hi b (c ∷ []) q.0 q.1 (covers-cons lo hi c [] r.0 r.1 (covers-none lo hi)))

-- every such list is a turn of the loops
pub choice-turn : (K : ℕ) (z : List ℕ) → 1 ≤ K → length z ≤ 3 → Covers 1 K z
    → (a : ℕ) × (b : ℕ) × (c : ℕ) × Turn (layers_tried 1 (length z) K) (layers_tried 2 (length z) K) (layers_tried 3 (length z) K) a b c × (comb (length z) a b c ≡ z)
choice-turn K [] some few h = (1, 1, 1, (omega arith, omega arith, omega arith, omega arith, omega arith, omega arith), refl)
choice-turn K (a ∷ []) some few h =
    let p = h a (in_head a []) in
    (a, 1, 1, (p.0, p.1, omega arith, omega arith, omega arith, omega arith), refl)
choice-turn K (a ∷ b ∷ []) some few h =
    let p = h a (in_head a (b ∷ [])) in
    let q = h b (in_tail b a (b ∷ []) (in_head b [])) in
    (a, b, 1, (p.0, p.1, q.0, q.1, omega arith, omega arith), refl)
choice-turn K (a ∷ b ∷ c ∷ []) some few h =
    let p = h a (in_head a (b ∷ c ∷ [])) in
    let q = h b (in_tail b a (b ∷ c ∷ []) (in_head b (c ∷ []))) in
    let r = h c (in_tail c a (b ∷ c ∷ []) (in_tail c b (c ∷ []) (in_head c []))) in
    (a, b, c, (p.0, p.1, q.0, q.1, r.0, r.1), refl)
choice-turn K (a ∷ b ∷ c ∷ d ∷ z) some few h = absurd (omega arith)
