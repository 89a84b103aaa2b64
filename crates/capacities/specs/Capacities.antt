-- The capacities as they stand in the working numbers: K to an edge, edge e's on layer l at e × K + (l − 1).
-- Assumes nothing.
use Rattle.std.specs.Prelude.{◌≡◌, List, [], ◌∷◌, ℕ, zero, suc, ◌+◌, ◌-◌, ◌*◌, ◌≤◌, ◌<◌, get_or}
use Rattle.std.proofs.Common.{sym, ap, ◌∙◌, not-suc-le-zero, suc-mul, zero-mul, add-zero, arith}
use Rattle.model.specs.Job.{Job, capacity}
use Rattle.layout.specs.declared.shape.Shape.{Shape}
use Rattle.capacities.specs.Spread.{spread}

-- n of the numbers, each k places after the one before, the first at `at`
abbrev pub column : ℕ → List ℕ → ℕ → ℕ → List ℕ
column k w at zero = []
column k w at (suc n) = get_or w at 0 ∷ column k w (at + k) n

-- m columns of n numbers, the first of them at l
abbrev pub columns : ℕ → ℕ → List ℕ → ℕ → ℕ → List (List ℕ)
columns k n w l zero = []
columns k n w l (suc m) = column k w l n ∷ columns k n w (suc l) m

-- for each layer, from 1 up, the capacities of its edges
abbrev pub capacities_of : Shape → List ℕ → List (List ℕ)
capacities_of g w = columns g.k g.e w 0 g.k

-- lists stored so, the first of them at l
abbrev pub spread_all : ℕ → List ℕ → ℕ → List (List ℕ) → List ℕ
spread_all k w l [] = w
spread_all k w l (c ∷ cs) = spread_all k (spread k w l c) (suc l) cs

-- ---- one capacity

column-at : (k : ℕ) (w : List ℕ) (at n e : ℕ) → e < n → get_or (column k w at n) e 0 ≡ get_or w (at + e * k) 0
column-at k w at zero e h = absurd (not-suc-le-zero h)
column-at k w at (suc n) zero h = rw (zero-mul k, add-zero at)
column-at k w at (suc n) (suc e) h =
    column-at k w (at + k) n e (omega arith) ∙ ap (λ (p : ℕ). get_or w p 0) (omega (arith, suc-mul e k))

columns-at : (k n : ℕ) (w : List ℕ) (l m i : ℕ) → i < m → get_or (columns k n w l m) i [] ≡ column k w (l + i) n
columns-at k n w l zero i h = absurd (not-suc-le-zero h)
columns-at k n w l (suc m) zero h = rw (add-zero l)
columns-at k n w l (suc m) (suc i) h = columns-at k n w (suc l) m i (omega arith) ∙ ap (λ (p : ℕ). column k w p n) (omega arith)

-- the capacity of edge e on layer l
pub capacity-at : (g : Shape) (w : List ℕ) (e l : ℕ) → e < g.e → 1 ≤ l → l ≤ g.k →
    get_or w (e * g.k + (l - 1)) 0 ≡ get_or (get_or (capacities_of g w) (l - 1) []) e 0
capacity-at g w e l h a b =
    sym (ap (λ (c : List ℕ). get_or c e 0) (columns-at g.k g.e w 0 g.k (l - 1) (omega arith)) ∙ column-at g.k w (0 + (l - 1)) g.e e h
    ∙ ap (λ (p : ℕ). get_or w p 0) (omega arith))

pub capacity-in : (j : Job) (g : Shape) (w : List ℕ) → j.capacities ≡ capacities_of g w → (e l : ℕ) → e < g.e → 1 ≤ l → l ≤ g.k →
    capacity j e l ≡ get_or w (e * g.k + (l - 1)) 0
capacity-in j g w c e l h a b = ap (λ (cs : List (List ℕ)). get_or (get_or cs (l - 1) []) e 0) c ∙ sym (capacity-at g w e l h a b)
