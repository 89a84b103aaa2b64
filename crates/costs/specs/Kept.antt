-- What stays where only other numbers are written: the costs of combinations, the least costs, the shape of the tree.
-- Assumes nothing.
use Rattle.std.specs.Prelude.{◌≡◌, refl, List, Bool, true, false, ◌⊎◌, ℕ, suc, ◌+◌, ◌-◌, ◌*◌, ◌≤◌, ◌<◌, T, leb, get_or, take, drop}
use Rattle.std.proofs.Common.{sym, ap, ◌∙◌, subst, inl, inr, arith, leb→le, le→leb, get_or-take, get_or-drop, drop-drop}
use Rattle.theory.specs.congestion.Sums.{lt-or-ge}
use Rattle.theory.specs.engine.Table.{Agree, below-same}
use Rattle.theory.specs.engine.Loops.{comb, Turn, TurnLeast}
use Rattle.sets.specs.Mask.{with_layer}
use Rattle.costs.specs.Rows.{illegal_cost, row_at, combination_cost, layers_tried, LeastCost, RowEntry, LayerMask, Shape, RowsFrom}

-- ---- the same numbers elsewhere

pub same_drop : (n : ℕ) (w w' : List ℕ) → drop n w' ≡ drop n w → (p : ℕ) → n ≤ p → get_or w' p 0 ≡ get_or w p 0
same_drop n w w' e p h =
    let q : n + (p - n) ≡ p = omega arith in
    subst (λ (t : ℕ). get_or w' t 0 ≡ get_or w t 0) q (sym (get_or-drop n w' (p - n) 0) ∙ ap (λ (l : List ℕ). get_or l (p - n) 0) e ∙ get_or-drop n w (p - n) 0)

pub same-take : (n : ℕ) (w w' : List ℕ) → take n w' ≡ take n w → (p : ℕ) → p < n → get_or w' p 0 ≡ get_or w p 0
same-take n w w' e p h = sym (get_or-take n w' p 0 h) ∙ ap (λ (l : List ℕ). get_or l p 0) e ∙ get_or-take n w p 0 h

-- and further on
pub drop_more : (a b : ℕ) (w w' : List ℕ) → a ≤ b → drop a w' ≡ drop a w → drop b w' ≡ drop b w
drop_more a b w w' h e =
    let q : a + (b - a) ≡ b = omega arith in
    subst (λ (t : ℕ). drop t w' ≡ drop t w) q (sym (drop-drop (b - a) a w') ∙ ap (drop (b - a)) e ∙ drop-drop (b - a) a w)

pub agree-drop : (w w' : List ℕ) (o i : ℕ) → drop (o + 8 * i + 8) w' ≡ drop (o + 8 * i + 8) w → (c : ℕ) → suc i ≤ c → Agree (row_at w' o) (row_at w o) c
agree-drop w w' o i e c g j h r = same_drop (o + 8 * i + 8) w w' e (o + 8 * j + (r - 1)) (omega arith)

pub least-cong : (n₁ n₂ n₃ : ℕ) (cost cost' : ℕ → ℕ → ℕ → ℕ) (top v : ℕ) → ((a b c : ℕ) → Turn n₁ n₂ n₃ a b c → cost' a b c ≡ cost a b c)
    → TurnLeast n₁ n₂ n₃ cost top v → TurnLeast n₁ n₂ n₃ cost' top v
least-cong n₁ n₂ n₃ cost cost' top v h t = record { low = λ a b c u. omega (arith, h a b c u, t.low a b c u); hit = go t.hit }
  where
    go : (v ≡ top) ⊎ ((a : ℕ) × (b : ℕ) × (c : ℕ) × Turn n₁ n₂ n₃ a b c × (cost a b c ≡ v))
        → (v ≡ top) ⊎ ((a : ℕ) × (b : ℕ) × (c : ℕ) × Turn n₁ n₂ n₃ a b c × (cost' a b c ≡ v))
    go (inl e) = inl e
    go (inr r) = inr (r.0, r.1, r.2, r.3, h r.0 r.1 r.2 r.3 ∙ r.4)

module _ (w w' : List ℕ) (o first k K : ℕ) (same : Agree (row_at w' o) (row_at w o) first) where
  pub cost-kept : (base a b c : ℕ) → combination_cost w' o first k base a b c ≡ combination_cost w o first k base a b c
  cost-kept base a b c = omega (arith, below-same (row_at w' o) (row_at w o) first same (comb k a b c))

  pub least_kept : (base v : ℕ) → LeastCost w o first k K base v → LeastCost w' o first k K base v
  least_kept base v t =
      least-cong (layers_tried 1 k K) (layers_tried 2 k K) (layers_tried 3 k K) (combination_cost w o first k base) (combination_cost w' o first k base) illegal_cost v (λ a b c u. cost-kept base a b c) t

  pub entry_kept : (pins legal l v : ℕ) → RowEntry w o first k K pins legal l v → RowEntry w' o first k K pins legal l v
  entry_kept pins legal l v r = record { least = λ h. least_kept (with_layer pins l) v (r.least h); mark = r.mark }

-- ---- how many layers a loop tries

pub tried-all : (j k K : ℕ) → j ≤ k → K ≡ layers_tried j k K
tried-all j k K h = rw (leb_yes (leb j k) refl) refl
  where
    leb_yes : (q : Bool) → leb j k ≡ q → leb j k ≡ true
    leb_yes true e = e
    leb_yes false e = absurd (subst (λ (b : Bool). T b) e (le→leb j k h))

pub tried-one : (j k K : ℕ) → k < j → 1 ≡ layers_tried j k K
tried-one j k K h = rw (leb_no (leb j k) refl) refl
  where
    leb_no : (q : Bool) → leb j k ≡ q → leb j k ≡ false
    leb_no true e = absurd (omega (arith, h, leb→le j k (subst (λ (b : Bool). T b) (sym e) tt)))
    leb_no false e = e

pub tried-le : (j k K : ℕ) → 1 ≤ K → layers_tried j k K ≤ K
tried-le j k K h = go (lt-or-ge k j)
  where
    go : (k < j) ⊎ (j ≤ k) → layers_tried j k K ≤ K
    go (inl c) = omega (arith, h, tried-one j k K c)
    go (inr c) = omega (arith, tried-all j k K c)

-- ---- after some rows are written

pub rows-read : (w w' : List ℕ) (m n K i : ℕ) → RowsFrom w w' m n K i → (p : ℕ) → p < 4 * m → get_or w' p 0 ≡ get_or w p 0
rows-read w w' m n K i r p h = same-take (4 * m) w w' r.low p h

module _ (w w' : List ℕ) (m n K t : ℕ) (s : Shape w m n K) (r : RowsFrom w w' m n K t) where
  read : (p : ℕ) → p < 4 * m → get_or w' p 0 ≡ get_or w p 0
  read = rows-read w w' m n K t r

  pub shape-kept : Shape w' m n K
  shape-kept = record {
    small = s.small;
    fits = s.fits;
    room = omega (arith, s.room, r.long);
    some = s.some;
    deep = s.deep;
    tiles = s.tiles;
    start = omega (arith, s.start, read 0 (omega (arith, s.fits, s.tiles)));
    root_few = omega (arith, s.root_few, read 0 (omega (arith, s.fits, s.tiles)));
    ahead = λ i p q. omega (arith, s.ahead i p q, s.fits, read (i - 1) (omega (arith, s.fits)));
    rising = λ i p q. omega (arith, s.rising i p q, read (i - 1) (omega (arith, s.fits)), read i (omega (arith, s.fits)));
    few = λ i p q. omega (arith, s.few i p q, read (i - 1) (omega (arith, s.fits)), read i (omega (arith, s.fits)));
    within = λ i q. omega (arith, s.within i q, read i (omega (arith, s.fits)));
    pins = λ i q. subst (λ (x : ℕ). LayerMask K x) (sym (read (m + i) (omega (arith, s.fits)))) (s.pins i q);
  }
