-- Writing the layers of a tile's branches, and those of all tiles from the root on.
-- Assumes nothing.
use mathlib.Core.Path.{◌≡◌, refl, sym, ap, ◌∙◌, subst}
use mathlib.Core.List.{List, [], ◌∷◌, ◌++◌}
use mathlib.Core.Logic.{◌⊎◌, inl, inr, ⊎_elim, ◌≢◌}
use Prim.Native.Nat.{ℕ, zero, suc, ◌+◌, ◌-◌, ◌*◌, ◌≤◌, ◌<◌}
use native.Mathlib.Omega.{arith}
use native.Mathlib.Numerals.{add-one}
use lib.ListN.{get_or, length, take, drop, set, length-append}
use lib.Seq.{sets, slice, length-sets, take-set-le, drop-set-lt, take-take, sets-eq, take_at, drop_at, length-take-le, get_or-take, get_or-drop}
use Rattle.theory.specs.congestion.Sums.{lt-or-ge}
use Rattle.theory.specs.engine.Branches.{below}
use Rattle.theory.specs.engine.Loops.{comb, Turn, HasTurn, FirstTurn, passed_start}
use Rattle.theory.specs.engine.Table.{Agree}
use Rattle.sets.specs.Mask.{with_layer}
use Rattle.costs.specs.Rows.{illegal_cost, row_at, combination_cost, layers_tried, LeastCost, first_in, branches_in, pins_in, root_branches, Shape, RowsFrom}
use Rattle.engine.specs.Layers.{Attained, FirstCombination, FirstWritten, FirstStands, layer_in, Usable, RootLeast, RootReady, RootChosen, TileReady, TileChosen, ChosenUpTo}
use Rattle.costs.specs.Kept.{cost-kept, least_kept, same_drop, same-take, tried-le}
use Rattle.costs.specs.Combinations.{comb-length}

-- ---- as code has it

module _ (w : List ℕ) (p k a b c : ℕ) where
  pub put-none : k ≡ 0 → w ≡ sets w p (comb k a b c)
  put-none e = rw e refl

  pub put_one : k ≡ 1 → set w p a ≡ sets w p (comb k a b c)
  put_one e = rw e refl

  pub put_two : k ≡ 2 → set (set w p a) (p + 1) b ≡ sets w p (comb k a b c)
  put_two e = rw (e, add-one p) refl

  pub put_three : k ≡ 3 → set (set (set w p a) (p + 1) b) (p + 2) c ≡ sets w p (comb k a b c)
  put_three e = let i : p + 2 ≡ suc (suc p) = omega arith in rw (e, i, add-one p) refl

pub attained-of : (w : List ℕ) (o first k K base v n₁ n₂ n₃ : ℕ) → n₁ ≡ layers_tried 1 k K → n₂ ≡ layers_tried 2 k K → n₃ ≡ layers_tried 3 k K → Attained w o first k K base v
    → HasTurn n₁ n₂ n₃ (combination_cost w o first k base) v
attained-of w o first k K base v n₁ n₂ n₃ e₁ e₂ e₃ t = rw (e₁, e₂, e₃) t

pub first-combination : (w : List ℕ) (o first k K base v n₁ n₂ n₃ a b c : ℕ) → n₁ ≡ layers_tried 1 k K → n₂ ≡ layers_tried 2 k K → n₃ ≡ layers_tried 3 k K
    → FirstTurn n₁ n₂ n₃ (combination_cost w o first k base) v a b c → FirstCombination w o first k K base v a b c
first-combination w o first k K base v n₁ n₂ n₃ a b c e₁ e₂ e₃ t = rw (← e₁, ← e₂, ← e₃) t

-- with the numbers of branches and layers under other names
pub attained-at : (w : List ℕ) (o first k k' K K' base v : ℕ) → k ≡ k' → K ≡ K' → Attained w o first k K base v → Attained w o first k' K' base v
attained-at w o first k k' K K' base v e i t = rw (← e, ← i) t

-- the layers found are layers, and so the first combination is written
pub layers-found : (w : List ℕ) (o first k K base v a b c : ℕ) → 1 ≤ K → K ≤ 8 → FirstCombination w o first k K base v a b c → (a ≤ 8) × (b ≤ 8) × (c ≤ 8)
layers-found w o first k K base v a b c some deep t =
    (omega (arith, t.turn.1, tried-le 1 k K some), omega (arith, t.turn.3, tried-le 2 k K some), omega (arith, t.turn.5, tried-le 3 k K some))

pub written_at : (w w' : List ℕ) (m first k k' K K' base v a b c : ℕ) → k ≡ k' → K ≡ K' → FirstCombination w (4 * m) first k' K' base v a b c
    → w' ≡ sets w (3 * m + first) (comb k' a b c) → FirstWritten w w' m first k K base v
written_at w w' m first k k' K K' base v a b c e i t r = rw (e, i) (record { a = a; b = b; c = c; combination = t; wrote = r })

-- a tile without branches has its combination: it is the empty one
pub none_written : (w : List ℕ) (m first k K base v : ℕ) → k ≡ 0 → Attained w (4 * m) first k K base v → FirstWritten w w m first k K base v
none_written w m first k K base v e t = rw e (go (attained-at w (4 * m) first k 0 K K base v e refl t))
  where
    go : Attained w (4 * m) first 0 K base v → FirstWritten w w m first 0 K base v
    go t = record {
      a = 1;
      b = 1;
      c = 1;
      combination = record { turn = omega arith; costs = t.costs; none = passed_start 1 1 1 (λ a b c. combination_cost w (4 * m) first 0 base a b c ≢ v) };
      wrote = refl;
    }

-- a least below `illegal_cost` is the cost of a combination
pub least-attained : (w : List ℕ) (o first k K base v : ℕ) → LeastCost w o first k K base v → v < illegal_cost → Attained w o first k K base v
least-attained w o first k K base v t h = go t.hit
  where
    go : (v ≡ illegal_cost) ⊎ ((a : ℕ) × (b : ℕ) × (c : ℕ) × Turn (layers_tried 1 k K) (layers_tried 2 k K) (layers_tried 3 k K) a b c × (combination_cost w o first k base a b c ≡ v)) → Attained w o first k K base v
    go (inl e) = absurd (omega arith)
    go (inr r) = record { a = r.0; b = r.1; c = r.2; turn = r.3; costs = r.4 }

-- ---- a run of stores

sets-take : (n : ℕ) (w : List ℕ) (p : ℕ) (vs : List ℕ) → n ≤ p → take n (sets w p vs) ≡ take n w
sets-take n w p [] h = refl
sets-take n w p (v ∷ vs) h = sets-take n (set w p v) (suc p) vs (omega arith) ∙ take-set-le n w p v h

sets-drop : (n : ℕ) (w : List ℕ) (p : ℕ) (vs : List ℕ) → p + length vs ≤ n → drop n (sets w p vs) ≡ drop n w
sets-drop n w p [] h = refl
sets-drop n w p (v ∷ vs) h = sets-drop n (set w p v) (suc p) vs (omega arith) ∙ drop-set-lt n w p v (omega arith)

sets-slice : (w : List ℕ) (p : ℕ) (vs : List ℕ) → p + length vs ≤ length w → slice p (p + length vs) (sets w p vs) ≡ vs
sets-slice w p vs h =
    ap (λ (l : List ℕ). drop p (take (p + length vs) l)) (sets-eq vs w p h)
    ∙ ap (drop p) (take_at (take p w ++ vs) (drop (p + length vs) w) (p + length vs) (omega (arith, length-append (take p w) vs, length-take-le p w (omega arith))))
    ∙ drop_at (take p w) vs p (length-take-le p w (omega arith))

slice-get_d : (w : List ℕ) (p e q : ℕ) → p + q < e → get_or (slice p e w) q 0 ≡ get_or w (p + q) 0
slice-get_d w p e q h = get_or-drop p (take e w) q 0 ∙ get_or-take e w (p + q) 0 h

below-part : (f : ℕ → ℕ → ℕ) (first : ℕ) (ls : List ℕ) (q : ℕ) → q < length ls → f (first + q) (get_or ls q 0) ≤ below f first ls
below-part f first [] q h = absurd (omega arith)
below-part f first (l ∷ ls) zero h = let e : first + 0 ≡ first = omega arith in omega (arith, ap (λ (t : ℕ). f t l) e)
below-part f first (l ∷ ls) (suc q) h =
    let e : first + suc q ≡ suc first + q = omega arith in
    omega (arith, ap (λ (t : ℕ). f t (get_or ls q 0)) e, below-part f (suc first) ls q (omega arith))

comb-part : (K k a b c q : ℕ) → (1 ≤ a) × (a ≤ K) → (1 ≤ b) × (b ≤ K) → (1 ≤ c) × (c ≤ K) → q < k → q < 3
    → (1 ≤ get_or (comb k a b c) q 0) × (get_or (comb k a b c) q 0 ≤ K)
comb-part K k a b c q x y z h h' = rw (get_or-take k (a ∷ b ∷ c ∷ []) q 0 h) (go q h')
  where
    go : (q : ℕ) → q < 3 → (1 ≤ get_or (a ∷ b ∷ c ∷ []) q 0) × (get_or (a ∷ b ∷ c ∷ []) q 0 ≤ K)
    go zero h = x
    go (suc zero) h = y
    go (suc (suc zero)) h = z
    go (suc (suc (suc q))) h = absurd (omega arith)

-- ---- all layers

agree-up : (w w' : List ℕ) (m : ℕ) → drop (4 * m) w' ≡ drop (4 * m) w → (c : ℕ) → Agree (row_at w' (4 * m)) (row_at w (4 * m)) c
agree-up w w' m e c j h r = same_drop (4 * m) w w' e (4 * m + 8 * j + (r - 1)) (omega arith)

-- One tile's branches are chosen: from w' to w''.
module _ (w w' w'' : List ℕ) (m first k K base v : ℕ) (some : 1 ≤ K) (few : k ≤ 3) (inside : first + k ≤ m) (room : 12 * m ≤ length w)
    (long : length w' ≡ length w) (low : take (3 * m) w' ≡ take (3 * m) w) (up : drop (4 * m) w' ≡ drop (4 * m) w) (small : v < illegal_cost)
    (ch : FirstWritten w' w'' m first k K base v) where
  abbrev vs : List ℕ
  vs = comb k ch.a ch.b ch.c

  vs-long : length vs ≡ k
  vs-long = comb-length k ch.a ch.b ch.c few

  pub step-long : length w'' ≡ length w
  step-long = ap length ch.wrote ∙ length-sets w' (3 * m + first) vs ∙ long

  pub step-low : take (3 * m) w'' ≡ take (3 * m) w
  step-low = ap (take (3 * m)) ch.wrote ∙ sets-take (3 * m) w' (3 * m + first) vs (omega arith) ∙ low

  pub step-up : drop (4 * m) w'' ≡ drop (4 * m) w
  step-up = ap (drop (4 * m)) ch.wrote ∙ sets-drop (4 * m) w' (3 * m + first) vs (omega (arith, vs-long)) ∙ up

  step-before : take (3 * m + first) w'' ≡ take (3 * m + first) w'
  step-before = ap (take (3 * m + first)) ch.wrote ∙ sets-take (3 * m + first) w' (3 * m + first) vs (omega arith)

  pub step-layer : (t : ℕ) → t < first → layer_in w'' m t ≡ layer_in w' m t
  step-layer t h = same-take (3 * m + first) w' w'' step-before (3 * m + t) (omega arith)

  pub step-slice : (f e : ℕ) → e ≤ 3 * m + first → slice f e w'' ≡ slice f e w'
  step-slice f e h =
      ap (drop f) (sym (take-take e (3 * m + first) w'' h) ∙ ap (take e) step-before ∙ take-take e (3 * m + first) w' h)

  stands_here : slice (3 * m + first) (3 * m + first + k) w'' ≡ vs
  stands_here =
      subst (λ (x : ℕ). slice (3 * m + first) (3 * m + first + x) w'' ≡ vs) vs-long
      (ap (slice (3 * m + first) (3 * m + first + length vs)) ch.wrote ∙ sets-slice w' (3 * m + first) vs (omega (arith, vs-long, long, room)))

  cost-same : (a b c : ℕ) → combination_cost w' (4 * m) first k base a b c ≡ combination_cost w (4 * m) first k base a b c
  cost-same a b c = cost-kept w w' (4 * m) first k K (agree-up w w' m up first) base a b c

  pub step-stands : FirstStands w w'' m first k K base v
  step-stands = record {
    a = ch.a;
    b = ch.b;
    c = ch.c;
    combination = record {
      turn = ch.combination.turn;
      costs = sym (cost-same ch.a ch.b ch.c) ∙ ch.combination.costs;
      none = λ a' b' c' u s e. ch.combination.none a' b' c' u s (cost-same a' b' c' ∙ e);
    };
    stands = stands_here;
  }

  pub step-usable : (t : ℕ) → first ≤ t → t < first + k → Usable w m K t (layer_in w'' m t)
  step-usable t p q =
      let e₀ : first + (t - first) ≡ t = omega arith in
      let e₁ : 3 * m + first + (t - first) ≡ 3 * m + t = omega arith in
      let e₂ : get_or vs (t - first) 0 ≡ layer_in w'' m t =
      sym (ap (λ (l : List ℕ). get_or l (t - first) 0) stands_here) ∙ slice-get_d w'' (3 * m + first) (3 * m + first + k) (t - first) (omega arith) ∙ ap (λ (x : ℕ). get_or w'' x 0) e₁ in
      let u = ch.combination.turn in
      let c = comb-part K k ch.a ch.b ch.c (t - first) (u.0, omega (arith, u.1, tried-le 1 k K some)) (u.2, omega (arith, u.3, tried-le 2 k K some))
      (u.4, omega (arith, u.5, tried-le 3 k K some)) (omega arith) (omega arith) in
      let l : row_at w (4 * m) (first + (t - first)) (get_or vs (t - first) 0) < illegal_cost =
      omega (arith, small, below-part (row_at w (4 * m)) first vs (t - first) (omega (arith, vs-long)), cost-same ch.a ch.b ch.c, ch.combination.costs) in
      subst (λ (x : ℕ). Usable w m K t x) e₂ (c.0, c.1, subst (λ (x : ℕ). row_at w (4 * m) x (get_or vs (t - first) 0) < illegal_cost) e₀ l)

stands-kept : (w w' w'' : List ℕ) (m first k K base v : ℕ) → slice (3 * m + first) (3 * m + first + k) w'' ≡ slice (3 * m + first) (3 * m + first + k) w'
    → FirstStands w w' m first k K base v → FirstStands w w'' m first k K base v
stands-kept w w' w'' m first k K base v e c = record { a = c.a; b = c.b; c = c.c; combination = c.combination; stands = e ∙ c.stands }

ends-rise : (w : List ℕ) (m n K : ℕ) → Shape w m n K → (g t : ℕ) → t + g < n → get_or w t 0 ≤ get_or w (t + g) 0
ends-rise w m n K s zero t h = let e : t + 0 ≡ t = omega arith in omega (arith, ap (λ (x : ℕ). get_or w x 0) e)
ends-rise w m n K s (suc g) t h =
    let e : t + suc g - 1 ≡ t + g = omega arith in
    omega (arith, ends-rise w m n K s g t (omega arith), s.rising (t + suc g) (omega arith) h, ap (λ (x : ℕ). get_or w x 0) e)

ends-before : (w : List ℕ) (m n K : ℕ) → Shape w m n K → (t i : ℕ) → t < i → i ≤ n → get_or w t 0 ≤ first_in w i
ends-before w m n K s t i p q =
    let e : t + (i - 1 - t) ≡ i - 1 = omega arith in
    omega (arith, ends-rise w m n K s (i - 1 - t) t (omega arith), ap (λ (x : ℕ). get_or w x 0) e)

attained-cast : (w : List ℕ) (o first first' k k' K base base' v v' : ℕ) → first' ≡ first → k' ≡ k → base' ≡ base → v' ≡ v
    → Attained w o first k K base v → Attained w o first' k' K base' v'
attained-cast w o first first' k k' K base base' v v' a b c d t = rw (a, b, c, d) t

written-cast : (w w' : List ℕ) (m first first' k k' K base base' v v' : ℕ) → first' ≡ first → k' ≡ k → base' ≡ base → v' ≡ v
    → FirstWritten w w' m first' k' K base' v' → FirstWritten w w' m first k K base v
written-cast w w' m first first' k k' K base base' v v' a b c d t = rw (← a, ← b, ← c, ← d) t

module _ (w : List ℕ) (m n K v : ℕ) (s : Shape w m n K) (rows : RowsFrom w w m n K 1) (small : v < illegal_cost) where
  pub chosen-start : (w'' : List ℕ) → FirstWritten w w'' m 1 (root_branches w) K (get_or w m 0) v → ChosenUpTo w w'' m n K v 1
  chosen-start w'' ch =
      let few : root_branches w ≤ 3 = omega (arith, s.root_few) in
      let inside : 1 + root_branches w ≤ m = omega (arith, s.start, s.within 0 s.tiles, s.fits) in
      record {
        long = step-long w w w'' m 1 (root_branches w) K (get_or w m 0) v s.some few inside s.room refl refl refl small ch;
        low = step-low w w w'' m 1 (root_branches w) K (get_or w m 0) v s.some few inside s.room refl refl refl small ch;
        high = step-up w w w'' m 1 (root_branches w) K (get_or w m 0) v s.some few inside s.room refl refl refl small ch;
        root = step-stands w w w'' m 1 (root_branches w) K (get_or w m 0) v s.some few inside s.room refl refl refl small ch;
        tiles = λ t p q. absurd (omega arith);
        usable = λ t p q. step-usable w w w'' m 1 (root_branches w) K (get_or w m 0) v s.some few inside s.room refl refl refl small ch t p (omega arith);
      }

  module _ (w' : List ℕ) (i : ℕ) (p : ChosenUpTo w w' m n K v i) (one : 1 ≤ i) (less : i < n) where
    read : (x : ℕ) → x < 3 * m → get_or w' x 0 ≡ get_or w x 0
    read x h = same-take (3 * m) w w' p.low x h

    e₁ : first_in w' i ≡ first_in w i
    e₁ = read (i - 1) (omega (arith, s.fits))

    e₂ : get_or w' i 0 ≡ get_or w i 0
    e₂ = read i (omega (arith, s.fits))

    e₃ : pins_in w' m i ≡ pins_in w m i
    e₃ = read (m + i) (omega (arith, s.fits))

    e₄ : row_at w' (4 * m) i (layer_in w' m i) ≡ row_at w (4 * m) i (layer_in w' m i)
    e₄ = agree-up w w' m p.high i i (omega arith) (layer_in w' m i)

    e₅ : branches_in w' i ≡ branches_in w i
    e₅ = omega (arith, e₁, e₂)

    usable-here : Usable w m K i (layer_in w' m i)
    usable-here = p.usable i one (s.ahead i one less)

    least-row : LeastCost w (4 * m) (first_in w i) (branches_in w i) K (with_layer (pins_in w m i) (layer_in w' m i)) (row_at w (4 * m) i (layer_in w' m i))
    least-row =
        let x = rows.rows i one less (layer_in w' m i) usable-here.0 usable-here.1 in
        ⊎_elim (λ h. x.least h) (λ h. absurd (omega (arith, h, usable-here.2))) x.mark

    pub tile-ready : TileReady w' m i K
    tile-ready = record {
      rising = omega (arith, e₁, e₂, s.rising i one less);
      few = omega (arith, e₁, e₂, s.few i one less);
      within = omega (arith, e₂, s.within i less, s.fits);
      pins = omega (arith, e₃, (s.pins i less).small);
      layer = usable-here.0;
      high = usable-here.1;
      attained =
          attained-cast w' (4 * m) (first_in w i) (first_in w' i) (branches_in w i) (branches_in w' i) K (with_layer (pins_in w m i) (layer_in w' m i)) (with_layer (pins_in w' m i) (layer_in w' m i))
          (row_at w (4 * m) i (layer_in w' m i)) (row_at w' (4 * m) i (layer_in w' m i)) e₁ e₅ (ap (λ (x : ℕ). with_layer x (layer_in w' m i)) e₃) e₄
          (least-attained w' (4 * m) (first_in w i) (branches_in w i) K (with_layer (pins_in w m i) (layer_in w' m i)) (row_at w (4 * m) i (layer_in w' m i))
          (least_kept w w' (4 * m) (first_in w i) (branches_in w i) K (agree-up w w' m p.high (first_in w i)) (with_layer (pins_in w m i) (layer_in w' m i)) (row_at w (4 * m) i (layer_in w' m i)) least-row)
          usable-here.2);
    }

    module _ (w'' : List ℕ) (done : TileChosen w' w'' m i K) where
      abbrev base : ℕ
      base = with_layer (pins_in w m i) (layer_in w' m i)

      abbrev goal : ℕ
      goal = row_at w (4 * m) i (layer_in w' m i)

      ch : FirstWritten w' w'' m (first_in w i) (branches_in w i) K base goal
      ch = written-cast w' w'' m (first_in w i) (first_in w' i) (branches_in w i) (branches_in w' i) K base (with_layer (pins_in w' m i) (layer_in w' m i)) goal
          (row_at w' (4 * m) i (layer_in w' m i)) e₁ e₅ (ap (λ (x : ℕ). with_layer x (layer_in w' m i)) e₃) e₄ done

      few : branches_in w i ≤ 3
      few = omega (arith, s.few i one less)

      inside : first_in w i + branches_in w i ≤ m
      inside = omega (arith, s.rising i one less, s.within i less, s.fits)

      same-layer : (t : ℕ) → t < first_in w i → layer_in w'' m t ≡ layer_in w' m t
      same-layer = step-layer w w' w'' m (first_in w i) (branches_in w i) K base goal s.some few inside s.room p.long p.low p.high usable-here.2 ch

      same-slice : (f e : ℕ) → e ≤ 3 * m + first_in w i → slice f e w'' ≡ slice f e w'
      same-slice = step-slice w w' w'' m (first_in w i) (branches_in w i) K base goal s.some few inside s.room p.long p.low p.high usable-here.2 ch

      tiles-at : (t : ℕ) → 1 ≤ t → t < i + 1 → (t < i) ⊎ (i ≤ t)
          → FirstStands w w'' m (first_in w t) (branches_in w t) K (with_layer (pins_in w m t) (layer_in w'' m t)) (row_at w (4 * m) t (layer_in w'' m t))
      tiles-at t a b (inl c) =
          subst (λ (x : ℕ). FirstStands w w'' m (first_in w t) (branches_in w t) K (with_layer (pins_in w m t) x) (row_at w (4 * m) t x))
          (sym (same-layer t (omega (arith, s.ahead i one less))))
          (stands-kept w w' w'' m (first_in w t) (branches_in w t) K (with_layer (pins_in w m t) (layer_in w' m t)) (row_at w (4 * m) t (layer_in w' m t))
          (same-slice (3 * m + first_in w t) (3 * m + first_in w t + branches_in w t) (omega (arith, s.rising t a (omega arith), ends-before w m n K s t i c (omega arith))))
          (p.tiles t a c))
      tiles-at t a b (inr c) =
          let e : i ≡ t = omega arith in
          subst (λ (y : ℕ). FirstStands w w'' m (first_in w y) (branches_in w y) K (with_layer (pins_in w m y) (layer_in w'' m y)) (row_at w (4 * m) y (layer_in w'' m y))) e
          (subst (λ (x : ℕ). FirstStands w w'' m (first_in w i) (branches_in w i) K (with_layer (pins_in w m i) x) (row_at w (4 * m) i x)) (sym (same-layer i (s.ahead i one less)))
          (step-stands w w' w'' m (first_in w i) (branches_in w i) K base goal s.some few inside s.room p.long p.low p.high usable-here.2 ch))

      usable_at : (t : ℕ) → 1 ≤ t → t < get_or w i 0 → (t < first_in w i) ⊎ (first_in w i ≤ t) → Usable w m K t (layer_in w'' m t)
      usable_at t a b (inl c) = subst (λ (x : ℕ). Usable w m K t x) (sym (same-layer t c)) (p.usable t a c)
      usable_at t a b (inr c) =
          step-usable w w' w'' m (first_in w i) (branches_in w i) K base goal s.some few inside s.room p.long p.low p.high usable-here.2 ch t c
          (omega (arith, s.rising i one less))

      pub chosen-step : ChosenUpTo w w'' m n K v (i + 1)
      chosen-step = record {
        long = step-long w w' w'' m (first_in w i) (branches_in w i) K base goal s.some few inside s.room p.long p.low p.high usable-here.2 ch;
        low = step-low w w' w'' m (first_in w i) (branches_in w i) K base goal s.some few inside s.room p.long p.low p.high usable-here.2 ch;
        high = step-up w w' w'' m (first_in w i) (branches_in w i) K base goal s.some few inside s.room p.long p.low p.high usable-here.2 ch;
        root =
            stands-kept w w' w'' m 1 (root_branches w) K (get_or w m 0) v
            (same-slice (3 * m + 1) (3 * m + 1 + root_branches w) (omega (arith, s.start, ends-before w m n K s 0 i one (omega arith)))) p.root;
        tiles = λ t a b. tiles-at t a b (lt-or-ge t i);
        usable = λ t a b.
            let e : i + 1 - 1 ≡ i = omega arith in
            usable_at t a (omega (arith, b, ap (λ (x : ℕ). get_or w x 0) e)) (lt-or-ge t (first_in w i));
      }

-- a tile's numbers as code reads them
module _ (w : List ℕ) (m i K first k base goal : ℕ) (ok : TileReady w m i K) (ef : first ≡ first_in w i) (ek : k ≡ branches_in w i)
    (eb : base ≡ with_layer (pins_in w m i) (layer_in w m i)) (eg : goal ≡ row_at w (4 * m) i (layer_in w m i)) where
  pub tile-attained : Attained w (4 * m) first k K base goal
  tile-attained =
      attained-cast w (4 * m) (first_in w i) first (branches_in w i) k K (with_layer (pins_in w m i) (layer_in w m i)) base (row_at w (4 * m) i (layer_in w m i)) goal ef ek eb eg ok.attained

  pub tile-chosen : (w'' : List ℕ) → FirstWritten w w'' m first k K base goal → TileChosen w w'' m i K
  tile-chosen w'' ch =
      written-cast w w'' m (first_in w i) first (branches_in w i) k K (with_layer (pins_in w m i) (layer_in w m i)) base (row_at w (4 * m) i (layer_in w m i)) goal ef ek eb eg ch

pub base-is : (w : List ℕ) (m i x l base : ℕ) → x ≡ get_or w (m + i) 0 → l ≡ get_or w (3 * m + i) 0 → base ≡ with_layer x l
    → base ≡ with_layer (pins_in w m i) (layer_in w m i)
base-is w m i x l base e e' h = rw (← e, ← e') h

pub goal-is : (w : List ℕ) (m i l goal : ℕ) → l ≡ get_or w (3 * m + i) 0 → goal ≡ get_or w (4 * m + 8 * i + (l - 1)) 0 → goal ≡ row_at w (4 * m) i (layer_in w m i)
goal-is w m i l goal e h = rw (← e) h

pub root-attained : (w : List ℕ) (m K v x y : ℕ) → RootReady w m K v → x ≡ get_or w 0 0 → y ≡ get_or w m 0 → Attained w (4 * m) 1 (x - 1) K y v
root-attained w m K v x y ok e e' =
    attained-cast w (4 * m) 1 1 (root_branches w) (x - 1) K (get_or w m 0) y v v refl (omega (arith, e)) e' refl ok.attained

pub root-chosen : (w w' : List ℕ) (m K v x y : ℕ) → x ≡ get_or w 0 0 → y ≡ get_or w m 0 → FirstWritten w w' m 1 (x - 1) K y v → RootChosen w w' m K v
root-chosen w w' m K v x y e e' ch = written-cast w w' m 1 1 (root_branches w) (x - 1) K (get_or w m 0) y v v refl (omega (arith, e)) e' refl ch

-- the root's branches can be chosen where its least cost is that of a legal layering
pub root-ready : (w : List ℕ) (m n K v : ℕ) → Shape w m n K → RootLeast w m K v → v < illegal_cost → RootReady w m K v
root-ready w m n K v s least small = record {
  start = s.start;
  few = s.root_few;
  within = omega (arith, s.within 0 s.tiles, s.fits);
  pins = let e : m + 0 ≡ m = omega arith in subst (λ (x : ℕ). get_or w x 0 < 256) e (s.pins 0 s.tiles).small;
  attained = least-attained w (4 * m) 1 (root_branches w) K (get_or w m 0) v least small;
}

pub chosen-all : (w w' : List ℕ) (m n K v i : ℕ) → i ≡ n → ChosenUpTo w w' m n K v i → ChosenUpTo w w' m n K v n
chosen-all w w' m n K v i e p = subst (λ (x : ℕ). ChosenUpTo w w' m n K v x) e p
