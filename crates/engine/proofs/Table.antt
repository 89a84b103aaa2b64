-- From the numbers in the slice to the table of the engine's laws: the rows that are written are the rows of the net.
-- Assumes nothing.
use mathlib.Core.Path.{◌≡◌, refl, sym, ap, ◌∙◌, subst}
use mathlib.Core.List.{List, [], ◌∷◌, ◌++◌}
use mathlib.Core.Logic.{◌⊎◌, inl, inr, ⊎_elim}
use Prim.Native.Nat.{ℕ, zero, suc, ◌+◌, ◌-◌, ◌*◌, ◌≤◌, ◌<◌, min}
use native.Mathlib.Nat.{mul-le-mul}
use native.Mathlib.Omega.{arith}
use lib.ListN.{get_or, length}
use Rattle.model.specs.Lists.{up_from}
use Rattle.model.specs.Job.{Net, Job}
use Rattle.model.specs.Layering.{IsChoice}
use Rattle.model.specs.Walk.{walk}
use Rattle.theory.specs.congestion.Sums.{In, lt-or-ge}
use Rattle.theory.specs.congestion.Base.{in-up_from}
use Rattle.theory.specs.engine.Stages.{IsLeast, IsFirst, best_of, choice-take, choice-drop}
use Rattle.theory.specs.engine.Branches.{worth}
use Rattle.theory.specs.engine.Table.{least-exists, choice-wide}
use Rattle.theory.specs.engine.Span.{Covers, covers-cons, covers-append}
use Rattle.theory.specs.engine.Loops.{Reach, comb, Turn, TurnLeast, FirstTurn, loops-least}
use Rattle.theory.specs.engine.Places.{RowsAt, TableAt, kids_of, IsWalk}
use Rattle.theory.specs.engine.Bounds.{root-bound}
use Rattle.theory.specs.links.Nets.{NetOk}
use Rattle.theory.specs.links.Engine.{kids_at, first_at, pins_at, vias_at, walk-by-place, kids-few, kids-are, rows-small, loops-row, loops-choice, price-costs, pins-cover, stop_at}
use Rattle.sets.specs.Mask.{with_layer, mask_of, span_of, mask-price}
use Rattle.costs.specs.Rows.{illegal_cost, row_at, combination_cost, layers_tried, LeastCost, RowEntry, first_in, branches_in, Shape, RowsFrom}
use Rattle.engine.specs.Net.{Holds}
use Rattle.costs.specs.Kept.{tried-all, tried-one, tried-le, least-cong}
use Rattle.costs.specs.Combinations.{covers-none, covers-comb}

-- ---- combinations

tried-some : (j k K : ℕ) → 1 ≤ K → 1 ≤ layers_tried j k K
tried-some j k K h = go (lt-or-ge k j)
  where
    go : (k < j) ⊎ (j ≤ k) → 1 ≤ layers_tried j k K
    go (inl c) = omega (arith, tried-one j k K c)
    go (inr c) = omega (arith, h, tried-all j k K c)

pub reach_of : (K k : ℕ) → 1 ≤ K → k ≤ 3 → Reach K k (layers_tried 1 k K) (layers_tried 2 k K) (layers_tried 3 k K)
reach_of K k h f = record {
  few = f;
  some₁ = tried-some 1 k K h;
  some₂ = tried-some 2 k K h;
  some₃ = tried-some 3 k K h;
  all₁ = λ c. sym (tried-all 1 k K c);
  all₂ = λ c. sym (tried-all 2 k K c);
  all₃ = λ c. sym (tried-all 3 k K c);
}

mask_append : (m : ℕ) (xs ys : List ℕ) → mask_of (mask_of m xs) ys ≡ mask_of m (xs ++ ys)
mask_append m [] ys = refl
mask_append m (x ∷ xs) ys = mask_append (with_layer m x) xs ys

covers-join : (xs ys : List ℕ) → Covers 1 8 xs → Covers 1 8 ys → Covers 1 8 (xs ++ ys)
covers-join xs ys g h = covers-append 1 8 xs ys g h

-- no choice costs less than the least combination
pub turn_low : (K n₁ n₂ n₃ : ℕ) (cs : List ℕ) → Reach K (length cs) n₁ n₂ n₃ → (cost : List ℕ → ℕ) (top v : ℕ)
    → TurnLeast n₁ n₂ n₃ (λ a b c. cost (comb (length cs) a b c)) top v → (z : List ℕ) → IsChoice (λ e. up_from 1 K) cs z → v ≤ cost z
turn_low K n₁ n₂ n₃ cs reach cost top v t z g =
    let u : Turn n₁ n₂ n₃ 1 1 1 = (omega arith, reach.some₁, omega arith, reach.some₂, omega arith, reach.some₃) in
    let l = loops-least K n₁ n₂ n₃ cs reach (λ y. min (cost y) v) v (λ a b c s. omega (arith, t.low a b c s)) 1 1 1 u (omega (arith, t.low 1 1 1 u)) in
    omega (arith, l.low z g)

-- ---- the net in the slice

module _ (j : Job) (n : Net) (allowed : ℕ → List ℕ) (w : List ℕ) (m : ℕ) (holds : Holds j n allowed w m (suc (length n.edges)) j.layers) where
  abbrev d : ℕ
  d = length n.edges

  abbrev ws : List ℕ
  ws = walk j n

  wide : 1 ≤ j.width
  wide = holds.wide

  high : 1 ≤ j.height
  high = holds.high

  ok : NetOk j.width j.height j.layers n
  ok = holds.ok

  some : 1 ≤ j.layers
  some = holds.some

  deep : j.layers ≤ 8
  deep = holds.deep

  abbrev z : List ℕ
  z = holds.choice

  pub steps : IsWalk (kids_at j n) (first_at j n) d ws
  steps = walk-by-place j wide high n ok

  pub first-le : (t i : ℕ) → i + t ≡ suc d → first_at j n i ≤ suc d
  first-le zero i h =
      let e : i ≡ suc d = omega arith in
      omega (arith, steps.whole, ap (first_at j n) e)
  first-le (suc t) i h = omega (arith, steps.next i (omega arith), first-le t (suc i) (omega arith))

  pub first_is : (i : ℕ) → 1 ≤ i → i ≤ d → first_in w i ≡ first_at j n i
  first_is i p q = let e : suc (i - 1) ≡ i = omega arith in holds.ends (i - 1) (omega arith) ∙ ap (first_at j n) e

  pub kids-is : (i : ℕ) → 1 ≤ i → i ≤ d → branches_in w i ≡ kids_at j n i
  kids-is i p q = omega (arith, first_is i p q, holds.ends i q, steps.next i q)

  pub shape_of : Shape w m (suc d) j.layers
  shape_of = record {
    small = holds.small;
    fits = holds.fits;
    room = holds.room;
    some = some;
    deep = deep;
    tiles = omega arith;
    start = omega (arith, holds.ends 0 (omega arith), steps.next 0 (omega arith), steps.start);
    root_few = omega (arith, holds.ends 0 (omega arith), steps.next 0 (omega arith), steps.start, kids-few j wide high n ok 0 (omega arith));
    ahead = λ i p q. omega (arith, first_is i p (omega arith), steps.ahead i (omega arith));
    rising = λ i p q. omega (arith, first_is i p (omega arith), holds.ends i (omega arith), steps.next i (omega arith));
    few = λ i p q. omega (arith, first_is i p (omega arith), holds.ends i (omega arith), steps.next i (omega arith), kids-few j wide high n ok i (omega arith));
    within = λ i q. omega (arith, holds.ends i (omega arith), first-le (d - i) (suc i) (omega arith));
    pins = λ i q.
        let h = holds.pins i (omega arith) in
        record {
          small = h.small;
          deep = λ l a b t. (pins-cover (stop_at j n i).tile n.pins ok.pins_layers l (h.into l a b t)).1;
        };
  }

  -- and after the rows are written
  module _ (w' : List ℕ) (rows : RowsFrom w w' m (suc d) j.layers 1) where
    abbrev f : ℕ → ℕ → ℕ
    f = row_at w' (4 * m)

    abbrev mask : ℕ → ℕ
    mask i = get_or w (m + i) 0

    abbrev tile_kids : ℕ → List ℕ
    tile_kids i = kids_of (kids_at j n) (first_at j n) ws i

    abbrev tile_worth : ℕ → List ℕ → List ℕ → ℕ
    tile_worth i above = worth (vias_at j n) f i above (first_at j n i)

    row-at : (k : ℕ) → k < d → (l : ℕ) → 1 ≤ l → l ≤ j.layers
        → RowEntry w' (4 * m) (first_at j n (suc k)) (kids_at j n (suc k)) j.layers (mask (suc k)) (get_or w (2 * m + suc k) 0) l (f (suc k) l)
    row-at k h l p q =
        subst (λ (x : ℕ). RowEntry w' (4 * m) x (kids_at j n (suc k)) j.layers (mask (suc k)) (get_or w (2 * m + suc k) 0) l (f (suc k) l)) (first_is (suc k) (omega arith) h)
        (subst (λ (x : ℕ). RowEntry w' (4 * m) (first_in w (suc k)) x j.layers (mask (suc k)) (get_or w (2 * m + suc k) 0) l (f (suc k) l)) (kids-is (suc k) (omega arith) h)
        (rows.rows (suc k) (omega arith) (omega arith) l p q))

    marks : (k : ℕ) → k < d → (l : ℕ) → 1 ≤ l → l ≤ j.layers → In l (allowed (get_or ws k 0)) ⊎ (illegal_cost ≤ f (suc k) l)
    marks k h l p q = ⊎_elim (λ t. inl (holds.into k h l p q t)) (λ t. inr t) (row-at k h l p q).mark

    -- One tile: `above` is the layer above it, if it has one.
    module _ (i : ℕ) (h : i ≤ d) (above : List ℕ) (cov : Covers 1 8 above) where
      abbrev n₁ : ℕ
      n₁ = layers_tried 1 (kids_at j n i) j.layers

      abbrev n₂ : ℕ
      n₂ = layers_tried 2 (kids_at j n i) j.layers

      abbrev n₃ : ℕ
      n₃ = layers_tried 3 (kids_at j n i) j.layers

      abbrev base : ℕ
      base = mask_of (mask i) above

      -- the cost of a combination is the tile's worth
      cost-is : (a b c : ℕ) → Turn n₁ n₂ n₃ a b c
          → tile_worth i above (comb (kids_at j n i) a b c) ≡ combination_cost w' (4 * m) (first_at j n i) (kids_at j n i) base a b c
      cost-is a b c t =
          let k₁ = tried-le 1 (kids_at j n i) j.layers some in
          let k₂ = tried-le 2 (kids_at j n i) j.layers some in
          let k₃ = tried-le 3 (kids_at j n i) j.layers some in
          let ls : List ℕ = comb (kids_at j n i) a b c in
          omega (
            arith,
            ap span_of (mask_append (mask i) above ls),
            mask-price (mask i) (pins_at j n i) (above ++ ls)
                (covers-join above ls cov (covers-comb 1 8 (kids_at j n i) a b c (t.0, omega (arith, k₁, t.1, deep)) (t.2, omega (arith, k₂, t.3, deep)) (t.4, omega (arith, k₃, t.5, deep))))
                (holds.pins i h),
          )

      pub turn-least : (v : ℕ) → LeastCost w' (4 * m) (first_at j n i) (kids_at j n i) j.layers base v
          → TurnLeast n₁ n₂ n₃ (λ a b c. tile_worth i above (comb (kids_at j n i) a b c)) illegal_cost v
      turn-least v t =
          least-cong n₁ n₂ n₃ (combination_cost w' (4 * m) (first_at j n i) (kids_at j n i) base) (λ a b c. tile_worth i above (comb (kids_at j n i) a b c)) illegal_cost v cost-is t

      reach : Reach j.layers (kids_at j n i) n₁ n₂ n₃
      reach = reach_of j.layers (kids_at j n i) some (kids-few j wide high n ok i h)

      kids-long : length (tile_kids i) ≡ kids_at j n i
      kids-long = ap length (kids-are j wide high n ok i h)

      sub : (e l : ℕ) → In l (allowed e) → In l (up_from 1 j.layers)
      sub e l q = let r = holds.inside e l q in (in-up_from l 1 j.layers).1 (r.0, omega (arith, r.1))

      -- no legal choice costs less
      low-all : (v : ℕ) → LeastCost w' (4 * m) (first_at j n i) (kids_at j n i) j.layers base v
          → (y : List ℕ) → IsChoice allowed (tile_kids i) y → v ≤ tile_worth i above y
      low-all v t y g =
          turn_low j.layers n₁ n₂ n₃ (tile_kids i) (subst (λ (k : ℕ). Reach j.layers k n₁ n₂ n₃) (sym kids-long) reach) (tile_worth i above) illegal_cost v
          (subst (λ (k : ℕ). TurnLeast n₁ n₂ n₃ (λ a b c. tile_worth i above (comb k a b c)) illegal_cost v) (sym kids-long) (turn-least v t))
          y (choice-wide allowed (λ e. up_from 1 j.layers) sub f illegal_cost (tile_kids i) y g)

      -- the least combination is the tile's least
      pub tile-row : (v : ℕ) → v < illegal_cost → LeastCost w' (4 * m) (first_at j n i) (kids_at j n i) j.layers base v
          → IsLeast allowed (tile_kids i) (tile_worth i above) v
      tile-row v small t =
          loops-row j wide high n ok (λ x. x) allowed holds.rising holds.inside f illegal_cost i h (λ k a b l p q. marks k b l p q) above n₁ n₂ n₃ reach v small (turn-least v t)

      -- and the first combination that has it is what the branches take
      pub tile-choice : (v : ℕ) → v < illegal_cost → LeastCost w' (4 * m) (first_at j n i) (kids_at j n i) j.layers base v → (a b c : ℕ)
          → FirstTurn n₁ n₂ n₃ (combination_cost w' (4 * m) (first_at j n i) (kids_at j n i) base) v a b c
          → IsFirst allowed (tile_kids i) (tile_worth i above) v (comb (kids_at j n i) a b c)
      tile-choice v small t a b c q =
          loops-choice j wide high n ok (λ x. x) allowed holds.rising holds.inside f illegal_cost i h (λ k x y l p r. marks k y l p r) above n₁ n₂ n₃ reach v small (turn-least v t) a b c
          (record {
            turn = q.turn;
            costs = cost-is a b c q.turn ∙ q.costs;
            none = λ a' b' c' u s e. q.none a' b' c' u s (sym (cost-is a' b' c' u) ∙ e);
          })

    kids-z : (i : ℕ) → IsChoice allowed (tile_kids i) (kids_of (kids_at j n) (first_at j n) z i)
    kids-z i = choice-take allowed (kids_at j n i) _ _ (choice-drop allowed (first_at j n i - 1) ws z holds.valid)

    best_of_lem : (i : ℕ) (above : List ℕ) → IsLeast allowed (tile_kids i) (tile_worth i above) (tile_worth i above (best_of allowed (tile_worth i above) (tile_kids i)))
    best_of_lem i above = least-exists allowed (tile_kids i) (tile_worth i above) (kids_of (kids_at j n) (first_at j n) z i) (kids-z i)

    under : (a b : ℕ) → a ≤ 65536 → b ≤ 7 → a * b < illegal_cost
    under a b p q = omega (arith, mul-le-mul p q)

    one-row : (k : ℕ) → k < d → RowsAt (kids_at j n) (first_at j n) (vias_at j n) allowed d ws f (suc k) → (r : ℕ) → In r (allowed (get_or ws k 0))
        → IsLeast allowed (tile_kids (suc k)) (tile_worth (suc k) (r ∷ [])) (f (suc k) r)
    one-row k h ih r i =
        let q = holds.inside (get_or ws k 0) r i in
        finish (tile_worth (suc k) (r ∷ []) (best_of allowed (tile_worth (suc k) (r ∷ [])) (tile_kids (suc k)))) q.0 q.1 ((row-at k h r q.0 q.1).least (holds.back k h r i)) (best_of_lem (suc k) (r ∷ []))
      where
        finish : (u : ℕ) → 1 ≤ r → r ≤ j.layers → LeastCost w' (4 * m) (first_at j n (suc k)) (kids_at j n (suc k)) j.layers (with_layer (mask (suc k)) r) (f (suc k) r)
            → IsLeast allowed (tile_kids (suc k)) (tile_worth (suc k) (r ∷ [])) u
            → IsLeast allowed (tile_kids (suc k)) (tile_worth (suc k) (r ∷ [])) (f (suc k) r)
        finish u p q t l =
            let cov : Covers 1 8 (r ∷ []) = covers-cons 1 8 r [] p (omega (arith, q, deep)) (covers-none 1 8) in
            tile-row (suc k) h (r ∷ []) cov (f (suc k) r)
            (omega (
              arith,
              low-all (suc k) h (r ∷ []) cov (f (suc k) r) t l.choice l.valid,
              l.costs,
              rows-small j wide high n ok (λ x. x) allowed holds.rising holds.inside (λ a b g. g) f z holds.valid k h ih r u p q l,
              under (d - k) (j.layers - 1) (omega (arith, holds.fits, holds.small)) (omega (arith, deep)),
            )) t

    rows-down : (t k : ℕ) → k + t ≡ d → RowsAt (kids_at j n) (first_at j n) (vias_at j n) allowed d ws f k
    rows-down zero k e i p q r s = absurd (omega arith)
    rows-down (suc t) k e i p q r s = go (rows-down t (suc k) (omega arith)) (lt-or-ge k i)
      where
        go : RowsAt (kids_at j n) (first_at j n) (vias_at j n) allowed d ws f (suc k) → (k < i) ⊎ (i ≤ k)
            → IsLeast allowed (tile_kids (suc i)) (tile_worth (suc i) (r ∷ [])) (f (suc i) r)
        go ih (inl c) = ih i c q r s
        go ih (inr c) = one-row i q (λ i' p' q'. ih i' (omega arith) q') r s

    -- the rows that the loops wrote are the net's
    pub rows_at : RowsAt (kids_at j n) (first_at j n) (vias_at j n) allowed d ws f 0
    rows_at = rows-down d 0 (omega arith)

    -- and with the root's least they are its table
    pub table_at : (v : ℕ) → LeastCost w' (4 * m) (first_at j n 0) (kids_at j n 0) j.layers (mask 0) v
        → TableAt (kids_at j n) (first_at j n) (vias_at j n) allowed d ws f v × (v < illegal_cost)
    table_at v t = finish (tile_worth 0 [] (best_of allowed (tile_worth 0 []) (tile_kids 0))) (best_of_lem 0 [])
      where
        finish : (u : ℕ) → IsLeast allowed (tile_kids 0) (tile_worth 0 []) u
            → TableAt (kids_at j n) (first_at j n) (vias_at j n) allowed d ws f v × (v < illegal_cost)
        finish u l =
            let small : v < illegal_cost = omega (
              arith,
              low-all 0 (omega arith) [] (covers-none 1 8) v t l.choice l.valid,
              l.costs,
              root-bound (kids_at j n) (vias_at j n) 1 j.layers (j.layers - 1) (price-costs j wide high n ok (λ x. x) (λ a b g. g)) (first_at j n) d ws steps
                  allowed holds.rising holds.inside f z holds.valid
                  u (record { root = l; rows = rows_at }),
              under (suc d) (j.layers - 1) (omega (arith, holds.fits, holds.small)) (omega (arith, deep)),
            ) in
            (record { root = tile-row 0 (omega arith) [] (covers-none 1 8) v small t; rows = rows_at }, small)
