-- The loop that stores the scores of a job's nets.
-- Assumes nothing.
use mathlib.Core.List.{List}
use mathlib.Core.Logic.{⊎_elim}
use mathlib.Core.Path.{◌≡◌, refl, sym, ap, ap₂, ◌∙◌}
use Prim.Native.Nat.{ℕ, suc, ◌+◌, ◌*◌, ◌/◌, ◌%◌, ◌≤◌, ◌<◌}
use native.Mathlib.Decide.{dec_lt}
use native.Mathlib.Omega.{arith}
use lib.ListN.{length, get_or, set, length-set}
use lib.Seq.{get_or-set_same, get_or-set_other}
use Rattle.layout.specs.Table.{tiles_column, vias_column, table_size, low_in, score_in, score_put}
use Rattle.layout.specs.declared.shape.Shape.{Shape}
use Rattle.model.specs.Job.{Job, net_count, net_of}
use Rattle.model.specs.Limits.{most_nets}
use Rattle.model.specs.Read.{Lent}
use Rattle.model.specs.Score.{different_tiles, score}
use Rattle.net.specs.Dropped.{Unmarked, unmarked-more, Remarked, remarked-same, remarked-then}
use Rattle.net.specs.Table.{Table, PinTiles, Marks, table-set, beside-tiles, beside-vias}
use Rattle.theory.specs.congestion.Sums.{same_cases}
use Rattle.order.specs.Ready.{Ready, SomeJob, SomeNet, Scored, ready-remarked}
use Rattle.order.specs.declared.Weights.{Weights}

-- ---- one score is stored

module _ (table : List ℕ) (i v : ℕ) where
  abbrev half : List ℕ
  half = set table (tiles_column i) (v % 4_294_967_296)

  -- what takes the place of the vias
  abbrev upper : ℕ
  upper = low_in table i + 16 * (v / 4_294_967_296)

  pub put-long : length (score_put table i v) ≡ length table
  put-long = length-set half (vias_column i) upper ∙ length-set table (tiles_column i) (v % 4_294_967_296)

  pub put-tiles : (k : ℕ) → i < k → get_or (score_put table i v) (tiles_column k) 0 ≡ get_or table (tiles_column k) 0
  put-tiles k h =
      get_or-set_other half (vias_column i) (tiles_column k) upper 0 (λ e. omega arith)
      ∙ get_or-set_other table (tiles_column i) (tiles_column k) (v % 4_294_967_296) 0 (λ e. omega arith)

  other-vias : (k : ℕ) → (k ≡ i → ⊥) → get_or (score_put table i v) (vias_column k) 0 ≡ get_or table (vias_column k) 0
  other-vias k h =
      get_or-set_other half (vias_column i) (vias_column k) upper 0 (λ e. h (omega arith))
      ∙ get_or-set_other table (tiles_column i) (vias_column k) (v % 4_294_967_296) 0 (λ e. omega arith)

  put_other : (k : ℕ) → k < i → score_in (score_put table i v) k ≡ score_in table k
  put_other k h =
      ap₂ (λ (x y : ℕ). x + 4_294_967_296 * (y / 16))
      (get_or-set_other half (vias_column i) (tiles_column k) upper 0 (λ e. omega arith) ∙ get_or-set_other table (tiles_column i) (tiles_column k) (v % 4_294_967_296) 0 (λ e. omega arith))
      (other-vias k (λ e. omega arith))

  module _ (h : i < most_nets) (long : table_size ≤ length table) where
    here-vias : get_or (score_put table i v) (vias_column i) 0 ≡ low_in table i + 16 * (v / 4_294_967_296)
    here-vias = get_or-set_same half (vias_column i) upper 0 (omega (arith, length-set table (tiles_column i) (v % 4_294_967_296)))

    put-here : score_in (score_put table i v) i ≡ v
    put-here =
        omega (
          arith,
          get_or-set_other half (vias_column i) (tiles_column i) upper 0 (λ e. omega arith),
          get_or-set_same table (tiles_column i) (v % 4_294_967_296) 0 (omega arith),
          here-vias,
        )

    -- the lowest wanted layers stay
    put-lows : (k : ℕ) → low_in (score_put table i v) k ≡ low_in table k
    put-lows k =
        ⊎_elim
        (λ s. ap (low_in (score_put table i v)) s.0 ∙ here ∙ ap (low_in table) (sym s.0))
        (λ s. ap (λ (x : ℕ). x % 16) (other-vias k s.0))
        (same_cases k i)
      where
        here : low_in (score_put table i v) i ≡ low_in table i
        here = omega (arith, here-vias)

  put-rows : (s : List ℕ) (j : Job) → Table s j table → Table s j (score_put table i v)
  put-rows s j t = table-set s j half (vias_column i) upper (beside-vias i) (table-set s j table (tiles_column i) (v % 4_294_967_296) (beside-tiles i) t)

-- ---- the loop

-- the first i scores are stored, and the marks and the links are of the first i stamps
pub record Scoring (s : List ℕ) (g : Shape) (a : Weights) (w₀ old : List ℕ) (n : ℕ) (w table : List ℕ) (i : ℕ) : Type 0 where
  pub below : i ≤ n
  pub marks : Remarked g (a.stamp + i) w₀ w
  pub long : length table ≡ length old
  pub left : (k : ℕ) → i ≤ k → get_or table (tiles_column k) 0 ≡ get_or old (tiles_column k) 0
  pub rows : (j : Job) → Table s j old → Table s j table
  pub lows : (k : ℕ) → low_in table k ≡ low_in old k
  pub scores : (lent : Lent) (j : Job) → Ready s g a w₀ old lent j → PinTiles j old → n ≡ net_count j → (k : ℕ) → k < i → score_in table k ≡ score j (net_of j (suc k))

module _ (s : List ℕ) (g : Shape) (a : Weights) (w₀ old : List ℕ) (n : ℕ) where
  pub scoring-first : SomeJob s g a w₀ old n → Unmarked g (suc (2 * n)) w₀ → Scoring s g a w₀ old n w₀ old 0
  scoring-first o u = record {
    below = omega arith;
    marks = remarked-same g (suc (2 * n)) (a.stamp + 0) w₀ (omega (arith, o.ready.stamp, o.count)) u;
    long = refl;
    left = λ k h. refl;
    rows = λ j t. t;
    lows = λ k. refl;
    scores = λ lent j ready pins c k h. absurd (omega arith);
  }

  module _ (w table : List ℕ) (i : ℕ) (f : Scoring s g a w₀ old n w table i) where
    still-ready : (lent : Lent) (j : Job) → Ready s g a w₀ old lent j → Ready s g a w table lent j
    still-ready lent j r = ready-remarked s g a (a.stamp + i) w₀ w old table lent j r f.marks (f.rows j r.rows)

    module _ (o : SomeJob s g a w₀ old n) where
      pub scoring-marks : n ≤ i → Remarked g (suc (3 * n)) w₀ w
      scoring-marks h = record {
        out = f.marks.out;
        after = unmarked-more g (a.stamp + i) (suc (3 * n)) w (omega (arith, o.ready.stamp, o.count, f.below)) f.marks.after;
      }

      module _ (h : i < n) where
        pub net-there : SomeNet s g a w table i
        net-there = record {
          lent = o.lent;
          job = o.job;
          ready = still-ready o.lent o.job o.ready;
          there = omega (arith, o.count);
          pins = f.left i (omega arith) ∙ o.pins i (omega (arith, o.count));
        }

        pub few : (i < most_nets) × (table_size ≤ length table)
        few = (omega (arith, o.count, o.ready.accepted.count_of_nets), (f.rows o.job o.ready.rows).long)

        pub scoring-next : (w' : List ℕ) → Remarked g (a.stamp + (i + 1)) w w' → (v : ℕ)
            → ((lent : Lent) (j : Job) → Ready s g a w table lent j → i < net_count j → get_or table (tiles_column i) 0 ≡ different_tiles (net_of j (suc i)).pins → v ≡ score j (net_of j (suc i)))
            → Scoring s g a w₀ old n w' (score_put table i v) (i + 1)
        scoring-next w' m v is = record {
          below = omega arith;
          marks = remarked-then g (a.stamp + i) (a.stamp + (i + 1)) w₀ w w' f.marks m;
          long = put-long table i v ∙ f.long;
          left = λ k l. put-tiles table i v k (omega arith) ∙ f.left k (omega arith);
          rows = λ j t. put-rows table i v s j (f.rows j t);
          lows = λ k. put-lows table i v few.0 few.1 k ∙ f.lows k;
          scores = λ lent j ready pins c k l. go lent j ready pins c k l (dec_lt k i);
        }
          where
            go : (lent : Lent) (j : Job) → Ready s g a w₀ old lent j → PinTiles j old → n ≡ net_count j → (k : ℕ) → k < i + 1 → Dec (k < i) → score_in (score_put table i v) k ≡ score j (net_of j (suc k))
            go lent j ready pins c k l (yes d) = put_other table i v k d ∙ f.scores lent j ready pins c k d
            go lent j ready pins c k l (no d) =
                let e : k ≡ i = omega arith in
                let b : i < net_count j = omega (arith, c) in
                ap (score_in (score_put table i v)) e ∙ put-here table i v few.0 few.1
                ∙ is lent j (still-ready lent j ready) b (f.left i (omega arith) ∙ pins i b)
                ∙ ap (λ (x : ℕ). score j (net_of j (suc x))) (omega arith)

    pub scoring-done : n ≤ i → (lent : Lent) (j : Job) → Ready s g a w₀ old lent j → PinTiles j old → Marks j old → n ≡ net_count j → Scored s j table
    scoring-done h lent j ready pins lows c = record {
      rows = f.rows j ready.rows;
      scores = λ k l. f.scores lent j ready pins c k (omega (arith, c, f.below));
      lows = λ k l. f.lows k ∙ lows k l;
    }
