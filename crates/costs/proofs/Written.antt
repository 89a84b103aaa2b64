-- The row of one tile, written from the tile's costs, and all rows from the last tile to the second.
-- Assumes nothing.
use mathlib.Core.Path.{◌≡◌, refl, sym, ap, ◌∙◌, subst}
use mathlib.Core.List.{List}
use mathlib.Core.Bool.{Bool, true, false, cond}
use mathlib.Core.Logic.{◌⊎◌, inl, inr, ◌≢◌}
use Prim.Native.Nat.{ℕ, suc, ◌+◌, ◌-◌, ◌*◌, ◌/◌, ◌%◌, ◌^◌, ◌≤◌, ◌<◌}
use native.Mathlib.Omega.{arith}
use lib.Dec.{T, eqb, eqb→eq}
use lib.ListN.{get_or, length, take, set, length-set}
use lib.Seq.{take-set-le, drop-set-lt, get_or-set_same, get_or-set_other, take-take}
use Rattle.theory.specs.congestion.Sums.{lt-or-ge}
use Rattle.theory.specs.engine.Table.{Agree}
use Rattle.sets.specs.Mask.{has, with_layer}
use Rattle.costs.specs.Rows.{illegal_cost, row_at, LeastCost, RowEntry, TileCosts, RowPut, RowWritten, first_in, branches_in, pins_in, legal_in, LayerMask, Shape, RowsFrom}
use Rattle.costs.specs.Kept.{agree-drop, entry_kept, drop_more, rows-read}

-- ---- one row, layer by layer

cond_yes : (t x y : ℕ) → t ≡ 1 → x ≡ cond (eqb t 1) x y
cond_yes t x y e = rw e refl

pub legal-yes : (t x y z : ℕ) → t ≡ 1 → z ≡ x → z ≡ cond (eqb t 1) x y
legal-yes t x y z h e = e ∙ cond_yes t x y h

pub legal-no : (t x y z : ℕ) → t ≢ 1 → z ≡ y → z ≡ cond (eqb t 1) x y
legal-no t x y z h e = go (eqb t 1) refl
  where
    go : (q : Bool) → eqb t 1 ≡ q → z ≡ cond (eqb t 1) x y
    go false i = rw i e
    go true i = absurd (h (eqb→eq t 1 (subst (λ (b : Bool). T b) (sym i) tt)))

pub put-none : (w c : List ℕ) (at legal : ℕ) → RowPut w w c at 0 legal
put-none w c at legal = record { long = refl; before = refl; after = refl; row = λ l h. absurd (omega arith) }

pub put-more : (w w' c : List ℕ) (at legal l v : ℕ) → l < 8 → at + 8 ≤ length w → v ≡ cond (eqb (legal / 2 ^ l % 2) 1) (get_or c l 0) illegal_cost
    → RowPut w w' c at l legal → RowPut w (set w' (at + l) v) c at (l + 1) legal
put-more w w' c at legal l v h room e p = record {
  long = length-set w' (at + l) v ∙ p.long;
  before = take-set-le at w' (at + l) v (omega arith) ∙ p.before;
  after = drop-set-lt (at + 8) w' (at + l) v (omega arith) ∙ p.after;
  row = λ t q. go t q (lt-or-ge t l);
}
  where
    go : (t : ℕ) → t < l + 1 → (t < l) ⊎ (l ≤ t) → get_or (set w' (at + l) v) (at + t) 0 ≡ cond (eqb (legal / 2 ^ t % 2) 1) (get_or c t 0) illegal_cost
    go t q (inl k) = get_or-set_other w' (at + l) (at + t) v 0 (λ z. omega (arith, z)) ∙ p.row t k
    go t q (inr k) = let i : t ≡ l = omega arith in rw i (get_or-set_same w' (at + l) v 0 (omega (arith, p.long)) ∙ e)

pub put_all : (w w' c : List ℕ) (at K l legal : ℕ) → K ≤ l → RowPut w w' c at l legal → RowPut w w' c at K legal
put_all w w' c at K l legal h p = record { long = p.long; before = p.before; after = p.after; row = λ t q. p.row t (omega arith) }

-- the costs of a tile, put from the start of its row on, are its row
pub row_written : (w w' c : List ℕ) (o i first k K pins legal : ℕ) → TileCosts w o first k K pins c → RowPut w w' c (o + 8 * i) K legal
    → RowWritten w w' o i first k K pins legal
row_written w w' c o i first k K pins legal costs p = record { long = p.long; before = p.before; after = p.after; row = at-layer }
  where
    entry : (l x v : ℕ) → LeastCost w o first k K (with_layer pins l) x → v ≡ cond (has legal l) x illegal_cost → RowEntry w o first k K pins legal l v
    entry l x v t e = go (has legal l) refl
      where
        go : (q : Bool) → has legal l ≡ q → RowEntry w o first k K pins legal l v
        go true i = let f : v ≡ x = e ∙ ap (λ (b : Bool). cond b x illegal_cost) i in rw f (record { least = λ h. t; mark = inl (subst (λ (b : Bool). T b) (sym i) tt) })
        go false i =
            let f : v ≡ illegal_cost = e ∙ ap (λ (b : Bool). cond b x illegal_cost) i in
            record { least = λ h. absurd (subst (λ (b : Bool). T b) i h); mark = inr (omega (arith, f)) }

    at-layer : (l : ℕ) → 1 ≤ l → l ≤ K → RowEntry w o first k K pins legal l (row_at w' o i l)
    at-layer l a b = entry l (get_or c (l - 1) 0) (row_at w' o i l) (costs l a b) (p.row (l - 1) (omega arith))

-- ---- all rows

pub rows_start : (w : List ℕ) (m n K : ℕ) → RowsFrom w w m n K n
rows_start w m n K = record { long = refl; low = refl; high = refl; rows = λ j a b l. absurd (omega arith) }

pub rows_step : (w w' w'' : List ℕ) (m n K i first k pins legal : ℕ) → Shape w m n K → RowsFrom w w' m n K (i + 1) → 1 ≤ i → i < n
    → first ≡ first_in w i → k ≡ branches_in w i → pins ≡ pins_in w m i → legal ≡ legal_in w m i
    → RowWritten w' w'' (4 * m) i first k K pins legal → RowsFrom w w'' m n K i
rows_step w w' w'' m n K i first k pins legal s r p q ef ek ep el u = record {
  long = u.long ∙ r.long;
  low = sym (take-take (4 * m) (4 * m + 8 * i) w'' (omega arith)) ∙ ap (take (4 * m)) u.before ∙ take-take (4 * m) (4 * m + 8 * i) w' (omega arith) ∙ r.low;
  high = drop_more (4 * m + 8 * i + 8) (4 * m + 8 * n) w' w'' (omega arith) u.after ∙ r.high;
  rows = λ j a b l c d. go j a b l c d (lt-or-ge i j);
}
  where
    here : (l : ℕ) → 1 ≤ l → l ≤ K → RowEntry w'' (4 * m) first k K pins legal l (row_at w'' (4 * m) i l)
    here l c d =
        entry_kept w' w'' (4 * m) first k K (agree-drop w' w'' (4 * m) i u.after first (omega (arith, s.ahead i p q, ef))) pins legal l (row_at w'' (4 * m) i l)
        (u.row l c d)

    go : (j : ℕ) → i ≤ j → j < n → (l : ℕ) → 1 ≤ l → l ≤ K → (i < j) ⊎ (j ≤ i)
        → RowEntry w'' (4 * m) (first_in w j) (branches_in w j) K (pins_in w m j) (legal_in w m j) l (row_at w'' (4 * m) j l)
    go j a b l c d (inl e) =
        let ag : Agree (row_at w'' (4 * m)) (row_at w' (4 * m)) (suc i) = agree-drop w' w'' (4 * m) i u.after (suc i) (omega arith) in
        rw (ag j e l)
        (entry_kept w' w'' (4 * m) (first_in w j) (branches_in w j) K (λ t z y. ag t (omega (arith, s.ahead j (omega arith) b)) y) (pins_in w m j) (legal_in w m j) l
        (row_at w' (4 * m) j l) (r.rows j (omega arith) b l c d))
    go j a b l c d (inr e) =
        let e' : j ≡ i = omega arith in
        rw (e', ← ek, ← ef, ← ep, ← el) (here l c d)

-- tile t - 1 comes next
pub rows_next : (w w' w'' : List ℕ) (m n K t i : ℕ) → i ≡ t - 1 → Shape w m n K → RowsFrom w w' m n K t → 1 < t → t ≤ n
    → RowWritten w' w'' (4 * m) i (first_in w' i) (branches_in w' i) K (pins_in w' m i) (legal_in w' m i) → RowsFrom w w'' m n K i
rows_next w w' w'' m n K t i h s r p q u =
    let e : t ≡ i + 1 = omega arith in
    let e₁ = read (i - 1) (omega (arith, s.fits)) in
    let e₂ = read i (omega (arith, s.fits)) in
    rows_step w w' w'' m n K i (first_in w' i) (branches_in w' i) (pins_in w' m i) (legal_in w' m i) s
    (subst (λ (x : ℕ). RowsFrom w w' m n K x) e r) (omega arith) (omega arith) e₁ (omega (arith, e₁, e₂)) (read (m + i) (omega (arith, s.fits)))
    (read (2 * m + i) (omega (arith, s.fits))) u
  where
    read : (x : ℕ) → x < 4 * m → get_or w' x 0 ≡ get_or w x 0
    read = rows-read w w' m n K t r

pub rows_all : (w w' : List ℕ) (m n K t : ℕ) → t ≡ 1 → RowsFrom w w' m n K t → RowsFrom w w' m n K 1
rows_all w w' m n K t e r = subst (λ (x : ℕ). RowsFrom w w' m n K x) e r

-- ---- what is asked at a tile

pub row-asks : (w : List ℕ) (m n K : ℕ) → Shape w m n K → (i : ℕ) → 1 ≤ i → i < n → (first end pins : ℕ) → first ≡ first_in w i → end ≡ get_or w i 0 → pins ≡ pins_in w m i
    → (end - first ≤ 3) × (LayerMask K pins × (((1 ≤ K) × (K ≤ 8)) × (((first ≤ 65536) × (4 * m ≤ 16777216)) × (4 * m + 8 * (first + (end - first)) ≤ length w))))
row-asks w m n K s i p q first end pins ef ee ep =
    let a = s.few i p q in
    let b = s.rising i p q in
    let d = s.within i q in (
      omega (arith, a, ef, ee),
      (
        subst (λ (x : ℕ). LayerMask K x) (sym ep) (s.pins i q),
        ((s.some, s.deep), ((omega (arith, b, d, ef, s.fits, s.small), omega (arith, s.small)), omega (arith, b, d, ef, ee, s.fits, s.room))),
      ),
    )

pub root-asks : (w : List ℕ) (m n K : ℕ) → Shape w m n K → (end pins : ℕ) → end ≡ get_or w 0 0 → pins ≡ get_or w m 0
    → (end - 1 ≤ 3) × (LayerMask K pins × (((1 ≤ K) × (K ≤ 8)) × (((1 ≤ 65536) × (4 * m ≤ 16777216)) × (4 * m + 8 * (1 + (end - 1)) ≤ length w))))
root-asks w m n K s end pins ee ep =
    let d = s.within 0 s.tiles in
    let i : m + 0 ≡ m = omega arith in (
      omega (arith, ee, s.root_few),
      (
        subst (λ (x : ℕ). LayerMask K x) (ap (λ (x : ℕ). get_or w x 0) i ∙ sym ep) (s.pins 0 s.tiles),
        ((s.some, s.deep), ((omega arith, omega (arith, s.small)), omega (arith, ee, d, s.start, s.fits, s.room))),
      ),
    )

-- the row of tile i from the numbers as code reads them
pub tile-written : (w w' c : List ℕ) (m i K first end pins legal : ℕ) → first ≡ first_in w i → end ≡ get_or w i 0 → pins ≡ pins_in w m i → legal ≡ legal_in w m i
    → TileCosts w (4 * m) first (end - first) K pins c → RowPut w w' c (4 * m + 8 * i) K legal
    → RowWritten w w' (4 * m) i (first_in w i) (branches_in w i) K (pins_in w m i) (legal_in w m i)
tile-written w w' c m i K first end pins legal ef ee ep el t p = rw (← ee, ← ef, ← ep, ← el) (row_written w w' c (4 * m) i first (end - first) K pins legal t p)
