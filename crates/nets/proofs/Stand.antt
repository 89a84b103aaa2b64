-- Where the entries of a net's lines stand in the text, and the row that says so.
-- Assumes nothing.
use mathlib.Core.Bool.{Bool, true, false, cond}
use mathlib.Core.List.{List, map}
use mathlib.Core.Option.{Option, none, some}
use mathlib.Core.Path.{◌≡◌, refl, sym, ap, ◌∙◌}
use Prim.Native.Nat.{ℕ, suc, ◌+◌, ◌*◌, ◌≤◌, ◌<◌}
use native.Mathlib.Omega.{arith}
use lib.ListN.{length, drop, get_or, set, length-set}
use lib.Seq.{drop-drop, get_or-set_same, get_or-set_other}
use Rattle.layout.specs.Table.{pins_column, edges_column, tiles_column, first_column, count_column, vias_column, table_size}
use Rattle.model.specs.Job.{Net}
use Rattle.model.specs.Score.{different_tiles}
use Rattle.model.specs.Limits.{most_nets}
use Rattle.model.specs.Lists.{all, twice}
use Rattle.model.specs.Read.{Place, refused, found, pin_inside, pin_at, same_pin, pins_line}
use Rattle.model.specs.Text.{bytes}
use Rattle.net.specs.Table.{PinsAt, EdgesAt, counts_of, mark_of}
use Rattle.scan.specs.Keys.{judged, on_key, pins-law, behind-is}
use Rattle.scan.specs.Lines.{Lined}
use Rattle.scan.specs.Pins.{pins_of}
use Rattle.text.specs.Entries.{starts_with}
use Rattle.nets.specs.Rows.{row_put, RowAt}

-- ---- the pins of a `pins` line

module _ (s : List ℕ) (W H K at : ℕ) (net : Net) (n : ℕ) (q : Place) where
  stand-lined : (r : Lined) → pins_of (drop (at + 5) s) ≡ r → judged W H K (suc n) r ≡ found net.pins q → PinsAt s W H K (at + 5) net
  stand-lined none h e = absurd (let y : ◌≡◌ {A = ℕ} 0 1 = cc in omega arith)
  stand-lined (some c) h e = go (all (pin_inside W H K) c.0) (twice same_pin (map (pin_at W) c.0)) refl e
    where
      go : (a b : Bool) → all (pin_inside W H K) c.0 ≡ a
          → cond a (cond b (refused 5 (suc n)) (found (map (pin_at W) c.0) (record { line = suc n; rest = c.1 }))) (refused 3 (suc n)) ≡ found net.pins q
          → PinsAt s W H K (at + 5) net
      go false b i k = absurd (let y : ◌≡◌ {A = ℕ} 0 1 = cc in omega arith)
      go true true i k = absurd (let y : ◌≡◌ {A = ℕ} 0 1 = cc in omega arith)
      go true false i k = record { entries = c.0; rest = c.1; there = h; inside = i; are = cc }

  stand-keyed : (b : Bool) → on_key W H K (suc n) (cond b (some (drop 5 (drop at s))) none) ≡ found net.pins q → PinsAt s W H K (at + 5) net
  stand-keyed true e = stand-lined (pins_of (drop 5 (drop at s))) (ap pins_of (sym (drop-drop 5 at s))) e
  stand-keyed false e = absurd (let y : ◌≡◌ {A = ℕ} 0 1 = cc in omega arith)

  -- the pins that the line gives stand behind its key, whatever the directions
  pub pins-stand : (ds : Option (List ℕ)) → pins_line (record { width = W; height = H; layers = K; dirs = ds }) (record { line = n; rest = drop at s }) ≡ found net.pins q
      → PinsAt s W H K (at + 5) net
  pins-stand ds e =
      stand-keyed (starts_with (bytes "pins=") (drop at s))
      (ap (on_key W H K (suc n)) (sym (behind-is (bytes "pins=") (drop at s))) ∙ sym (pins-law (record { width = W; height = H; layers = K; dirs = ds }) n (drop at s)) ∙ e)

-- ---- the row

module _ (t : List ℕ) (i a b c d e : ℕ) (turn : i < most_nets) (long : table_size ≤ length t) where
  abbrev t₁ : List ℕ
  t₁ = set t (pins_column i) a

  abbrev t₂ : List ℕ
  t₂ = set (set t (pins_column i) a) (edges_column i) b

  abbrev t₃ : List ℕ
  t₃ = set (set (set t (pins_column i) a) (edges_column i) b) (tiles_column i) c

  abbrev t₄ : List ℕ
  t₄ = set (set (set (set t (pins_column i) a) (edges_column i) b) (tiles_column i) c) (first_column i) d

  long₁ : length t₁ ≡ length t
  long₁ = length-set t (pins_column i) a

  long₂ : length t₂ ≡ length t
  long₂ = length-set t₁ (edges_column i) b ∙ long₁

  long₃ : length t₃ ≡ length t
  long₃ = length-set t₂ (tiles_column i) c ∙ long₂

  long₄ : length t₄ ≡ length t
  long₄ = length-set t₃ (first_column i) d ∙ long₃

  pub row-long : length (row_put t i a b c d e) ≡ length t
  row-long = length-set t₄ (count_column i) e ∙ long₄

  pub row-others : (k : ℕ) → k < 6 * i → get_or (row_put t i a b c d e) k 0 ≡ get_or t k 0
  row-others k h =
      get_or-set_other t₄ (count_column i) k e 0 (λ p. omega arith)
      ∙ get_or-set_other t₃ (first_column i) k d 0 (λ p. omega arith)
      ∙ get_or-set_other t₂ (tiles_column i) k c 0 (λ p. omega arith)
      ∙ get_or-set_other t₁ (edges_column i) k b 0 (λ p. omega arith)
      ∙ get_or-set_other t (pins_column i) k a 0 (λ p. omega arith)

  row-pins : get_or (row_put t i a b c d e) (pins_column i) 0 ≡ a
  row-pins =
      get_or-set_other t₄ (count_column i) (pins_column i) e 0 (λ p. omega arith)
      ∙ get_or-set_other t₃ (first_column i) (pins_column i) d 0 (λ p. omega arith)
      ∙ get_or-set_other t₂ (tiles_column i) (pins_column i) c 0 (λ p. omega arith)
      ∙ get_or-set_other t₁ (edges_column i) (pins_column i) b 0 (λ p. omega arith)
      ∙ get_or-set_same t (pins_column i) a 0 (omega arith)

  row-edges : get_or (row_put t i a b c d e) (edges_column i) 0 ≡ b
  row-edges =
      get_or-set_other t₄ (count_column i) (edges_column i) e 0 (λ p. omega arith)
      ∙ get_or-set_other t₃ (first_column i) (edges_column i) d 0 (λ p. omega arith)
      ∙ get_or-set_other t₂ (tiles_column i) (edges_column i) c 0 (λ p. omega arith)
      ∙ get_or-set_same t₁ (edges_column i) b 0 (omega (arith, long₁))

  row-tiles : get_or (row_put t i a b c d e) (tiles_column i) 0 ≡ c
  row-tiles =
      get_or-set_other t₄ (count_column i) (tiles_column i) e 0 (λ p. omega arith)
      ∙ get_or-set_other t₃ (first_column i) (tiles_column i) d 0 (λ p. omega arith)
      ∙ get_or-set_same t₂ (tiles_column i) c 0 (omega (arith, long₂))

  row_first : get_or (row_put t i a b c d e) (first_column i) 0 ≡ d
  row_first =
      get_or-set_other t₄ (count_column i) (first_column i) e 0 (λ p. omega arith)
      ∙ get_or-set_same t₃ (first_column i) d 0 (omega (arith, long₃))

  row_count : get_or (row_put t i a b c d e) (count_column i) 0 ≡ e
  row_count = get_or-set_same t₄ (count_column i) e 0 (omega (arith, long₄))

  row_low : get_or (row_put t i a b c d e) (vias_column i) 0 ≡ get_or t (vias_column i) 0
  row_low =
      get_or-set_other t₄ (count_column i) (vias_column i) e 0 (λ p. omega arith)
      ∙ get_or-set_other t₃ (first_column i) (vias_column i) d 0 (λ p. omega arith)
      ∙ get_or-set_other t₂ (tiles_column i) (vias_column i) c 0 (λ p. omega arith)
      ∙ get_or-set_other t₁ (edges_column i) (vias_column i) b 0 (λ p. omega arith)
      ∙ get_or-set_other t (pins_column i) (vias_column i) a 0 (λ p. omega arith)

  pub row-stands : (s : List ℕ) (W H K : ℕ) (net : Net) → PinsAt s W H K a net → EdgesAt s W H b net → c ≡ different_tiles net.pins → e ≡ counts_of net
      → get_or t (vias_column i) 0 ≡ mark_of net.low → RowAt s W H K (row_put t i a b c d e) i d net
  row-stands s W H K net pins edges pin_tiles counts low = record {
    pins = rw row-pins pins;
    edges = rw row-edges edges;
    pin_tiles = row-tiles ∙ pin_tiles;
    counts = row_count ∙ counts;
    first_is = row_first;
    low_is = row_low ∙ low;
  }
