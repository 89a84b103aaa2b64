-- The line `low`, which may be left out, and the lines behind it.
-- Assumes nothing.
use mathlib.Core.List.{List}
use mathlib.Core.Bool.{true, false}
use mathlib.Core.Option.{Option, some}
use mathlib.Core.Path.{◌≡◌, refl, sym, ap, ◌∙◌, subst}
use Prim.Native.Nat.{ℕ, zero, suc, ◌+◌, ◌≤◌, ◌<◌}
use native.Mathlib.Omega.{arith}
use lib.ListN.{length, get_or, set, length-set}
use lib.Seq.{get_or-set_same, get_or-set_other}
use Rattle.std.specs.Prelude.{Some, None, Ok, Err, is_err, Option as Maybe, Result as Outcome}
use Rattle.std.specs.Option.{unwrap_or}
use Rattle.layout.specs.Shapes.{sizes_of}
use Rattle.layout.specs.Table.{vias_column, table_size}
use Rattle.layout.specs.declared.shape.Shape.{Shape}
use Rattle.lines.specs.Keyed.{key_bytes, ranged_by, ranged-is}
use Rattle.lines.specs.Opens.{key-there, key-other, opening-there, opening-other}
use Rattle.lines.specs.Reads.{opening_of}
use Rattle.lines.specs.Told.{field_told, refused_by, After}
use Rattle.model.specs.Job.{Net}
use Rattle.model.specs.Limits.{most_nets}
use Rattle.model.specs.Read.{Place, Result, found, next, give, ranged, if_there, Sizes, low_line, pins_line, edges_line}
use Rattle.text.specs.Refusals.{place_of}
use Rattle.text.specs.declared.Cursor.{Cursor}
use Rattle.text.specs.declared.Refusal.{Refusal}
use Rattle.theory.specs.links.JobText.{option_lines}
use Rattle.theory.specs.links.Reading.{any-gives, then-gives, gives_found, ranged-gives}
use Rattle.nets.specs.Nets.{LowRead, NetRead, low_at, low_told, low_holds, body_in, rest_in, NetTold}

-- the bytes of `low=`
abbrev pub key : List ℕ
key = key_bytes "low"

-- a number above 0 is a layer
some-layer : (n : ℕ) → 1 ≤ n → some n ≡ low_at n
some-layer zero h = absurd (omega arith)
some-layer (suc n) h = refl

one_line : (n : ℕ) → 1 ≤ n → option_lines (low_at n) ≡ 1
one_line zero h = absurd (omega arith)
one_line (suc n) h = refl

-- which of the two it is
module _ {A B : Type 0} where
  is-ok : (o : Outcome A B) → is_err o ≡ false → (x : A) × (o ≡ Ok x)
  is-ok (Ok x) h = (x, refl)
  is-ok (Err y) h = cc

  is-err : (o : Outcome A B) → is_err o ≡ true → (y : B) × (o ≡ Err y)
  is-err (Ok x) h = cc
  is-err (Err y) h = (y, refl)

module _ (s : List ℕ) (c : Cursor) (o : Outcome Cursor Cursor) (e : o ≡ opening_of s c key) (k : ℕ) where
  -- the key is not there: nothing is read
  pub low-none : is_err o ≡ true → low_told s (Ok (None, c)) ≡ low_line k (place_of s c)
  unfolding low_line
  low-none t = let b = is-err o t in sym (key-other s c key (opening-other s c key b.0 (sym e ∙ b.1)).0 (λ l u. if_there u (ranged "low" 1 k) (place_of s c)))

  -- it is there: the line has one number
  module _ (t : is_err o ≡ false) (f : Outcome (ℕ × Cursor) Refusal) (told : field_told s f ≡ ranged_by (key_bytes "low") 1 k (place_of s c)) where
    low_is : low_line k (place_of s c) ≡ next (field_told s f) (λ n. give (some n))
    unfolding low_line
    low_is =
        let b = is-ok o t in
        key-there s c key b.0 (opening-there s c key b.0 (sym e ∙ b.1)) (λ l u. if_there u (ranged "low" 1 k) (place_of s c))
        ∙ ap (λ (r : Result ℕ). next r (λ n. give (some n))) (ranged-is "low" 1 k (place_of s c) ∙ sym told)

    pub low-refused : (r : Refusal) → f ≡ Err r → low_told s (Err r) ≡ low_line k (place_of s c)
    low-refused r h = sym (low_is ∙ ap (λ (x : Outcome (ℕ × Cursor) Refusal). next (field_told s x) (λ n. give (some n))) h)

    module _ (n : ℕ) (d : Cursor) (h : f ≡ Ok (n, d)) where
      pub low-range : (1 ≤ n) × (n ≤ k)
      low-range =
          gives_found (λ m. (1 ≤ m) × (m ≤ k)) (ranged "low" 1 k (place_of s c)) n (place_of s d) (ranged-is "low" 1 k (place_of s c) ∙ sym told ∙ ap (field_told s) h)
          (ranged-gives "low" 1 k (place_of s c))

      pub low_value : low_told s (Ok (Some n, d)) ≡ low_line k (place_of s c)
      low_value =
          sym (low_is ∙ ap (λ (x : Outcome (ℕ × Cursor) Refusal). next (field_told s x) (λ m. give (some m))) h ∙ ap (λ (x : Option ℕ). found x (place_of s d)) (some-layer n low-range.0))

      pub low-after : (size : ℕ) → After size (c.line + 1) d → low_holds size c.line (Ok (Some n, d))
      low-after size a = record { place = a.place; lines = omega (arith, a.lines, one_line n low-range.0) }

-- where the answer's case is known
pub low-holds : (r : LowRead) (size line : ℕ) (m : Maybe ℕ) (c : Cursor) → r ≡ Ok (m, c) → low_holds size line r → After size (line + option_lines (low_at (unwrap_or m 0))) c
low-holds r size line m c e h = rw e at h

-- ---- the lines behind it

-- the net has the lowest wanted layer that was read before
body-low : (z : Sizes) (low : Option ℕ) (p : Place) (n : Net) (q : Place) → body_in z low p ≡ found n q → n.low ≡ low
unfolding body_in
body-low z low p n q e =
    gives_found (λ m. m.low ≡ low) (body_in z low p) n q e
    (then-gives (λ ps. Unit {0}) (λ m. m.low ≡ low) (pins_line z p) _ (any-gives (pins_line z p))
    (λ ps p1 t1. then-gives (λ es. Unit {0}) (λ m. m.low ≡ low) (edges_line z ps p1) _ (any-gives (edges_line z ps p1)) (λ es p2 t2. refl)))

module _ (s : List ℕ) (c : Cursor) (g : Shape) (i first : ℕ) (l : LowRead) (told : low_told s l ≡ low_line g.k (place_of s c)) where
  pub rest-refused : (f : Refusal) → l ≡ Err f → rest_in (sizes_of g) (place_of s c) ≡ refused_by f
  unfolding rest_in
  rest-refused f e = ap (λ (x : Result (Option ℕ)). next x (λ low. body_in (sizes_of g) low)) (sym told ∙ ap (low_told s) e)

  rest-is : (m : Maybe ℕ) (d : Cursor) → l ≡ Ok (m, d) → rest_in (sizes_of g) (place_of s c) ≡ body_in (sizes_of g) (low_at (unwrap_or m 0)) (place_of s d)
  unfolding rest_in
  rest-is m d e = ap (λ (x : Result (Option ℕ)). next x (λ low. body_in (sizes_of g) low)) (sym told ∙ ap (low_told s) e)

  pub rest-goes-on : (m : Maybe ℕ) (d : Cursor) → l ≡ Ok (m, d) → d.line ≡ c.line + option_lines (low_at (unwrap_or m 0)) → (w w' table table₁ table' : List ℕ) (r : NetRead) → i < most_nets → table_size ≤ length table
      → table₁ ≡ set table (vias_column i) (unwrap_or m 0) → NetTold s g i first (λ _. d.line + 2) w w' table₁ table' (body_in (sizes_of g) (low_at (get_or table₁ (vias_column i) 0)) (place_of s d)) r
      → NetTold s g i first (λ n. c.line + 2 + option_lines n.low) w w' table table' (rest_in (sizes_of g) (place_of s c)) r
  rest-goes-on m d e h w w' table table₁ table' r turn room put t =
      go r
      (subst (λ (x : ℕ). NetTold s g i first (λ _. d.line + 2) w w' table₁ table' (body_in (sizes_of g) (low_at x) (place_of s d)) r)
      (ap (λ (x : List ℕ). get_or x (vias_column i) 0) put ∙ get_or-set_same table (vias_column i) (unwrap_or m 0) 0 (omega arith)) t)
    where
      go : (r : NetRead) → NetTold s g i first (λ _. d.line + 2) w w' table₁ table' (body_in (sizes_of g) (low_at (unwrap_or m 0)) (place_of s d)) r
          → NetTold s g i first (λ n. c.line + 2 + option_lines n.low) w w' table table' (rest_in (sizes_of g) (place_of s c)) r
      go (Err f) t = rest-is m d e ∙ t
      go (Ok x) t = record {
        net = t.net;
        is = rest-is m d e ∙ t.is;
        after = record {
          place = t.after.place;
          lines = omega (arith, t.after.lines, h, ap option_lines (body-low (sizes_of g) (low_at (unwrap_or m 0)) (place_of s d) t.net (place_of s x.0) t.is));
        };
        count_is = t.count_is;
        counted = t.counted;
        row = t.row;
        table_long = t.table_long ∙ ap length put ∙ length-set table (vias_column i) (unwrap_or m 0);
        rows_before = λ k b. t.rows_before k b ∙ ap (λ (x : List ℕ). get_or x k 0) put ∙ get_or-set_other table (vias_column i) k (unwrap_or m 0) 0 (λ p. omega arith);
      }
