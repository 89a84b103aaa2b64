-- The loop's answer is the definitions', where every mark is an earlier net's.
-- Assumes nothing.
use mathlib.Core.Bool.{Bool, true, false, ◌&&◌, ◌||◌, cond}
use mathlib.Core.List.{List, [], ◌∷◌, map}
use mathlib.Core.Option.{none, some}
use mathlib.Core.Path.{◌≡◌, refl, sym, ap, ◌∙◌}
use Prim.Native.Nat.{ℕ, suc, ◌+◌, ◌≤◌}
use native.Mathlib.Omega.{arith}
use lib.ListN.{length, drop}
use Rattle.std.specs.Prelude.{Some, Ok, Err, Result as Outcome}
use Rattle.layout.specs.declared.shape.Shape.{Shape}
use Rattle.layout.specs.Shapes.{sizes_of, Shaped, tile-below}
use Rattle.marks.specs.Marks.{Older}
use Rattle.model.specs.Job.{Pin}
use Rattle.model.specs.Lists.{all, twice}
use Rattle.model.specs.Read.{Result, refused, found, Triple, pin_inside, pin_at, same_pin, pins_line}
use Rattle.model.specs.Text.{bytes, behind}
use Rattle.scan.specs.Inside.{inside_is, false-true}
use Rattle.scan.specs.Keys.{judged, on_key, pins-law}
use Rattle.scan.specs.Lines.{Lined}
use Rattle.scan.specs.Pins.{pins_of}
use Rattle.text.specs.Refusals.{place_of}
use Rattle.text.specs.declared.Cursor.{Cursor}
use Rattle.text.specs.declared.Refusal.{Refusal}
use Rattle.lines.specs.Opens.{place-is, key-there, key-other, expected-there, expected-other}
use Rattle.lines.specs.Reads.{opened_of, expected_of}
use Rattle.lines.specs.Told.{mapped, refused_by}
use Rattle.pins.specs.Laws.{AllInside, first-twice}
use Rattle.pins.specs.Pins.{PinsRead, Marked, mark_pins, marked_twice, new_tiles, pins_marked, pins_in, start, finish}

module _ (g : Shape) (shaped : Shaped g) (n : ℕ) (a : List ℕ) (older : Older n a) (room : g.t ≤ length a) where
  -- the first of those that pass, and the others
  first_passes : (t : Triple) (ts : List Triple) → all (pin_inside g.w g.h g.k) (t ∷ ts) ≡ true
      → (pin_inside g.w g.h g.k t ≡ true) × (all (pin_inside g.w g.h g.k) ts ≡ true)
  first_passes t ts e = go (pin_inside g.w g.h g.k t) e
    where
      go : (p : Bool) → cond p (all (pin_inside g.w g.h g.k) ts) false ≡ true → (p ≡ true) × (all (pin_inside g.w g.h g.k) ts ≡ true)
      go true h = (refl, h)
      go false h = absurd (false-true h)

  pub all-inside : (ts : List Triple) → all (pin_inside g.w g.h g.k) ts ≡ true → AllInside (length a) (map (pin_at g.w) ts)
  all-inside [] e = tt
  all-inside (t ∷ ts) e =
      let f = first_passes t ts e in
      let i = inside_is g.w g.h g.k t.x t.y t.third f.0 in
      ((omega (arith, tile-below g.w g.h t.x t.y i.0 i.1, shaped.t_is), i.2, omega (arith, i.3, shaped.k_most)), all-inside ts f.1)

  pub finish-law : (l : ℕ) (r : Lined) → finish g n l start a r ≡ mapped (pins_marked n a) (judged g.w g.h g.k l r)
  finish-law l none = refl
  finish-law l (some c) = go (all (pin_inside g.w g.h g.k) c.0) refl
    where
      pins : List Pin
      pins = map (pin_at g.w) c.0

      leaves : ℕ → Result Marked
      leaves t = found (record { marks = mark_pins n a pins; tiles = t }) (record { line = l; rest = c.1 })

      zeros : leaves (0 + new_tiles n a pins) ≡ leaves (new_tiles n a pins)
      zeros =
          let y : 0 + new_tiles n a pins ≡ new_tiles n a pins = omega arith in
          ap leaves y

      end : (q : Bool) → cond q (refused 5 l) (leaves (0 + new_tiles n a pins))
          ≡ mapped (pins_marked n a) (cond q (refused 5 l) (found pins (record { line = l; rest = c.1 })))
      end true = refl
      end false = zeros

      go : (p : Bool) → all (pin_inside g.w g.h g.k) c.0 ≡ p
          → cond (true && p) (cond (false || marked_twice n a pins) (refused 5 l) (leaves (0 + new_tiles n a pins))) (refused 3 l)
          ≡ mapped (pins_marked n a) (cond p (cond (twice same_pin pins) (refused 5 l) (found pins (record { line = l; rest = c.1 }))) (refused 3 l))
      go false e = refl
      go true e = rw (first-twice n a older pins (all-inside c.0 e)) (end (twice same_pin pins))

  -- the line that was opened at c
  module _ (s : List ℕ) (c : Cursor) (o : Outcome Cursor Refusal) (e : o ≡ expected_of s c (bytes "pins=")) where
    reads : pins_line (sizes_of g) (place_of s c) ≡ on_key g.w g.h g.k (suc c.line) (behind (bytes "pins=") (drop c.at s))
    reads = pins-law (sizes_of g) c.line (drop c.at s)

    pub line_other : (x : Refusal) → o ≡ Err x → refused_by x ≡ mapped (pins_marked n a) (pins_line (sizes_of g) (place_of s c))
    line_other x h =
        let p = expected-other s c (bytes "pins=") x (sym e ∙ h) in
        rw p.1 (sym (ap (mapped (pins_marked n a)) (reads ∙ key-other s c (bytes "pins=") p.0 (on_key g.w g.h g.k))))

    module _ (d : Cursor) (h : o ≡ Ok d) where
      there : opened_of s c (bytes "pins=") ≡ Some d
      there = expected-there s c (bytes "pins=") d (sym e ∙ h)

      pub line-there : finish g n d.line start a (pins_of (drop d.at s)) ≡ mapped (pins_marked n a) (pins_line (sizes_of g) (place_of s c))
      line-there =
          finish-law d.line (pins_of (drop d.at s))
          ∙ sym (ap (mapped (pins_marked n a)) (reads ∙ key-there s c (bytes "pins=") d there (on_key g.w g.h g.k)))

      -- where its entries and the next line stand
      pub line-in : (size : ℕ) (r : PinsRead) → pins_in size d.at d.line r → pins_in size (c.at + 5) (c.line + 1) r
      line-in size r k = rw (place-is s c (bytes "pins=") d there) at k
