-- A `pins` line as the code reads it: judged and marked entry by entry.
-- Assumes nothing.
use Rattle.std.specs.Prelude.{Bool, true, false, ◌&&◌, ◌||◌, cond, List, [], ◌∷◌, map, ◌≡◌, ℕ, ◌+◌, ◌-◌, eqb, Ok, Err, Result as Outcome}
use Rattle.std.proofs.Math.Option.{none, some}
use Rattle.layout.specs.declared.shape.Shape.{Shape}
use Rattle.marks.specs.Marks.{bits_at, marked, mark, marks_after}
use Rattle.model.specs.Job.{Pin}
use Rattle.model.specs.Lists.{all, bit}
use Rattle.model.specs.Read.{Result, refused, found, Triple, pin_inside, pin_at}
use Rattle.scan.specs.Lines.{Lined}
use Rattle.lines.specs.Told.{After, refused_by}
use Rattle.text.specs.Refusals.{place_of}
use Rattle.text.specs.declared.Cursor.{Cursor}
use Rattle.text.specs.declared.Fault.TheVariants.{Range, PinTwice}
use Rattle.text.specs.declared.Refusal.{Refusal}
use Rattle.text.specs.declared.Refusal.TheVariants.{Line}
use Rattle.pins.specs.declared.Pins.{Pins}
use Rattle.pins.specs.declared.Seen.{Seen}

-- a `pins` line that was read, and the place of the next line
abbrev pub PinsRead : Type 0
PinsRead = Outcome (Pins × Cursor) Refusal

-- ---- the marks of a list of pins

-- pin p is marked already
abbrev pub pin_marked : ℕ → List ℕ → Pin → Bool
pin_marked n a p = marked n a p.tile (p.layer - 1)

abbrev pub mark_pin : ℕ → List ℕ → Pin → List ℕ
mark_pin n a p = mark n a p.tile (p.layer - 1)

abbrev pub mark_pins : ℕ → List ℕ → List Pin → List ℕ
mark_pins n a [] = a
mark_pins n a (p ∷ ps) = mark_pins n (mark_pin n a p) ps

-- going along the pins, one of them is marked already
abbrev pub marked_twice : ℕ → List ℕ → List Pin → Bool
marked_twice n a [] = false
marked_twice n a (p ∷ ps) = let r = marked_twice n (mark_pin n a p) ps in cond (pin_marked n a p) true r

-- how many of them are the first in their tile
abbrev pub new_tiles : ℕ → List ℕ → List Pin → ℕ
new_tiles n a [] = 0
new_tiles n a (p ∷ ps) = bit (eqb (bits_at n a p.tile) 0) + new_tiles n (mark_pin n a p) ps

-- what a fine line leaves: the marks, and the number of its pins' tiles
pub record Marked : Type 0 where
  pub marks : List ℕ
  pub tiles : ℕ

abbrev pub pins_marked : ℕ → List ℕ → List Pin → Marked
pins_marked n a ps = record { marks = mark_pins n a ps; tiles = new_tiles n a ps }

-- ---- one entry

abbrev pub start : Seen
start = record { tiles = 0; inside = true; twice = false }

-- a pin inside the grid, on layer l of tile t
unfoldable pub marked_seen : ℕ → List ℕ → ℕ → ℕ → Seen → Seen
marked_seen n a t l v =
    cond (marked n a t (l - 1))
    (record { tiles = v.tiles; inside = v.inside; twice = true })
    (record { tiles = v.tiles + bit (eqb (bits_at n a t) 0); inside = v.inside; twice = v.twice })

unfoldable pub seen_after : Shape → ℕ → List ℕ → Seen → Triple → Seen
seen_after g n a v t =
    cond (pin_inside g.w g.h g.k t) (marked_seen n a (pin_at g.w t).tile t.third v)
    (record { tiles = v.tiles; inside = false; twice = v.twice })

unfoldable pub work_after : Shape → ℕ → List ℕ → Triple → List ℕ
work_after g n a t = cond (pin_inside g.w g.h g.k t) (marks_after n a (pin_at g.w t).tile (t.third - 1)) a

unfoldable pub verdict_of : Seen → ℕ → Cursor → PinsRead
verdict_of v from c =
    cond v.inside (cond v.twice (Err (Line PinTwice c.line)) (Ok (record { from = from; tiles = v.tiles }, c)))
    (Err (Line Range c.line))

-- ---- the line

-- the entries of a fine line stand at `from`, and the place after it is in a text of this size
abbrev pub pins_in : ℕ → ℕ → ℕ → PinsRead → Type 0
pins_in size from line (Err r) = Unit {0}
pins_in size from line (Ok x) = (x.0.from ≡ from) × After size line x.1

-- the answer in the definitions' words: a refusal, or what the line leaves and the next place
abbrev pub pins_told : List ℕ → List ℕ → PinsRead → Result Marked
pins_told s a (Err r) = refused_by r
pins_told s a (Ok x) = found (record { marks = a; tiles = x.0.tiles }) (place_of s x.1)

-- the entries from here on, after what was seen and marked so far
abbrev pub finish : Shape → ℕ → ℕ → Seen → List ℕ → Lined → Result Marked
finish g n l v a none = refused 2 l
finish g n l v a (some c) =
    let pins = map (pin_at g.w) c.0 in
    cond (v.inside && all (pin_inside g.w g.h g.k) c.0)
    (cond (v.twice || marked_twice n a pins) (refused 5 l)
    (found (record { marks = mark_pins n a pins; tiles = v.tiles + new_tiles n a pins }) (record { line = l; rest = c.1 })))
    (refused 3 l)
