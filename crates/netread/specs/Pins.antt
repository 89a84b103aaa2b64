-- The pins of a net that is read again.
-- Assumes nothing.
use Rattle.std.specs.Prelude.{true, false, List, [], ◌∷◌, map, ◌≡◌, ℕ, ◌-◌, length}
use Rattle.std.specs.Iterator.{IsFinite}
use Rattle.known.specs.Pins.{PinsHere, CanNext, entries_most}
use Rattle.known.specs.declared.Pins.{Pins}
use Rattle.layout.specs.Bounds.{most_tiles}
use Rattle.layout.specs.declared.shape.Shape.{Shape}
use Rattle.marks.specs.Marks.{marks_after}
use Rattle.model.specs.Job.{Pin, Net}
use Rattle.model.specs.Read.{pin_at}
use Rattle.model.specs.Walk.{lowest_from}
use Rattle.net.specs.Table.{PinsAt}

-- some net's pins stand at p
pub record PinsThere (s : List ℕ) (g : Shape) (p : ℕ) : Type 0 where
  pub net : Net
  pub pins : PinsAt s g.w g.h g.k p net

-- the marks after some pins
abbrev pub after_pins : ℕ → List ℕ → List Pin → List ℕ
after_pins n a [] = a
after_pins n a (p ∷ ps) = after_pins n (marks_after n a p.tile (p.layer - 1)) ps

-- above every tile
abbrev pub no_tile : ℕ
no_tile = most_tiles

-- the pins of the net are marked, and r is the lowest of their tiles
pub record PinsMarked (n : ℕ) (net : Net) (a a' : List ℕ) (r : ℕ) : Type 0 where
  pub marks : a' ≡ after_pins n a net.pins
  pub low : r ≡ lowest_from no_tile (map (λ p. p.tile) net.pins)
  pub long : length a' ≡ length a

-- what is left of the line at i, after the marks a and the lowest tile low, gives what the whole line at `at` gives
pub record PinsLeft (s : List ℕ) (g : Shape) (n at i : ℕ) (a₀ a : List ℕ) (low : ℕ) : Type 0 where
  pub line : PinsHere s g i
  pub long : length a ≡ length a₀
  pub marks : (net : Net) → PinsAt s g.w g.h g.k at net → after_pins n a (map (pin_at g.w) line.entries) ≡ after_pins n a₀ net.pins
  pub lows : (net : Net) → PinsAt s g.w g.h g.k at net
      → lowest_from low (map (λ p. p.tile) (map (pin_at g.w) line.entries)) ≡ lowest_from no_tile (map (λ p. p.tile) net.pins)

-- a loop over the pins: t gives what is left of them
pub record PinsGoing (s : List ℕ) (g : Shape) (n at : ℕ) (t : Pins) (a₀ a : List ℕ) (low : ℕ) : Type 0 where
  pub text : t.text.now ≡ s
  pub left : t.more ≡ true → PinsLeft s g n at t.at a₀ a low
  pub done : t.more ≡ false → (net : Net) → PinsAt s g.w g.h g.k at net → PinsMarked n net a₀ a low

-- its invariant: t can go on and ends, too
abbrev pub PinsTaking : List ℕ → Shape → ℕ → ℕ → Pins → List ℕ → List ℕ → ℕ → Type 0
PinsTaking s g n at t a₀ a low = CanNext t × IsFinite (entries_most t) × PinsGoing s g n at t a₀ a low
