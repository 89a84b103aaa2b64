-- A turn of the loop over the pins of a net that is read again.
-- Assumes nothing.
use mathlib.Core.Bool.{true, false}
use mathlib.Core.List.{List, map}
use mathlib.Core.Path.{◌≡◌, refl, sym, ap, ◌∙◌}
use Prim.Native.Nat.{ℕ, ◌+◌, ◌-◌, ◌*◌, ◌≤◌, ◌<◌, min}
use lib.ListN.{length}
use Rattle.std.proofs.lemmas.Bool.{not-true, not-false}
use Rattle.known.specs.Pins.{AllFrom, NextGives, last-only, next-inside, pins-behind, behind-are}
use Rattle.known.specs.declared.Pins.{Pins}
use Rattle.scan.specs.Inside.{false-true}
use Rattle.layout.specs.Shapes.{Shaped}
use Rattle.layout.specs.declared.shape.Shape.{Shape}
use Rattle.marks.specs.Marks.{marks_after}
use Rattle.model.specs.Job.{Pin, Net}
use Rattle.model.specs.Read.{Triple, pin_at}
use Rattle.model.specs.Walk.{lowest_from}
use Rattle.net.specs.Table.{PinsAt}
use Rattle.scan.specs.First.{one_line}
use Rattle.std.specs.Prelude.{Some}
use Rattle.text.specs.Entries.{pin_entry_at}
use Rattle.text.specs.declared.Entry.{Entry}
use Rattle.ways.specs.Ends.{after-long}
use Rattle.netread.specs.Pins.{PinsThere, after_pins, no_tile, PinsMarked, PinsLeft, PinsGoing, PinsTaking}

-- ---- the turns

module _ (s : List ℕ) (g : Shape) (n at : ℕ) where
  left-start : (a : List ℕ) → PinsThere s g at → PinsLeft s g n at at a a no_tile
  left-start a h = record {
    line = record { entries = h.pins.entries; rest = h.pins.rest; there = h.pins.there; inside = h.pins.inside };
    long = refl;
    marks = λ net p. ap (λ (es : List Triple). after_pins n a (map (pin_at g.w) es)) (same net p) ∙ ap (after_pins n a) p.are;
    lows = λ net p.
        ap (λ (es : List Triple). lowest_from no_tile (map (λ q. q.tile) (map (pin_at g.w) es))) (same net p)
        ∙ ap (λ (ps : List Pin). lowest_from no_tile (map (λ q. q.tile) ps)) p.are;
  }
    where
      same : (net : Net) (p : PinsAt s g.w g.h g.k at net) → h.pins.entries ≡ p.entries
      same net p = one_line h.pins.entries p.entries h.pins.rest p.rest (sym h.pins.there ∙ p.there)

  -- the pin at i is marked
  module _ (i : ℕ) (a₀ a : List ℕ) (low : ℕ) (left : PinsLeft s g n at i a₀ a low) (k : Entry) (is : Some k ≡ pin_entry_at s i)
      (a' : List ℕ) (r : ℕ) (marks : a' ≡ marks_after n a (k.y * g.w + k.x) (k.third - 1)) (lowest : r ≡ min low (k.y * g.w + k.x)) where
    left-last : k.last ≡ true → (net : Net) → PinsAt s g.w g.h g.k at net → PinsMarked n net a₀ a' r
    left-last e net p = record {
      marks = marks ∙ ap (λ (es : List Triple). after_pins n a (map (pin_at g.w) es)) (sym (last-only left.line k is e)) ∙ left.marks net p;
      low = lowest ∙ ap (λ (es : List Triple). lowest_from low (map (λ (m : Pin). m.tile) (map (pin_at g.w) es))) (sym (last-only left.line k is e)) ∙ left.lows net p;
      long = ap length marks ∙ after-long n a (k.y * g.w + k.x) (k.third - 1) ∙ left.long;
    }

    left-more : k.last ≡ false → PinsLeft s g n at k.next a₀ a' r
    left-more e = record {
      line = pins-behind left.line k is e;
      long = ap length marks ∙ after-long n a (k.y * g.w + k.x) (k.third - 1) ∙ left.long;
      marks = λ net p.
          ap (λ (b : List ℕ). after_pins n b (map (pin_at g.w) (pins-behind left.line k is e).entries)) marks
          ∙ ap (λ (es : List Triple). after_pins n a (map (pin_at g.w) es)) (sym (behind-are left.line k is e))
          ∙ left.marks net p;
      lows = λ net p.
          ap (λ (b : ℕ). lowest_from b (map (λ (m : Pin). m.tile) (map (pin_at g.w) (pins-behind left.line k is e).entries))) lowest
          ∙ ap (λ (es : List Triple). lowest_from low (map (λ (m : Pin). m.tile) (map (pin_at g.w) es))) (sym (behind-are left.line k is e))
          ∙ left.lows net p;
    }

-- ---- the loop

module _ (s : List ℕ) (g : Shape) (n at : ℕ) (shaped : Shaped g) where
  taking : (t : Pins) (a₀ a : List ℕ) (low : ℕ) → PinsGoing s g n at t a₀ a low → PinsTaking s g n at t a₀ a low
  taking t a₀ a low now = ((λ m. rw now.text (record { grid = g; shaped = shaped; left = (now.left m).line })), tt, now)

  pub pins-start : PinsThere s g at → (t : Pins) → AllFrom s at t → (a : List ℕ) → PinsTaking s g n at t a a no_tile
  pins-start there t is a =
      taking t a a no_tile (record {
        text = is.0;
        left = λ m. rw is.1 (left-start s g n at a there);
        done = λ m. absurd (false-true (sym m ∙ is.2));
      })

  module _ (t : Pins) (a₀ a : List ℕ) (low : ℕ) (now : PinsGoing s g n at t a₀ a low) (k : Entry) (u : Pins) (gives : NextGives t (Some k) u) where
    left : PinsLeft s g n at t.at a₀ a low
    left = now.left gives.0

    is : Some k ≡ pin_entry_at s t.at
    is = gives.1 ∙ ap (λ (x : List ℕ). pin_entry_at x t.at) now.text

    pub pin-inside : (k.x < g.w) × (k.y < g.h) × (1 ≤ k.third) × (k.third ≤ g.k)
    pin-inside = next-inside left.line k is

    pub pins_more : (a' : List ℕ) (r : ℕ) → a' ≡ marks_after n a (k.y * g.w + k.x) (k.third - 1) → r ≡ min low (k.y * g.w + k.x) → PinsTaking s g n at u a₀ a' r
    pins_more a' r marks lowest =
        taking u a₀ a' r (record {
          text = gives.2 ∙ now.text;
          left = λ m. rw gives.3 (left-more s g n at t.at a₀ a low left k is a' r marks lowest (not-true k.last (sym gives.4 ∙ m)));
          done = λ m. left-last s g n at t.at a₀ a low left k is a' r marks lowest (not-false k.last (sym gives.4 ∙ m));
        })
