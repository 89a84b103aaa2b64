-- A turn of the loop over the entries of a line.
-- Assumes nothing.
use mathlib.Core.Bool.{Bool, true, false, ◌&&◌, ◌||◌, cond}
use mathlib.Core.List.{List, [], ◌∷◌, map}
use mathlib.Core.Option.{none, some}
use mathlib.Core.Path.{◌≡◌, refl, sym, ap, ◌∙◌}
use Prim.Native.Nat.{ℕ, ◌+◌, ◌-◌, ◌≤◌, ◌<◌}
use native.Mathlib.Omega.{arith}
use lib.Dec.{eqb}
use lib.ListN.{length, drop}
use Rattle.std.specs.Prelude.{Some, None, Ok, Err}
use Rattle.layout.specs.declared.shape.Shape.{Shape}
use Rattle.marks.specs.Marks.{bits_at, marked, mark, marks_after}
use Rattle.model.specs.Job.{Pin}
use Rattle.model.specs.Lists.{all, bit}
use Rattle.model.specs.Read.{Result, refused, found, Triple, pin_inside, pin_at}
use Rattle.scan.specs.Lines.{Lined, cons_to}
use Rattle.scan.specs.Pins.{triple, pins_of, pin-is, pin_told}
use Rattle.text.specs.Entries.{pin_entry_at}
use Rattle.text.specs.declared.Entry.{Entry}
use Rattle.text.specs.declared.Cursor.{Cursor}
use Rattle.text.specs.declared.Fault.TheVariants.{Range, PinTwice}
use Rattle.text.specs.declared.Refusal.TheVariants.{Line}
use Rattle.pins.specs.Pins.{PinsRead, mark_pin, mark_pins, marked_twice, new_tiles, Marked, marked_seen, seen_after, work_after, verdict_of, pins_in, pins_told, finish}
use Rattle.pins.specs.declared.Seen.{Seen}

-- a fine line
abbrev fine : ℕ → List ℕ → ℕ → List ℕ → Result Marked
fine l b t r = found (record { marks = b; tiles = t }) (record { line = l; rest = r })

-- the tests of a line, in their order
abbrev tested : ℕ → Bool → Bool → Result Marked → Result Marked
tested l p q r = cond p (cond q (refused 5 l) r) (refused 3 l)

module _ (g : Shape) (n l : ℕ) (v : Seen) (a : List ℕ) (t : Triple) where
  -- the entry t in front
  pub finish-some : (c : List Triple × List ℕ) → finish g n l v a (some (t ∷ c.0, c.1)) ≡ finish g n l (seen_after g n a v t) (work_after g n a t) (some c)
  unfolding seen_after work_after marked_seen marks_after
  finish-some c = go (pin_inside g.w g.h g.k t) (marked n a (pin_at g.w t).tile (t.third - 1)) refl refl
    where
      pins : List Pin
      pins = map (pin_at g.w) c.0

      outside : (p : Bool) (r : Result Marked) → cond (p && false) r (refused 3 l) ≡ refused 3 l
      outside true r = refl
      outside false r = refl

      twice : (p : Bool) (r : Result Marked) → cond (p || true) (refused 5 l) r ≡ refused 5 l
      twice true r = refl
      twice false r = refl

      found-more : (p q z : Bool) (t k : ℕ) (b r : List ℕ) → tested l p q (fine l b (t + (bit z + k)) r) ≡ tested l p q (fine l b (t + bit z + k) r)
      found-more p q z t k b r =
          let y : t + (bit z + k) ≡ t + bit z + k = omega arith in
          ap (λ (d : ℕ). tested l p q (fine l b d r)) y

      go : (p q : Bool) → pin_inside g.w g.h g.k t ≡ p → marked n a (pin_at g.w t).tile (t.third - 1) ≡ q
          → finish g n l v a (some (t ∷ c.0, c.1))
          ≡ finish g n l
          (cond p
          (cond q (record { tiles = v.tiles; inside = v.inside; twice = true })
          (record { tiles = v.tiles + bit (eqb (bits_at n a (pin_at g.w t).tile) 0); inside = v.inside; twice = v.twice }))
          (record { tiles = v.tiles; inside = false; twice = v.twice }))
          (cond p (cond q a (mark n a (pin_at g.w t).tile (t.third - 1))) a)
          (some c)
      go false q e h = rw e (outside v.inside _)
      go true true e h = rw (e, h, twice v.twice _)
      go true false e h =
          rw (e, h)
          (found-more (v.inside && all (pin_inside g.w g.h g.k) c.0) (v.twice || marked_twice n (mark_pin n a (pin_at g.w t)) pins)
          (eqb (bits_at n a (pin_at g.w t).tile) 0) v.tiles (new_tiles n (mark_pin n a (pin_at g.w t)) pins)
          (mark_pins n (mark_pin n a (pin_at g.w t)) pins) c.1)

  pub finish-step : (r : Lined) → finish g n l v a (cons_to (some t) r) ≡ finish g n l (seen_after g n a v t) (work_after g n a t) r
  finish-step none = refl
  finish-step (some c) = finish-some c

pub finish-end : (g : Shape) (n : ℕ) (v : Seen) (a s : List ℕ) (from : ℕ) (c : Cursor) → finish g n c.line v a (some ([], drop c.at s)) ≡ pins_told s a (verdict_of v from c)
unfolding verdict_of
finish-end g n v a s from c = go v.inside v.twice
  where
    l : ℕ
    l = c.line

    zeros : fine l a (v.tiles + 0) (drop c.at s) ≡ fine l a v.tiles (drop c.at s)
    zeros =
        let y : v.tiles + 0 ≡ v.tiles = omega arith in
        ap (λ (d : ℕ). fine l a d (drop c.at s)) y

    go : (p q : Bool)
        → tested l (p && true) (q || false) (fine l a (v.tiles + 0) (drop c.at s))
        ≡ pins_told s a (cond p (cond q (Err (Line PinTwice l)) (Ok (record { from = from; tiles = v.tiles }, c))) (Err (Line Range l)))
    go true true = refl
    go true false = zeros
    go false q = refl

-- ---- by what stands at the place

module _ (g : Shape) (n l : ℕ) (s : List ℕ) (i : ℕ) (v : Seen) (a : List ℕ) where
  pub turn-bad : None ≡ pin_entry_at s i → finish g n l v a (pins_of (drop i s)) ≡ refused 2 l
  turn-bad e = rw (pin-is s i None e)

  module _ (k : Entry) (is : Some k ≡ pin_entry_at s i)
      (v' : Seen) (a' : List ℕ) (p : v' ≡ seen_after g n a v (triple k.x k.y k.third)) (q : a' ≡ work_after g n a (triple k.x k.y k.third)) where
    abbrev here : Triple
    here = triple k.x k.y k.third

    pub turn_more : k.last ≡ false → finish g n l v a (pins_of (drop i s)) ≡ finish g n l v' a' (pins_of (drop k.next s))
    turn_more e =
        rw (pin_told s i k is false e).0
        (finish-step g n l v a here (pins_of (drop k.next s)) ∙ sym (λ j. finish g n l (p j) (q j) (pins_of (drop k.next s))))

    pub turn_last : k.last ≡ true → (from : ℕ) (r : PinsRead) → r ≡ verdict_of v' from (record { at = k.next; line = l }) → finish g n l v a (pins_of (drop i s)) ≡ pins_told s a' r
    turn_last e from r h =
        rw (pin_told s i k is true e).0
        (finish-some g n l v a here ([], drop k.next s)
        ∙ sym (λ j. finish g n l (p j) (q j) (some ([], drop k.next s)))
        ∙ finish-end g n v' a' s from (record { at = k.next; line = l })
        ∙ ap (pins_told s a') (sym h))

module _ (s : List ℕ) (i : ℕ) (k : Entry) (is : Some k ≡ pin_entry_at s i) where
  pub turn-place : k.last ≡ false → (i < k.next) × (k.next ≤ length s)
  turn-place e = let t = pin_told s i k is false e in (t.1, t.2)

  -- the place after the line is in the text
  pub last-place : k.last ≡ true → (v : Seen) (from l : ℕ) (r : PinsRead) → r ≡ verdict_of v from (record { at = k.next; line = l }) → pins_in (length s) from l r
  unfolding verdict_of
  last-place e v from l r h = rw h (go v.inside v.twice)
    where
      go : (p q : Bool)
          → pins_in (length s) from l
          (cond p (cond q (Err (Line PinTwice l)) (Ok (record { from = from; tiles = v.tiles }, record { at = k.next; line = l }))) (Err (Line Range l)))
      go true true = tt
      go true false = (refl, record { place = (pin_told s i k is true e).1; lines = refl })
      go false q = tt
