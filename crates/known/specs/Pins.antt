-- The pins of a line that is read again, as an iterator.
-- Assumes nothing.
use Rattle.std.specs.Prelude.{Option, Some, None, Bool, true, false, not, cond, List, [], ◌∷◌, ◌≡◌, refl, ℕ, suc, ◌-◌, ◌≤◌, ◌<◌, length, drop}
use Rattle.std.specs.Iterator.{Count, at_most}
use Rattle.std.proofs.Common.{sym, ap, ◌∙◌, arith}
use Rattle.std.proofs.Math.Option.{some}
use Rattle.layout.specs.Shapes.{Shaped}
use Rattle.layout.specs.declared.shape.Shape.{Shape}
use Rattle.model.specs.Lists.{all}
use Rattle.model.specs.Read.{Triple, pin_inside}
use Rattle.scan.specs.First.{some-none, front, one_line, all_first}
use Rattle.scan.specs.Inside.{inside_is}
use Rattle.scan.specs.Pins.{triple, pins_of, pin-is, pin_told}
use Rattle.text.specs.Entries.{pin_entry_at}
use Rattle.text.specs.declared.Entry.{Entry}
use Rattle.known.specs.Short.{ShortEntry}
use Rattle.known.specs.declared.Pins.{Pins}

-- what is left of the line at i, inside the grid
pub record PinsHere (s : List ℕ) (g : Shape) (i : ℕ) : Type 0 where
  pub entries : List Triple
  pub rest : List ℕ
  pub there : pins_of (drop i s) ≡ some (entries, rest)
  pub inside : all (pin_inside g.w g.h g.k) entries ≡ true

module _ {s : List ℕ} {g : Shape} {i : ℕ} (left : PinsHere s g i) where
  left-bad : {A : Type 0} → None ≡ pin_entry_at s i → A
  left-bad e = some-none (left.entries, left.rest) (sym left.there ∙ pin-is s i None e)

  -- the pin at i
  module _ (k : Entry) (is : Some k ≡ pin_entry_at s i) where
    abbrev here : Triple
    here = triple k.x k.y k.third

    pub last-only : k.last ≡ true → left.entries ≡ triple k.x k.y k.third ∷ []
    last-only e = one_line left.entries (here ∷ []) left.rest (drop k.next s) (sym left.there ∙ (pin_told s i k is true e).0)

    more-front : k.last ≡ false → (us : List Triple) × (pins_of (drop k.next s) ≡ some (us, left.rest)) × (left.entries ≡ triple k.x k.y k.third ∷ us)
    more-front e = front here (pins_of (drop k.next s)) left.entries left.rest (sym left.there ∙ (pin_told s i k is false e).0)

    more-passes : (e : k.last ≡ false) → (pin_inside g.w g.h g.k (triple k.x k.y k.third) ≡ true) × (all (pin_inside g.w g.h g.k) (more-front e).0 ≡ true)
    more-passes e = all_first (pin_inside g.w g.h g.k) here (more-front e).0 (ap (all (pin_inside g.w g.h g.k)) (sym (more-front e).2) ∙ left.inside)

    pub next-inside : (k.x < g.w) × (k.y < g.h) × (1 ≤ k.third) × (k.third ≤ g.k)
    next-inside = inside_is g.w g.h g.k k.x k.y k.third (go k.last refl)
      where
        go : (q : Bool) → k.last ≡ q → pin_inside g.w g.h g.k (triple k.x k.y k.third) ≡ true
        go true e = (all_first (pin_inside g.w g.h g.k) here [] (ap (all (pin_inside g.w g.h g.k)) (sym (last-only e)) ∙ left.inside)).0
        go false e = (more-passes e).0

    -- those behind it
    pub pins-behind : k.last ≡ false → PinsHere s g k.next
    pins-behind e = record { entries = (more-front e).0; rest = left.rest; there = (more-front e).1; inside = (more-passes e).1 }

    pub behind-are : (e : k.last ≡ false) → left.entries ≡ triple k.x k.y k.third ∷ (pins-behind e).entries
    unfolding pins-behind more-front
    behind-are e = (more-front e).2

    pub behind-place : k.last ≡ false → (i < k.next) × (k.next ≤ length s)
    behind-place e = let t = pin_told s i k is false e in (t.1, t.2)

  pub pin-short : Shaped g → ShortEntry (pin_entry_at s i)
  pin-short shaped = go (pin_entry_at s i) refl
    where
      go : (e : Option Entry) → e ≡ pin_entry_at s i → ShortEntry e
      go None h = left-bad h
      go (Some e) h =
          let k = next-inside e h in
          (omega (arith, k.0, shaped.w_most), omega (arith, k.1, shaped.h_most), omega (arith, k.3, shaped.k_most))

-- ---- the iterator

-- pins inside some grid stand at i, up to the end of a line
pub record Standing (s : List ℕ) (i : ℕ) : Type 0 where
  pub grid : Shape
  pub shaped : Shaped grid
  pub left : PinsHere s grid i

-- t gives all from p on
abbrev pub AllFrom : List ℕ → ℕ → Pins → Type 0
AllFrom s p t = (t.text.now ≡ s) × (t.at ≡ p) × (t.more ≡ true)

-- where there are more, they stand there
abbrev pub CanNext : Pins → Type 0
CanNext t = t.more ≡ true → Standing t.text.now t.at

-- a pin comes as long as there are more, and the next stands behind it
abbrev pub NextGives : Pins → Option Entry → Pins → Type 0
NextGives t None u = t.more ≡ false
NextGives t (Some e) u = (t.more ≡ true) × (Some e ≡ pin_entry_at t.text.now t.at) × (u.text.now ≡ t.text.now) × (u.at ≡ e.next) × (u.more ≡ not e.last)

abbrev pub entries_most : Pins → Count
entries_most t = at_most (cond t.more (suc (length t.text.now - t.at)) 0)
