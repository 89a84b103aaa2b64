-- Capacities, one at a time: `left` are left, it among them.
-- Assumes nothing.
use mathlib.Core.Path.{◌≡◌, refl}
use mathlib.Core.Bool.{Bool, true, false, ◌&&◌, cond}
use mathlib.Core.List.{List, []}
use mathlib.Core.Option.{none, some}
use Prim.Native.Nat.{ℕ, zero, suc, ◌+◌, ◌-◌, ◌≤◌, ◌<◌}
use native.Mathlib.Nat.{not-suc-le-zero, suc-mul}
use native.Mathlib.Numerals.{sub-one}
use native.Mathlib.Omega.{arith}
use borrow.Author.Tests.{ne_eqb}
use lib.Dec.{leb}
use lib.ListN.{length, drop, get_or, set, length-set, get_or-eq_default}
use Rattle.std.specs.Prelude.{Some, None, Result}
use Rattle.model.specs.Limits.{most_capacity}
use Rattle.model.specs.Lists.{all}
use Rattle.model.specs.Read.{refused, found}
use Rattle.text.specs.Entries.{ended_at}
use Rattle.text.specs.declared.Cursor.{Cursor}
use Rattle.text.specs.declared.Refusal.{Refusal}
use Rattle.text.specs.Number.{numeral}
use Rattle.lines.specs.Told.{list_in}
use Rattle.lines.specs.Keyed.{ender}
use Rattle.capacities.specs.Entries.{Numbered, cons_to, list_at, list_line, finish}
use Rattle.capacities.specs.Spread.{spread, kept, Room}
use Rattle.capacities.specs.Told.{list_told, answer_of}

-- ---- the room

module _ (k to size : ℕ) where
  pub room_in : (n : ℕ) → 0 < n → Room k to n size → to < size
  room_in zero h r = absurd (not-suc-le-zero h)
  room_in (suc n) h r = omega (arith, r.room, suc-mul n k)

  pub room_next : (n : ℕ) → 0 < n → Room k to n size → Room k (to + k) (n - 1) size
  room_next zero h r = absurd (not-suc-le-zero h)
  room_next (suc n) h r = rw sub-one (record { apart = r.apart; room = omega (arith, r.room, suc-mul n k); small = omega (arith, r.small, suc-mul n k) })

  -- and so does the place after it
  pub room_small : (n : ℕ) → 0 < n → Room k to n size → to + k ≤ 100000
  room_small zero h r = absurd (not-suc-le-zero h)
  room_small (suc n) h r = omega (arith, r.small, suc-mul n k)

pub kept-length : (w : List ℕ) (to v : ℕ) → length (kept w to v) ≡ length w
kept-length w to v = go (leb v most_capacity)
  where
    go : (q : Bool) → length (cond q (set w to v) w) ≡ length w
    go true = length-set w to v
    go false = refl

pub room-kept : (k to left v : ℕ) (w w' : List ℕ) → w' ≡ kept w to v → 0 < left → Room k to left (length w) → Room k (to + k) (left - 1) (length w')
room-kept k to left v w w' e h r = rw (e, kept-length w to v) (room_next k to (length w) left h r)

pub and-true : (b : Bool) → (b && true) ≡ b
and-true true = refl
and-true false = refl

pub and-false : (b : Bool) → (b && false) ≡ false
and-false true = refl
and-false false = refl

-- ---- the numbers

pub ender-comma : (left : ℕ) → 1 < left → ender (left - 1) ≡ 44
ender-comma zero h = absurd (omega arith)
ender-comma (suc zero) h = absurd (omega arith)
ender-comma (suc (suc m)) h = rw sub-one

pub ender-last : (left : ℕ) → left ≡ 1 → ender (left - 1) ≡ 10
ender-last left h = rw h

module _ (s : List ℕ) where
  pub list-none : (left i : ℕ) → 0 < left → ended_at s i (ender (left - 1)) ≡ None → list_at left s i ≡ none
  list-none zero i h e = absurd (not-suc-le-zero h)
  list-none (suc n) i h e = let g : ended_at s i (ender n) ≡ None = rw sub-one at e in rw g

  pub list-more : (left i v m : ℕ) → 0 < left → ended_at s i (ender (left - 1)) ≡ Some (numeral v m) → list_at left s i ≡ cons_to v (list_at (left - 1) s m)
  list-more zero i v m h e = absurd (not-suc-le-zero h)
  list-more (suc n) i v m h e = let g : ended_at s i (ender n) ≡ Some (numeral v m) = rw sub-one at e in rw (g, sub-one)

  pub list_done : (left i : ℕ) → left ≤ 0 → list_at left s i ≡ some ([], drop i s)
  list_done zero i h = refl
  list_done (suc n) i h = absurd (not-suc-le-zero h)

-- ---- the line's value

module _ (s : List ℕ) (at : ℕ) where
  pub line-some : (n : ℕ) → 0 < n → list_line n s at ≡ list_at n s at
  line-some zero h = absurd (not-suc-le-zero h)
  line-some (suc n) h = refl

  pub line-empty : (n : ℕ) → n ≤ 0 → get_or s at 0 ≡ 10 → list_line n s at ≡ some ([], drop (at + 1) s)
  line-empty zero h e = rw e
  line-empty (suc n) h e = absurd (not-suc-le-zero h)

  pub line_other : (n : ℕ) → n ≤ 0 → (get_or s at 0 ≡ 10 → ⊥) → list_line n s at ≡ none
  line_other zero h e = rw (ne_eqb (get_or s at 0) 10 e)
  line_other (suc n) h e = absurd (not-suc-le-zero h)

  pub line-out : (n : ℕ) → n ≤ 0 → length s ≤ at → list_line n s at ≡ none
  line-out n h k = line_other n h (λ q. omega (arith, get_or-eq_default s 0 {n = at} k))

-- ---- what is left, done from here

module _ (k line : ℕ) where
  pub finish-more : (inside : Bool) (w : List ℕ) (to v : ℕ) (r : Numbered) →
      finish k line inside w to (cons_to v r) ≡ finish k line (inside && leb v most_capacity) (kept w to v) (to + k) r
  finish-more inside w to v none = refl
  finish-more inside w to v (some c) = go inside (leb v most_capacity) (all (λ x. leb x most_capacity) c.0)
    where
      go : (i q r : Bool) →
          cond (i && cond q r false) (found (spread k (set w to v) (to + k) c.0) (record { line = line; rest = c.1 })) (refused 3 line)
          ≡ cond (i && q && r) (found (spread k (cond q (set w to v) w) (to + k) c.0) (record { line = line; rest = c.1 })) (refused 3 line)
      go true true r = refl
      go true false r = refl
      go false true r = refl
      go false false r = refl

  -- the number v with its end at i, up to m, is stored, and what is known goes on
  pub turn : (s : List ℕ) (left i v m : ℕ) (inside inside' : Bool) (w w' : List ℕ) (to : ℕ) → 0 < left → ended_at s i (ender (left - 1)) ≡ Some (numeral v m) →
      inside' ≡ (inside && leb v most_capacity) → w' ≡ kept w to v →
      finish k line inside w to (list_at left s i) ≡ finish k line inside' w' (to + k) (list_at (left - 1) s m)
  turn s left i v m inside inside' w w' to h e f g = rw (list-more s left i v m h e, f, g) (finish-more inside w to v (list_at (left - 1) s m))

-- nothing is left
module _ (line : ℕ) (s : List ℕ) (i : ℕ) (inside : Bool) (r : Result Cursor Refusal) (e : r ≡ answer_of i line inside) where
  pub answer-told : (k : ℕ) (w : List ℕ) (to left : ℕ) → left ≤ 0 → list_told s w r ≡ finish k line inside w to (list_at left s i)
  answer-told k w to left h = rw (e, list_done s left i h) (go inside)
    where
      go : (q : Bool) → list_told s w (answer_of i line q) ≡ finish k line q w to (some ([], drop i s))
      go true = refl
      go false = refl

  pub answer-in : i ≤ length s → list_in (length s) line r
  answer-in h = rw e (go inside)
    where
      go : (q : Bool) → list_in (length s) line (answer_of i line q)
      go true = record { place = h; lines = refl }
      go false = tt
