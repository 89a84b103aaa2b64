-- Letters with commas between and byte 10 behind the last, at a place of the text.
-- Assumes nothing.
use Rattle.std.specs.Prelude.{cond, List, [], ◌∷◌, ◌++◌, ℕ, zero, suc, ◌+◌, ◌≤◌, eqb, drop, get_or, Some, None, Option as Maybe}
use Rattle.std.proofs.Math.Option.{Option, none, some}
use Rattle.layout.specs.Dirs.{digits_of}
use Rattle.lines.specs.Keyed.{ender}

-- ---- one letter

-- its way, "`h` or `v`", 0 or 1; none where the byte is neither
abbrev pub way_of : ℕ → Maybe ℕ
way_of b = cond (eqb b 104) (Some 0) (cond (eqb b 118) (Some 1) None)

-- the way of the letter at `at`, with the byte `end` behind it; none where that is not there
abbrev pub letter_at : List ℕ → ℕ → ℕ → Maybe ℕ
letter_at s at end = cond (eqb (get_or s (at + 1) 0) end) (way_of (get_or s at 0)) None

-- ---- letters

-- ways, and the text after their letters; none where the form is wrong
abbrev pub Lettered : Type 0
Lettered = Option (List ℕ × List ℕ)

-- ways in front of others
abbrev pub join_to : List ℕ → Lettered → Lettered
join_to ws none = none
join_to ws (some c) = some (ws ++ c.0, c.1)

-- one way, where there is one
abbrev pub way_to : Maybe ℕ → Lettered → Lettered
way_to None r = none
way_to (Some w) r = join_to (w ∷ []) r

-- n letters, each with the byte behind it
abbrev pub letters_from : ℕ → List ℕ → ℕ → Lettered
letters_from zero s at = some ([], drop at s)
letters_from (suc n) s at = way_to (letter_at s at (ender n)) (letters_from n s (at + 2))

-- ---- the code's answer: a mask, and the place after the letters

-- k letters that were read in the text s
abbrev pub ways_told : ℕ → List ℕ → Maybe (ℕ × ℕ) → Lettered
ways_told k s (Some x) = some (digits_of k x.0, drop x.1 s)
ways_told k s None = none

-- the place after them is in a text of this size
abbrev pub ways_in : ℕ → Maybe (ℕ × ℕ) → Type 0
ways_in size (Some x) = x.1 ≤ size
ways_in size None = Unit {0}
