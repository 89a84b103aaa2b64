-- Numbers with commas between and byte 10 behind, at a place of the text.
-- Assumes nothing.
use Rattle.std.specs.Prelude.{Bool, ◌&&◌, cond, List, [], ◌∷◌, ℕ, zero, suc, ◌+◌, leb, eqb, drop, get_or}
use Rattle.std.proofs.Math.Option.{Option, none, some}
use Rattle.model.specs.Limits.{most_capacity}
use Rattle.model.specs.Lists.{all}
use Rattle.model.specs.Read.{Result, refused, found}
use Rattle.lines.specs.Keyed.{ender}
use Rattle.text.specs.Entries.{on_number, ended_at}
use Rattle.capacities.specs.Spread.{spread}

-- numbers, and the text after them; none where the form or their count is wrong
abbrev pub Numbered : Type 0
Numbered = Option (List ℕ × List ℕ)

abbrev pub cons_to : ℕ → Numbered → Numbered
cons_to v none = none
cons_to v (some c) = some (v ∷ c.0, c.1)

-- n numbers, each with the byte behind it
abbrev pub list_at : ℕ → List ℕ → ℕ → Numbered
list_at zero s at = some ([], drop at s)
list_at (suc n) s at = on_number (ended_at s at (ender n)) (λ v next. cons_to v (list_at n s next)) none

-- the value of a line that is to hold n numbers: at n = 0 it is empty
abbrev pub list_line : ℕ → List ℕ → ℕ → Numbered
list_line zero s at = cond (eqb (get_or s at 0) 10) (some ([], drop (at + 1) s)) none
list_line (suc n) s at = list_at (suc n) s at

-- the capacities that are left, after others that were all in their range or not: stored from `to` on where all are
abbrev pub finish : ℕ → ℕ → Bool → List ℕ → ℕ → Numbered → Result (List ℕ)
finish k line inside w to none = refused 2 line
finish k line inside w to (some c) =
    cond (inside && all (λ v. leb v most_capacity) c.0) (found (spread k w to c.0) (record { line = line; rest = c.1 })) (refused 3 line)
