-- A number at a place of the text.
-- Assumes nothing.
use Rattle.std.specs.Prelude.{Option as Maybe, Some, None, cond, List, [], ◌∷◌, ℕ, ◌+◌, length, drop}
use Rattle.std.proofs.Math.Option.{Option, none, some}
use Rattle.model.specs.Text.{is_digit, number}
use Rattle.text.specs.declared.Numeral.{Numeral}

-- a number and the place after it
abbrev pub numeral : ℕ → ℕ → Numeral
numeral v next = record { value = v; next = next }

-- the digits that a text begins with, up to the first byte that is none
unfoldable pub digit_run : List ℕ → List ℕ
digit_run [] = []
digit_run (b ∷ rest) = cond (is_digit b) (b ∷ digit_run rest) []

-- the digits from a place on
abbrev pub run : List ℕ → ℕ → List ℕ
run s at = digit_run (drop at s)

abbrev pub numbered : ℕ → Option ℕ → Maybe Numeral
numbered next none = None
numbered next (some v) = Some (numeral v next)

-- the number that the digits from a place on are, and the place after them
unfoldable pub number_at : List ℕ → ℕ → Maybe Numeral
number_at s at = numbered (at + length (run s at)) (number (run s at))
