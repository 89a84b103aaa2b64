-- What the reader finds at a place of the text.
-- Assumes nothing.
use Rattle.std.specs.Prelude.{Bool, cond, List, ℕ, ◌+◌, length, drop, Option, Some, None, Result}
use Rattle.std.specs.Option.{ok_or}
use Rattle.text.specs.Entries.{starts_with}
use Rattle.text.specs.declared.Cursor.{Cursor}
use Rattle.text.specs.declared.Fault.TheVariants.{Form}
use Rattle.text.specs.declared.Refusal.{Refusal}
use Rattle.text.specs.declared.Refusal.TheVariants.{Line}

-- the key stands at the place c of the text s
abbrev pub keyed : List ℕ → Cursor → List ℕ → Bool
keyed s c key = starts_with key (drop c.at s)

-- the place n bytes further, on the next line
abbrev pub behind_of : Cursor → ℕ → Cursor
behind_of c n = record { at = c.at + n; line = c.line + 1 }

-- the line at the place c, where it has the key: the place behind the key
abbrev pub opened_of : List ℕ → Cursor → List ℕ → Option Cursor
opened_of s c key = cond (keyed s c key) (Some (behind_of c (length key))) None

-- the same, and where the key is not there that place as an error: it names the line that was asked for
abbrev pub opening_of : List ℕ → Cursor → List ℕ → Result Cursor Cursor
opening_of s c key = ok_or (opened_of s c key) (behind_of c (length key))

-- the same, refused where the key is not there
abbrev pub expected_of : List ℕ → Cursor → List ℕ → Result Cursor Refusal
expected_of s c key = ok_or (opened_of s c key) (Line Form (c.line + 1))
