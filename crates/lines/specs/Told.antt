-- What an answer says, in the definitions' words: a line that was opened, a number that was read, a list that was read and stored.
-- Assumes nothing.
use Rattle.std.specs.Prelude.{◌≡◌, List, [], ℕ, ◌≤◌, drop, Ok, Err, Result as Outcome}
use Rattle.model.specs.Text.{cut_line}
use Rattle.model.specs.Read.{Result, refused, found, value_in}
use Rattle.text.specs.Refusals.{place_of, number_of, line_of}
use Rattle.text.specs.declared.Cursor.{Cursor}
use Rattle.text.specs.declared.Refusal.{Refusal}

-- a step of the reading, with another value
module _ {A B : Type 0} where
  abbrev pub mapped : (A → B) → Result A → Result B
  mapped f (refused n l) = refused n l
  mapped f (found a p) = found (f a) p

-- document 01's number and line of a refusal
module _ {A : Type 0} where
  abbrev pub refused_by : Refusal → Result A
  refused_by r = refused (number_of r) (line_of r)

-- a line of the text s that was opened: its value is what stands behind its key
abbrev pub line_told : List ℕ → Outcome Cursor Refusal → Result (List ℕ)
line_told s (Ok c) = value_in 2 c.line (cut_line (drop c.at s)) []
line_told s (Err r) = refused_by r

-- a number that was read in the text s
abbrev pub field_told : List ℕ → Outcome (ℕ × Cursor) Refusal → Result ℕ
field_told s (Ok x) = found x.0 (place_of s x.1)
field_told s (Err r) = refused_by r

-- the cursor stands in a text of this size, after this line
pub record After (size line : ℕ) (c : Cursor) : Type 0 where
  pub place : c.at ≤ size
  pub lines : c.line ≡ line

abbrev pub field_in : ℕ → ℕ → Outcome (ℕ × Cursor) Refusal → Type 0
field_in size line (Ok x) = After size line x.1
field_in size line (Err r) = Unit {0}

abbrev pub list_in : ℕ → ℕ → Outcome Cursor Refusal → Type 0
list_in size line (Ok c) = After size line c
list_in size line (Err r) = Unit {0}

-- where the answer's case is known
pub field-after : (r : Outcome (ℕ × Cursor) Refusal) (size line v : ℕ) (c : Cursor) → r ≡ Ok (v, c) → field_in size line r → After size line c
field-after r size line v c e h = rw e at h

pub list-after : (r : Outcome Cursor Refusal) (size line : ℕ) (c : Cursor) → r ≡ Ok c → list_in size line r → After size line c
list-after r size line c e h = rw e at h
