-- What the answer of `read_dirs` says, in the definitions' words.
-- Assumes nothing.
use Rattle.std.specs.Prelude.{List, ℕ, ◌+◌, Ok, Err, Option as Maybe, Result as Outcome}
use Rattle.std.proofs.Math.Option.{Option}
use Rattle.model.specs.Read.{Result, found}
use Rattle.theory.specs.links.JobText.{option_lines}
use Rattle.text.specs.Refusals.{place_of}
use Rattle.text.specs.declared.Cursor.{Cursor}
use Rattle.text.specs.declared.Refusal.{Refusal}
use Rattle.layout.specs.Dirs.{dirs_of}
use Rattle.layout.specs.declared.shape.Dirs.{Dirs}
use Rattle.lines.specs.Told.{refused_by, After}

-- the directions of k layers that were read in the text s
abbrev pub dirs_told : ℕ → List ℕ → Outcome (Maybe Dirs × Cursor) Refusal → Result (Option (List ℕ))
dirs_told k s (Ok x) = found (dirs_of k x.0) (place_of s x.1)
dirs_told k s (Err r) = refused_by r

-- the next line comes in a text of this size after `line` others, and after the line `dirs` where it stands
abbrev pub dirs_hold : ℕ → ℕ → ℕ → Outcome (Maybe Dirs × Cursor) Refusal → Type 0
dirs_hold size line k (Ok x) = After size (line + option_lines (dirs_of k x.0)) x.1
dirs_hold size line k (Err r) = Unit {0}
