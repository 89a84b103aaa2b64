-- A line with one number that was opened, by what stands behind its key.
-- Assumes nothing.
use mathlib.Core.Path.{◌≡◌, ◌∙◌}
use mathlib.Core.List.{List}
use Prim.Native.Nat.{ℕ}
use Rattle.std.specs.Prelude.{Ok, Err, Result}
use Rattle.model.specs.Text.{number}
use Rattle.model.specs.Read.{form}
use Rattle.text.specs.Entries.{ended_at}
use Rattle.text.specs.Refusals.{place_of}
use Rattle.text.specs.declared.Cursor.{Cursor}
use Rattle.text.specs.declared.Refusal.{Refusal}
use Rattle.lines.specs.Keyed.{line_by, number_line_by}
use Rattle.lines.specs.Told.{line_told, refused_by}
use Rattle.lines.specs.Values.{reads-there, reads_other}
use Rattle.lines.proofs.Places.{numeral_told, number-value}

module _ (s : List ℕ) (c : Cursor) (key : List ℕ) (r : Result Cursor Refusal) (told : line_told s r ≡ line_by key (place_of s c)) where
  pub number-key : (d : Cursor) → r ≡ Ok d → number_line_by key (place_of s c) ≡ numeral_told d.line s (ended_at s d.at 10)
  unfolding number_line_by
  number-key d e = reads-there s c key r told (λ v. form 2 (number v)) d e ∙ number-value d.line s d.at

  pub number-none : (x : Refusal) → r ≡ Err x → number_line_by key (place_of s c) ≡ refused_by x
  unfolding number_line_by
  number-none x e = reads_other s c key r told (λ v. form 2 (number v)) x e
