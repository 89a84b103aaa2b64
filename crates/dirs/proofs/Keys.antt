-- The line `dirs` that was opened, by what stands behind its key.
-- Assumes nothing.
use mathlib.Core.Path.{◌≡◌, refl, ap, ◌∙◌}
use Rattle.std.specs.Prelude.{Some, None}
use mathlib.Core.List.{List}
use mathlib.Core.Option.{none, some}
use Prim.Native.Nat.{ℕ, zero, suc, ◌<◌}
use native.Mathlib.Omega.{arith}
use Rattle.model.specs.Read.{Result, found, next, give, line, if_there, letters_line, dirs_line}
use Rattle.theory.specs.links.Plain.{plain-dirs}
use Rattle.text.specs.Refusals.{place_of}
use Rattle.text.specs.declared.Cursor.{Cursor}
use Rattle.lines.specs.Keyed.{key_bytes}
use Rattle.lines.specs.Opens.{key-there, key-other}
use Rattle.lines.specs.Reads.{opened_of}
use Rattle.lines.specs.Values.{line-there}
use Rattle.dirs.specs.Letters.{letters_from}
use Rattle.dirs.proofs.Lines.{letters_in, letters_told, letters-value}

-- the bytes of `dirs=`
abbrev pub key : List ℕ
key = key_bytes "dirs"

module _ (s : List ℕ) (c : Cursor) where
  -- the key is there: the letters stand behind it
  pub dirs-there : (d : Cursor) → opened_of s c key ≡ Some d → (k : ℕ) → 0 < k → dirs_line k (place_of s c) ≡ letters_told d.line (letters_from k s d.at)
  unfolding dirs_line line
  dirs-there d e zero h = absurd (omega arith)
  dirs-there d e (suc n) h =
      key-there s c key d e (λ l u. if_there u (letters_line (suc n)) (place_of s c))
      ∙ ap (λ (r : Result (List ℕ)). next (next r (letters_in (suc n))) (λ ds. give (some ds))) (line-there s c key refl d e)
      ∙ letters-value n d.line s d.at

  -- the key is not there: nothing is read
  pub dirs-none : opened_of s c key ≡ None → (k : ℕ) → dirs_line k (place_of s c) ≡ found none (place_of s c)
  dirs-none e k = plain-dirs k (place_of s c) (key-other s c key e (λ l u. u))
