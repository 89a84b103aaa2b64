-- Lines with one number in its range, as the code has read them.
-- Assumes nothing.
use mathlib.Core.Path.{◌≡◌, sym, ◌∙◌}
use mathlib.Core.List.{List}
use Prim.Native.Nat.{ℕ, ◌+◌, ◌≤◌}
use Prim.Native.String.{String}
use lib.ListN.{length}
use Rattle.model.specs.Read.{found, ranged}
use Rattle.theory.specs.links.Reading.{gives_found, ranged-gives}
use Rattle.text.specs.Refusals.{place_of}
use Rattle.text.specs.declared.Cursor.{Cursor}
use Rattle.text.specs.declared.Refusal.{Refusal}
use Rattle.lines.specs.Keyed.{key_bytes, ranged_by, ranged-is}
use Rattle.lines.specs.Told.{After, refused_by}

-- the value v was read, and the next line is at d
pub record Got (key : String) (low high : ℕ) (s : List ℕ) (c : Cursor) (v : ℕ) (d : Cursor) : Type 0 where
  pub read : ranged key low high (place_of s c) ≡ found v (place_of s d)
  pub least : low ≤ v
  pub most : v ≤ high
  pub after : After (length s) (c.line + 1) d

module _ (key : String) (low high : ℕ) (s : List ℕ) (c : Cursor) where
  pub not-got : (x : Refusal) → refused_by x ≡ ranged_by (key_bytes key) low high (place_of s c) → ranged key low high (place_of s c) ≡ refused_by x
  not-got x e = ranged-is key low high (place_of s c) ∙ sym e

  pub got : (v : ℕ) (d : Cursor) → found v (place_of s d) ≡ ranged_by (key_bytes key) low high (place_of s c) → After (length s) (c.line + 1) d → Got key low high s c v d
  got v d e after = record { read = here; least = limits.0; most = limits.1; after = after }
    where
      here : ranged key low high (place_of s c) ≡ found v (place_of s d)
      here = ranged-is key low high (place_of s c) ∙ sym e

      limits : (low ≤ v) × (v ≤ high)
      limits = gives_found (λ n. (low ≤ n) × (n ≤ high)) (ranged key low high (place_of s c)) v (place_of s d) here (ranged-gives key low high (place_of s c))
