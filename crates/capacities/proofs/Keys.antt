-- A line of capacities that was opened, by what stands behind its key.
-- Assumes nothing.
use mathlib.Core.Path.{◌≡◌, ap, ◌∙◌}
use mathlib.Core.Bool.{true}
use mathlib.Core.List.{List}
use Prim.Native.Nat.{ℕ}
use Rattle.std.specs.Prelude.{Ok, Err, Result}
use Rattle.text.specs.Refusals.{place_of}
use Rattle.text.specs.declared.Cursor.{Cursor}
use Rattle.text.specs.declared.Refusal.{Refusal}
use Rattle.lines.specs.Keyed.{line_by}
use Rattle.lines.specs.Told.{mapped, line_told, refused_by}
use Rattle.lines.specs.Values.{reads-there, reads_other}
use Rattle.capacities.specs.Entries.{list_line, finish}
use Rattle.capacities.specs.Reads.{capacity_line_by}
use Rattle.capacities.specs.Spread.{spread}
use Rattle.capacities.proofs.Places.{capacities_in, capacities-value}

module _ (s : List ℕ) (c : Cursor) (key : List ℕ) (r : Result Cursor Refusal) (told : line_told s r ≡ line_by key (place_of s c))
    (k size : ℕ) (w : List ℕ) (to : ℕ) where
  pub capacities-key : (d : Cursor) → r ≡ Ok d → mapped (spread k w to) (capacity_line_by key size (place_of s c)) ≡ finish k d.line true w to (list_line size s d.at)
  unfolding capacity_line_by
  capacities-key d e = ap (mapped (spread k w to)) (reads-there s c key r told (capacities_in size) d e) ∙ capacities-value k d.line size w to s d.at

  pub capacities-none : (x : Refusal) → r ≡ Err x → mapped (spread k w to) (capacity_line_by key size (place_of s c)) ≡ refused_by x
  unfolding capacity_line_by
  capacities-none x e = ap (mapped (spread k w to)) (reads_other s c key r told (capacities_in size) x e)
