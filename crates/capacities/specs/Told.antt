-- What the answers of this crate's functions say, in the definitions' words.
-- Assumes nothing.
use Rattle.std.specs.Prelude.{Bool, cond, ◌≡◌, List, ℕ, ◌*◌, drop, Ok, Err, Result as Outcome}
use Rattle.model.specs.Read.{Result, found}
use Rattle.text.specs.Refusals.{place_of}
use Rattle.text.specs.declared.Cursor.{Cursor}
use Rattle.text.specs.declared.Fault.TheVariants.{Range}
use Rattle.text.specs.declared.Refusal.{Refusal}
use Rattle.text.specs.declared.Refusal.TheVariants.{Line}
use Rattle.layout.specs.declared.shape.Shape.{Shape}
use Rattle.lines.specs.Told.{refused_by}
use Rattle.capacities.specs.Capacities.{capacities_of}

-- ---- one line

-- a list that was read, by the working numbers that hold it
abbrev pub list_told : List ℕ → List ℕ → Outcome Cursor Refusal → Result (List ℕ)
list_told s w (Ok c) = found w (place_of s c)
list_told s w (Err r) = refused_by r

-- the answer for a list whose form is right, read up to `at`: whether all its capacities are in their range
abbrev pub answer_of : ℕ → ℕ → Bool → Outcome Cursor Refusal
answer_of at line inside = cond inside (Ok (record { at = at; line = line })) (Err (Line Range line))

-- ---- all layers, by the working numbers w

abbrev pub capacities_told : List ℕ → Shape → List ℕ → Outcome Cursor Refusal → Result (List (List ℕ))
capacities_told s g w (Ok c) = found (capacities_of g w) (place_of s c)
capacities_told s g w (Err r) = refused_by r

-- what lies beyond the capacities is as it was
abbrev pub beyond_of : Shape → List ℕ → List ℕ → Outcome Cursor Refusal → Type 0
beyond_of g w x (Ok c) = drop (g.k * g.e) x ≡ drop (g.k * g.e) w
beyond_of g w x (Err r) = Unit {0}
