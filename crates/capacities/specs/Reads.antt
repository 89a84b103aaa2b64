-- The definitions' lines of capacities: one line, with the bytes of the key in place of its quoted text, and the two lines of a layer.
-- Assumes nothing.
use Rattle.std.specs.Prelude.{◌≡◌, refl, Bool, true, false, ◌||◌, List, ◌++◌, ℕ, leb, eqb, length}
use Rattle.std.proofs.Math.Option.{Option}
use Prim.Native.String.{String}
use Rattle.model.specs.Grid.{east_count, north_count}
use Rattle.model.specs.Job.{runs}
use Rattle.model.specs.Limits.{most_capacity}
use Rattle.model.specs.Lists.{all}
use Rattle.model.specs.Text.{numbers}
use Rattle.model.specs.Read.{Place, Result, refused, found, Reading, next, ◌>>=◌, ◌>>◌, give, form, need, line, capacity_line}
use Rattle.lines.specs.Keyed.{key_bytes, line_by}

unfoldable pub capacity_line_by : List ℕ → ℕ → Reading (List ℕ)
capacity_line_by key size = do
  v ← line_by key
  cs ← form 2 (numbers v)
  need 2 (eqb (length cs) size)
  need 3 (all (λ c. leb c most_capacity) cs)
  give cs

-- nothing but 0
abbrev pub zeros : List ℕ → Bool
zeros cs = all (λ c. eqb c 0) cs

-- "12, on a capacity line, after 3, a nonzero capacity on a layer that runs the other way"
abbrev pub judged_by : Bool → List ℕ → Reading (List ℕ)
judged_by along cs = do
  need 12 (along || zeros cs)
  give cs

unfoldable pub judged_line_by : List ℕ → ℕ → Bool → Reading (List ℕ)
judged_line_by key size along = do
  cs ← capacity_line_by key size
  judged_by along cs

-- this is the definitions' line
pub judged-line-is : (key : String) (size : ℕ) (along : Bool) (p : Place) → capacity_line key size along p ≡ judged_line_by (key_bytes key) size along p
unfolding line capacity_line capacity_line_by judged_line_by
judged-line-is key size along p = value (line_by (key_bytes key) p)
  where
    first : (r : Result (List ℕ)) → Result (List ℕ)
    first r = next r (λ cs q. next (need 2 (eqb (length cs) size) q) (λ u. λ t. next (need 3 (all (λ c. leb c most_capacity) cs) t) (λ v. give cs)))

    whole : (r : Result (List ℕ)) → Result (List ℕ)
    whole r =
        next r (λ cs q. next (need 2 (eqb (length cs) size) q) (λ u. λ t. next (need 3 (all (λ c. leb c most_capacity) cs) t) (λ v. judged_by along cs)))

    last : (cs : List ℕ) (a b : Bool) (q : Place)
        → next (need 2 a q) (λ u. λ t. next (need 3 b t) (λ v. judged_by along cs)) ≡ next (next (need 2 a q) (λ u. λ t. next (need 3 b t) (λ v. give cs))) (judged_by along)
    last cs true true q = refl
    last cs true false q = refl
    last cs false b q = refl

    formed : (r : Result (List ℕ)) → whole r ≡ next (first r) (judged_by along)
    formed (refused n l) = refl
    formed (found cs q) = last cs (eqb (length cs) size) (all (λ c. leb c most_capacity) cs) q

    value : (r : Result (List ℕ)) → next r (λ v q. whole (form 2 (numbers v) q)) ≡ next (next r (λ v q. first (form 2 (numbers v) q))) (judged_by along)
    value (refused n l) = refl
    value (found v q) = formed (form 2 (numbers v) q)

-- the lines `east` and `north` of layer l
unfoldable pub layer_in : ℕ → ℕ → Option (List ℕ) → ℕ → Reading (List ℕ)
layer_in W H ds l = do
  east ← capacity_line "east" (east_count W H) (runs ds 0 l)
  north ← capacity_line "north" (north_count W H) (runs ds 1 l)
  give (east ++ north)
