-- What a row is, and the texts that rows share.
-- Assumes nothing.
use Rattle.std.specs.Prelude.{◌≡◌, List, [], ◌∷◌, map, ℕ}
use Rattle.std.proofs.Math.Option.{Option}
use Prim.Native.String.{String, ◌++◌ as ◌then◌}
use Rattle.model.specs.Calls.{Outcome, outcome, returned_by}
use Rattle.model.specs.Read.{Lent}
use Rattle.model.specs.Text.{bytes}

-- A row: what the definitions compute, and what document 01 says.
pub record Row {ℓ} (A : Type ℓ) : Type ℓ where
  pub computed : A
  pub stated : A

infix 5 ◌gives◌
module _ {ℓ} {A : Type ℓ} where
  abbrev pub ◌gives◌ : A → A → Row A
  ◌gives◌ c s = record { computed = c; stated = s }

  -- all rows of a list hold
  abbrev pub Hold : List (Row A) → Type ℓ
  Hold rows = map (λ r. r.computed) rows ≡ map (λ r. r.stated) rows

-- a text of these lines, each ended by byte 10
abbrev pub join_lines : List String → String
join_lines [] = ""
join_lines (l ∷ ls) = l then "\n" then join_lines ls

abbrev pub text_of : List String → List ℕ
text_of ls = bytes (join_lines ls)

-- lent lengths: working numbers, order entries, answer bytes, and print bytes where there is a print buffer
abbrev pub lent : ℕ → ℕ → ℕ → Option ℕ → Lent
lent w o a p = record { working = w; order = o; answer = a; print = p }

-- the number and the line that a text and lent lengths lead to: 0, 0 where they are accepted
abbrev pub verdict_of : Outcome → ℕ × ℕ
verdict_of o = ((returned_by o).number, (returned_by o).line)

abbrev pub verdict : Lent → List ℕ → ℕ × ℕ
verdict lent text = verdict_of (outcome lent text)

-- A job of 17 lines that is accepted: W = 3, H = 2, K = 2, so T = 6 and E = 4 + 3; N = 2, and A = 3 + 1.
abbrev pub sample : List String
sample =
    "width=3" ∷ "height=2" ∷ "layers=2" ∷ "alpha=1" ∷ "beta=1" ∷ "gamma=0"
    ∷ "east=1,1,1,1" ∷ "north=1,1,1" ∷ "east=1,1,1,1" ∷ "north=1,1,1" ∷ "nets=2"
    ∷ "net=1" ∷ "pins=0,0,1;2,1,2" ∷ "edges=0,0,e;1,0,e;2,0,n"
    ∷ "net=2" ∷ "pins=0,0,1;0,1,1" ∷ "edges=0,0,n" ∷ []

-- just what the sample needs: 2 × 2 × 7 + 2 × 7 + 32 × 6 working numbers, 2 order entries, 4 answer bytes, 256 + 64 × 2 + 2 × 4 print bytes
abbrev pub sample_lent : Option ℕ → Lent
sample_lent print = lent 234 2 4 print
