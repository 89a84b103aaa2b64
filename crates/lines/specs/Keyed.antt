-- The definitions' lines, with the bytes of the key in place of its quoted text.
-- Assumes nothing.
use Rattle.std.specs.Prelude.{◌≡◌, refl, Bool, ◌&&◌, not, List, [], ◌∷◌, ◌++◌, ℕ, zero, suc, leb, eqb}
use Prim.Native.String.{String}
use Rattle.model.specs.Lists.{all}
use Rattle.model.specs.Text.{bytes, cut_line, number}
use Rattle.model.specs.Read.{Place, Reading, ◌>>=◌, ◌>>◌, give, form, need, value_in, line, number_line, ranged}

-- the key holds no byte 10
abbrev pub one_line : List ℕ → Bool
one_line key = all (λ b. not (eqb b 10)) key

-- the key with its `=`
abbrev pub key_bytes : String → List ℕ
key_bytes key = bytes key ++ (61 ∷ [])

abbrev pub line_by : List ℕ → Reading (List ℕ)
line_by key p = value_in 2 (suc p.line) (cut_line p.rest) key

unfoldable pub number_line_by : List ℕ → Reading ℕ
number_line_by key = do
  v ← line_by key
  form 2 (number v)

unfoldable pub ranged_by : List ℕ → ℕ → ℕ → Reading ℕ
ranged_by key low high = do
  n ← number_line_by key
  need 3 (leb low n && leb n high)
  give n

-- these are the definitions' lines
pub number-line-is : (key : String) (p : Place) → number_line key p ≡ number_line_by (key_bytes key) p
unfolding line number_line_by
number-line-is key p = refl

pub ranged-is : (key : String) (low high : ℕ) (p : Place) → ranged key low high p ≡ ranged_by (key_bytes key) low high p
unfolding line ranged number_line_by ranged_by
ranged-is key low high p = refl

-- the byte behind an entry of a list after which n more come: a comma, and byte 10 behind the last
abbrev pub ender : ℕ → ℕ
ender zero = 10
ender (suc n) = 44
