-- The length of a refusal's line.
-- Assumes nothing.
use Rattle.std.specs.Prelude.{[], ◌∷◌, ◌++◌, ◌≡◌, ℕ, ◌+◌, ◌^◌, ◌≤◌, ◌<◌, length}
use Rattle.std.proofs.Common.{arith, length-append}
use Rattle.model.specs.Calls.{refusal}
use Rattle.model.specs.Program.{written}
use Rattle.model.specs.Text.{bytes, decimal}
use Rattle.put.specs.Lists.{digits-most}

pub refusal-long : (n l : ℕ) → length (written (refusal n l)) ≡ 8 + length (decimal n) + 1 + length (decimal l) + 1
refusal-long n l =
    omega (
      arith,
      length-append (bytes "refused=" ++ (decimal n ++ (44 ∷ decimal l))) (10 ∷ []),
      length-append (bytes "refused=") (decimal n ++ (44 ∷ decimal l)),
      length-append (decimal n) (44 ∷ decimal l),
    )

-- 50 bytes are enough for any two numbers of 64 bits
pub refusal-most : (n l : ℕ) → n < 2 ^ 64 → l < 2 ^ 64 → length (written (refusal n l)) ≤ 50
refusal-most n l h k = omega (arith, refusal-long n l, digits-most n h, digits-most l k)
