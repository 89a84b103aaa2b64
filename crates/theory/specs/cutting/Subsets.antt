-- Lists of numbers that are parts of others, by how often each number stands in them, and sums over them.
-- Assumes nothing.
use Rattle.std.specs.Prelude.{List, [], ◌∷◌, ℕ, ◌≤◌}
use Rattle.std.proofs.Common.{arith}
use Rattle.theory.specs.congestion.Sums.{sum, occurs, same_refl, sum-perm}
use Rattle.theory.specs.walk.Stops.{removed}

-- each number stands in xs at most as often as in ys
abbrev pub PartOf : List ℕ → List ℕ → Type 0
PartOf xs ys = (a : ℕ) → occurs a xs ≤ occurs a ys

-- a sum over a part is at most the sum over the whole: take the part's first number out of the whole, and go on
pub part-sum : (f : ℕ → ℕ) (xs ys : List ℕ) → PartOf xs ys → sum f xs ≤ sum f ys
part-sum f [] ys h = omega arith
part-sum f (x ∷ xs) ys h =
    let r = removed x ys (omega (arith, h x, same_refl x)) in
    omega (arith, sum-perm f ys (x ∷ r.0) (λ a. omega (arith, r.2 a)), part-sum f xs r.0 (λ a. omega (arith, h a, r.2 a)))
