-- A number and numbers with commas between, as they are written one after another.
-- Assumes nothing.
use Rattle.std.specs.Prelude.{List, [], ◌∷◌, ◌++◌, ◌≡◌, ℕ, ◌+◌, ◌^◌, ◌≤◌, ◌<◌, length, drop, get_or}
use Rattle.std.proofs.Common.{append-nil, sym, ap, ◌∙◌, add-one, arith, drop-cons}
use Rattle.model.specs.Text.{decimal, decimals}
use Rattle.theory.specs.links.Room.{decimal-few}

-- a number of 64 bits has at most 20 digits
pub digits-most : (n : ℕ) → n < 2 ^ 64 → length (decimal n) ≤ 20
digits-most n h = decimal-few 19 n (omega arith)

-- the numbers behind the first: a comma before each
abbrev pub others : List ℕ → List ℕ
others [] = []
others (n ∷ ns) = (44 ∷ decimal n) ++ others ns

decimals-others : (n : ℕ) (ns : List ℕ) → decimals (n ∷ ns) ≡ decimal n ++ others ns
decimals-others n [] = sym (append-nil (decimal n))
decimals-others n (m ∷ ms) = ap (λ (r : List ℕ). decimal n ++ (44 ∷ r)) (decimals-others m ms)

-- the first number, and the others
pub first_more : (xs : List ℕ) → 1 ≤ length xs → decimals xs ≡ decimal (get_or xs 0 0) ++ others (drop 1 xs)
first_more [] h = absurd (omega arith)
first_more (n ∷ ns) h = decimals-others n ns

-- one more number
pub others-more : (xs : List ℕ) (i : ℕ) → i < length xs → others (drop i xs) ≡ (44 ∷ decimal (get_or xs i 0)) ++ others (drop (i + 1) xs)
others-more xs i h = ap others (drop-cons xs i 0 h ∙ ap (λ (k : ℕ). get_or xs i 0 ∷ drop k xs) (sym (add-one i)))
