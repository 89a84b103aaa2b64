-- Sums, largest values, counts and tests over lists.
-- Assumes nothing.
use Rattle.std.specs.Prelude.{List, [], ◌∷◌, Bool, true, false, cond, ℕ, zero, suc, ◌+◌, ◌≤◌, max, eqb}
use Rattle.std.proofs.Math.Option.{Option, none, some}

-- ---- numbers

-- n numbers, from a up
abbrev pub up_from : ℕ → ℕ → List ℕ
up_from a zero = []
up_from a (suc n) = a ∷ up_from (suc a) n

-- the sum of f over the list
abbrev pub sum : (ℕ → ℕ) → List ℕ → ℕ
sum f [] = 0
sum f (x ∷ xs) = f x + sum f xs

-- the largest f of the list, 0 where the list is empty
abbrev pub most : (ℕ → ℕ) → List ℕ → ℕ
most f [] = 0
most f (x ∷ xs) = max (f x) (most f xs)

-- 1 where the test holds
abbrev pub bit : Bool → ℕ
bit true = 1
bit false = 0

-- 1 where the two are equal, and else 0
unfoldable pub same : ℕ → ℕ → ℕ
same a b = bit (eqb a b)

-- how often a stands in the list
abbrev pub occurs : ℕ → List ℕ → ℕ
occurs a [] = 0
occurs a (x ∷ xs) = same a x + occurs a xs

-- a stands in the list
abbrev pub In : ℕ → List ℕ → Type 0
In a xs = 1 ≤ occurs a xs

-- ---- tests

module _ {A : Type 0} where
  -- every element passes
  abbrev pub all : (A → Bool) → List A → Bool
  all p [] = true
  all p (x ∷ xs) = let r = all p xs in cond (p x) r false

  -- some element passes
  abbrev pub any : (A → Bool) → List A → Bool
  any p [] = false
  any p (x ∷ xs) = let r = any p xs in cond (p x) true r

  -- the elements that pass
  abbrev pub keep : (A → Bool) → List A → List A
  keep p [] = []
  keep p (x ∷ xs) = let r = keep p xs in cond (p x) (x ∷ r) r

  -- how many pass
  abbrev pub count : (A → Bool) → List A → ℕ
  count p [] = 0
  count p (x ∷ xs) = bit (p x) + count p xs

  -- two elements are equal, by the test given
  abbrev pub twice : (A → A → Bool) → List A → Bool
  twice equal [] = false
  twice equal (x ∷ xs) = let r = twice equal xs in cond (any (equal x) xs) true r

  -- all values, where each is there
  abbrev pub cons_if : Option A → Option (List A) → Option (List A)
  cons_if none r = none
  cons_if (some x) none = none
  cons_if (some x) (some xs) = some (x ∷ xs)

  abbrev pub every : List (Option A) → Option (List A)
  every [] = some []
  every (x ∷ xs) = cons_if x (every xs)

-- the test of `In`: the number stands in the list
abbrev pub has : List ℕ → ℕ → Bool
has xs a = any (eqb a) xs

-- the different numbers of a list: each one once, where it stands last
abbrev pub different : List ℕ → List ℕ
different [] = []
different (x ∷ xs) = let r = different xs in cond (has xs x) r (x ∷ r)
