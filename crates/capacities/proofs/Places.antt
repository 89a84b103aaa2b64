-- The value of a line of capacities at a place of the text, as the definitions read it and as it is read number by number.
-- Assumes nothing.
use mathlib.Core.Path.{◌≡◌, refl, sym, ap, ◌∙◌}
use mathlib.Core.Bool.{Bool, true, false, cond}
use mathlib.Core.List.{List, [], ◌∷◌, map}
use mathlib.Core.Option.{Option, none, some}
use Prim.Native.Nat.{ℕ, zero, suc, ◌+◌}
use native.Mathlib.Omega.{arith}
use borrow.Author.Tests.{eq-eqb, ne_eqb, eqb-true, eqb-false}
use lib.Dec.{leb, eqb}
use lib.ListN.{length, drop, get_or}
use Rattle.model.specs.Limits.{most_capacity}
use Rattle.model.specs.Lists.{all, cons_if, every}
use Rattle.model.specs.Text.{Cut, cut_step, cut_line, split, number, numbers}
use Rattle.model.specs.Read.{Reading, next, ◌>>=◌, ◌>>◌, give, form, need, value_in}
use Rattle.text.specs.Entries.{on_number}
use Rattle.text.specs.Number.{digit_run, run, numbered}
use Rattle.std.specs.Prelude.{Some as Found, None as Nothing}
use Rattle.text.specs.Number.{numeral}
use Rattle.scan.specs.Lines.{Some, split-some, undigits}
use Rattle.scan.specs.Places.{after}
use Rattle.lines.specs.Digits.{past, ended_by, head_at, tail_at}
use Rattle.lines.specs.Told.{mapped}
use Rattle.lines.specs.Keyed.{ender}
use Rattle.capacities.specs.Entries.{Numbered, cons_to, list_at, list_line, finish}
use Rattle.capacities.specs.Spread.{spread}
use Rattle.capacities.proofs.Runs.{with_rest, numbers_by, numbers_of, cons_number, numbers_from, numbers-run}

-- ---- numbers with commas between

-- just n of them
abbrev sized : ℕ → Numbered → Numbered
sized n none = none
sized n (some c) = cond (eqb (length c.0) n) (some c) none

sized-cons : (n v : ℕ) (r : Numbered) → cons_to v (sized n r) ≡ sized (suc n) (cons_to v r)
sized-cons n v none = refl
sized-cons n v (some c) = go (eqb (length c.0) n) refl
  where
    go : (q : Bool) → eqb (length c.0) n ≡ q → cons_to v (cond q (some c) none) ≡ cond (eqb (suc (length c.0)) (suc n)) (some (v ∷ c.0, c.1)) none
    go true e = rw (eq-eqb (suc (length c.0)) (suc n) (ap suc (eqb-true (length c.0) n e)))
    go false e = rw (ne_eqb (suc (length c.0)) (suc n) (λ q. eqb-false (length c.0) n e (omega arith)))

-- there is one at least
some_number : (t : List ℕ) → sized 0 (numbers_of t) ≡ none
some_number t = rw (numbers-run t) (go (number (digit_run t)) (undigits t))
  where
    first : (v : ℕ) (r : Numbered) → sized 0 (cons_to v r) ≡ none
    first v none = refl
    first v (some c) = rw (ne_eqb (suc (length c.0)) 0 (λ q. omega arith))

    go : (o : Option ℕ) (u : List ℕ) → sized 0 (numbers_from o u) ≡ none
    go o u = test o (eqb (get_or u 0 0) 44) (eqb (get_or u 0 0) 10)
      where
        test : (o : Option ℕ) (p q : Bool) → sized 0 (cond p (cons_number o (numbers_of (drop 1 u))) (cond q (cons_number o (some ([], drop 1 u))) none)) ≡ none
        test none true q = refl
        test none false true = refl
        test none false false = refl
        test (some v) true q = first v (numbers_of (drop 1 u))
        test (some v) false true = refl
        test (some v) false false = refl

-- a line of numbers at a place, by the digits there and the byte behind them
numbers-at : (s : List ℕ) (at : ℕ) → numbers_of (drop at s)
    ≡ cond (eqb (get_or s (past s at) 0) 44) (cons_number (number (run s at)) (numbers_of (drop (past s at + 1) s)))
    (cond (eqb (get_or s (past s at) 0) 10) (cons_number (number (run s at)) (some ([], drop (past s at + 1) s))) none)
numbers-at s at = numbers-run (drop at s) ∙ rw (after s at, head_at s (past s at), tail_at s (past s at))

-- n numbers and no more, read one by one: what is left to show, by the digits' number and the place behind them
module _ (s : List ℕ) where
  abbrev ListSays : ℕ → Type 0
  ListSays n = (at : ℕ) → list_at (suc n) s at ≡ sized (suc n) (numbers_of (drop at s))

  abbrev StepSays : ℕ → Option ℕ → ℕ → Type 0
  StepSays n o m =
      on_number (on_number (numbered m o) (λ v k. cond (eqb (get_or s k 0) (ender n)) (Found (numeral v (k + 1))) Nothing) Nothing) (λ v k. cons_to v (list_at n s k)) none
      ≡ sized (suc n) (cond (eqb (get_or s m 0) 44) (cons_number o (numbers_of (drop (m + 1) s))) (cond (eqb (get_or s m 0) 10) (cons_number o (some ([], drop (m + 1) s))) none))

  list-none : (n m : ℕ) → StepSays n none m
  list-none n m = test (eqb (get_or s m 0) 44) (eqb (get_or s m 0) 10)
    where
      test : (p q : Bool) → none ≡ sized (suc n) (cond p none (cond q none none))
      test true q = refl
      test false true = refl
      test false false = refl

  list-last : (v m : ℕ) → StepSays zero (some v) m
  list-last v m = test (eqb (get_or s m 0) 44) (eqb (get_or s m 0) 10) refl refl
    where
      both : eqb (get_or s m 0) 44 ≡ true → eqb (get_or s m 0) 10 ≡ true → ⊥
      both p q = omega (arith, eqb-true (get_or s m 0) 44 p, eqb-true (get_or s m 0) 10 q)

      test : (p q : Bool) → eqb (get_or s m 0) 44 ≡ p → eqb (get_or s m 0) 10 ≡ q →
          on_number (cond q (Found (numeral v (m + 1))) Nothing) (λ v k. cons_to v (some ([], drop k s))) none
          ≡ sized 1 (cond p (cons_to v (numbers_of (drop (m + 1) s))) (cond q (some (v ∷ [], drop (m + 1) s)) none))
      test true true e f = absurd (both e f)
      test true false e f = sym (sym (sized-cons 0 v (numbers_of (drop (m + 1) s))) ∙ rw (some_number (drop (m + 1) s)))
      test false true e f = refl
      test false false e f = refl

  list-more : (n v m : ℕ) → ListSays n → StepSays (suc n) (some v) m
  list-more n v m ih = test (eqb (get_or s m 0) 44) (eqb (get_or s m 0) 10)
    where
      test : (p q : Bool) →
          on_number (cond p (Found (numeral v (m + 1))) Nothing) (λ v k. cons_to v (list_at (suc n) s k)) none
          ≡ sized (suc (suc n)) (cond p (cons_to v (numbers_of (drop (m + 1) s))) (cond q (some (v ∷ [], drop (m + 1) s)) none))
      test true q = rw (ih (m + 1)) (sized-cons (suc n) v (numbers_of (drop (m + 1) s)))
      test false true = rw (ne_eqb 1 (suc (suc n)) (λ z. omega arith))
      test false false = refl

  list-step : (n : ℕ) → ((o : Option ℕ) (m : ℕ) → StepSays n o m) → ListSays n
  list-step n h at = rw (numbers-at s at, ended_by s at (ender n)) (h (number (run s at)) (past s at))

  list-value : (n : ℕ) → ListSays n
  list-value zero = list-step zero go
    where
      go : (o : Option ℕ) (m : ℕ) → StepSays zero o m
      go none m = list-none zero m
      go (some v) m = list-last v m
  list-value (suc n) = list-step (suc n) (go (list-value n))
    where
      go : ListSays n → (o : Option ℕ) (m : ℕ) → StepSays (suc n) o m
      go ih none m = list-none (suc n) m
      go ih (some v) m = list-more n v m ih

-- ---- a line of capacities

-- the numbers of a line, where there are just so many
abbrev sized_by : ℕ → Cut → Numbered
sized_by size none = none
sized_by size (some c) = sized size (with_rest (numbers c.0) c.1)

some-line : (n : ℕ) (k : Cut) → sized_by (suc n) k ≡ sized (suc n) (numbers_by k)
some-line n none = refl
some-line n (some c) = go c.0 c.1
  where
    go : (v r : List ℕ) → sized (suc n) (with_rest (numbers v) r) ≡ sized (suc n) (with_rest (every (map number (split 44 v))) r)
    go [] r = rw (ne_eqb 0 (suc n) (λ q. omega arith))
    go (b ∷ v) r = refl

empty-line : (t : List ℕ) → sized_by 0 (cut_line t) ≡ cond (eqb (get_or t 0 0) 10) (some ([], drop 1 t)) none
empty-line [] = refl
empty-line (b ∷ t) = go (eqb b 10) (cut_line t)
  where
    nothing : (vs : Option (List ℕ)) (o : Option ℕ) (r : List ℕ) → sized 0 (with_rest (cons_if o vs) r) ≡ none
    nothing vs none r = refl
    nothing none (some v) r = refl
    nothing (some vs) (some v) r = rw (ne_eqb (suc (length vs)) 0 (λ q. omega arith))

    pieces : (ps : List (List ℕ)) (r : List ℕ) → Some ps → sized 0 (with_rest (every (map number ps)) r) ≡ none
    pieces [] r h = absurd h
    pieces (p ∷ ps) r h = nothing (every (map number ps)) (number p) r

    go : (q : Bool) (k : Cut) → sized_by 0 (cond q (some ([], t)) (cut_step b k)) ≡ cond q (some ([], t)) none
    go true k = refl
    go false none = refl
    go false (some c) = pieces (split 44 (b ∷ c.0)) c.1 (split-some 44 (b ∷ c.0))

list-line : (size : ℕ) (s : List ℕ) (at : ℕ) → sized_by size (cut_line (drop at s)) ≡ list_line size s at
list-line zero s at = empty-line (drop at s) ∙ rw (head_at s at, tail_at s at)
list-line (suc n) s at = some-line n (cut_line (drop at s)) ∙ sym (list-value s n at)

-- what is done with the value of a line of capacities
abbrev pub capacities_in : ℕ → List ℕ → Reading (List ℕ)
capacities_in size v = do
  cs ← form 2 (numbers v)
  need 2 (eqb (length cs) size)
  need 3 (all (λ c. leb c most_capacity) cs)
  give cs

pub capacities-value : (k n size : ℕ) (w : List ℕ) (to : ℕ) (s : List ℕ) (at : ℕ) →
    mapped (spread k w to) (next (value_in 2 n (cut_line (drop at s)) []) (capacities_in size)) ≡ finish k n true w to (list_line size s at)
capacities-value k n size w to s at = rw (sym (list-line size s at)) (cut (cut_line (drop at s)))
  where
    cut : (c : Cut) → mapped (spread k w to) (next (value_in 2 n c []) (capacities_in size)) ≡ finish k n true w to (sized_by size c)
    cut none = refl
    cut (some c) = read (numbers c.0) c.1
      where
        read : (o : Option (List ℕ)) (r : List ℕ) →
            mapped (spread k w to) (next (form 2 o (record { line = n; rest = r })) (λ cs. ◌>>◌ (need 2 (eqb (length cs) size)) (◌>>◌ (need 3 (all (λ c. leb c most_capacity) cs)) (give cs))))
            ≡ finish k n true w to (sized size (with_rest o r))
        read none r = refl
        read (some vs) r = test (eqb (length vs) size) (all (λ c. leb c most_capacity) vs) refl
          where
            test : (p q : Bool) → all (λ c. leb c most_capacity) vs ≡ q →
                mapped (spread k w to) (next (need 2 p (record { line = n; rest = r })) (λ u. ◌>>◌ (need 3 q) (give vs)))
                ≡ finish k n true w to (cond p (some (vs, r)) none)
            test true true e = rw e
            test true false e = rw e
            test false q e = refl
