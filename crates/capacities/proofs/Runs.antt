-- A line of numbers that begins with digits: what the definitions read of it goes by the byte behind the digits.
-- Assumes nothing.
use mathlib.Core.Path.{◌≡◌, refl}
use mathlib.Core.Bool.{Bool, true, false, cond}
use mathlib.Core.List.{List, [], ◌∷◌, ◌++◌, map, append-nil}
use mathlib.Core.Option.{Option, none, some}
use Prim.Native.Nat.{ℕ}
use native.Mathlib.Decide.{ℕ_discrete}
use borrow.Author.Tests.{ne_eqb}
use lib.Dec.{eqb}
use lib.ListN.{drop, get_or}
use Rattle.model.specs.Lists.{cons_if, every}
use Rattle.model.specs.Text.{Cut, cut_step, cut_line, on_first, split, is_digit, number}
use Rattle.text.specs.Number.{digit_run}
use Rattle.scan.specs.Lines.{Some, split-some, digit_not, prepend, undigits, undigits-no, NoDigit, no_number}
use Rattle.lines.specs.Digits.{cut_behind, cut-run}
use Rattle.capacities.specs.Entries.{Numbered, cons_to}

prepend-none : (ps : List (List ℕ)) → ps ≡ prepend [] ps
prepend-none [] = refl
prepend-none (p ∷ ps) = refl

-- the pieces of a line that begins with digits
split-run : (t v : List ℕ) → split 44 (digit_run t ++ v) ≡ prepend (digit_run t) (split 44 v)
unfolding digit_run
split-run [] v = prepend-none (split 44 v)
split-run (b ∷ t) v = go (is_digit b) refl (split-run t v)
  where
    more : (ps : List (List ℕ)) → on_first b (prepend (digit_run t) ps) ≡ prepend (b ∷ digit_run t) ps
    more [] = refl
    more (p ∷ ps) = refl

    go : (q : Bool) → is_digit b ≡ q → split 44 (digit_run t ++ v) ≡ prepend (digit_run t) (split 44 v) →
        split 44 (cond q (b ∷ digit_run t) [] ++ v) ≡ prepend (cond q (b ∷ digit_run t) []) (split 44 v)
    go true e h = rw (ne_eqb b 44 (digit_not b 44 e refl), h) (more (split 44 v))
    go false e h = prepend-none (split 44 v)

-- ---- a line of numbers with commas between

abbrev pub with_rest : Option (List ℕ) → List ℕ → Numbered
with_rest none r = none
with_rest (some vs) r = some (vs, r)

-- one number or more, and the text after the line
abbrev pub numbers_by : Cut → Numbered
numbers_by none = none
numbers_by (some c) = with_rest (every (map number (split 44 c.0))) c.1

abbrev pub numbers_of : List ℕ → Numbered
numbers_of t = numbers_by (cut_line t)

abbrev pub cons_number : Option ℕ → Numbered → Numbered
cons_number none r = none
cons_number (some v) r = cons_to v r

-- a comma behind the number, byte 10, or neither
abbrev pub numbers_from : Option ℕ → List ℕ → Numbered
numbers_from o u =
    cond (eqb (get_or u 0 0) 44) (cons_number o (numbers_of (drop 1 u))) (cond (eqb (get_or u 0 0) 10) (cons_number o (some ([], drop 1 u))) none)

pub numbers-run : (t : List ℕ) → numbers_of t ≡ numbers_from (number (digit_run t)) (undigits t)
numbers-run t = rw (cut-run t) (go (undigits t) (undigits-no t))
  where
    joined : (o : Option ℕ) (vs : Option (List ℕ)) (r : List ℕ) → with_rest (cons_if o vs) r ≡ cons_number o (with_rest vs r)
    joined none vs r = refl
    joined (some v) none r = refl
    joined (some v) (some vs) r = refl

    empty : (o : Option ℕ) → ◌≡◌ {A = Numbered} none (cons_number o none)
    empty none = refl
    empty (some v) = refl

    comma : (k : Cut) → numbers_by (cut_behind (digit_run t) (cut_step 44 k)) ≡ cons_number (number (digit_run t)) (numbers_by k)
    comma none = empty (number (digit_run t))
    comma (some k) = rw (split-run t (44 ∷ k.0), append-nil (digit_run t)) (joined (number (digit_run t)) (every (map number (split 44 k.0))) k.1)

    newline : (u : List ℕ) → numbers_by (cut_behind (digit_run t) (some ([], u))) ≡ cons_number (number (digit_run t)) (some ([], u))
    newline u = rw (split-run t [], append-nil (digit_run t)) (joined (number (digit_run t)) (some []) u)

    wrong : (c : ℕ) → is_digit c ≡ false → (ps : List (List ℕ)) → Some ps → every (map number (prepend (digit_run t) (on_first c ps))) ≡ none
    wrong c e [] h = absurd h
    wrong c e (p ∷ ps) h = rw (no_number (digit_run t) c p e)

    other : (c : ℕ) → is_digit c ≡ false → (c ≡ 44 → ⊥) → (k : Cut) → numbers_by (cut_behind (digit_run t) (cut_step c k)) ≡ none
    other c e m none = refl
    other c e m (some k) = rw (split-run t (c ∷ k.0), ne_eqb c 44 m, wrong c e (split 44 k.0) (split-some 44 k.0))

    go : (u : List ℕ) → NoDigit u → numbers_by (cut_behind (digit_run t) (cut_line u)) ≡ numbers_from (number (digit_run t)) u
    go [] h = refl
    go (c ∷ u) h = test (ℕ_discrete c 44) (ℕ_discrete c 10)
      where
        test : Dec (c ≡ 44) → Dec (c ≡ 10) → numbers_by (cut_behind (digit_run t) (cut_line (c ∷ u))) ≡ numbers_from (number (digit_run t)) (c ∷ u)
        test (yes e) q = rw e (comma (cut_line u))
        test (no m) (yes e) = rw e (newline u)
        test (no m) (no l) = rw (ne_eqb c 10 l, ne_eqb c 44 m) (other c h m (cut_line u))
