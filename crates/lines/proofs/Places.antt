-- A line with one number, as the definitions read it and as it is read at a place of the text.
-- Assumes nothing.
use mathlib.Core.Path.{◌≡◌, refl, ◌∙◌}
use mathlib.Core.Bool.{Bool, true, false, cond}
use mathlib.Core.List.{List, [], ◌∷◌, append-nil}
use mathlib.Core.Option.{Option, none, some}
use Prim.Native.Nat.{ℕ, ◌+◌}
use native.Mathlib.Decide.{ℕ_discrete}
use borrow.Author.Tests.{eq-eqb, ne_eqb}
use lib.Dec.{eqb}
use lib.ListN.{drop, get_or}
use Rattle.model.specs.Text.{Cut, cut_step, cut_line, is_digit, number}
use Rattle.model.specs.Read.{Result, refused, found, next, form, value_in}
use Rattle.text.specs.Entries.{on_number, ended_at}
use Rattle.text.specs.Number.{numeral, digit_run, run, numbered}
use Rattle.text.specs.declared.Numeral.{Numeral}
use Rattle.std.specs.Prelude.{Option as Maybe, Some, None}
use Rattle.scan.specs.Lines.{undigits, undigits-no, NoDigit, no_number}
use Rattle.scan.specs.Places.{after}
use Rattle.lines.specs.Digits.{cut_behind, cut-run, past, ended_by, head_at, tail_at}

-- the number, where byte 10 stands behind it
abbrev one_number : ℕ → Option ℕ → List ℕ → Result ℕ
one_number n o u = cond (eqb (get_or u 0 0) 10) (form 2 o (record { line = n; rest = drop 1 u })) (refused 2 n)

number-run : (n : ℕ) (t : List ℕ) → next (value_in 2 n (cut_line t) []) (λ v. form 2 (number v)) ≡ one_number n (number (digit_run t)) (undigits t)
number-run n t = rw (cut-run t) (go (undigits t) (undigits-no t))
  where
    ds : List ℕ
    ds = digit_run t

    other : (c : ℕ) → is_digit c ≡ false → (k : Cut) → next (value_in 2 n (cut_behind (digit_run t) (cut_step c k)) []) (λ v. form 2 (number v)) ≡ refused 2 n
    other c e none = refl
    other c e (some k) = rw (no_number (digit_run t) c k.0 e)

    go : (u : List ℕ) → NoDigit u → next (value_in 2 n (cut_behind (digit_run t) (cut_line u)) []) (λ v. form 2 (number v)) ≡ one_number n (number (digit_run t)) u
    go [] h = refl
    go (c ∷ u) h = test (ℕ_discrete c 10)
      where
        test : Dec (c ≡ 10) → next (value_in 2 n (cut_behind (digit_run t) (cut_line (c ∷ u))) []) (λ v. form 2 (number v)) ≡ one_number n (number (digit_run t)) (c ∷ u)
        test (yes e) = rw (eq-eqb c 10 e, append-nil (digit_run t))
        test (no m) = rw (ne_eqb c 10 m) (other c h (cut_line u))

-- a number that was read, in the definitions' words
abbrev pub numeral_told : ℕ → List ℕ → Maybe Numeral → Result ℕ
numeral_told n s None = refused 2 n
numeral_told n s (Some m) = found m.value (record { line = n; rest = drop m.next s })

pub number-value : (n : ℕ) (s : List ℕ) (at : ℕ) → next (value_in 2 n (cut_line (drop at s)) []) (λ v. form 2 (number v)) ≡ numeral_told n s (ended_at s at 10)
number-value n s at =
    number-run n (drop at s) ∙ rw (after s at, head_at s (past s at), tail_at s (past s at), ended_by s at 10) (go (number (run s at)) (past s at))
  where
    go : (o : Option ℕ) (m : ℕ) → cond (eqb (get_or s m 0) 10) (form 2 o (record { line = n; rest = drop (m + 1) s })) (refused 2 n)
        ≡ numeral_told n s (on_number (numbered m o) (λ v k. cond (eqb (get_or s k 0) 10) (Some (numeral v (k + 1))) None) None)
    go none m = test (eqb (get_or s m 0) 10)
      where
        test : (q : Bool) → cond q (form {A = ℕ} 2 none (record { line = n; rest = drop (m + 1) s })) (refused 2 n) ≡ refused 2 n
        test true = refl
        test false = refl
    go (some v) m = test (eqb (get_or s m 0) 10)
      where
        test : (q : Bool) → cond q (form 2 (some v) (record { line = n; rest = drop (m + 1) s })) (refused 2 n) ≡ numeral_told n s (cond q (Some (numeral v (m + 1))) None)
        test true = refl
        test false = refl
