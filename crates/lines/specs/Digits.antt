-- Digits, and the byte behind them: at the beginning of a line, and at a place of the text.
-- Assumes nothing.
use Rattle.std.specs.Prelude.{Option as Maybe, Some, None, ◌≡◌, refl, Bool, true, false, cond, List, [], ◌∷◌, ◌++◌, ℕ, ◌+◌, ◌≤◌, ◌<◌, eqb, length, drop, get_or}
use Rattle.std.proofs.Math.Option.{none, some}
use Rattle.std.proofs.lemmas.Option.{same_Some, none-some}
use Rattle.std.proofs.Common.{sym, ap, arith, ne_eqb, eqb-true, drop-drop}
use Rattle.model.specs.Text.{Cut, cut_step, cut_line, is_digit, number}
use Rattle.text.specs.Entries.{on_number, ended_at}
use Rattle.text.specs.Number.{numeral, digit_run, run, numbered, number_at}
use Rattle.text.specs.declared.Numeral.{Numeral}
use Rattle.scan.specs.Lines.{digit_not, undigits}
use Rattle.scan.specs.Places.{number-at, head-drop, get_d-in}

-- ---- a line that begins with digits

-- a line with these bytes before it
abbrev pub cut_behind : List ℕ → Cut → Cut
cut_behind ds none = none
cut_behind ds (some c) = some (ds ++ c.0, c.1)

-- the line that a text begins with
pub cut-run : (t : List ℕ) → cut_line t ≡ cut_behind (digit_run t) (cut_line (undigits t))
unfolding digit_run undigits
cut-run [] = refl
cut-run (b ∷ t) = go (is_digit b) refl (cut-run t)
  where
    nothing : (c : Cut) → c ≡ cut_behind [] c
    nothing none = refl
    nothing (some c) = refl

    more : (c : Cut) → cut_step b (cut_behind (digit_run t) c) ≡ cut_behind (b ∷ digit_run t) c
    more none = refl
    more (some c) = refl

    go : (q : Bool) → is_digit b ≡ q → cut_line t ≡ cut_behind (digit_run t) (cut_line (undigits t)) →
        cut_line (b ∷ t) ≡ cut_behind (cond q (b ∷ digit_run t) []) (cut_line (cond q (undigits t) (b ∷ t)))
    go true e h = rw (ne_eqb b 10 (digit_not b 10 e refl), h) (more (cut_line (undigits t)))
    go false e h = nothing (cut_line (b ∷ t))

-- ---- a place of the text

-- the place after the digits
abbrev pub past : List ℕ → ℕ → ℕ
past s at = at + length (run s at)

-- what a number with its end is, by what the digits are and the byte behind them
pub ended_by : (s : List ℕ) (at end : ℕ) →
    ended_at s at end ≡ on_number (numbered (past s at) (number (run s at))) (λ v n. cond (eqb (get_or s n 0) end) (Some (numeral v (n + 1))) None) None
unfolding ended_at
ended_by s at end = rw (number-at s at)

-- behind the place n
module _ (s : List ℕ) (n : ℕ) where
  pub head_at : get_or (drop n s) 0 0 ≡ get_or s n 0
  head_at = head-drop s n

  pub tail_at : drop 1 (drop n s) ≡ drop (n + 1) s
  tail_at = drop-drop 1 n s

pub ended-within : (s : List ℕ) (at end : ℕ) (n : Numeral) → 0 < end → Some n ≡ ended_at s at end → n.next ≤ length s
unfolding ended_at
ended-within s at end n pos e = go (number_at s at) e
  where
    test : (x m : ℕ) (q : Bool) → eqb (get_or s m 0) end ≡ q → Some n ≡ cond q (Some (numeral x (m + 1))) None → n.next ≤ length s
    test x m true h k =
        let i = ap (λ (r : Numeral). r.next) (same_Some n (numeral x (m + 1)) k) in
        omega (arith, i, get_d-in s m end (eqb-true (get_or s m 0) end h) pos)
    test x m false h k = absurd (none-some n (sym k))

    go : (o : Maybe Numeral) → Some n ≡ on_number o (λ x m. cond (eqb (get_or s m 0) end) (Some (numeral x (m + 1))) None) None → n.next ≤ length s
    go None h = absurd (none-some n (sym h))
    go (Some o) h = test o.value o.next (eqb (get_or s o.next 0) end) refl h
