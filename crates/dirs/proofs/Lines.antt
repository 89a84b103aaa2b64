-- The line `dirs` as the definitions read it and as it is read letter by letter.
-- Assumes nothing.
use mathlib.Core.Path.{◌≡◌, refl, sym, ap, ◌∙◌}
use mathlib.Core.Bool.{Bool, true, false, cond}
use mathlib.Core.List.{List, [], ◌∷◌, map}
use mathlib.Core.Option.{Option, none, some}
use Prim.Native.Nat.{ℕ, zero, suc, ◌+◌}
use native.Mathlib.Decide.{ℕ_discrete}
use native.Mathlib.Omega.{arith}
use borrow.Author.Tests.{eq-eqb, ne_eqb, eqb-true, eqb-false}
use lib.Dec.{eqb}
use lib.ListN.{length, drop, get_or}
use Rattle.std.specs.Prelude.{Option as Maybe, Some as Way, None as NoWay}
use Rattle.model.specs.Lists.{cons_if, every}
use Rattle.model.specs.Text.{Cut, cut_step, cut_line, on_first, split}
use Rattle.model.specs.Read.{Result, Reading, refused, found, next, ◌>>=◌, ◌>>◌, give, form, need, value_in, letter, letters}
use Rattle.scan.specs.Lines.{Some, split-some}
use Rattle.lines.specs.Digits.{head_at, tail_at}
use Rattle.lines.specs.Keyed.{ender}
use Rattle.dirs.specs.Letters.{way_of, Lettered, join_to, way_to, letters_from}

-- ---- one letter or more, and the text after the line

abbrev with_rest : Option (List ℕ) → List ℕ → Lettered
with_rest none r = none
with_rest (some ds) r = some (ds, r)

abbrev letters_by : Cut → Lettered
letters_by none = none
letters_by (some c) = with_rest (every (map letter (split 44 c.0))) c.1

abbrev letters_of : List ℕ → Lettered
letters_of t = letters_by (cut_line t)

-- behind a letter: a comma and others, byte 10, or neither
abbrev onward : List ℕ → Lettered
onward u = cond (eqb (get_or u 0 0) 44) (letters_of (drop 1 u)) (cond (eqb (get_or u 0 0) 10) (some ([], drop 1 u)) none)

-- the line begins with the letter b, which says w
module _ (b w : ℕ) (n10 : eqb b 10 ≡ false) (n44 : eqb b 44 ≡ false) (is : letter (b ∷ []) ≡ some w) where
  joined : (o : Option (List ℕ)) (r : List ℕ) → with_rest (cons_if (some w) o) r ≡ join_to (w ∷ []) (with_rest o r)
  joined none r = refl
  joined (some ds) r = refl

  comma : (k : Cut) → letters_by (cut_step b (cut_step 44 k)) ≡ join_to (w ∷ []) (letters_by k)
  comma none = refl
  comma (some k) = rw (n44, is) (joined (every (map letter (split 44 k.0))) k.1)

  other : (c : ℕ) → (c ≡ 44 → ⊥) → (k : Cut) → letters_by (cut_step b (cut_step c k)) ≡ none
  other c m none = refl
  other c m (some k) = rw (n44, ne_eqb c 44 m) (go (split 44 k.0) (split-some 44 k.0))
    where
      go : (ps : List (List ℕ)) → Some ps → with_rest (every (map letter (on_first b (on_first c ps)))) k.1 ≡ none
      go [] h = absurd h
      go (p ∷ ps) h = refl

  letter-first : (t : List ℕ) → letters_of (b ∷ t) ≡ join_to (w ∷ []) (onward t)
  letter-first [] = rw n10
  letter-first (c ∷ t) = go (ℕ_discrete c 44) (ℕ_discrete c 10)
    where
      go : Dec (c ≡ 44) → Dec (c ≡ 10) → letters_of (b ∷ c ∷ t) ≡ join_to (w ∷ []) (onward (c ∷ t))
      go (yes e) q = rw (e, n10) (comma (cut_line t))
      go (no m) (yes e) = rw (e, n10, n44, is)
      go (no m) (no l) = rw (n10, ne_eqb c 10 l, ne_eqb c 44 m) (other c m (cut_line t))

-- it begins with no letter
no-letter : (b : ℕ) → (b ≡ 104 → ⊥) → (b ≡ 118 → ⊥) → (t : List ℕ) → letters_of (b ∷ t) ≡ none
no-letter b h v t = go (ℕ_discrete b 10) (ℕ_discrete b 44) (cut_line t)
  where
    wrong : (p : List ℕ) → letter (b ∷ p) ≡ none
    wrong [] = rw (ne_eqb b 104 h, ne_eqb b 118 v)
    wrong (c ∷ p) = refl

    pieces : (ps : List (List ℕ)) → Some ps → every (map letter (on_first b ps)) ≡ none
    pieces [] k = absurd k
    pieces (p ∷ ps) k = rw (wrong p)

    go : Dec (b ≡ 10) → Dec (b ≡ 44) → (k : Cut) → letters_by (cond (eqb b 10) (some ([], t)) (cut_step b k)) ≡ none
    go (yes e) q k = rw e
    go (no m) q none = rw (ne_eqb b 10 m)
    go (no m) (yes e) (some k) = rw e
    go (no m) (no l) (some k) = rw (ne_eqb b 10 m, ne_eqb b 44 l, pieces (split 44 k.0) (split-some 44 k.0))

-- by the first byte, and what stands behind it
letters-run : (t : List ℕ) → letters_of t ≡ way_to (way_of (get_or t 0 0)) (onward (drop 1 t))
letters-run [] = refl
letters-run (b ∷ t) = go (ℕ_discrete b 104) (ℕ_discrete b 118)
  where
    go : Dec (b ≡ 104) → Dec (b ≡ 118) → letters_of (b ∷ t) ≡ way_to (way_of b) (onward t)
    go (yes e) q = rw e (letter-first 104 0 refl refl refl t)
    go (no h) (yes e) = rw e (letter-first 118 1 refl refl refl t)
    go (no h) (no v) = rw (ne_eqb b 104 h, ne_eqb b 118 v) (no-letter b h v t)

-- ---- just n of them

abbrev sized : ℕ → Lettered → Lettered
sized n none = none
sized n (some c) = cond (eqb (length c.0) n) (some c) none

sized-way : (n : ℕ) (o : Maybe ℕ) (r : Lettered) → sized (suc n) (way_to o r) ≡ way_to o (sized n r)
sized-way n NoWay r = refl
sized-way n (Way w) r = go r
  where
    test : (c : List ℕ × List ℕ) (q : Bool) → eqb (length c.0) n ≡ q
        → cond (eqb (suc (length c.0)) (suc n)) (some (w ∷ c.0, c.1)) none ≡ join_to (w ∷ []) (cond q (some c) none)
    test c true e = rw (eq-eqb (suc (length c.0)) (suc n) (ap suc (eqb-true (length c.0) n e)))
    test c false e = rw (ne_eqb (suc (length c.0)) (suc n) (λ q. eqb-false (length c.0) n e (omega arith)))

    go : (r : Lettered) → sized (suc n) (join_to (w ∷ []) r) ≡ join_to (w ∷ []) (sized n r)
    go none = refl
    go (some c) = test c (eqb (length c.0) n) refl

-- there is one at least
some-letter : (t : List ℕ) → sized 0 (letters_of t) ≡ none
some-letter t = rw (letters-run t) (go (way_of (get_or t 0 0)) (onward (drop 1 t)))
  where
    go : (o : Maybe ℕ) (r : Lettered) → sized 0 (way_to o r) ≡ none
    go NoWay r = refl
    go (Way w) none = refl
    go (Way w) (some c) = rw (ne_eqb (suc (length c.0)) 0 (λ q. omega arith))

-- a letter that the byte behind it spoils is as one with nothing behind it
one_way : (o : Maybe ℕ) (p : Bool) (r : Lettered) → way_to (cond p o NoWay) r ≡ way_to o (cond p r none)
one_way o true r = refl
one_way NoWay false r = refl
one_way (Way w) false r = refl

-- n letters and no more, read one by one
module _ (s : List ℕ) where
  abbrev Says : ℕ → Type 0
  Says n = (at : ℕ) → letters_from n s at ≡ sized n (letters_of (drop at s))

  -- what stands behind a letter, where n more are to come: the byte there, and the text from m on
  abbrev Behind : ℕ → ℕ → ℕ → Type 0
  Behind n c m =
      cond (eqb c (ender n)) (letters_from n s m) none ≡ sized n (cond (eqb c 44) (letters_of (drop m s)) (cond (eqb c 10) (some ([], drop m s)) none))

  behind-last : (c m : ℕ) → Behind 0 c m
  behind-last c m = go (eqb c 44) (eqb c 10) refl refl
    where
      go : (p q : Bool) → eqb c 44 ≡ p → eqb c 10 ≡ q
          → cond q (some ([], drop m s)) none ≡ sized 0 (cond p (letters_of (drop m s)) (cond q (some ([], drop m s)) none))
      go true true e f = absurd (omega (arith, eqb-true c 44 e, eqb-true c 10 f))
      go true false e f = sym (some-letter (drop m s))
      go false true e f = refl
      go false false e f = refl

  behind_more : (n c m : ℕ) → Says (suc n) → Behind (suc n) c m
  behind_more n c m says = go (eqb c 44) (eqb c 10)
    where
      go : (p q : Bool)
          → cond p (letters_from (suc n) s m) none ≡ sized (suc n) (cond p (letters_of (drop m s)) (cond q (some ([], drop m s)) none))
      go true q = says m
      go false true = rw (ne_eqb 0 (suc n) (λ q. omega arith))
      go false false = refl

  -- the letter at `at`, and what stands behind it
  one_more : (n at : ℕ) → Behind n (get_or s (at + 1) 0) (at + 2) → letters_from (suc n) s at ≡ sized (suc n) (letters_of (drop at s))
  one_more n at h =
      let z : at + 1 + 1 ≡ at + 2 = omega arith in
      one_way (way_of (get_or s at 0)) (eqb (get_or s (at + 1) 0) (ender n)) (letters_from n s (at + 2)) ∙ ap (way_to (way_of (get_or s at 0))) h
      ∙ sym (rw (letters-run (drop at s), sized-way n _ _, head_at s at, tail_at s at, head_at s (at + 1), tail_at s (at + 1), z))

  letters-say : (n : ℕ) → Says (suc n)
  letters-say zero at = one_more zero at (behind-last (get_or s (at + 1) 0) (at + 2))
  letters-say (suc n) at = one_more (suc n) at (behind_more n (get_or s (at + 1) 0) (at + 2) (letters-say n))

-- ---- the line

-- what is done with the value of the line
abbrev pub letters_in : ℕ → List ℕ → Reading (List ℕ)
letters_in K v = do
  ds ← form 2 (letters v)
  need 2 (eqb (length ds) K)
  give ds

-- letters that were read on the line n
abbrev pub letters_told : ℕ → Lettered → Result (Option (List ℕ))
letters_told n none = refused 2 n
letters_told n (some c) = found (some c.0) (record { line = n; rest = c.1 })

-- an empty value has no letter, so that it may be read as one piece
some-line : (n : ℕ) (v r : List ℕ) → sized (suc n) (with_rest (letters v) r) ≡ sized (suc n) (with_rest (every (map letter (split 44 v))) r)
some-line n [] r = rw (ne_eqb 0 (suc n) (λ q. omega arith))
some-line n (b ∷ v) r = refl

-- the value of the line l that stands at `at`
pub letters-value : (n l : ℕ) (s : List ℕ) (at : ℕ)
    → next (next (value_in 2 l (cut_line (drop at s)) []) (letters_in (suc n))) (λ ds. give (some ds)) ≡ letters_told l (letters_from (suc n) s at)
letters-value n l s at = rw (letters-say s n at) (cut (cut_line (drop at s)))
  where
    read : (o : Option (List ℕ)) (r : List ℕ) → next (next (form 2 o (record { line = l; rest = r })) (λ ds. ◌>>◌ (need 2 (eqb (length ds) (suc n))) (give ds))) (λ ds. give (some ds))
        ≡ letters_told l (sized (suc n) (with_rest o r))
    read none r = refl
    read (some ds) r = test (eqb (length ds) (suc n))
      where
        test : (q : Bool) → next (next (need 2 q (record { line = l; rest = r })) (λ u. give ds)) (λ ds. give (some ds)) ≡ letters_told l (cond q (some (ds, r)) none)
        test true = refl
        test false = refl

    cut : (c : Cut) → next (next (value_in 2 l c []) (letters_in (suc n))) (λ ds. give (some ds)) ≡ letters_told l (sized (suc n) (letters_by c))
    cut none = refl
    cut (some c) = read (letters c.0) c.1 ∙ ap (letters_told l) (some-line n c.0 c.1)
