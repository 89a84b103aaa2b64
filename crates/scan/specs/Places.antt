-- A number at a place of the text, and the byte after it, against the definitions' reading of the line.
-- Assumes nothing.
use Rattle.std.specs.Prelude.{◌≡◌, refl, false, List, [], ◌∷◌, ◌++◌, ℕ, ◌+◌, ◌<◌, length, drop, get_or}
use Rattle.std.proofs.Common.{sym, ap, ◌∙◌, append-nil, add-zero, add-one, drop-drop, drop-cons, get_or-drop, arith}
use Rattle.std.proofs.Math.Option.{Option, none, some}
use Rattle.std.proofs.Math.ListN.{get_or-eq_default}
use Rattle.std.proofs.Math.Decide.{ℕ_discrete, dec_lt}
use Rattle.model.specs.Text.{on_first, is_digit, number}
pub use Rattle.text.specs.Number.{run}
use Rattle.std.specs.Prelude.{Some, None}
use Rattle.std.proofs.lemmas.Option.{same_Some}
use Rattle.text.specs.Number.{numeral, numbered, number_at}
use Rattle.text.specs.declared.Numeral.{Numeral}
use Rattle.scan.specs.Lines.{Judge, line_of, cons_to, one_to, line-ext, line_other, line-comma, line-semicolon, line-newline, line-none, prepend, undigits, line-run, NoDigit, undigits-no, undigits-drop, no_number}

-- a judge that takes only entries that begin with a number
pub record Begins (f : Judge) : Type 0 where
  pub wrong : (p : List ℕ) (ps : List (List ℕ)) → number p ≡ none → f (p ∷ ps) ≡ none

-- ---- after the digit_run ds

module _ (f g : Judge) (ds : List ℕ) where
  pub stop-comma : (u : List ℕ) → line_of (λ ps. f (prepend ds ps)) g (44 ∷ u) ≡ line_of (λ ps. f (ds ∷ ps)) g u
  stop-comma u = line-comma (λ ps. f (prepend ds ps)) g u ∙ line-ext (λ ps. f ((ds ++ []) ∷ ps)) (λ ps. f (ds ∷ ps)) g (λ ps. rw (append-nil ds)) u

  pub stop-semicolon : (u : List ℕ) → line_of (λ ps. f (prepend ds ps)) g (59 ∷ u) ≡ cons_to (f (ds ∷ [])) (line_of g g u)
  stop-semicolon u = line-semicolon (λ ps. f (prepend ds ps)) g u ∙ rw (append-nil ds)

  pub stop-newline : (u : List ℕ) → line_of (λ ps. f (prepend ds ps)) g (10 ∷ u) ≡ one_to (f (ds ∷ [])) u
  stop-newline u = line-newline (λ ps. f (prepend ds ps)) g u ∙ rw (append-nil ds)

  module _ (b : Begins f) where
    -- a byte that is no is_digit and ends no piece
    stop-other : (c : ℕ) (u : List ℕ) → is_digit c ≡ false → (c ≡ 44 → ⊥) → (c ≡ 59 → ⊥) → (c ≡ 10 → ⊥) → line_of (λ ps. f (prepend ds ps)) g (c ∷ u) ≡ none
    stop-other c u d h k l = line_other (λ ps. f (prepend ds ps)) g c u h k l ∙ line-none (λ ps. f (prepend ds (on_first c ps))) g nothing u
      where
        nothing : (p : List ℕ) (ps : List (List ℕ)) → f (prepend ds (on_first c (p ∷ ps))) ≡ none
        nothing p ps = b.wrong (ds ++ (c ∷ p)) ps (no_number ds c p d)

    pub stop-not-comma : ((p : List ℕ) → f (p ∷ []) ≡ none) → (u : List ℕ) → NoDigit u → (get_or u 0 0 ≡ 44 → ⊥) → line_of (λ ps. f (prepend ds ps)) g u ≡ none
    stop-not-comma last [] d h = refl
    stop-not-comma last (c ∷ u) d h = go (ℕ_discrete c 59) (ℕ_discrete c 10)
      where
        go : Dec (c ≡ 59) → Dec (c ≡ 10) → line_of (λ ps. f (prepend ds ps)) g (c ∷ u) ≡ none
        go (yes e) q = rw e (stop-semicolon u ∙ rw (last ds))
        go (no n) (yes e) = rw e (stop-newline u ∙ rw (last ds))
        go (no n) (no m) = stop-other c u d h n m

    pub stop-not-break : ((p q : List ℕ) (ps : List (List ℕ)) → f (p ∷ q ∷ ps) ≡ none) → (u : List ℕ) → NoDigit u → (get_or u 0 0 ≡ 59 → ⊥) → (get_or u 0 0 ≡ 10 → ⊥) →
        line_of (λ ps. f (prepend ds ps)) g u ≡ none
    stop-not-break more [] d h k = refl
    stop-not-break more (c ∷ u) d h k = go (ℕ_discrete c 44)
      where
        go : Dec (c ≡ 44) → line_of (λ ps. f (prepend ds ps)) g (c ∷ u) ≡ none
        go (yes e) = rw e (stop-comma u ∙ line-none (λ ps. f (ds ∷ ps)) g (λ p ps. more ds p ps) u)
        go (no n) = stop-other c u d n h k

    pub stop-bad : number ds ≡ none → (u : List ℕ) → NoDigit u → line_of (λ ps. f (prepend ds ps)) g u ≡ none
    stop-bad e [] d = refl
    stop-bad e (c ∷ u) d = go (ℕ_discrete c 44) (ℕ_discrete c 59) (ℕ_discrete c 10)
      where
        go : Dec (c ≡ 44) → Dec (c ≡ 59) → Dec (c ≡ 10) → line_of (λ ps. f (prepend ds ps)) g (c ∷ u) ≡ none
        go (yes x) q r = rw x (stop-comma u ∙ line-none (λ ps. f (ds ∷ ps)) g (λ p ps. b.wrong ds (p ∷ ps) e) u)
        go (no n) (yes x) r = rw x (stop-semicolon u ∙ rw (b.wrong ds [] e))
        go (no n) (no m) (yes x) = rw x (stop-newline u ∙ rw (b.wrong ds [] e))
        go (no n) (no m) (no l) = stop-other c u d n m l

-- ---- a number at a place

pub number-at : (s : List ℕ) (at : ℕ) → number_at s at ≡ numbered (at + length (run s at)) (number (run s at))
unfolding number_at
number-at s at = refl

pub number_is : (s : List ℕ) (at v n : ℕ) → number_at s at ≡ Some (numeral v n) → (number (run s at) ≡ some v) × (n ≡ at + length (run s at))
number_is s at v n e = go (number (run s at)) (sym (number-at s at) ∙ e)
  where
    go : (x : Option ℕ) → numbered (at + length (run s at)) x ≡ Some (numeral v n) → (x ≡ some v) × (n ≡ at + length (run s at))
    go none h = cc
    go (some w) h =
        let k = same_Some (numeral w (at + length (run s at))) (numeral v n) h in
        (ap (λ (m : Numeral). some m.value) k, sym (ap (λ (m : Numeral). m.next) k))

pub number-not : (s : List ℕ) (at : ℕ) → number_at s at ≡ None → number (run s at) ≡ none
number-not s at e = go (number (run s at)) (sym (number-at s at) ∙ e)
  where
    go : (x : Option ℕ) → numbered (at + length (run s at)) x ≡ None → x ≡ none
    go none h = refl
    go (some w) h = cc

-- ---- the line from a place on

pub after : (s : List ℕ) (at : ℕ) → undigits (drop at s) ≡ drop (at + length (run s at)) s
after s at = undigits-drop (drop at s) ∙ drop-drop (length (run s at)) at s

no_digit : (s : List ℕ) (at : ℕ) → NoDigit (drop (at + length (run s at)) s)
no_digit s at = rw (sym (after s at)) (undigits-no (drop at s))

line_at : (f g : Judge) (s : List ℕ) (at : ℕ) → line_of f g (drop at s) ≡ line_of (λ ps. f (prepend (run s at) ps)) g (drop (at + length (run s at)) s)
line_at f g s at = line-run f g (drop at s) ∙ rw (after s at)

-- where a byte that is not 0 is read, there is one
pub get_d-in : (s : List ℕ) (n b : ℕ) → get_or s n 0 ≡ b → 0 < b → n < length s
get_d-in s n b e h = go (dec_lt n (length s))
  where
    go : Dec (n < length s) → n < length s
    go (yes l) = l
    go (no g) = absurd (omega (arith, get_or-eq_default s 0 {n = n} (omega arith)))

pub drop-byte : (s : List ℕ) (n b : ℕ) → get_or s n 0 ≡ b → 0 < b → drop n s ≡ b ∷ drop (n + 1) s
drop-byte s n b e h = drop-cons s n 0 (get_d-in s n b e h) ∙ rw (e, add-one)

pub head-drop : (s : List ℕ) (n : ℕ) → get_or (drop n s) 0 0 ≡ get_or s n 0
head-drop s n = get_or-drop n s 0 0 ∙ rw (add-zero n)

module _ (f g : Judge) (s : List ℕ) (at v n : ℕ) (e : number_at s at ≡ Some (numeral v n)) where
  at_n : line_of f g (drop at s) ≡ line_of (λ ps. f (prepend (run s at) ps)) g (drop n s)
  at_n = line_at f g s at ∙ rw (sym (number_is s at v n e).1)

  pub then-comma : get_or s n 0 ≡ 44 → line_of f g (drop at s) ≡ line_of (λ ps. f (run s at ∷ ps)) g (drop (n + 1) s)
  then-comma h = at_n ∙ rw (drop-byte s n 44 h (omega arith)) (stop-comma f g (run s at) (drop (n + 1) s))

  pub then-semicolon : get_or s n 0 ≡ 59 → line_of f g (drop at s) ≡ cons_to (f (run s at ∷ [])) (line_of g g (drop (n + 1) s))
  then-semicolon h = at_n ∙ rw (drop-byte s n 59 h (omega arith)) (stop-semicolon f g (run s at) (drop (n + 1) s))

  pub then-newline : get_or s n 0 ≡ 10 → line_of f g (drop at s) ≡ one_to (f (run s at ∷ [])) (drop (n + 1) s)
  then-newline h = at_n ∙ rw (drop-byte s n 10 h (omega arith)) (stop-newline f g (run s at) (drop (n + 1) s))

  bare : NoDigit (drop n s)
  bare = rw (number_is s at v n e).1 (no_digit s at)

  pub then-no-comma : Begins f → ((p : List ℕ) → f (p ∷ []) ≡ none) → (get_or s n 0 ≡ 44 → ⊥) → line_of f g (drop at s) ≡ none
  then-no-comma b last h = at_n ∙ stop-not-comma f g (run s at) b last (drop n s) bare (λ q. h (sym (head-drop s n) ∙ q))

  pub then-no-break : Begins f → ((p q : List ℕ) (ps : List (List ℕ)) → f (p ∷ q ∷ ps) ≡ none) → (get_or s n 0 ≡ 59 → ⊥) → (get_or s n 0 ≡ 10 → ⊥) → line_of f g (drop at s) ≡ none
  then-no-break b more h k = at_n ∙ stop-not-break f g (run s at) b more (drop n s) bare (λ q. h (sym (head-drop s n) ∙ q)) (λ q. k (sym (head-drop s n) ∙ q))

pub then-bad : (f g : Judge) (s : List ℕ) (at : ℕ) → number_at s at ≡ None → Begins f → line_of f g (drop at s) ≡ none
then-bad f g s at e b = line_at f g s at ∙ stop-bad f g (run s at) b (number-not s at e) (drop (at + length (run s at)) s) (no_digit s at)
