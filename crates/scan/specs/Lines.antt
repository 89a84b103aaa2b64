-- A line of entries with semicolons between and commas in them, read byte by byte from its front.
-- `line_of f g t`: the line that t begins with, its first entry judged by f and the others by g, and the text after it.
-- Assumes nothing.
use Rattle.std.specs.Prelude.{◌≡◌, refl, Bool, true, false, ◌&&◌, not, cond, List, [], ◌∷◌, ◌++◌, map, ℕ, leb, eqb, length, drop}
use Rattle.std.proofs.Common.{sym, ap, ◌∙◌, ne_eqb, arith}
use Rattle.std.proofs.Math.Option.{Option, none, some}
use Rattle.model.specs.Lists.{all, cons_if, every}
use Rattle.model.specs.Text.{Cut, cut_step, cut_line, on_first, split, is_digit, value_from, number}
use Rattle.model.specs.Read.{Triple}
use Rattle.text.specs.Number.{digit_run}

abbrev pub Judge : Type 0
Judge = List (List ℕ) → Option Triple

abbrev pub Lined : Type 0
Lined = Option (List Triple × List ℕ)

abbrev pub first_by : Judge → Judge → List (List ℕ) → Option (List Triple)
first_by f g [] = none
first_by f g (p ∷ ps) = cons_if (f (split 44 p)) (every (map (λ s. g (split 44 s)) ps))

abbrev pub with_rest : Option (List Triple) → List ℕ → Lined
with_rest none r = none
with_rest (some es) r = some (es, r)

abbrev pub line_by : Judge → Judge → Cut → Lined
line_by f g none = none
line_by f g (some c) = with_rest (first_by f g (split 59 c.0)) c.1

abbrev pub line_of : Judge → Judge → List ℕ → Lined
line_of f g t = line_by f g (cut_line t)

-- an entry before a line
abbrev pub cons_to : Option Triple → Lined → Lined
cons_to none r = none
cons_to (some e) none = none
cons_to (some e) (some r) = some (e ∷ r.0, r.1)

-- the line of one entry
abbrev pub one_to : Option Triple → List ℕ → Lined
one_to none r = none
one_to (some e) r = some (e ∷ [], r)

-- split has a piece always
abbrev pub Some : List (List ℕ) → Type 0
Some [] = ⊥
Some (p ∷ ps) = Unit {0}

pub split-some : (m : ℕ) (v : List ℕ) → Some (split m v)
split-some m [] = tt
split-some m (b ∷ bs) = go (eqb b m) (split m bs) (split-some m bs)
  where
    go : (q : Bool) (ps : List (List ℕ)) → Some ps → Some (cond q ([] ∷ ps) (on_first b ps))
    go true ps h = tt
    go false [] h = h
    go false (p ∷ ps) h = tt

-- the definitions' reading of a whole line is line_of g g
pub first-all : (g : Judge) (v : List ℕ) → first_by g g (split 59 v) ≡ every (map (λ s. g (split 44 s)) (split 59 v))
first-all g v = go (split 59 v) (split-some 59 v)
  where
    go : (ps : List (List ℕ)) → Some ps → first_by g g ps ≡ every (map (λ s. g (split 44 s)) ps)
    go [] h = absurd h
    go (p ∷ ps) h = refl

-- a line is read alike by judges that agree
pub line-ext : (f h g : Judge) → ((ps : List (List ℕ)) → f ps ≡ h ps) → (t : List ℕ) → line_of f g t ≡ line_of h g t
line-ext f h g e t = λ i. line_of (λ ps. e ps i) g t

-- ---- one byte

pub line_other : (f g : Judge) (b : ℕ) (t : List ℕ) → (b ≡ 44 → ⊥) → (b ≡ 59 → ⊥) → (b ≡ 10 → ⊥) →
    line_of f g (b ∷ t) ≡ line_of (λ ps. f (on_first b ps)) g t
line_other f g b t h k l = rw (ne_eqb b 10 l) (cut (cut_line t))
  where
    pieces : (ps : List (List ℕ)) → first_by f g (on_first b ps) ≡ first_by (λ qs. f (on_first b qs)) g ps
    pieces [] = refl
    pieces (p ∷ ps) = rw (ne_eqb b 44 h)

    cut : (c : Cut) → line_by f g (cut_step b c) ≡ line_by (λ ps. f (on_first b ps)) g c
    cut none = refl
    cut (some c) = rw (ne_eqb b 59 k) (ap (λ (x : Option (List Triple)). with_rest x c.1) (pieces (split 59 c.0)))

pub line-comma : (f g : Judge) (t : List ℕ) → line_of f g (44 ∷ t) ≡ line_of (λ ps. f ([] ∷ ps)) g t
line-comma f g t = cut (cut_line t)
  where
    pieces : (ps : List (List ℕ)) → first_by f g (on_first 44 ps) ≡ first_by (λ qs. f ([] ∷ qs)) g ps
    pieces [] = refl
    pieces (p ∷ ps) = refl

    cut : (c : Cut) → line_by f g (cut_step 44 c) ≡ line_by (λ ps. f ([] ∷ ps)) g c
    cut none = refl
    cut (some c) = ap (λ (x : Option (List Triple)). with_rest x c.1) (pieces (split 59 c.0))

pub line-semicolon : (f g : Judge) (t : List ℕ) → line_of f g (59 ∷ t) ≡ cons_to (f ([] ∷ [])) (line_of g g t)
line-semicolon f g t = cut (cut_line t)
  where
    joins : (e : Option Triple) (es : Option (List Triple)) (r : List ℕ) → with_rest (cons_if e es) r ≡ cons_to e (with_rest es r)
    joins none es r = refl
    joins (some e) none r = refl
    joins (some e) (some es) r = refl

    empty : (e : Option Triple) → ◌≡◌ {A = Lined} none (cons_to e none)
    empty none = refl
    empty (some e) = refl

    cut : (c : Cut) → line_by f g (cut_step 59 c) ≡ cons_to (f ([] ∷ [])) (line_by g g c)
    cut none = empty (f ([] ∷ []))
    cut (some c) =
        joins (f ([] ∷ [])) (every (map (λ s. g (split 44 s)) (split 59 c.0))) c.1
        ∙ ap (λ (x : Option (List Triple)). cons_to (f ([] ∷ [])) (with_rest x c.1)) (sym (first-all g c.0))

pub line-newline : (f g : Judge) (t : List ℕ) → line_of f g (10 ∷ t) ≡ one_to (f ([] ∷ [])) t
line-newline f g t = go (f ([] ∷ []))
  where
    go : (e : Option Triple) → with_rest (cons_if e (some [])) t ≡ one_to e t
    go none = refl
    go (some e) = refl

-- a judge that takes nothing
pub line-none : (f g : Judge) → ((p : List ℕ) (ps : List (List ℕ)) → f (p ∷ ps) ≡ none) → (t : List ℕ) → line_of f g t ≡ none
line-none f g h t = go (cut_line t)
  where
    one : (ps : List (List ℕ)) → Some ps → f ps ≡ none
    one [] k = absurd k
    one (p ∷ ps) k = h p ps

    pieces : (ps : List (List ℕ)) → first_by f g ps ≡ none
    pieces [] = refl
    pieces (p ∷ ps) = rw (one (split 44 p) (split-some 44 p))

    go : (c : Cut) → line_by f g c ≡ none
    go none = refl
    go (some c) = rw (pieces (split 59 c.0))

-- ---- a run of digit_run

abbrev pub prepend : List ℕ → List (List ℕ) → List (List ℕ)
prepend ds [] = []
prepend ds (p ∷ ps) = (ds ++ p) ∷ ps

-- the text after the digit_run that it begins with
unfoldable pub undigits : List ℕ → List ℕ
undigits [] = []
undigits (b ∷ t) = cond (is_digit b) (undigits t) (b ∷ t)

pub digit_not : (b k : ℕ) → is_digit b ≡ true → is_digit k ≡ false → b ≡ k → ⊥
digit_not b k e h q = not_same (sym e ∙ ap is_digit q ∙ h)
  where
    not_same : true ≡ false → ⊥
    not_same z = let y : ◌≡◌ {A = ℕ} 0 1 = cc in omega arith

no-44 : is_digit 44 ≡ false
no-44 = refl

no-59 : is_digit 59 ≡ false
no-59 = refl

no-10 : is_digit 10 ≡ false
no-10 = refl

pub line-run : (f g : Judge) (t : List ℕ) → line_of f g t ≡ line_of (λ ps. f (prepend (digit_run t) ps)) g (undigits t)
unfolding digit_run undigits
line-run f g [] = refl
line-run f g (b ∷ t) = go (is_digit b) refl (line-run (λ ps. f (on_first b ps)) g t)
  where
    nothing : (ps : List (List ℕ)) → f ps ≡ f (prepend [] ps)
    nothing [] = refl
    nothing (p ∷ ps) = refl

    more : (ds : List ℕ) (ps : List (List ℕ)) → f (on_first b (prepend ds ps)) ≡ f (prepend (b ∷ ds) ps)
    more ds [] = refl
    more ds (p ∷ ps) = refl

    go : (q : Bool) → is_digit b ≡ q → line_of (λ ps. f (on_first b ps)) g t ≡ line_of (λ ps. f (on_first b (prepend (digit_run t) ps))) g (undigits t) →
        line_of f g (b ∷ t) ≡ line_of (λ ps. f (prepend (cond q (b ∷ digit_run t) []) ps)) g (cond q (undigits t) (b ∷ t))
    go true e h =
        line_other f g b t (digit_not b 44 e no-44) (digit_not b 59 e no-59) (digit_not b 10 e no-10) ∙ h
        ∙ line-ext (λ ps. f (on_first b (prepend (digit_run t) ps))) (λ ps. f (prepend (b ∷ digit_run t) ps)) g (more (digit_run t)) (undigits t)
    go false e h = line-ext f (λ ps. f (prepend [] ps)) g nothing (b ∷ t)

-- it begins with no is_digit
abbrev pub NoDigit : List ℕ → Type 0
NoDigit [] = Unit {0}
NoDigit (b ∷ t) = is_digit b ≡ false

pub undigits-no : (t : List ℕ) → NoDigit (undigits t)
unfolding undigits
undigits-no [] = tt
undigits-no (b ∷ t) = go (is_digit b) refl (undigits-no t)
  where
    go : (q : Bool) → is_digit b ≡ q → NoDigit (undigits t) → NoDigit (cond q (undigits t) (b ∷ t))
    go true e h = h
    go false e h = e

pub undigits-drop : (t : List ℕ) → undigits t ≡ drop (length (digit_run t)) t
unfolding digit_run undigits
undigits-drop [] = refl
undigits-drop (b ∷ t) = go (is_digit b) (undigits-drop t)
  where
    go : (q : Bool) → undigits t ≡ drop (length (digit_run t)) t → cond q (undigits t) (b ∷ t) ≡ drop (length (cond q (b ∷ digit_run t) [])) (b ∷ t)
    go true h = h
    go false h = refl

-- ---- numbers

-- a byte that is no is_digit makes a piece no number
not-all : (s : List ℕ) → all is_digit s ≡ false → number s ≡ none
not-all [] e = refl
not-all (b ∷ []) e = go (is_digit b) e
  where
    go : (q : Bool) → cond q true false ≡ false → cond q (some (value_from 0 (b ∷ []))) none ≡ none
    go true h = absurd (let y : ◌≡◌ {A = ℕ} 0 1 = cc in omega arith)
    go false h = refl
not-all (b ∷ c ∷ bs) e = rw e (go (not (eqb b 48)))
  where
    go : (q : Bool) → cond (q && false && leb (length (b ∷ c ∷ bs)) 5) (some (value_from 0 (b ∷ c ∷ bs))) none ≡ none
    go true = refl
    go false = refl

pub no_number : (ds : List ℕ) (c : ℕ) (p : List ℕ) → is_digit c ≡ false → number (ds ++ (c ∷ p)) ≡ none
no_number ds c p e = not-all (ds ++ (c ∷ p)) (go ds)
  where
    go : (ds : List ℕ) → all is_digit (ds ++ (c ∷ p)) ≡ false
    go [] = rw e
    go (d ∷ ds) = rw (go ds) (both (is_digit d))
      where
        both : (q : Bool) → cond q false false ≡ false
        both true = refl
        both false = refl
