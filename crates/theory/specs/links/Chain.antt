-- "The first fault decides": what a chain of lines refuses and what it accepts, for every chain and every text. A kind of line is a key, a form and rows of
-- tests; a chain puts lines, lines that may be left out and tests between lines one after another.
-- Assumes nothing.
use Rattle.std.specs.Prelude.{◌≡◌, refl, List, [], ◌∷◌, ◌++◌, Bool, true, false, ◌⊎◌, ◌↔◌, ℕ, suc, T}
use Rattle.std.proofs.Common.{sym, ap, ◌∙◌, subst, inl, inr, arith}
use Rattle.std.proofs.Math.Option.{Option, none, some}
use Prim.Native.String.{String}
use Rattle.model.specs.Text.{bytes, Cut, cut_line, behind}
use Rattle.model.specs.Read.{Place, Result, refused, found, Reading, next, form, need, give, line, no_more, end}

-- ---- rows of tests

-- The tests of a line, in the order in which they are made: a number, the test, and in document 01's words what is wrong where it fails. These words may
-- presume that nothing is wrong with the rows before.
pub data Rows : Type 0 → Type 1 where
  no_more_text : {Known : Type 0} → Rows Known
  row : {Known : Type 0} (n : ℕ) (b : Bool) (Wrong : Type 0) → (Known → (b ≡ false) ↔ Wrong) → Rows (Known × (Wrong → ⊥)) → Rows Known

-- one test after another, and then the rest
abbrev pub checks : {A Known : Type 0} → Rows Known → Reading A → Reading A
checks no_more_text k = k
checks (row n b Wrong w rs) k = λ p. next (need n b p) (λ u. checks rs k)

-- n is the number of the first row that something is wrong with
abbrev pub First : {Known : Type 0} → Rows Known → ℕ → Type 0
First no_more_text n = ⊥
First (row m b Wrong w rs) n = (Wrong × (n ≡ m)) ⊎ ((Wrong → ⊥) × First rs n)

-- nothing is wrong with any row
abbrev pub Clean : {Known : Type 0} → Rows Known → Type 0
Clean no_more_text = Unit {0}
Clean (row m b Wrong w rs) = (Wrong → ⊥) × Clean rs

passed : {Wrong : Type 0} (b : Bool) → (b ≡ false) ↔ Wrong → (Wrong → ⊥) → b ≡ true
passed true w h = refl
passed false w h = absurd (h (w.0 refl))

module _ {A : Type 0} where
  -- the first row decides; where none is wrong the reading goes on at the same place
  first-refuses : {Known : Type 0} → Known → (rs : Rows Known) (k : Reading A) (p : Place) (n : ℕ) → First rs n → checks rs k p ≡ refused n p.line
  first-refuses h no_more_text k p n f = absurd f
  first-refuses h (row m b Wrong w rs) k p n (inl f) = rw ((w h).1 f.0, f.1)
  first-refuses h (row m b Wrong w rs) k p n (inr f) = rw (passed b (w h) f.0) (first-refuses (h, f.0) rs k p n f.1)

  clean-passes : {Known : Type 0} → Known → (rs : Rows Known) (k : Reading A) (p : Place) → Clean rs → checks rs k p ≡ k p
  clean-passes h no_more_text k p c = refl
  clean-passes h (row m b Wrong w rs) k p c = rw (passed b (w h) c.0) (clean-passes (h, c.0) rs k p c.1)

wrong-or-not : {Wrong : Type 0} (b : Bool) → (b ≡ false) ↔ Wrong → Wrong ⊎ (Wrong → ⊥)
wrong-or-not true w = inr (λ h. subst T (w.1 h) tt)
wrong-or-not false w = inl (w.0 refl)

-- one of both holds
first-or-clean : {Known : Type 0} → Known → (rs : Rows Known) → ((n : ℕ) × First rs n) ⊎ Clean rs
first-or-clean h no_more_text = inr tt
first-or-clean h (row m b Wrong w rs) = go (λ k. first-or-clean (h, k) rs) (wrong-or-not b (w h))
  where
    further : (Wrong → ⊥) → ((n : ℕ) × First rs n) ⊎ Clean rs → ((n : ℕ) × First (row m b Wrong w rs) n) ⊎ Clean (row m b Wrong w rs)
    further k (inl f) = inl (f.0, inr (k, f.1))
    further k (inr c) = inr (k, c)

    go : ((Wrong → ⊥) → ((n : ℕ) × First rs n) ⊎ Clean rs) → Wrong ⊎ (Wrong → ⊥) → ((n : ℕ) × First (row m b Wrong w rs) n) ⊎ Clean (row m b Wrong w rs)
    go ih (inl f) = inl (m, inl (f, refl))
    go ih (inr k) = further k (ih k)

-- ---- kinds of lines

-- a kind of line: its key, the number by which a wrong key or form is refused, the form of its value, the tests of what stands there, and what it gives
pub record Kind (B C : Type 0) : Type 1 where
  pub key : String
  pub number : ℕ
  pub value : List ℕ → Option B
  pub rows : B → Rows (Unit {0})
  pub result : B → C

-- what such a line begins with
abbrev pub opening : {B C : Type 0} → Kind B C → List ℕ
opening k = bytes k.key ++ (61 ∷ [])

unfoldable pub line_of : {B C : Type 0} → Kind B C → Reading C
line_of k p = next (line k.number k.key p) (λ v q. next (form k.number (k.value v) q) (λ b. checks (k.rows b) (give (k.result b))))

module _ {B C : Type 0} (k : Kind B C) (p : Place) where
  -- the next line has the key and the form of its kind: b stands there, and q is the place after it
  pub record Stands (b : B) (q : Place) : Type 0 where
    pub text : List ℕ
    pub value : List ℕ
    pub cut : cut_line p.rest ≡ some (text, q.rest)
    pub keyed : behind (opening k) text ≡ some value
    pub formed : k.value value ≡ some b
    pub counted : q.line ≡ suc p.line

  -- "2: wrong key, form", "missing line"
  pub data WrongForm : Type 0 where
    missing : cut_line p.rest ≡ none → WrongForm
    other_key : (c : List ℕ × List ℕ) → cut_line p.rest ≡ some c → behind (opening k) c.0 ≡ none → WrongForm
    no_form : (c : List ℕ × List ℕ) (v : List ℕ) → cut_line p.rest ≡ some c → behind (opening k) c.0 ≡ some v → k.value v ≡ none → WrongForm

  -- n is the first number that the next line is wrong by
  pub data WrongLine (n : ℕ) : Type 0 where
    form_wrong : WrongForm → n ≡ k.number → WrongLine n
    row_wrong : (b : B) (q : Place) → Stands b q → First (k.rows b) n → WrongLine n

  -- the next line is in order: it gives c, and q is the place after it
  pub record RightLine (c : C) (q : Place) : Type 0 where
    pub entry : B
    pub stands : Stands entry q
    pub clean : Clean (k.rows entry)
    pub gives : c ≡ k.result entry

  wrong_form : WrongForm → line_of k p ≡ refused k.number (suc p.line)
  unfolding line_of line
  wrong_form (missing e) = rw e
  wrong_form (other_key c e f) = rw (e, f)
  wrong_form (no_form c v e f g) = rw (e, f, g)

  place_is : (q : Place) → q.line ≡ suc p.line → q ≡ record { line = suc p.line; rest = q.rest }
  place_is q e = λ i. record { line = e i; rest = q.rest }

  stands_on : (b : B) (q : Place) → Stands b q → line_of k p ≡ checks (k.rows b) (give (k.result b)) q
  unfolding line_of line
  stands_on b q s = rw (s.cut, s.keyed, s.formed) (ap (λ (x : Place). checks (k.rows b) (give (k.result b)) x) (sym (place_is q s.counted)))

  wrong-refused : (n : ℕ) → WrongLine n → line_of k p ≡ refused n (suc p.line)
  wrong-refused n (form_wrong f e) = rw e (wrong_form f)
  wrong-refused n (row_wrong b q s f) = stands_on b q s ∙ first-refuses tt (k.rows b) (give (k.result b)) q n f ∙ ap (λ (l : ℕ). refused n l) s.counted

  right-found : (c : C) (q : Place) → RightLine c q → line_of k p ≡ found c q
  right-found c q r =
      stands_on r.entry q r.stands
      ∙ clean-passes tt (k.rows r.entry) (give (k.result r.entry)) q r.clean
      ∙ ap (λ (x : C). found x q) (sym r.gives)

  abbrev Either : Type 0
  Either = ((n : ℕ) × WrongLine n) ⊎ ((c : C) × (q : Place) × RightLine c q)

  wrong-or-right : Either
  wrong-or-right = by-cut (cut_line p.rest) refl
    where
      by_rows : (b : B) (q : Place) → Stands b q → ((n : ℕ) × First (k.rows b) n) ⊎ Clean (k.rows b) → Either
      by_rows b q s (inl f) = inl (f.0, row_wrong b q s f.1)
      by_rows b q s (inr c) = inr (k.result b, q, record { entry = b; stands = s; clean = c; gives = refl })

      by_form : (c : List ℕ × List ℕ) (v : List ℕ) → cut_line p.rest ≡ some c → behind (opening k) c.0 ≡ some v → (o : Option B) → k.value v ≡ o → Either
      by_form c v e f none g = inl (k.number, form_wrong (no_form c v e f g) refl)
      by_form c v e f (some b) g =
          by_rows b (record { line = suc p.line; rest = c.1 }) (record { text = c.0; value = v; cut = e; keyed = f; formed = g; counted = refl })
          (first-or-clean tt (k.rows b))

      by_key : (c : List ℕ × List ℕ) → cut_line p.rest ≡ some c → (o : Option (List ℕ)) → behind (opening k) c.0 ≡ o → Either
      by_key c e none f = inl (k.number, form_wrong (other_key c e f) refl)
      by_key c e (some v) f = by_form c v e f (k.value v) refl

      by-cut : (o : Cut) → cut_line p.rest ≡ o → Either
      by-cut none e = inl (k.number, form_wrong (missing e) refl)
      by-cut (some c) e = by_key c e (behind (opening k) c.0) refl

-- ---- chains of lines

-- lines one after another, each with the values of those before it: an end with a value; a line; a line that may be left out, with the value that it then
-- has; tests at the line read last; the end of the text
pub data Chain (A : Type 0) : Type 1 where
  done : A → Chain A
  reads : {B C : Type 0} → Kind B C → (C → Chain A) → Chain A
  may : {B C : Type 0} → Kind B C → C → (C → Chain A) → Chain A
  tests : Rows (Unit {0}) → Chain A → Chain A
  ends : Chain A → Chain A

-- a line that may be left out is there exactly where the rest of the text begins with its key and `=`
abbrev pub where_begun : {A : Type 0} → Option (List ℕ) → Result A → Result A → Result A
where_begun none there absent = absent
where_begun (some v) there absent = there

more-refused : (p : Place) → (p.rest ≡ [] → ⊥) → end p ≡ refused 2 (suc p.line)
more-refused p h = go p.rest h
  where
    go : (bs : List ℕ) → (bs ≡ [] → ⊥) → no_more bs p ≡ refused 2 (suc p.line)
    go [] h = absurd (h refl)
    go (b ∷ bs) h = refl

empty-or-not : (bs : List ℕ) → (bs ≡ []) ⊎ (bs ≡ [] → ⊥)
empty-or-not [] = inl refl
empty-or-not (b ∷ bs) = inr (λ e. not-empty e)
  where
    not-empty : b ∷ bs ≡ [] → ⊥
    not-empty e = let z : ◌≡◌ {A = ℕ} 0 1 = cc in absurd (omega arith)

module _ {A : Type 0} where
  -- a refusal is no acceptance, and has one number and one line
  pub refused-found : {n l : ℕ} {a : A} {p : Place} → ◌≡◌ {A = Result A} (refused n l) (found a p) → ⊥
  refused-found e = let z : ◌≡◌ {A = ℕ} 0 1 = cc in absurd (omega arith)

  pub same-refusal : {n l m k : ℕ} → ◌≡◌ {A = Result A} (refused n l) (refused m k) → (n ≡ m) × (l ≡ k)
  same-refusal e = (cc, cc)

  same-found : {a b : A} {p q : Place} → ◌≡◌ {A = Result A} (found a p) (found b q) → (a ≡ b) × (p ≡ q)
  same-found e = (cc, cc)

  -- the reading of a chain
  abbrev pub run : Chain A → Reading A
  run (done a) = give a
  run (reads k f) = λ p. next (line_of k p) (λ c. run (f c))
  run (may k c f) = λ p. where_begun (behind (opening k) p.rest) (next (line_of k p) (λ d. run (f d))) (run (f c) p)
  run (tests rs s) = checks rs (run s)
  run (ends s) = λ p. next (end p) (λ u. run s)

  -- the first step of a chain is at fault at p, with the number n and the line l
  abbrev pub AtFault : Chain A → Place → ℕ → ℕ → Type 0
  AtFault (done a) p n l = ⊥
  AtFault (reads k f) p n l = WrongLine k p n × (l ≡ suc p.line)
  AtFault (may k c f) p n l = (v : List ℕ) × (behind (opening k) p.rest ≡ some v) × WrongLine k p n × (l ≡ suc p.line)
  AtFault (tests rs s) p n l = First rs n × (l ≡ p.line)
  AtFault (ends s) p n l = (p.rest ≡ [] → ⊥) × (n ≡ 2) × (l ≡ suc p.line)

  fault-refused : (s : Chain A) (p : Place) (n l : ℕ) → AtFault s p n l → run s p ≡ refused n l
  fault-refused (done a) p n l f = absurd f
  fault-refused (reads k g) p n l f = rw (wrong-refused k p n f.0, f.1)
  fault-refused (may k c g) p n l f = rw (f.1, wrong-refused k p n f.2, f.3)
  fault-refused (tests rs s) p n l f = first-refuses tt rs (run s) p n f.0 ∙ ap (λ (m : ℕ). refused n m) (sym f.1)
  fault-refused (ends s) p n l f = rw (more-refused p f.0, f.1, f.2)

module _ {A : Type 0} (s : Chain A) (p : Place) where
  -- from the chain s at p the reading comes to the chain t at q: every line between them is in order, and so is every test between lines
  pub data Comes : Chain A → Place → Type 1 where
    begun : Comes s p
    past_line : {B C : Type 0} {k : Kind B C} {f : C → Chain A} {q : Place} {c : C} {r : Place} → Comes (reads k f) q → RightLine k q c r → Comes (f c) r
    past_there : {B C : Type 0} {k : Kind B C} {c : C} {f : C → Chain A} {q : Place} {v : List ℕ} {d : C} {r : Place}
        → Comes (may k c f) q → behind (opening k) q.rest ≡ some v → RightLine k q d r → Comes (f d) r
    past_absent : {B C : Type 0} {k : Kind B C} {c : C} {f : C → Chain A} {q : Place} → Comes (may k c f) q → behind (opening k) q.rest ≡ none → Comes (f c) q
    past_tests : {rs : Rows (Unit {0})} {t : Chain A} {q : Place} → Comes (tests rs t) q → Clean rs → Comes t q
    past_end : {t : Chain A} {q : Place} → Comes (ends t) q → q.rest ≡ [] → Comes t q

  -- the reading of s then gives what the reading of t gives
  comes-run : {t : Chain A} {q : Place} → Comes t q → run s p ≡ run t q
  comes-run begun = refl
  comes-run (past_line {k = k} {f = f} {q = q} {c = c} {r = r} w o) = comes-run w ∙ ap (λ (x : Result _). next x (λ d. run (f d))) (right-found k q c r o)
  comes-run (past_there {k = k} {f = f} {q = q} {d = d} {r = r} w e o) = comes-run w ∙ rw e (ap (λ (x : Result _). next x (λ c. run (f c))) (right-found k q d r o))
  comes-run (past_absent w e) = comes-run w ∙ rw e
  comes-run (past_tests {rs = rs} {t = t} {q = q} w c) = comes-run w ∙ clean-passes tt rs (run t) q c
  comes-run (past_end {t = t} {q = q} w e) = comes-run w ∙ ap (λ (bs : List ℕ). next (no_more bs q) (λ u. run t)) e

  -- "the first fault decides": a step at fault, to which the reading comes with all lines in order, refuses the chain
  pub comes-refused : {t : Chain A} {q : Place} (n l : ℕ) → Comes t q → AtFault t q n l → run s p ≡ refused n l
  comes-refused {t} {q} n l w f = comes-run w ∙ fault-refused t q n l f

  -- ---- the other way: along the chain, step by step, W tells of each fault why

  module _ (W : ℕ → ℕ → Type 1) where
    -- the chain is refused, and W tells why, or the reading comes to its end
    abbrev pub Decided : Type 1
    Decided = ((n : ℕ) × (l : ℕ) × (run s p ≡ refused n l) × W n l) ⊎ ((a : A) × (q : Place) × Comes (done a) q)

    -- at a line, at tests between lines and at the end of the text: W tells of what is wrong there, and else the reading goes on
    pub then-line : {B C : Type 0} {k : Kind B C} {f : C → Chain A} {q : Place} → Comes (reads k f) q → ((n : ℕ) → WrongLine k q n → W n (suc q.line))
        → ((c : C) (r : Place) → r.line ≡ suc q.line → Comes (f c) r → Decided) → Decided
    then-line {B} {C} {k} {f} {q} w h g = go (wrong-or-right k q)
      where
        go : ((n : ℕ) × WrongLine k q n) ⊎ ((c : C) × (r : Place) × RightLine k q c r) → Decided
        go (inl (n, x)) = inl (n, suc q.line, comes-refused n (suc q.line) w (x, refl), h n x)
        go (inr (c, r, o)) = g c r o.stands.counted (past_line w o)

    -- at a line that may be left out, and is not, the reading goes on behind it
    pub then-there : {B C : Type 0} {k : Kind B C} {c : C} {f : C → Chain A} {q : Place} {v : List ℕ} → Comes (may k c f) q → behind (opening k) q.rest ≡ some v
        → ((n : ℕ) → WrongLine k q n → W n (suc q.line)) → ((b : B) (r : Place) → r.line ≡ suc q.line → Comes (f (k.result b)) r → Decided) → Decided
    then-there {B} {C} {k} {c} {f} {q} {v} w e h g = go (wrong-or-right k q)
      where
        go : ((n : ℕ) × WrongLine k q n) ⊎ ((d : C) × (r : Place) × RightLine k q d r) → Decided
        go (inl (n, x)) = inl (n, suc q.line, comes-refused n (suc q.line) w (v, e, x, refl), h n x)
        go (inr (d, r, o)) = g o.entry r o.stands.counted (subst (λ (x : C). Comes (f x) r) o.gives (past_there w e o))

    pub then-tests : {rs : Rows (Unit {0})} {t : Chain A} {q : Place} → Comes (tests rs t) q → ((n : ℕ) → First rs n → W n q.line)
        → (Comes t q → Decided) → Decided
    then-tests {rs} {t} {q} w h g = go (first-or-clean tt rs)
      where
        go : ((n : ℕ) × First rs n) ⊎ Clean rs → Decided
        go (inl (n, f)) = inl (n, q.line, comes-refused n q.line w (f, refl), h n f)
        go (inr c) = g (past_tests w c)

    pub then-end : {t : Chain A} {q : Place} → Comes (ends t) q → ((q.rest ≡ [] → ⊥) → W 2 (suc q.line)) → (Comes t q → Decided) → Decided
    then-end {t} {q} w h g = go (empty-or-not q.rest)
      where
        go : (q.rest ≡ []) ⊎ (q.rest ≡ [] → ⊥) → Decided
        go (inl e) = g (past_end w e)
        go (inr m) = inl (2, suc q.line, comes-refused 2 (suc q.line) w (m, refl, refl), h m)

    pub decided-refused : Decided → (n l : ℕ) → run s p ≡ refused n l → W n l
    decided-refused (inl (m, k, e, w)) n l d = let t = same-refusal (sym e ∙ d) in subst (λ (x : ℕ). W x l) t.0 (subst (λ (y : ℕ). W m y) t.1 w)
    decided-refused (inr (a, q, w)) n l d = absurd (refused-found (sym d ∙ comes-run w))

    -- it is accepted exactly where all lines are in order
    pub decided-found : Decided → (a : A) (q : Place) → (run s p ≡ found a q) ↔ Comes (done a) q
    decided-found d a q = (λ e. go e d, λ w. comes-run w)
      where
        go : run s p ≡ found a q → Decided → Comes (done a) q
        go e (inl (n, l, z, w)) = absurd (refused-found (sym z ∙ e))
        go e (inr (b, r, w)) =
            let t = same-found (sym (comes-run w) ∙ e) in
            subst (λ (x : A). Comes (done x) q) t.0 (subst (λ (y : Place). Comes (done b) y) t.1 w)
