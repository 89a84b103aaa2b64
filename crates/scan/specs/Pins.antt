-- What an entry at a place says of the definitions' reading of the line from there on. Assumes nothing.
use Rattle.std.specs.Prelude.{Option as Maybe, Some, None, ◌≡◌, refl, Bool, true, false, cond, List, [], ◌∷◌, ℕ, ◌+◌, ◌≤◌, ◌<◌, eqb, length, drop, get_or}
use Rattle.std.proofs.Common.{◌∙◌, arith, eqb-true}
use Rattle.std.proofs.Math.Option.{Option, none, some}
use Rattle.std.proofs.lemmas.Bool.{eqb-false}
use Rattle.model.specs.Text.{number}
use Rattle.model.specs.Read.{Triple, triple_of, three_parts}
use Rattle.text.specs.Number.{numeral, number_at}
use Rattle.text.specs.declared.Numeral.{Numeral}
use Rattle.scan.specs.Lines.{Judge, Lined, line_of, cons_to}
use Rattle.scan.specs.Places.{Begins, run, number_is, then-comma, then-no-comma, then-bad, then-semicolon, then-newline, then-no-break, get_d-in}
use Rattle.text.specs.declared.Entry.{Entry}
use Rattle.text.specs.Entries.{on_number, comma_at, entry, broken, pin_entry_at}

-- the pins of the line that a text begins with, and the text after it
abbrev pub pins_of : List ℕ → Lined
pins_of t = line_of (three_parts number) (three_parts number) t

abbrev pub triple : ℕ → ℕ → ℕ → Triple
triple x y z = record { x = x; y = y; third = z }

-- ---- the judges of the three parts

pub no_second : (o t : Option ℕ) → triple_of o none t ≡ none
no_second none t = refl
no_second (some x) t = refl

pub no_third : (o q : Option ℕ) → triple_of o q none ≡ none
no_third none q = refl
no_third (some x) none = refl
no_third (some x) (some y) = refl

abbrev pin : Judge
pin = three_parts number

begins-0 : Begins pin
begins-0 = record { wrong = go }
  where
    go : (p : List ℕ) (ps : List (List ℕ)) → number p ≡ none → pin (p ∷ ps) ≡ none
    go p [] e = refl
    go p (a ∷ []) e = refl
    go p (a ∷ b ∷ []) e = rw e
    go p (a ∷ b ∷ c ∷ ps) e = refl

begins-1 : (d : List ℕ) → Begins (λ ps. pin (d ∷ ps))
begins-1 d = record { wrong = go }
  where
    go : (p : List ℕ) (ps : List (List ℕ)) → number p ≡ none → pin (d ∷ p ∷ ps) ≡ none
    go p [] e = refl
    go p (a ∷ []) e = rw e (no_second (number d) (number a))
    go p (a ∷ b ∷ ps) e = refl

begins-2 : (d c : List ℕ) → Begins (λ ps. pin (d ∷ c ∷ ps))
begins-2 d c = record { wrong = go }
  where
    go : (p : List ℕ) (ps : List (List ℕ)) → number p ≡ none → pin (d ∷ c ∷ p ∷ ps) ≡ none
    go p [] e = rw e (no_third (number d) (number c))
    go p (a ∷ ps) e = refl

-- ---- a number and a comma

abbrev pub CommaSays : Judge → Judge → List ℕ → ℕ → Maybe Numeral → Type 0
CommaSays f g s i (Some n) = (number (run s i) ≡ some n.value) × (line_of f g (drop i s) ≡ line_of (λ ps. f (run s i ∷ ps)) g (drop n.next s)) × (i ≤ n.next)
CommaSays f g s i None = line_of f g (drop i s) ≡ none

pub comma-says : (f g : Judge) → Begins f → ((p : List ℕ) → f (p ∷ []) ≡ none) → (s : List ℕ) (i : ℕ) → CommaSays f g s i (comma_at s i)
unfolding comma_at
comma-says f g b last s i = go (number_at s i) refl
  where
    go : (m : Maybe Numeral) → number_at s i ≡ m → CommaSays f g s i (on_number m (λ v next. cond (eqb (get_or s next 0) 44) (Some (numeral v (next + 1))) None) None)
    go None e = then-bad f g s i e b
    go (Some n) e = test (eqb (get_or s n.next 0) 44) refl
      where
        test : (q : Bool) → eqb (get_or s n.next 0) 44 ≡ q → CommaSays f g s i (cond q (Some (numeral n.value (n.next + 1))) None)
        test true h = ((number_is s i n.value n.next e).0, then-comma f g s i n.value n.next e (eqb-true (get_or s n.next 0) 44 h), omega (arith, (number_is s i n.value n.next e).1))
        test false h = then-no-comma f g s i n.value n.next e b last (eqb-false (get_or s n.next 0) 44 h)

-- ---- an entry

-- an entry with another behind it, or the last of its line
abbrev pub PinTold : List ℕ → ℕ → Triple → ℕ → Bool → Type 0
PinTold s i t next false = (pins_of (drop i s) ≡ cons_to (some t) (pins_of (drop next s))) × (i < next) × (next ≤ length s)
PinTold s i t next true = (pins_of (drop i s) ≡ some (t ∷ [], drop next s)) × (next ≤ length s)

abbrev pub PinSays : List ℕ → ℕ → Maybe Entry → Type 0
PinSays s i (Some e) = PinTold s i (triple e.x e.y e.third) e.next e.last
PinSays s i None = pins_of (drop i s) ≡ none

pub pin-says : (s : List ℕ) (i : ℕ) → PinSays s i (pin_entry_at s i)
unfolding pin_entry_at
pin-says s i = go1 (comma_at s i) (comma-says pin pin begins-0 (λ p. refl) s i)
  where
    go1 : (m : Maybe Numeral) → CommaSays pin pin s i m → PinSays s i (on_number m (λ x p. on_number (comma_at s p) (λ y q. on_number (number_at s q) (λ l n. broken s x y l n) None) None) None)
    go1 None h = h
    go1 (Some a) h = go2 (comma_at s a.next) (comma-says (λ ps. pin (run s i ∷ ps)) pin (begins-1 (run s i)) (λ p. refl) s a.next)
      where
        go2 : (m : Maybe Numeral) → CommaSays (λ ps. pin (run s i ∷ ps)) pin s a.next m → PinSays s i (on_number m (λ y q. on_number (number_at s q) (λ l n. broken s a.value y l n) None) None)
        go2 None k = h.1 ∙ k
        go2 (Some b) k = go3 (number_at s b.next) refl
          where
            f : Judge
            f = λ ps. pin (run s i ∷ run s a.next ∷ ps)

            go3 : (m : Maybe Numeral) → number_at s b.next ≡ m → PinSays s i (on_number m (λ l n. broken s a.value b.value l n) None)
            go3 None e = h.1 ∙ k.1 ∙ then-bad (λ ps. pin (run s i ∷ run s a.next ∷ ps)) pin s b.next e (begins-2 (run s i) (run s a.next))
            go3 (Some c) e = go4 (eqb (get_or s c.next 0) 59) (eqb (get_or s c.next 0) 10) refl refl
              where
                one : triple_of (number (run s i)) (number (run s a.next)) (number (run s b.next)) ≡ some (triple a.value b.value c.value)
                one = rw (h.0, k.0, (number_is s b.next c.value c.next e).0)

                go4 : (t u : Bool) → eqb (get_or s c.next 0) 59 ≡ t → eqb (get_or s c.next 0) 10 ≡ u
                    → PinSays s i (cond t (Some (entry a.value b.value c.value (c.next + 1) false)) (cond u (Some (entry a.value b.value c.value (c.next + 1) true)) None))
                go4 true u v w = (
                  h.1 ∙ k.1 ∙ then-semicolon (λ ps. pin (run s i ∷ run s a.next ∷ ps)) pin s b.next c.value c.next e (eqb-true (get_or s c.next 0) 59 v) ∙ rw one,
                  omega (arith, h.2, k.2, (number_is s b.next c.value c.next e).1),
                  omega (arith, get_d-in s c.next 59 (eqb-true (get_or s c.next 0) 59 v) (omega arith)),
                )
                go4 false true v w = (
                  h.1 ∙ k.1 ∙ then-newline (λ ps. pin (run s i ∷ run s a.next ∷ ps)) pin s b.next c.value c.next e (eqb-true (get_or s c.next 0) 10 w) ∙ rw one,
                  omega (arith, get_d-in s c.next 10 (eqb-true (get_or s c.next 0) 10 w) (omega arith)),
                )
                go4 false false v w =
                    h.1 ∙ k.1
                    ∙ then-no-break (λ ps. pin (run s i ∷ run s a.next ∷ ps)) pin s b.next c.value c.next e (begins-2 (run s i) (run s a.next)) (λ p q ps. refl) (eqb-false (get_or s c.next 0) 59 v) (eqb-false (get_or s c.next 0) 10 w)

module _ (s : List ℕ) (i : ℕ) where
  pub pin-is : (e : Maybe Entry) → e ≡ pin_entry_at s i → PinSays s i e
  pin-is e h = rw h (pin-says s i)

  -- the same by whether it is the last
  pub pin_told : (e : Entry) → Some e ≡ pin_entry_at s i → (last : Bool) → e.last ≡ last → PinTold s i (triple e.x e.y e.third) e.next last
  pin_told e h last k = rw (← k) (pin-is (Some e) h)
