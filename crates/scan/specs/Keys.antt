-- The key of a line, and the definitions' pins line after its key.
-- Assumes nothing.
use Rattle.std.specs.Prelude.{◌≡◌, refl, Bool, true, false, ◌&&◌, not, cond, List, [], ◌∷◌, map, ℕ, suc, eqb, length, drop}
use Rattle.std.proofs.Common.{sym, ap, ◌∙◌, eqb-true}
use Rattle.std.proofs.Math.Option.{Option, none, some}
use Rattle.text.specs.Entries.{starts_with}
use Rattle.model.specs.Lists.{all, twice}
use Rattle.model.specs.Text.{bytes, Cut, cut_step, cut_line, behind, number}
use Rattle.model.specs.Job.{Pin}
use Rattle.model.specs.Read.{Result, Reading, refused, found, next, ◌>>=◌, ◌>>◌, give, form, need, value_in, line, Sizes, Triple, three_parts, pin_entries, pin_inside, pin_at, same_pin, pins_line}
use Rattle.scan.specs.Lines.{Lined, line_of, line_by, with_rest, first-all}

-- the key holds no byte 10
abbrev pub OneLine : List ℕ → Type 0
OneLine [] = Unit {0}
OneLine (k ∷ ks) = (eqb k 10 ≡ false) × OneLine ks

-- the value of the line from behind the key on
abbrev pub after_key : ℕ → Option (List ℕ) → Result (List ℕ)
after_key n none = refused 2 n
after_key n (some u) = value_in 2 n (cut_line u) []

-- the key may be read before the line's end is known
pub key-law : (n : ℕ) (key t : List ℕ) → OneLine key → value_in 2 n (cut_line t) key ≡ after_key n (behind key t)
key-law n [] t h = refl
key-law n (k ∷ ks) [] h = refl
key-law n (k ∷ ks) (b ∷ t) h = go (eqb k b) refl (key-law n ks t h.1)
  where
    same : eqb k b ≡ true → (c : Cut) → value_in 2 n (cut_step b c) (k ∷ ks) ≡ value_in 2 n c ks
    same e none = refl
    same e (some c) = rw e

    other : eqb k b ≡ false → (q : Bool) (c : Cut) → value_in 2 n (cond q (some ([], t)) (cut_step b c)) (k ∷ ks) ≡ refused 2 n
    other e true c = refl
    other e false none = refl
    other e false (some c) = rw e

    go : (q : Bool) → eqb k b ≡ q → value_in 2 n (cut_line t) ks ≡ after_key n (behind ks t) → value_in 2 n (cut_line (b ∷ t)) (k ∷ ks) ≡ after_key n (cond q (behind ks t) none)
    go true e r =
        ap (λ (q : Bool). value_in 2 n (cond q (some ([], t)) (cut_step b (cut_line t))) (k ∷ ks)) (ap (λ (z : ℕ). eqb z 10) (sym (eqb-true k b e)) ∙ h.0)
        ∙ same e (cut_line t) ∙ r
    go false e r = other e (eqb b 10) (cut_line t)

-- ---- the pins line

-- what is done with the value of a pins line
abbrev pub pins_in : ℕ → ℕ → ℕ → List ℕ → Reading (List Pin)
pins_in W H K v = do
  ps ← form 2 (pin_entries v)
  need 3 (all (pin_inside W H K) ps)
  let pins = map (pin_at W) ps
  need 5 (not (twice same_pin pins))
  give pins

-- a line of entries that was read, judged: its range, and the same pin twice
abbrev pub judged : ℕ → ℕ → ℕ → ℕ → Lined → Result (List Pin)
judged W H K n none = refused 2 n
judged W H K n (some c) =
    let pins = map (pin_at W) c.0 in
    cond (all (pin_inside W H K) c.0) (cond (twice same_pin pins) (refused 5 n) (found pins (record { line = n; rest = c.1 }))) (refused 3 n)

abbrev pub on_key : ℕ → ℕ → ℕ → ℕ → Option (List ℕ) → Result (List Pin)
on_key W H K n none = refused 2 n
on_key W H K n (some u) = judged W H K n (line_of (three_parts number) (three_parts number) u)

value-law : (W H K n : ℕ) (u : List ℕ) → next (value_in 2 n (cut_line u) []) (pins_in W H K) ≡ judged W H K n (line_of (three_parts number) (three_parts number) u)
value-law W H K n u = cut (cut_line u)
  where
    tests : (p q : Bool) (pins : List Pin) (r : List ℕ) →
        next (need 3 p (record { line = n; rest = r })) (λ a. ◌>>◌ (need 5 (not q)) (give pins))
        ≡ cond p (cond q (refused 5 n) (found pins (record { line = n; rest = r }))) (refused 3 n)
    tests true true pins r = refl
    tests true false pins r = refl
    tests false q pins r = refl

    read : (e : Option (List Triple)) (r : List ℕ) →
        next (form 2 e (record { line = n; rest = r })) (λ ps. ◌>>◌ (need 3 (all (pin_inside W H K) ps)) (◌>>◌ (need 5 (not (twice same_pin (map (pin_at W) ps)))) (give (map (pin_at W) ps))))
        ≡ judged W H K n (with_rest e r)
    read none r = refl
    read (some ps) r = tests (all (pin_inside W H K) ps) (twice same_pin (map (pin_at W) ps)) (map (pin_at W) ps) r

    cut : (c : Cut) → next (value_in 2 n c []) (pins_in W H K) ≡ judged W H K n (line_by (three_parts number) (three_parts number) c)
    cut none = refl
    cut (some c) = read (pin_entries c.0) c.1 ∙ ap (λ (e : Option (List Triple)). judged W H K n (with_rest e c.1)) (sym (first-all (three_parts number) c.0))

-- the definitions' pins line, as it is read from left to right
pub pins-law : (z : Sizes) (n : ℕ) (t : List ℕ) → pins_line z (record { line = n; rest = t }) ≡ on_key z.width z.height z.layers (suc n) (behind (bytes "pins=") t)
unfolding pins_line line
pins-law z n t = ap (λ (r : Result (List ℕ)). next r (pins_in z.width z.height z.layers)) (key-law (suc n) (bytes "pins=") t (refl, (refl, (refl, (refl, (refl, tt)))))) ∙ go (behind (bytes "pins=") t)
  where
    go : (o : Option (List ℕ)) → next (after_key (suc n) o) (pins_in z.width z.height z.layers) ≡ on_key z.width z.height z.layers (suc n) o
    go none = refl
    go (some u) = value-law z.width z.height z.layers (suc n) u

-- ---- the key in the text

pub behind-is : (key t : List ℕ) → behind key t ≡ cond (starts_with key t) (some (drop (length key) t)) none
unfolding starts_with
behind-is [] t = refl
behind-is (k ∷ ks) [] = refl
behind-is (k ∷ ks) (b ∷ t) = go (eqb k b) (behind-is ks t)
  where
    go : (q : Bool) → behind ks t ≡ cond (starts_with ks t) (some (drop (length ks) t)) none →
        cond q (behind ks t) none ≡ cond (q && starts_with ks t) (some (drop (length ks) t)) none
    go true h = h
    go false h = refl
