-- What the reader finds at a line is what the definitions find behind its key.
-- Assumes nothing.
use Rattle.std.specs.Prelude.{◌≡◌, refl, Bool, true, false, cond, ◌&&◌, List, [], ◌∷◌, ℕ, suc, ◌+◌, ◌≤◌, eqb, length, drop, Some, None, Ok, Err, Option as Maybe}
use Rattle.std.specs.Option.{ok_or}
use Rattle.std.proofs.Common.{ap, add-one, arith, length-drop, drop-drop}
use Rattle.std.proofs.Math.Option.{Option, none, some}
use Rattle.model.specs.Text.{behind}
use Rattle.scan.specs.Keys.{behind-is}
use Rattle.text.specs.Entries.{starts_with}
use Rattle.text.specs.declared.Cursor.{Cursor}
use Rattle.text.specs.declared.Fault.TheVariants.{Form}
use Rattle.text.specs.declared.Refusal.{Refusal}
use Rattle.text.specs.declared.Refusal.TheVariants.{Line}
use Rattle.lines.specs.Reads.{keyed, behind_of, opened_of, opening_of, expected_of}
use Rattle.lines.specs.Told.{After}

not-true : ◌≡◌ {A = Bool} false true → ⊥
not-true e = let y : ◌≡◌ {A = ℕ} 0 1 = cc in omega arith

-- a text that begins with the key is as long as the key at least
key-length : (key t : List ℕ) → starts_with key t ≡ true → length key ≤ length t
unfolding starts_with
key-length [] t h = omega arith
key-length (k ∷ ks) [] h = absurd (not-true h)
key-length (k ∷ ks) (b ∷ t) h = go (eqb k b) h (key-length ks t)
  where
    go : (q : Bool) → (q && starts_with ks t) ≡ true → (starts_with ks t ≡ true → length ks ≤ length t) → suc (length ks) ≤ suc (length t)
    go true h r = omega (arith, r h)
    go false h r = absurd (not-true h)

module _ {A : Type 0} where
  some-where : (b : Bool) (x d : A) → cond b (Some x) None ≡ Some d → (b ≡ true) × (d ≡ x)
  some-where true x d e = (refl, cc)
  some-where false x d e = cc

  none-where : (b : Bool) (x : A) → cond b (Some x) None ≡ None → b ≡ false
  none-where true x e = cc
  none-where false x e = refl

  ok-where : {E : Type 0} (o : Maybe A) (x : E) (d : A) → ok_or o x ≡ Ok d → o ≡ Some d
  ok-where None x d e = cc
  ok-where (Some a) x d e = cc

  err-where : {E : Type 0} (o : Maybe A) (x y : E) → ok_or o x ≡ Err y → (o ≡ None) × (y ≡ x)
  err-where None x y e = (refl, cc)
  err-where (Some a) x y e = cc

-- a line that was opened at c, by whatever is read behind its key
module _ (s : List ℕ) (c : Cursor) (key : List ℕ) where
  module _ (d : Cursor) (e : opened_of s c key ≡ Some d) where
    pub place-is : d ≡ behind_of c (length key)
    place-is = (some-where (keyed s c key) (behind_of c (length key)) d e).1

    pub place-within : c.at ≤ length s → d.at ≤ length s
    place-within h =
        let k : keyed s c key ≡ true = (some-where (keyed s c key) (behind_of c (length key)) d e).0 in
        rw place-is (omega (arith, key-length key (drop c.at s) k, length-drop c.at s))

    pub place-after : c.at ≤ length s → After (length s) (c.line + 1) d
    place-after h = record { place = place-within h; lines = ap (λ (x : Cursor). x.line) place-is }

    pub key-there : {R : Type 0} (F : ℕ → Option (List ℕ) → R) → F (suc c.line) (behind key (drop c.at s)) ≡ F d.line (some (drop d.at s))
    key-there F =
        let k : starts_with key (drop c.at s) ≡ true = (some-where (keyed s c key) (behind_of c (length key)) d e).0 in
        rw place-is (rw (behind-is key (drop c.at s), k, drop-drop (length key) c.at s, add-one))

  pub key-other : opened_of s c key ≡ None → {R : Type 0} (F : ℕ → Option (List ℕ) → R) → F (suc c.line) (behind key (drop c.at s)) ≡ F (c.line + 1) none
  key-other e F =
      let k : starts_with key (drop c.at s) ≡ false = none-where (keyed s c key) (behind_of c (length key)) e in
      rw (behind-is key (drop c.at s), k, add-one)

  -- by what opening the line gives
  pub opening-there : (d : Cursor) → opening_of s c key ≡ Ok d → opened_of s c key ≡ Some d
  opening-there d e = ok-where (opened_of s c key) (behind_of c (length key)) d e

  pub opening-other : (x : Cursor) → opening_of s c key ≡ Err x → (opened_of s c key ≡ None) × (x ≡ behind_of c (length key))
  opening-other x e = err-where (opened_of s c key) (behind_of c (length key)) x e

  -- what that makes of a line that may not be left out
  pub expected-opening : (d : Cursor) → opening_of s c key ≡ Ok d → expected_of s c key ≡ Ok d
  expected-opening d e = ap (λ (o : Maybe Cursor). ok_or o (Line Form (c.line + 1))) (opening-there d e)

  pub expected-lacking : (x : Cursor) → opening_of s c key ≡ Err x → expected_of s c key ≡ Err (Line Form x.line)
  expected-lacking x e =
      let p = opening-other x e in
      rw p.1 (ap (λ (o : Maybe Cursor). ok_or o (Line Form (c.line + 1))) p.0)

  -- a line that may not be left out
  pub expected-there : (d : Cursor) → expected_of s c key ≡ Ok d → opened_of s c key ≡ Some d
  expected-there d e = ok-where (opened_of s c key) (Line Form (c.line + 1)) d e

  pub expected-other : (r : Refusal) → expected_of s c key ≡ Err r → (opened_of s c key ≡ None) × (r ≡ Line Form (c.line + 1))
  expected-other r e = err-where (opened_of s c key) (Line Form (c.line + 1)) r e
