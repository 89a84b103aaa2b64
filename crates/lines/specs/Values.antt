-- The value of a line that was opened stands behind its key.
-- Assumes nothing.
use Rattle.std.specs.Prelude.{◌≡◌, refl, Bool, true, false, not, cond, List, [], ◌∷◌, ℕ, suc, eqb, drop, ◌+◌, Some, None, Ok, Err, Option as Maybe, Result as Outcome}
use Rattle.std.specs.Option.{ok_or}
use Rattle.std.proofs.Common.{sym, ap, ◌∙◌, arith}
use Rattle.model.specs.Text.{cut_line, behind}
use Rattle.model.specs.Read.{Result, Reading, refused, next, value_in}
use Rattle.text.specs.Refusals.{place_of}
use Rattle.text.specs.declared.Cursor.{Cursor}
use Rattle.scan.specs.Keys.{OneLine, after_key, key-law}
use Rattle.lines.specs.Keyed.{one_line, line_by}
use Rattle.text.specs.declared.Fault.TheVariants.{Form}
use Rattle.text.specs.declared.Refusal.{Refusal}
use Rattle.text.specs.declared.Refusal.TheVariants.{Line}
use Rattle.lines.specs.Opens.{key-there, key-other, opening-there, expected-lacking}
use Rattle.lines.specs.Reads.{opened_of, opening_of, expected_of}
use Rattle.lines.specs.Told.{line_told, refused_by}

one_line_lem : (key : List ℕ) → one_line key ≡ true → OneLine key
one_line_lem [] h = tt
one_line_lem (k ∷ ks) h = go (eqb k 10) refl h (one_line_lem ks)
  where
    go : (q : Bool) → eqb k 10 ≡ q → cond (not q) (one_line ks) false ≡ true → (one_line ks ≡ true → OneLine ks) → (eqb k 10 ≡ false) × OneLine ks
    go true e h r = absurd (let y : ◌≡◌ {A = ℕ} 0 1 = cc in omega arith)
    go false e h r = (e, r h)

-- a line that may not be left out, as the definitions read it
pub expected-told : (s : List ℕ) (c : Cursor) (key : List ℕ) → one_line key ≡ true → line_told s (expected_of s c key) ≡ line_by key (place_of s c)
expected-told s c key one = go (opened_of s c key) refl ∙ sym (key-law (suc c.line) key (drop c.at s) (one_line_lem key one))
  where
    go : (o : Maybe Cursor) → opened_of s c key ≡ o → line_told s (ok_or o (Line Form (c.line + 1))) ≡ after_key (suc c.line) (behind key (drop c.at s))
    go (Some d) e = sym (key-there s c key d e after_key)
    go None e = sym (key-other s c key e after_key)

-- a line that has its key
pub line-there : (s : List ℕ) (c : Cursor) (key : List ℕ) → one_line key ≡ true → (d : Cursor) → opened_of s c key ≡ Some d
    → line_by key (place_of s c) ≡ value_in 2 d.line (cut_line (drop d.at s)) []
line-there s c key one d e = sym (expected-told s c key one) ∙ ap (λ (o : Maybe Cursor). line_told s (ok_or o (Line Form (c.line + 1)))) e

-- whatever is done with the value of a line, by what opening it gave
module _ (s : List ℕ) (c : Cursor) (key : List ℕ) (one : one_line key ≡ true) (o : Outcome Cursor Cursor) (e : o ≡ opening_of s c key) {A : Type 0} (f : List ℕ → Reading A) where
  pub opened-reads : (d : Cursor) → o ≡ Ok d → next (line_by key (place_of s c)) f ≡ next (value_in 2 d.line (cut_line (drop d.at s)) []) f
  opened-reads d h = ap (λ (r : Result (List ℕ)). next r f) (line-there s c key one d (opening-there s c key d (sym e ∙ h)))

  pub opened-lacks : (x : Cursor) → o ≡ Err x → next (line_by key (place_of s c)) f ≡ refused 2 x.line
  opened-lacks x h =
      ap (λ (r : Result (List ℕ)). next r f) (sym (expected-told s c key one) ∙ ap (line_told s) (expected-lacking s c key x (sym e ∙ h)))

-- whatever is done with the value of a line, by what is told of it
module _ (s : List ℕ) (c : Cursor) (key : List ℕ) (r : Outcome Cursor Refusal) (told : line_told s r ≡ line_by key (place_of s c)) {A : Type 0} (f : List ℕ → Reading A) where
  pub reads-there : (d : Cursor) → r ≡ Ok d → next (line_by key (place_of s c)) f ≡ next (value_in 2 d.line (cut_line (drop d.at s)) []) f
  reads-there d e = ap (λ (x : Result (List ℕ)). next x f) (sym told ∙ ap (line_told s) e)

  pub reads_other : (x : Refusal) → r ≡ Err x → next (line_by key (place_of s c)) f ≡ refused_by x
  reads_other x e = ap (λ (y : Result (List ℕ)). next y f) (sym told ∙ ap (line_told s) e)
