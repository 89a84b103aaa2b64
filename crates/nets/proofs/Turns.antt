-- The `net` line: its number, and whether it is this net's turn.
-- Assumes nothing.
use mathlib.Core.List.{List}
use mathlib.Core.Path.{◌≡◌, sym, ap, ◌∙◌, subst}
use Prim.Native.Nat.{ℕ, ◌+◌}
use native.Mathlib.Omega.{arith}
use borrow.Author.Tests.{eq-eqb, ne_eqb}
use Rattle.std.specs.Prelude.{Ok, Err, Result as Outcome}
use Rattle.layout.specs.Shapes.{sizes_of}
use Rattle.lines.specs.Keyed.{key_bytes, number_line_by, number-line-is}
use Rattle.layout.specs.declared.shape.Shape.{Shape}
use Rattle.lines.specs.Told.{field_told, refused_by}
use Rattle.model.specs.Job.{Net}
use Rattle.model.specs.Read.{Result, next, number_line, net_line, net_lines}
use Rattle.text.specs.Refusals.{place_of}
use Rattle.text.specs.declared.Cursor.{Cursor}
use Rattle.text.specs.declared.Fault.TheVariants.{Turn}
use Rattle.text.specs.declared.Refusal.{Refusal}
use Rattle.text.specs.declared.Refusal.TheVariants.{Line}
use Rattle.theory.specs.links.JobText.{option_lines}
use Rattle.nets.specs.Nets.{turn_told, rest_in, lines_are, NetRead, NetTold}

module _ (s : List ℕ) (c : Cursor) (i : ℕ) (f : Outcome (ℕ × Cursor) Refusal) (told : field_told s f ≡ number_line_by (key_bytes "net") (place_of s c)) where
  number_is : (g : Outcome (ℕ × Cursor) Refusal) → f ≡ g → number_line "net" (place_of s c) ≡ field_told s g
  number_is g e = number-line-is "net" (place_of s c) ∙ sym told ∙ ap (field_told s) e

  pub turn-refused : (r : Refusal) → f ≡ Err r → turn_told s (Err r) ≡ net_line i (place_of s c)
  turn-refused r e = sym (rw (number_is (Err r) e))

  module _ (n : ℕ) (d : Cursor) (e : f ≡ Ok (n, d)) where
    pub turn-other : (n ≡ i → ⊥) → turn_told s (Err (Line Turn d.line)) ≡ net_line i (place_of s c)
    turn-other h = sym (rw (number_is (Ok (n, d)) e, ne_eqb n i h))

    pub turn-next : n ≡ i → turn_told s (Ok d) ≡ net_line i (place_of s c)
    turn-next h = sym (rw (number_is (Ok (n, d)) e, eq-eqb n i h))

-- ---- the lines behind it

module _ (s : List ℕ) (c : Cursor) (g : Shape) (i : ℕ) (l : Outcome Cursor Refusal) (told : turn_told s l ≡ net_line (i + 1) (place_of s c)) where
  pub net-refused : (f : Refusal) → l ≡ Err f → net_lines (sizes_of g) (i + 1) (place_of s c) ≡ refused_by f
  net-refused f e = lines_are (sizes_of g) (i + 1) (place_of s c) ∙ ap (λ (x : Result (Unit {0})). next x (λ u. rest_in (sizes_of g))) (sym told ∙ ap (turn_told s) e)

  pub net-goes-on : (d : Cursor) → l ≡ Ok d → d.line ≡ c.line + 1 → (first : ℕ) (w w' table table' : List ℕ) (r : NetRead)
      → NetTold s g i first (λ n. d.line + 2 + option_lines n.low) w w' table table' (rest_in (sizes_of g) (place_of s d)) r
      → NetTold s g i first (λ n. c.line + 3 + option_lines n.low) w w' table table' (net_lines (sizes_of g) (i + 1) (place_of s c)) r
  net-goes-on d e h first w w' table table' r t =
      let line : d.line + 2 ≡ c.line + 3 = omega arith in
      let same : rest_in (sizes_of g) (place_of s d) ≡ net_lines (sizes_of g) (i + 1) (place_of s c) =
      sym (lines_are (sizes_of g) (i + 1) (place_of s c) ∙ ap (λ (x : Result (Unit {0})). next x (λ u. rest_in (sizes_of g))) (sym told ∙ ap (turn_told s) e)) in
      subst (λ (k : ℕ). NetTold s g i first (λ n. k + option_lines n.low) w w' table table' (net_lines (sizes_of g) (i + 1) (place_of s c)) r) line
      (subst (λ (x : Result Net). NetTold s g i first (λ n. d.line + 2 + option_lines n.low) w w' table table' x r) same t)
