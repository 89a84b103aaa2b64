-- The text that is written is the program's.
-- Assumes nothing.
use Rattle.std.specs.Prelude.{Ok, Err, Result as Answer}
use mathlib.Core.List.{List}
use mathlib.Core.Option.{some}
use mathlib.Core.Path.{◌≡◌, sym, ap, ap₂, ◌∙◌}
use Prim.Native.Nat.{ℕ, ◌≤◌, ◌<◌, ◌^◌}
use native.Mathlib.Omega.{arith}
use borrow.Author.Tests.{le-leb, lt-leb}
use lib.ListN.{length, drop, replicate, length-append, length-replicate}
use lib.Seq.{sets}
use Rattle.model.specs.Calls.{refusal, outcome, overwrite, print_lent}
use Rattle.model.specs.Program.{program_lent, written, program}
use Rattle.model.specs.Read.{Lent}
use Rattle.planning.specs.declared.Totals.{Totals}
use Rattle.print.specs.Refusal.{refusal-most}
use Rattle.put.specs.Wrote.{sets-overwrite}
use Rattle.sort.specs.Entries.{no_entry}
use Rattle.sort.specs.Placing.{order-count}
use Rattle.sort.specs.declared.Entry.{Entry}
use Rattle.text.specs.Refusals.{number_of, line_of}
use Rattle.text.specs.declared.Refusal.{Refusal}
use Rattle.respond.specs.Told.{working, entries, bytes, program_buffers, Answered, refused-told, printed-told}

-- ---- the line of a refusal

module _ (out : List ℕ) (room : 50 ≤ length out) (f : Refusal) (n l : ℕ) (n-is : n ≡ number_of f) (l-is : l ≡ line_of f) (n-fits : n < 2 ^ 64) (l-fits : l < 2 ^ 64) where
  pub refusal-fits : length (written (refusal n l)) ≤ length out
  refusal-fits = omega (arith, refusal-most n l n-fits l-fits)

  same : written (refusal n l) ≡ written (refusal (number_of f) (line_of f))
  same = ap₂ (λ (x y : ℕ). written (refusal x y)) n-is l-is

  pub refusal-written : (out' : List ℕ) (size : ℕ) → out' ≡ sets out 0 (written (refusal n l)) → size ≡ length (written (refusal n l))
      → (out' ≡ overwrite (written (refusal (number_of f) (line_of f))) out) × (size ≡ length (written (refusal (number_of f) (line_of f))))
  refusal-written out' size e s = (
    e ∙ sets-overwrite out (written (refusal n l)) refusal-fits ∙ ap (λ (t : List ℕ). overwrite t out) same,
    s ∙ ap length same,
  )

-- ---- the program

pub too_long : (input : List ℕ) → 65536 < length input → program input ≡ written (refusal 1 0)
too_long input h = rw (lt-leb (length input) 65536 h)

module _ (input out : List ℕ) (size : length out ≡ 65536) (short : length input ≤ 65536) where
  lent_is : print_lent program_buffers out ≡ program_lent
  lent_is = lents (length-replicate {A = ℕ} working 0) (order-count (replicate entries no_entry) ∙ length-replicate {A = Entry} entries no_entry) (length-replicate {A = ℕ} bytes 0) size
    where
      lents : {w o a p w' o' a' p' : ℕ} → w ≡ w' → o ≡ o' → a ≡ a' → p ≡ p'
          → ◌≡◌ {A = Lent} (record { working = w; order = o; answer = a; print = some p }) (record { working = w'; order = o'; answer = a'; print = some p' })
      lents x y z q i = record { working = x i; order = y i; answer = z i; print = some (q i) }

  program-is : program input ≡ written (outcome (print_lent program_buffers out) input)
  program-is = rw (le-leb (length input) 65536 short) (ap (λ (l : Lent). written (outcome l input)) (sym lent_is))

  module _ (out' : List ℕ) (r : Answer (Totals × ℕ) Refusal) (a : Answered input out out' r) where
    pub program-refused : (f : Refusal) → r ≡ Err f → (program input ≡ written (refusal (number_of f) (line_of f))) × (out' ≡ out)
    program-refused f e =
        let k = refused-told input program_buffers out a.left out' r a.told f e in
        (program-is ∙ ap written k.0, k.1)

    pub program-printed : (t : Totals) (n : ℕ) → r ≡ Ok (t, n) → (out' ≡ overwrite (program input) out) × (n ≡ length (program input))
    program-printed t n e =
        let k = printed-told input program_buffers out a.left out' r a.told t n e in
        (k.0 ∙ ap (λ (l : List ℕ). overwrite l out) (sym program-is), k.1 ∙ ap length (sym program-is))

-- the text is inside the buffer
pub inside : (text out out' : List ℕ) (n : ℕ) → out' ≡ overwrite text out → n ≡ length text → length out' ≡ 65536 → n ≤ 65536
inside text out out' n e l long = omega (arith, ap length e, length-append text (drop (length text) out))
