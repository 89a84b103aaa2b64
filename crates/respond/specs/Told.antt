-- What the program lends to Print, and what Print's answer says of the text that is to be written.
-- Assumes nothing.
use Rattle.std.specs.Prelude.{List, ◌≡◌, ℕ, ◌≤◌, replicate, Ok, Err, Result as Answer}
use Rattle.std.proofs.Math.Path.{refl, sym, ap}
use Rattle.std.proofs.Common.{ap₂, subst, arith}
use Rattle.std.proofs.Math.ListN.{length}
use Rattle.calls.specs.Calls.{buffers_of, returned_of, plan_of, size_of}
use Rattle.model.specs.Calls.{Outcome, refusal, outcome_of, outcome, Buffers, overwrite, Printed as PrintedBy, printed_by, print_lent, print_call}
use Rattle.model.specs.Job.{Job}
use Rattle.model.specs.Program.{written}
use Rattle.model.specs.Read.{Result, refused, found, read}
use Rattle.planning.specs.declared.Totals.{Totals}
use Rattle.sort.specs.Entries.{no_entry}
use Rattle.text.specs.Refusals.{number_of, line_of}
use Rattle.text.specs.declared.Fault.TheVariants.{Form, Range, Turn, PinTwice, EdgeTwice, Apart, Closed, NoLayer}
use Rattle.text.specs.declared.Refusal.{Refusal}
use Rattle.text.specs.declared.Refusal.TheVariants.{TooLong, Line, Working, Order, Short}
use Rattle.theory.proofs.links.Table.{number-range}

-- "It lends 16,384 working numbers, 4,096 order entries and 65,536 bytes each for answer and print", all of them zero
abbrev pub working : ℕ
working = 16_384

abbrev pub entries : ℕ
entries = 4_096

abbrev pub bytes : ℕ
bytes = 65_536

abbrev pub program_buffers : Buffers
program_buffers = buffers_of (replicate working 0) (replicate entries no_entry) (replicate bytes 0)

-- what Print returned and left, as its contract has it
abbrev pub answer : Answer (Totals × ℕ) Refusal → Buffers → List ℕ → PrintedBy
answer r left out' = record { returned = returned_of (plan_of r); length = size_of r; buffers = left; print = out' }

-- it is the definitions' answer to the text s, for what the program lends and the print buffer `out`
pub record Answered (s out out' : List ℕ) (r : Answer (Totals × ℕ) Refusal) : Type 0 where
  pub left : Buffers
  pub told : record { returned = returned_of (plan_of r); length = size_of r; buffers = left; print = out' } ≡ print_call s program_buffers out

-- no refusal has the number 0
some_number : (f : Refusal) → 1 ≤ number_of f
some_number TooLong = omega arith
some_number (Line Form l) = omega arith
some_number (Line Range l) = omega arith
some_number (Line Turn l) = omega arith
some_number (Line PinTwice l) = omega arith
some_number (Line EdgeTwice l) = omega arith
some_number (Line Apart l) = omega arith
some_number (Line Closed l) = omega arith
some_number (Line NoLayer l) = omega arith
some_number (Working l) = omega arith
some_number (Order l) = omega arith
some_number (Short l) = omega arith

module _ (s : List ℕ) (b : Buffers) (out : List ℕ) (left : Buffers) (out' : List ℕ) (r : Answer (Totals × ℕ) Refusal) (told : answer r left out' ≡ print_call s b out) where
  -- it refused the text
  pub refused-told : (f : Refusal) → r ≡ Err f → (outcome (print_lent b out) s ≡ refusal (number_of f) (line_of f)) × (out' ≡ out)
  unfolding outcome
  refused-told f e = go (read (print_lent b out) s) (subst (λ (x : Answer (Totals × ℕ) Refusal). answer x left out' ≡ printed_by (outcome_of (read (print_lent b out) s)) b out) e told)
    where
      go : (x : Result Job) → answer (Err f) left out' ≡ printed_by (outcome_of x) b out → (outcome_of x ≡ refusal (number_of f) (line_of f)) × (out' ≡ out)
      go (refused n l) k = (
        sym (ap₂ {C = Outcome} (λ x y. refusal x y) (ap (λ (p : PrintedBy). p.returned.number) k) (ap (λ (p : PrintedBy). p.returned.line) k)),
        ap (λ (p : PrintedBy). p.print) k,
      )
      go (found j p) k = absurd (omega (arith, some_number f, ap (λ (p : PrintedBy). p.returned.number) k))

  -- it wrote the print
  pub printed-told : (t : Totals) (size : ℕ) → r ≡ Ok (t, size)
      → (out' ≡ overwrite (written (outcome (print_lent b out) s)) out) × (size ≡ length (written (outcome (print_lent b out) s)))
  unfolding outcome
  printed-told t size e =
      go (read (print_lent b out) s) refl (subst (λ (x : Answer (Totals × ℕ) Refusal). answer x left out' ≡ printed_by (outcome_of (read (print_lent b out) s)) b out) e told)
    where
      go : (x : Result Job) → read (print_lent b out) s ≡ x → answer (Ok (t, size)) left out' ≡ printed_by (outcome_of x) b out
          → (out' ≡ overwrite (written (outcome_of x)) out) × (size ≡ length (written (outcome_of x)))
      go (refused m l) h k = absurd (omega (arith, number-range (print_lent b out) s m l h, ap (λ (p : PrintedBy). p.returned.number) k))
      go (found j p) h k = (ap (λ (p : PrintedBy). p.print) k, ap (λ (p : PrintedBy). p.length) k)
