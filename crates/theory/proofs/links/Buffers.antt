-- The lent buffers after a call: for every text and every buffer each has the length that it had, and the print stands at the start of its buffer.
-- Assumes nothing.
use Rattle.std.specs.Prelude.{◌≡◌, refl, List, ℕ, ◌≤◌, length, take, drop, replicate}
use Rattle.std.proofs.Common.{ap, ◌∙◌, arith, leb→le, length-append, length-drop, take_at, drop_at}
use Rattle.std.proofs.lemmas.List.{length-replicate}
use Rattle.model.specs.Job.{Job, net_count, entry_count}
use Rattle.model.specs.Plan.{plan, answered}
use Rattle.model.specs.Print.{printed}
use Rattle.model.specs.Read.{Lent, Place, Result, refused, found, read, print_need}
use Rattle.model.specs.Score.{order}
use Rattle.model.specs.Calls.{Outcome, refusal, accepted as accepted-with, outcome_of, outcome, Buffers, overwrite, stretches, left_by, plan_lent, plan_call, print_lent, text_by, print_call}
use Rattle.theory.specs.links.Buffers.{SameLengths}
use Rattle.theory.specs.links.Reading.{accepted}
use Rattle.theory.proofs.links.Meets.{order-long}
use Rattle.theory.proofs.links.Room.{plan-long, print-room}

overwrite-length : {A : Type 0} (new old : List A) → length new ≤ length old → length (overwrite new old) ≡ length old
overwrite-length new old h = omega (arith, length-append new (drop (length new) old), length-drop (length new) old)

-- the order list and the answer list are as long as was said of them
left-lengths : (lent : Lent) (text : List ℕ) (b : Buffers) → lent.order ≡ length b.order → lent.answer ≡ length b.answer
    → SameLengths b (left_by (outcome lent text) b)
unfolding outcome
left-lengths lent text b o a = go (read lent text) refl
  where
    go : (r : Result Job) → read lent text ≡ r → SameLengths b (left_by (outcome_of r) b)
    go (refused n l) e = record { working = length-replicate (length b.working) 0; order = refl; answer = refl }
    go (found j p) e =
        let acc = accepted lent text j p e in
        record {
          working = length-replicate (length b.working) 0;
          order = overwrite-length (order j) b.order (omega (arith, order-long lent j acc, acc.order_fits));
          answer = overwrite-length (stretches (answered j.nets (plan j))) b.answer (omega (arith, plan-long lent j acc, acc.answer_fits));
        }

-- Plan keeps the lengths of its buffers
pub plan-lengths : (text : List ℕ) (b : Buffers) → SameLengths b (plan_call text b).buffers
plan-lengths text b = left-lengths (plan_lent b) text b refl refl

-- and so does Print
pub print-lengths : (text : List ℕ) (b : Buffers) (out : List ℕ) → SameLengths b (print_call text b out).buffers
print-lengths text b out = left-lengths (print_lent b out) text b refl refl

-- "After every call, refused or not, the whole buffer is zero."
left-zero : (o : Outcome) (b : Buffers) → (left_by o b).working ≡ replicate (length b.working) 0
left-zero (refusal n l) b = refl
left-zero (accepted-with t) b = refl

pub plan-zero : (text : List ℕ) (b : Buffers) → (plan_call text b).buffers.working ≡ replicate (length b.working) 0
plan-zero text b = left-zero (outcome (plan_lent b) text) b

pub print-zero : (text : List ℕ) (b : Buffers) (out : List ℕ) → (print_call text b out).buffers.working ≡ replicate (length b.working) 0
print-zero text b out = left-zero (outcome (print_lent b out) text) b

-- ---- the print

-- the printed text fits: "a print buffer of 256 + 64 × N + 2 × A bytes", for every accepted text
pub printed-fits : (lent : Lent) (text : List ℕ) (j : Job) (p : Place) → read lent text ≡ found j p
    → length (printed j (order j) (plan j)) ≤ print_need (net_count j) (entry_count j)
printed-fits lent text j p e = print-room lent j (accepted lent text j p e)

text-room : (text : List ℕ) (b : Buffers) (out : List ℕ) → length (text_by (outcome (print_lent b out) text)) ≤ length out
unfolding outcome
text-room text b out = go (read (print_lent b out) text) refl
  where
    go : (r : Result Job) → read (print_lent b out) text ≡ r → length (text_by (outcome_of r)) ≤ length out
    go (refused n l) e = omega arith
    go (found j p) e =
        omega (
          arith,
          printed-fits (print_lent b out) text j p e,
          leb→le (print_need (net_count j) (entry_count j)) (length out) (accepted (print_lent b out) text j p e).printed_fits,
        )

-- the print buffer keeps its length
pub print-length : (text : List ℕ) (b : Buffers) (out : List ℕ) → length (print_call text b out).print ≡ length out
print-length text b out = overwrite-length (text_by (outcome (print_lent b out) text)) out (text-room text b out)

-- "The text fills its start", and as much as the returned length says; "beyond the printed text" it "stays unchanged"
pub print-start : (text : List ℕ) (b : Buffers) (out : List ℕ) → take (print_call text b out).length (print_call text b out).print ≡ text_by (outcome (print_lent b out) text)
print-start text b out =
    let t = text_by (outcome (print_lent b out) text) in
    take_at t (drop (length t) out) (length t) refl

pub print-rest : (text : List ℕ) (b : Buffers) (out : List ℕ)
    → drop (print_call text b out).length (print_call text b out).print ≡ drop (print_call text b out).length out
print-rest text b out =
    let t = text_by (outcome (print_lent b out) text) in
    drop_at t (drop (length t) out) (length t) refl

-- of an accepted text it is the whole printed plan
pub print-whole : (text : List ℕ) (b : Buffers) (out : List ℕ) (j : Job) (p : Place) → read (print_lent b out) text ≡ found j p
    → take (print_call text b out).length (print_call text b out).print ≡ printed j (order j) (plan j)
unfolding outcome
print-whole text b out j p e = print-start text b out ∙ ap (λ (r : Result Job). text_by (outcome_of r)) e
