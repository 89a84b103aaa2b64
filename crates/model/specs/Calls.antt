-- What Plan and Print return, and what each lent buffer holds after the call. Document 01, "Two calls and their lent storage".
-- Assumes nothing.
use Rattle.std.specs.Prelude.{List, [], ◌∷◌, ◌++◌, ℕ, length, drop, replicate}
use Rattle.std.proofs.Math.Option.{none, some}
use Rattle.model.specs.Job.{Job}
use Rattle.model.specs.Overflow.{total_overflow, max_overflow}
use Rattle.model.specs.Plan.{plan, answered, total_vias}
use Rattle.model.specs.Print.{printed}
use Rattle.model.specs.Read.{Lent, Result, refused, found, read}
use Rattle.model.specs.Score.{Entry, order}

-- ---- what a text and lent lengths lead to

-- of an accepted job: its order list, the layers of each net's entries, "total vias, TO and MO of the layered plan", and its print
pub record Told : Type 0 where
  pub order : List Entry
  pub layers : List (List ℕ)
  pub vias : ℕ
  pub total : ℕ
  pub maximum : ℕ
  pub text : List ℕ

-- "a full plan or one numbered refusal with its line"
pub data Outcome : Type 0 where
  refusal : ℕ → ℕ → Outcome
  accepted : Told → Outcome

abbrev pub told_of : Job → List Entry → List (List ℕ) → Told
told_of j turns y = record {
  order = turns;
  layers = answered j.nets y;
  vias = total_vias j y;
  total = total_overflow j y;
  maximum = max_overflow j y;
  text = printed j turns y;
}

abbrev pub outcome_of : Result Job → Outcome
outcome_of (refused n l) = refusal n l
outcome_of (found j p) = accepted (told_of j (order j) (plan j))

unfoldable pub outcome : Lent → List ℕ → Outcome
outcome lent text = outcome_of (read lent text)

-- ---- what both calls return and write

-- "An accepted job returns 0, 0, total vias, TO and MO of the layered plan"
pub record Returned : Type 0 where
  pub number : ℕ
  pub line : ℕ
  pub vias : ℕ
  pub total : ℕ
  pub maximum : ℕ

-- "Both borrow": the working numbers, the order list, the answer list
pub record Buffers : Type 0 where
  pub working : List ℕ
  pub order : List Entry
  pub answer : List ℕ

-- "A refused one returns number, line and zeros"
abbrev pub returned_by : Outcome → Returned
returned_by (refusal n l) = record { number = n; line = l; vias = 0; total = 0; maximum = 0 }
returned_by (accepted t) = record { number = 0; line = 0; vias = t.vias; total = t.total; maximum = t.maximum }

-- "what lies beyond the needed part, and beyond the printed text, stays unchanged"
module _ {A : Type 0} where
  abbrev pub overwrite : List A → List A → List A
  overwrite new old = new ++ drop (length new) old

-- "After every call, refused or not, the whole buffer is zero."
abbrev pub cleared : List ℕ → List ℕ
cleared working = replicate (length working) 0

-- "Each net's layers stand in their own stretch of the answer list", "nets in job order"
abbrev pub stretches : List (List ℕ) → List ℕ
stretches [] = []
stretches (ys ∷ more) = ys ++ stretches more

-- "order list, answer list and print buffer are unchanged" by a refusal
abbrev pub left_by : Outcome → Buffers → Buffers
left_by (refusal n l) b = record { working = cleared b.working; order = b.order; answer = b.answer }
left_by (accepted t) b = record {
  working = cleared b.working;
  order = overwrite t.order b.order;
  answer = overwrite (stretches t.layers) b.answer;
}

-- ---- Plan

pub record Planned : Type 0 where
  pub returned : Returned
  pub buffers : Buffers

-- Plan borrows no print buffer
abbrev pub plan_lent : Buffers → Lent
plan_lent b = record { working = length b.working; order = length b.order; answer = length b.answer; print = none }

abbrev pub planned_by : Outcome → Buffers → Planned
planned_by o b = record { returned = returned_by o; buffers = left_by o b }

-- "Plan takes the text."
abbrev pub plan_call : List ℕ → Buffers → Planned
plan_call text b = planned_by (outcome (plan_lent b) text) b

-- ---- Print

pub record Printed : Type 0 where
  pub returned : Returned
  pub length : ℕ
  pub buffers : Buffers
  pub print : List ℕ

abbrev pub print_lent : Buffers → List ℕ → Lent
print_lent b out = record { working = length b.working; order = length b.order; answer = length b.answer; print = some (length out) }

-- the text that is printed: none for a refusal
abbrev pub text_by : Outcome → List ℕ
text_by (refusal n l) = []
text_by (accepted t) = t.text

-- "Print adds the length of its text", "The text fills its start."
abbrev pub printed_by : Outcome → Buffers → List ℕ → Printed
printed_by o b out = record { returned = returned_by o; length = length (text_by o); buffers = left_by o b; print = overwrite (text_by o) out }

-- "Print does the same and also writes the text below."
abbrev pub print_call : List ℕ → Buffers → List ℕ → Printed
print_call text b out = printed_by (outcome (print_lent b out) text) b out
