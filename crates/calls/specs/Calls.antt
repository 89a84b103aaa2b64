-- What a call returns and what its lent storage holds, in the definitions' words. Beside `model` this is what a reader of the contracts must believe, with the entries of
-- `sort` (`order_of`) and the numbers of a refusal in `text` (`number_of`, `line_of`).
-- Assumes nothing.
use Rattle.std.specs.Prelude.{List, ℕ, Ok, Err, Result as Outcome}
use Rattle.model.specs.Calls.{Returned, Buffers}
use Rattle.planning.specs.declared.Totals.{Totals}
use Rattle.sort.specs.Entries.{order_of}
use Rattle.sort.specs.declared.Entry.{Entry}
use Rattle.text.specs.Refusals.{number_of, line_of}
use Rattle.text.specs.declared.Refusal.{Refusal}

-- what is lent to both calls
abbrev pub buffers_of : List ℕ → List Entry → List ℕ → Buffers
buffers_of work order answer = record { working = work; order = order_of order; answer = answer }

-- the five numbers of an answer: "number, line, total vias, total and maximum"
abbrev pub returned_of : Outcome Totals Refusal → Returned
returned_of (Ok t) = record { number = 0; line = 0; vias = t.vias; total = t.total; maximum = t.maximum }
returned_of (Err r) = record { number = number_of r; line = line_of r; vias = 0; total = 0; maximum = 0 }

-- what Print returns, without and with the length of its text: "A refused one returns number, line and zeros"
abbrev pub plan_of : Outcome (Totals × ℕ) Refusal → Outcome Totals Refusal
plan_of (Ok (t, size)) = Ok t
plan_of (Err r) = Err r

abbrev pub size_of : Outcome (Totals × ℕ) Refusal → ℕ
size_of (Ok (t, size)) = size
size_of (Err r) = 0
