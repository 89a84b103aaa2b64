-- The result of a refusal, and what a result tells of the call whose answer it is made of.
-- Assumes nothing.
use Rattle.std.specs.Prelude.{Err, Result as Outcome}
use mathlib.Core.List.{List}
use mathlib.Core.Path.{◌≡◌, refl}
use Prim.Native.Nat.{ℕ}
use Rattle.calls.specs.Calls.{returned_of, plan_of, size_of}
use Rattle.planning.specs.declared.Totals.{Totals}
use Rattle.model.specs.Calls.{Buffers, plan_lent, plan_call, print_lent, print_call}
use Rattle.model.specs.Demand3.{Met}
use Rattle.model.specs.Job.{Job}
use Rattle.model.specs.Read.{Place, found, read}
use Rattle.text.specs.Refusals.{number_of, line_of}
use Rattle.text.specs.declared.Refusal.{Refusal}
use Rattle.layerplan_c.specs.Results.{told_by, plan_result, print_result}
use Rattle.layerplan_c.specs.declared.LayerplanResult.{LayerplanResult}

pub refused-with : (f : Refusal) (n l : ℕ) → n ≡ number_of f → l ≡ line_of f
    → ◌≡◌ {A = LayerplanResult} (record { number = n; line = l; vias = 0; total = 0; maximum = 0; length = 0 }) (plan_result (Err f))
refused-with f n l a b i = record { number = a i; line = b i; vias = 0; total = 0; maximum = 0; length = 0 }

pub plan-result-told : (s : List ℕ) (b b' : Buffers) (p : Outcome Totals Refusal) (r : LayerplanResult) → r ≡ plan_result p → record { returned = returned_of p; buffers = b' } ≡ plan_call s b
    → ((j : Job) (q : Place) → read (plan_lent b) s ≡ found j q → Met j (returned_of p) b')
    → (record { returned = told_by r; buffers = b' } ≡ plan_call s b) × ((r.length ≡ 0) × ((j : Job) (q : Place) → read (plan_lent b) s ≡ found j q → Met j (told_by r) b'))
plan-result-told s b b' p r r-is e d = rw r-is (e, (refl, d))

pub print-result-told : (s : List ℕ) (b b' : Buffers) (out out' : List ℕ) (p : Outcome (Totals × ℕ) Refusal) (r : LayerplanResult) → r ≡ print_result p
    → record { returned = returned_of (plan_of p); length = size_of p; buffers = b'; print = out' } ≡ print_call s b out
    → ((j : Job) (q : Place) → read (print_lent b out) s ≡ found j q → Met j (returned_of (plan_of p)) b')
    → (record { returned = told_by r; length = r.length; buffers = b'; print = out' } ≡ print_call s b out)
    × ((j : Job) (q : Place) → read (print_lent b out) s ≡ found j q → Met j (told_by r) b')
print-result-told s b b' out out' p r r-is e d = rw r-is (e, d)
