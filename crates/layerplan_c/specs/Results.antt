-- The numbers of an exported call's result.
-- Assumes nothing.
use Rattle.std.specs.Prelude.{ℕ, Result as Outcome}
use Rattle.calls.specs.Calls.{returned_of, plan_of, size_of}
use Rattle.planning.specs.declared.Totals.{Totals}
use Rattle.text.specs.declared.Refusal.{Refusal}
use Rattle.model.specs.Calls.{Returned}
use Rattle.layerplan_c.specs.declared.LayerplanResult.{LayerplanResult}

-- the five that both calls return
abbrev pub told_by : LayerplanResult → Returned
told_by r = record { number = r.number; line = r.line; vias = r.vias; total = r.total; maximum = r.maximum }

-- the result of a call: what it returned, and the length of its text, 0 where it has none
abbrev pub result_with : Returned → ℕ → LayerplanResult
result_with r n = record { number = r.number; line = r.line; vias = r.vias; total = r.total; maximum = r.maximum; length = n }

abbrev pub plan_result : Outcome Totals Refusal → LayerplanResult
plan_result p = result_with (returned_of p) 0

abbrev pub print_result : Outcome (Totals × ℕ) Refusal → LayerplanResult
print_result p = result_with (returned_of (plan_of p)) (size_of p)
