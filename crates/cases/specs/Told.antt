-- Number and line of a text, as the definitions read it and as the reader answers.
-- Assumes nothing.
use Rattle.std.specs.Prelude.{Ok, Err, Result as Outcome}
use Rattle.head.specs.declared.Head.{Head}
use Rattle.model.specs.Job.{Job}
use Rattle.model.specs.Read.{Result, refused, found}
use Rattle.text.specs.Refusals.{number_of, line_of}
use Rattle.text.specs.declared.Refusal.{Refusal}
use Rattle.cases.specs.declared.Told.{Told}

-- "Returned: number, line"; an accepted job returns 0, 0
abbrev pub told_in : Result Job → Told
told_in (refused n l) = record { number = n; line = l }
told_in (found j p) = record { number = 0; line = 0 }

abbrev pub told_by : Outcome Head Refusal → Told
told_by (Ok h) = record { number = 0; line = 0 }
told_by (Err r) = record { number = number_of r; line = line_of r }
