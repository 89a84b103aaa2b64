-- The planning problem of a job: the definitions' flat plan and overflows are those of the problem, as they stand.
-- Assumes nothing.
use Rattle.std.specs.Prelude.{ℕ}
use Rattle.model.specs.Job.{Job, all_edges, group, layers_of, capacity, net_edges}
use Rattle.model.specs.Overflow.{limit}
use Rattle.theory.specs.congestion.Problem.{Problem}

abbrev pub problem : Job → Problem
problem j = record { edges = all_edges j; layers = layers_of j; cap = capacity j; nets = net_edges j }

-- the limit on one layer's overflow at an edge: that of its group
abbrev pub limit_at : Job → ℕ → ℕ
limit_at j e = limit j (group j e)
