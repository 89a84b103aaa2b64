-- Rows for document 02, S-6: rings cut instead of refused.
-- Assumes nothing.
use Rattle.std.specs.Prelude.{List, [], ◌∷◌, map, ℕ}
use Rattle.std.proofs.Math.Option.{none, some}
use Prim.Native.String.{String, ◌++◌ as ◌then◌}
use Rattle.model.specs.Calls.{Outcome, refusal}
use Rattle.model.specs.Cut.{cut}
use Rattle.model.specs.Demand3.{plan_in}
use Rattle.model.specs.Directives.{wanting, ldof}
use Rattle.model.specs.Job.{Pin, Net, Job, net_of, net_edges, net_entries, entry_count}
use Rattle.model.specs.Overflow.{flat_demand, TO, MO}
use Rattle.model.specs.Plan.{plan, answered, total_vias}
use Rattle.model.specs.Rows.Bench.{shows, row}
use Rattle.model.specs.Rows.Row.{Row, ◌gives◌}
use Rattle.model.specs.Score.{score}
use Rattle.model.specs.Walk.{net_tiles, walk}

-- ---- the edges that a net keeps

-- W = 3, H = 2: the east edges are 0, 1 below and 2, 3 above, the north edges 4, 5, 6. The left square is 0, 5, 2, 4, the right one 1, 6, 3, 5. The
-- entries es of a net with pins in these tiles.
abbrev pins_in : List ℕ → List Pin
pins_in ts = map (λ t. record { tile = t; layer = 1 }) ts

abbrev keeps : List ℕ → List ℕ → List ℕ
keeps ts es = cut 3 2 (pins_in ts) es

abbrev pub cut_rows : List (Row (List ℕ))
cut_rows =
    -- "an edge that closes a ring with kept earlier ones is dropped": the last of the ring along the line, whichever that is
    (keeps (0 ∷ 1 ∷ 3 ∷ 4 ∷ []) (0 ∷ 5 ∷ 2 ∷ 4 ∷ []) gives 0 ∷ 5 ∷ 2 ∷ []) ∷ (keeps (0 ∷ 1 ∷ 3 ∷ 4 ∷ []) (4 ∷ 2 ∷ 5 ∷ 0 ∷ []) gives 4 ∷ 2 ∷ 5 ∷ [])
    ∷ (keeps (0 ∷ 1 ∷ 2 ∷ 3 ∷ 4 ∷ []) (0 ∷ 5 ∷ 2 ∷ 4 ∷ 1 ∷ []) gives 0 ∷ 5 ∷ 2 ∷ 1 ∷ [])
    ∷ (keeps (0 ∷ 1 ∷ 2 ∷ 3 ∷ 4 ∷ []) (1 ∷ 4 ∷ 2 ∷ 0 ∷ 5 ∷ []) gives 1 ∷ 4 ∷ 2 ∷ 0 ∷ [])
    -- two rings that share an edge
    ∷ (keeps (0 ∷ 1 ∷ 2 ∷ 3 ∷ 4 ∷ 5 ∷ []) (0 ∷ 4 ∷ 2 ∷ 5 ∷ 1 ∷ 6 ∷ 3 ∷ []) gives 0 ∷ 4 ∷ 2 ∷ 1 ∷ 6 ∷ [])
    ∷ (keeps (0 ∷ 1 ∷ 2 ∷ 3 ∷ 4 ∷ 5 ∷ []) (5 ∷ 4 ∷ 2 ∷ 0 ∷ 1 ∷ 6 ∷ 3 ∷ []) gives 5 ∷ 4 ∷ 2 ∷ 1 ∷ 6 ∷ [])
    -- "In a net that lost an edge so, a tile with one kept edge and no pin then loses that edge, until none is left to lose."
    ∷ (keeps (0 ∷ 4 ∷ []) (0 ∷ 5 ∷ 2 ∷ 4 ∷ []) gives 0 ∷ 5 ∷ []) ∷ (keeps (0 ∷ 4 ∷ []) (4 ∷ 2 ∷ 5 ∷ 0 ∷ []) gives 4 ∷ 2 ∷ [])
    ∷ (keeps (3 ∷ 2 ∷ []) (0 ∷ 4 ∷ 2 ∷ 5 ∷ 1 ∷ 6 ∷ 3 ∷ []) gives 0 ∷ 4 ∷ 1 ∷ [])
    -- a net with one pin that is a ring loses all
    ∷ (keeps (0 ∷ []) (0 ∷ 5 ∷ 2 ∷ 4 ∷ []) gives [])
    -- a tail without a pin goes, and stays in a net without a ring; one with a pin in its middle goes as far as the pin
    ∷ (keeps (0 ∷ 4 ∷ []) (0 ∷ 5 ∷ 2 ∷ 4 ∷ 1 ∷ 6 ∷ []) gives 0 ∷ 5 ∷ []) ∷ (keeps (0 ∷ 4 ∷ []) (0 ∷ 5 ∷ 1 ∷ 6 ∷ []) gives 0 ∷ 5 ∷ 1 ∷ 6 ∷ [])
    ∷ (keeps (0 ∷ 2 ∷ []) (0 ∷ 5 ∷ 2 ∷ 4 ∷ 1 ∷ 6 ∷ []) gives 0 ∷ 1 ∷ []) ∷ (keeps (0 ∷ []) [] gives []) ∷ []

-- ---- what is taken after the cut, and what over the entries

abbrev net_over : List ℕ → List ℕ → Net
net_over ts es = record { low = none; pins = pins_in ts; entries = es; edges = keeps ts es }

-- a ring with two pins, of which one edge is kept, and a net of one edge of that ring; one track to an edge
abbrev pub ringed : Job
ringed = record {
  width = 3;
  height = 2;
  layers = 2;
  dirs = none;
  alpha = 1;
  beta = 1;
  gamma = 1;
  capacities = (1 ∷ 1 ∷ 1 ∷ 1 ∷ 1 ∷ 1 ∷ 1 ∷ []) ∷ (0 ∷ 0 ∷ 0 ∷ 0 ∷ 0 ∷ 0 ∷ 0 ∷ []) ∷ [];
  nets = net_over (4 ∷ 3 ∷ []) (0 ∷ 2 ∷ 5 ∷ 4 ∷ []) ∷ net_over (0 ∷ 3 ∷ []) (4 ∷ []) ∷ [];
}

-- the same with a line `low` of the first net
abbrev ringed_low : ℕ → Job
ringed_low l = record {
  width = 3;
  height = 2;
  layers = 2;
  dirs = none;
  alpha = 1;
  beta = 1;
  gamma = 1;
  capacities = ringed.capacities;
  nets = record { low = some l; pins = pins_in (4 ∷ 3 ∷ []); entries = 0 ∷ 2 ∷ 5 ∷ 4 ∷ []; edges = 2 ∷ [] } ∷ net_over (0 ∷ 3 ∷ []) (4 ∷ []) ∷ [];
}

abbrev pub ringed_rows : List (Row ℕ)
ringed_rows =
    -- "Demand, overflow, score, directives and vias are all taken after the cut"
    (flat_demand ringed 0 gives 0) ∷ (flat_demand ringed 2 gives 1) ∷ (flat_demand ringed 4 gives 1) ∷ (flat_demand ringed 5 gives 0) ∷ (TO ringed gives 0)
    ∷ (MO ringed gives 0) ∷ (score ringed (net_of ringed 1) gives 4000) ∷ (score ringed (net_of ringed 2) gives 4000) ∷ (wanting (ringed_low 2) 2 2 gives 1)
    ∷ (wanting (ringed_low 2) 5 2 gives 0) ∷ (ldof (ringed_low 2) gives 1) ∷ (total_vias ringed ((2 ∷ []) ∷ (1 ∷ []) ∷ []) gives 2)
    -- "A being the number of entries on all `edges` lines": dropped ones included
    ∷ (entry_count ringed gives 5) ∷ []

abbrev pub ringed_list_rows : List (Row (List (List ℕ)))
ringed_list_rows =
    (net_edges ringed gives (2 ∷ []) ∷ (4 ∷ []) ∷ []) ∷ (net_entries ringed gives (0 ∷ 2 ∷ 5 ∷ 4 ∷ []) ∷ (4 ∷ []) ∷ [])
    -- the walk begins at the lowest tile that is left
    ∷ (walk ringed (net_of ringed 1) ∷ [] gives (2 ∷ []) ∷ []) ∷ (net_tiles ringed (net_of ringed 1) ∷ [] gives (4 ∷ 3 ∷ 3 ∷ 4 ∷ []) ∷ [])
    -- "Dropped edges get layer 0 in list and print."
    ∷ (plan ringed gives (1 ∷ []) ∷ (1 ∷ []) ∷ []) ∷ (answered ringed.nets (plan ringed) gives (0 ∷ 1 ∷ 0 ∷ 0 ∷ []) ∷ (1 ∷ []) ∷ [])
    ∷ (answered ringed.nets ((2 ∷ []) ∷ (1 ∷ []) ∷ []) gives (0 ∷ 2 ∷ 0 ∷ 0 ∷ []) ∷ (1 ∷ []) ∷ [])
    -- "The plan is the layering in the answer list": of the edges that are kept
    ∷ (plan_in ringed (0 ∷ 2 ∷ 0 ∷ 0 ∷ 1 ∷ 9 ∷ []) gives (2 ∷ []) ∷ (1 ∷ []) ∷ []) ∷ (plan_in ringed (8 ∷ 2 ∷ 7 ∷ 6 ∷ 1 ∷ 9 ∷ []) gives (2 ∷ []) ∷ (1 ∷ []) ∷ []) ∷ []

-- ---- whole jobs

abbrev head : String → String
head count = "width=3\nheight=2\nlayers=2\nalpha=1\nbeta=1\ngamma=0\neast=1,1,1,1\nnorth=1,1,1\neast=0,0,0,0\nnorth=0,0,0\nnets=" then count then "\n"

abbrev one : String → String → String
one pins edges = head "1" then "net=1\npins=" then pins then "\nedges=" then edges then "\n"

abbrev pub ring_rows : List (Row Outcome)
ring_rows =
    -- a ring with one pin: "A net without edges has one tile"
    row (one "0,0,1;0,0,2" "0,0,e;1,0,n;0,1,e;0,0,n")
    (shows ((1, 2000) ∷ []) ((0 ∷ 0 ∷ 0 ∷ 0 ∷ []) ∷ []) 1 0 0 "order=1\nnet=1\nvias=1\nlayers=0,0,0,0\ntotal_vias=1\ntotal_overflow=0\nmax_overflow=0\n")
    -- a ring and a tail, both nets with the same tail: the net without a ring keeps it, and finds no other on it
    ∷ row (head "2" then "net=1\npins=0,0,1;1,1,1\nedges=0,0,e;1,0,n;0,1,e;0,0,n;1,0,e\n" then "net=2\npins=1,0,1;1,0,2\nedges=1,0,e\n")
    (shows ((1, 2500) ∷ (2, 2000) ∷ []) ((1 ∷ 1 ∷ 0 ∷ 0 ∷ 0 ∷ []) ∷ (1 ∷ []) ∷ []) 1 0 0
    ("order=1,2\nnet=1\nvias=0\nlayers=1,1,0,0,0\nnet=2\nvias=1\nlayers=1\n" then "total_vias=1\ntotal_overflow=0\nmax_overflow=0\n"))
    -- 6 where the second would close a ring; 8 with a ring
    ∷ row (one "0,0,1" "0,0,e;1,0,n;0,1,e;0,0,n;0,0,n") (refusal 6 14) ∷ row (one "0,0,1;2,0,1" "0,0,e;1,0,n;0,1,e;0,0,n") (refusal 8 14)
    -- an edge that is far off is not dropped, but refused
    ∷ row (one "0,0,1" "0,0,e;1,0,n;0,1,e;0,0,n;2,0,n") (refusal 8 14) ∷ []
