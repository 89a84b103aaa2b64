-- Rows for layers with a preferred direction. Document 02, S-2.
-- Assumes nothing.
use Rattle.std.specs.Prelude.{List, [], ◌∷◌, ◌++◌, map, ℕ, ◌+◌, ◌-◌, ◌≤◌, take, drop, set}
use Rattle.std.proofs.Math.Option.{Option, none, some}
use Prim.Native.String.{String, ◌++◌ as ◌then◌}
use Rattle.model.specs.Calls.{Outcome, refusal}
use Rattle.model.specs.Job.{Pin, Net, Job, group, layers_in, layers_of, edges_in}
use Rattle.model.specs.Layering.{IsChoice}
use Rattle.model.specs.Lists.{up_from}
use Rattle.model.specs.Overflow.{TO, MO, group_most, limit, total_overflow, max_overflow, peak}
use Rattle.model.specs.Plan.{legal, plan}
use Rattle.model.specs.Read.{Lent, Result, found, read}
use Rattle.model.specs.Rows.Bench.{shows, row}
use Rattle.model.specs.Rows.Row.{Row, ◌gives◌, text_of, lent, verdict, sample_lent}
use Rattle.model.specs.Text.{bytes}

-- ---- the lines

-- The sample with the line `dirs`, 18 lines: layer 1 runs east, layer 2 north. It needs what the sample needs.
abbrev directed : List String
directed =
    "width=3" ∷ "height=2" ∷ "layers=2" ∷ "dirs=h,v" ∷ "alpha=1" ∷ "beta=1" ∷ "gamma=0"
    ∷ "east=1,1,1,1" ∷ "north=0,0,0" ∷ "east=0,0,0,0" ∷ "north=1,1,1" ∷ "nets=2"
    ∷ "net=1" ∷ "pins=0,0,1;2,1,2" ∷ "edges=0,0,e;1,0,e;2,0,n"
    ∷ "net=2" ∷ "pins=0,0,1;0,1,1" ∷ "edges=0,0,n" ∷ []

abbrev enough : Lent
enough = sample_lent (some 392)

-- one working number less than needed
abbrev short : Lent
short = lent 233 2 4 (some 392)

-- with another line n; and with no line after it
abbrev at : ℕ → String → ℕ × ℕ
at n l = verdict enough (text_of (set directed (n - 1) l))

abbrev up_to : ℕ → String → ℕ × ℕ
up_to n l = verdict enough (text_of (take (n - 1) directed ++ (l ∷ [])))

abbrev missing : ℕ → Row (ℕ × ℕ)
missing n = verdict enough (text_of (take (n - 1) directed)) gives (2, n)

abbrev doubled : ℕ → Row (ℕ × ℕ)
doubled n = verdict enough (text_of (take n directed ++ drop (n - 1) directed)) gives (2, n + 1)

-- this line in the place of `dirs`, with enough lent and with too little
abbrev dirs : String → ℕ × ℕ → ℕ × ℕ → List (Row (ℕ × ℕ))
dirs l a b = (at 4 l gives a) ∷ (verdict short (text_of (set directed 3 l)) gives b) ∷ []

abbrev pub dirs_rows : List (Row (ℕ × ℕ))
dirs_rows =
    -- "A line `dirs` may stand right after `layers`"; "Check 9 follows line 4, and gives 4 as its line, where line 4 begins `dirs=`"
    dirs "dirs=h,v" (0, 0) (9, 4)
    -- "with K letters `h` or `v`, comma between": anything else is 2, and found before 9
    ++ dirs "dirs=" (2, 4) (2, 4)
    ++ dirs "dirs=h" (2, 4) (2, 4)
    ++ dirs "dirs=h,v,h" (2, 4) (2, 4)
    ++ dirs "dirs=h;v" (2, 4) (2, 4)
    ++ dirs "dirs=H,v" (2, 4) (2, 4)
    ++ dirs "dirs=hv" (2, 4) (2, 4)
    ++ dirs "dirs=h,v," (2, 4) (2, 4)
    ++ dirs "dirs=,h" (2, 4) (2, 4)
    ++ dirs "dirs=h,,v" (2, 4) (2, 4)
    ++ dirs "dirs=h, v" (2, 4) (2, 4)
    ++ dirs "dirs=0,1" (2, 4) (2, 4)
    ++ dirs "dirs=e,n" (2, 4) (2, 4)
    ++ dirs "dirs=hh,v" (2, 4) (2, 4)
    -- it is there only where line 4 begins `dirs=`: here 9 is found after line 3, and else a line `alpha` is missed
    ++ dirs "dirs" (2, 4) (9, 3)
    ++ dirs "dirs h,v" (2, 4) (9, 3)
    ++ dirs " dirs=h,v" (2, 4) (9, 3)
    ++ dirs "Dirs=h,v" (2, 4) (9, 3)
    ++ dirs "dir=h,v" (2, 4) (9, 3)
    -- left out, and the same text without it
    ++ (verdict enough (text_of (take 3 directed ++ drop 4 directed)) gives (0, 0))
    ∷ (verdict short (text_of (take 3 directed ++ drop 4 directed)) gives (9, 3))
    -- no byte 10 ends it
    ∷ (verdict enough (text_of (take 3 directed) ++ bytes "dirs=h,v") gives (2, 4))
    ∷ (verdict short (text_of (take 3 directed) ++ bytes "dirs=h,v") gives (2, 4))
    -- 9 before a fault of line 5
    ∷ (verdict short (text_of (take 4 directed)) gives (9, 4)) ∷ []

-- all line numbers after `layers` move by one
abbrev pub directed_line_rows : List (Row (ℕ × ℕ))
directed_line_rows =
    map missing (up_from 1 18)
    ++ map doubled (up_from 1 18)
    ++ (verdict enough (text_of directed ++ bytes "x") gives (2, 19))
    ∷ (verdict (lent 234 1 4 (some 392)) (text_of directed) gives (10, 12))
    ∷ (verdict (lent 234 2 3 (some 392)) (text_of directed) gives (11, 18))
    ∷ (verdict (lent 234 2 4 (some 391)) (text_of directed) gives (11, 18))
    ∷ (verdict (lent 234 2 4 none) (text_of directed) gives (0, 0)) ∷ []

-- "12, on a capacity line, after 3, a nonzero capacity on a layer that runs the other way"
abbrev pub twelve_rows : List (Row (ℕ × ℕ))
twelve_rows =
    (at 9 "north=0,0,1" gives (12, 9)) ∷ (at 9 "north=1,0,0" gives (12, 9)) ∷ (at 10 "east=0,0,0,255" gives (12, 10)) ∷ (at 10 "east=7,0,0,0" gives (12, 10))
    -- 2 and 3 are found before it, whatever stands first on the line
    ∷ (up_to 9 "north=1,1" gives (2, 9)) ∷ (up_to 9 "north=1,x,1" gives (2, 9)) ∷ (up_to 9 "north=1,0,65536" gives (3, 9)) ∷ (up_to 10 "east=1,1,1,70000" gives (3, 10))
    -- the line before decides
    ∷ (verdict enough (text_of (set (set directed 8 "north=0,1,0") 9 "east=0,0,0,65536")) gives (12, 9))
    -- on a layer that runs the edges' way any capacity will do
    ∷ (at 8 "east=0,255,0,7" gives (0, 0)) ∷ (at 11 "north=255,0,9" gives (0, 0))
    -- the other way round
    ∷ (at 4 "dirs=v,h" gives (12, 8)) ∷ []

-- One layer for each direction is not needed: layers that all run east. Line 12 is `nets`.
abbrev eastward : List String → List String
eastward ls =
    "width=3" ∷ "height=2" ∷ "layers=2" ∷ "dirs=h,h" ∷ "alpha=1" ∷ "beta=1" ∷ "gamma=0"
    ∷ "east=1,1,1,1" ∷ "north=0,0,0" ∷ "east=1,1,1,1" ∷ "north=0,0,0" ∷ ls

abbrev one_net : String → String → List String
one_net pins edges = eastward ("nets=1" ∷ "net=1" ∷ pins ∷ edges ∷ [])

abbrev on : Lent → List String → ℕ × ℕ
on l text = verdict l (text_of text)

-- "13, on an `edges` line, after 8 and before 11, an edge whose direction has no layer"
abbrev pub thirteen_rows : List (Row (ℕ × ℕ))
thirteen_rows =
    (on enough (one_net "pins=0,0,1;1,0,2" "edges=0,0,e") gives (0, 0)) ∷ (on enough (one_net "pins=0,0,1" "edges=") gives (0, 0))
    ∷ (on enough (one_net "pins=0,0,1;0,1,1" "edges=0,0,n") gives (13, 15)) ∷ (on enough (one_net "pins=0,0,1" "edges=0,0,e;1,0,n") gives (13, 15))
    -- 3, 6 and 8 before it; and it is judged before rings are cut
    ∷ (on enough (one_net "pins=0,0,1" "edges=0,0,n;0,1,n") gives (3, 15)) ∷ (on enough (one_net "pins=0,0,1" "edges=0,0,n;0,0,n") gives (6, 15))
    ∷ (on enough (one_net "pins=0,0,1" "edges=0,0,n;0,0,e;1,0,n;0,1,e") gives (13, 15)) ∷ (on enough (one_net "pins=0,0,1;2,0,1" "edges=0,0,n") gives (8, 15))
    -- before 11, also on the last line; and before what stands on a later line
    ∷ (on (lent 234 1 0 none) (one_net "pins=0,0,1" "edges=0,0,n") gives (13, 15)) ∷ (on (lent 234 1 0 none) (one_net "pins=0,0,1" "edges=0,0,e") gives (11, 15))
    ∷ (on enough (eastward ("nets=2" ∷ "net=1" ∷ "pins=0,0,1" ∷ "edges=0,0,n" ∷ "net=7" ∷ [])) gives (13, 15))
    ∷ (on enough (eastward ("nets=2" ∷ "net=1" ∷ "pins=0,0,1" ∷ "edges=0,0,e" ∷ "net=2" ∷ "pins=0,0,1" ∷ "edges=0,0,n" ∷ [])) gives (13, 18))
    -- 4 on the line of a net before it
    ∷ (on enough (eastward ("nets=1" ∷ "net=2" ∷ "pins=0,0,1" ∷ "edges=0,0,n" ∷ [])) gives (4, 13))
    -- W = 1 with layers that all run north: the empty `east` lists hold nothing that is not 0
    ∷ (on (lent 70 1 1 none)
    ("width=1" ∷ "height=2" ∷ "layers=2" ∷ "dirs=v,v" ∷ "alpha=1" ∷ "beta=1" ∷ "gamma=0" ∷ "east=" ∷ "north=1" ∷ "east=" ∷ "north=255" ∷ "nets=1" ∷ "net=1"
    ∷ "pins=0,0,1;0,1,2" ∷ "edges=0,0,n" ∷ [])
    gives (0, 0))
    -- and a layer that is closed to the only edges there are
    ∷ (on (lent 70 1 1 none)
    ("width=1" ∷ "height=2" ∷ "layers=2" ∷ "dirs=h,v" ∷ "alpha=1" ∷ "beta=1" ∷ "gamma=0" ∷ "east=" ∷ "north=1" ∷ "east=" ∷ "north=1" ∷ "nets=0" ∷ [])
    gives (12, 9)) ∷ []

-- ---- what is read

abbrev pin : ℕ → ℕ → Pin
pin t l = record { tile = t; layer = l }

abbrev net_with : List Pin → List ℕ → Net
net_with ps es = record { low = none; pins = ps; entries = es; edges = es }

abbrev job_with : ℕ → ℕ → ℕ → Option (List ℕ) → List (List ℕ) → List Net → Job
job_with W H K ds cs ns = record { width = W; height = H; layers = K; dirs = ds; alpha = 1; beta = 1; gamma = 0; capacities = cs; nets = ns }

abbrev pub directed_read_rows : List (Row (Result Job))
directed_read_rows =
    (read enough (text_of directed)
    gives found
    (job_with 3 2 2 (some (0 ∷ 1 ∷ [])) ((1 ∷ 1 ∷ 1 ∷ 1 ∷ 0 ∷ 0 ∷ 0 ∷ []) ∷ (0 ∷ 0 ∷ 0 ∷ 0 ∷ 1 ∷ 1 ∷ 1 ∷ []) ∷ [])
    (net_with (pin 0 1 ∷ pin 5 2 ∷ []) (0 ∷ 1 ∷ 6 ∷ []) ∷ net_with (pin 0 1 ∷ pin 3 1 ∷ []) (4 ∷ []) ∷ []))
    (record { line = 18; rest = [] })) ∷ []

-- ---- groups, layers, limits

-- W = 2, H = 2, `h,h,v`, no capacity; two nets go east along edge 0, five go north along edge 2
abbrev crossed : Option (List ℕ) → Job
crossed ds =
    job_with 2 2 3 ds ((0 ∷ 0 ∷ 0 ∷ 0 ∷ []) ∷ (0 ∷ 0 ∷ 0 ∷ 0 ∷ []) ∷ (0 ∷ 0 ∷ 0 ∷ 0 ∷ []) ∷ [])
    (net_with (pin 0 1 ∷ []) (0 ∷ []) ∷ net_with (pin 0 1 ∷ []) (0 ∷ []) ∷ net_with (pin 0 1 ∷ []) (2 ∷ []) ∷ net_with (pin 0 1 ∷ []) (2 ∷ [])
    ∷ net_with (pin 0 1 ∷ []) (2 ∷ []) ∷ net_with (pin 0 1 ∷ []) (2 ∷ []) ∷ net_with (pin 0 1 ∷ []) (2 ∷ []) ∷ [])

abbrev hhv : Job
hhv = crossed (some (0 ∷ 0 ∷ 1 ∷ []))

abbrev plainly : Job
plainly = crossed none

abbrev spread : List (List ℕ)
spread = (1 ∷ []) ∷ (2 ∷ []) ∷ (3 ∷ []) ∷ (3 ∷ []) ∷ (3 ∷ []) ∷ (3 ∷ []) ∷ (3 ∷ []) ∷ []

-- `v,v,h`; two nets go east along edge 0 and north along edge 2: 1 is allowed on a layer going north, 2 going east
abbrev pub turning : Job
turning =
    job_with 2 2 3 (some (1 ∷ 1 ∷ 0 ∷ [])) ((0 ∷ 0 ∷ 0 ∷ 0 ∷ []) ∷ (0 ∷ 0 ∷ 0 ∷ 0 ∷ []) ∷ (0 ∷ 0 ∷ 0 ∷ 0 ∷ []) ∷ [])
    (net_with (pin 0 1 ∷ []) (0 ∷ 2 ∷ []) ∷ net_with (pin 0 1 ∷ []) (0 ∷ 2 ∷ []) ∷ [])

abbrev pub group_rows : List (Row (List ℕ))
group_rows =
    -- "East edges may then use only `h` layers, north edges only `v` layers."
    (layers_in hhv 0 gives 1 ∷ 2 ∷ []) ∷ (layers_in hhv 1 gives 3 ∷ []) ∷ (layers_of hhv 0 gives 1 ∷ 2 ∷ []) ∷ (layers_of hhv 1 gives 1 ∷ 2 ∷ [])
    ∷ (layers_of hhv 2 gives 3 ∷ []) ∷ (layers_of hhv 3 gives 3 ∷ []) ∷ (edges_in hhv 0 gives 0 ∷ 1 ∷ []) ∷ (edges_in hhv 1 gives 2 ∷ 3 ∷ [])
    -- without the line all edges are one group, and each may use all layers
    ∷ (layers_in plainly 0 gives 1 ∷ 2 ∷ 3 ∷ []) ∷ (layers_of plainly 3 gives 1 ∷ 2 ∷ 3 ∷ []) ∷ (edges_in plainly 0 gives 0 ∷ 1 ∷ 2 ∷ 3 ∷ [])
    ∷ (edges_in plainly 1 gives [])
    -- the legal layers: a layer that runs the other way is never one of them, whatever its capacity and however much overflow is left
    ∷ (legal hhv ([] ∷ [] ∷ [] ∷ [] ∷ [] ∷ [] ∷ [] ∷ []) 0 gives 1 ∷ 2 ∷ []) ∷ (legal hhv ((1 ∷ []) ∷ [] ∷ [] ∷ [] ∷ [] ∷ [] ∷ [] ∷ []) 0 gives 2 ∷ [])
    ∷ (legal hhv ([] ∷ [] ∷ (3 ∷ []) ∷ (3 ∷ []) ∷ [] ∷ [] ∷ [] ∷ []) 2 gives 3 ∷ []) ∷ (legal plainly ([] ∷ [] ∷ [] ∷ [] ∷ [] ∷ [] ∷ [] ∷ []) 2 gives 1 ∷ 2 ∷ 3 ∷ [])
    ∷ (legal (job_with 2 1 3 (some (0 ∷ 1 ∷ 0 ∷ [])) ((0 ∷ []) ∷ (0 ∷ []) ∷ (0 ∷ []) ∷ []) (net_with (pin 0 2 ∷ []) (0 ∷ []) ∷ [])) ([] ∷ []) 0 gives 1 ∷ 3 ∷ []) ∷ []

abbrev pub limit_rows : List (Row ℕ)
limit_rows =
    -- "for each direction, the largest flat overflow among edges of that direction divided by the number of its layers, rounded up": a large overflow of
    -- the north edges does not lift the limit of the east edges
    (MO hhv gives 5) ∷ (TO hhv gives 7) ∷ (group_most hhv 0 gives 2) ∷ (group_most hhv 1 gives 5) ∷ (limit hhv 0 gives 1) ∷ (limit hhv 1 gives 5)
    ∷ (limit plainly 0 gives 2) ∷ (limit plainly 1 gives 0)
    -- "and 0 where it has no edge or no layer"
    ∷ (limit (job_with 2 1 2 (some (0 ∷ 0 ∷ [])) ((0 ∷ []) ∷ (0 ∷ []) ∷ []) (net_with (pin 0 1 ∷ []) (0 ∷ []) ∷ [])) 0 gives 1)
    ∷ (limit (job_with 2 1 2 (some (0 ∷ 0 ∷ [])) ((0 ∷ []) ∷ (0 ∷ []) ∷ []) (net_with (pin 0 1 ∷ []) (0 ∷ []) ∷ [])) 1 gives 0)
    ∷ (limit (job_with 2 1 2 (some (1 ∷ 1 ∷ [])) ((0 ∷ []) ∷ (0 ∷ []) ∷ []) []) 0 gives 0)
    -- "one maximum per direction"; the returned maximum is the largest over all
    ∷ (group hhv 1 gives 0) ∷ (group hhv 2 gives 1) ∷ (peak hhv spread 0 gives 1) ∷ (peak hhv spread 1 gives 5) ∷ (max_overflow hhv spread gives 5)
    ∷ (total_overflow hhv spread gives 7) ∷ (peak plainly spread 0 gives 5) ∷ (peak plainly spread 1 gives 0) ∷ []

abbrev pub directed_plan_rows : List (Row (List (List ℕ)))
directed_plan_rows = (plan hhv gives spread) ∷ []

-- "choices and layerings go along the allowed layers only"
abbrev pub allowed_rows : List (Row (Type 0))
allowed_rows =
    (IsChoice (layers_of hhv) (0 ∷ []) (3 ∷ []) gives ((1 ≤ 0) × Unit {0})) ∷ (IsChoice (layers_of hhv) (0 ∷ []) (2 ∷ []) gives ((1 ≤ 1) × Unit {0}))
    ∷ (IsChoice (layers_of hhv) (2 ∷ []) (2 ∷ []) gives ((1 ≤ 0) × Unit {0})) ∷ (IsChoice (layers_of hhv) (2 ∷ []) (3 ∷ []) gives ((1 ≤ 1) × Unit {0})) ∷ []

-- ---- whole jobs

-- W = 2, H = 1, K = 2, `h,v`, no capacity, each net with a pin in both tiles on layer 2: capacity 0 does not close a layer, the direction does
abbrev lying : String → String
lying count = "width=2\nheight=1\nlayers=2\ndirs=h,v\nalpha=1\nbeta=1\ngamma=0\neast=0\nnorth=\neast=0\nnorth=\nnets=" then count then "\n"

abbrev net : String → String
net i = "net=" then i then "\npins=0,0,2;1,0,2\nedges=0,0,e\n"

-- K = 4, `h,v,h,v`, W = H = 2: halves. Three nets go round the corner, east edge 0 and north edge 3 without capacity: MO is 3, and the overall maximum is
-- 3 × 2/4 rounded up
abbrev corner : String → String
corner i = "net=" then i then "\npins=0,0,1;1,1,1\nedges=0,0,e;1,0,n\n"

abbrev pub directed_rows : List (Row Outcome)
directed_rows =
    row (lying "1" then net "1")
    (shows ((1, 3000) ∷ []) ((1 ∷ []) ∷ []) 2 1 1 "order=1\nnet=1\nvias=2\nlayers=1\ntotal_vias=2\ntotal_overflow=1\nmax_overflow=1\n")
    ∷ row (lying "2" then net "1" then net "2")
    (shows ((1, 3000) ∷ (2, 3000) ∷ []) ((1 ∷ []) ∷ (1 ∷ []) ∷ []) 4 2 2
    "order=1,2\nnet=1\nvias=2\nlayers=1\nnet=2\nvias=2\nlayers=1\ntotal_vias=4\ntotal_overflow=2\nmax_overflow=2\n")
    ∷ row
    ("width=2\nheight=2\nlayers=4\ndirs=h,v,h,v\nalpha=1\nbeta=1\ngamma=0\neast=0,0\nnorth=0,0\neast=0,0\nnorth=0,0\neast=0,0\nnorth=0,0\neast=0,0\nnorth=0,0\nnets=3\n"
    then corner "1" then corner "2" then corner "3")
    (shows ((1, 2500) ∷ (2, 2500) ∷ (3, 2500) ∷ []) ((1 ∷ 2 ∷ []) ∷ (1 ∷ 2 ∷ []) ∷ (3 ∷ 4 ∷ []) ∷ []) 10 6 2
    ("order=1,2,3\nnet=1\nvias=2\nlayers=1,2\nnet=2\nvias=2\nlayers=1,2\nnet=3\nvias=6\nlayers=3,4\n"
    then "total_vias=10\ntotal_overflow=6\nmax_overflow=2\n"))
    ∷ row (lying "x") (refusal 2 12) ∷ []
