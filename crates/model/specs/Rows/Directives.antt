-- Rows for layer directives. Document 02, S-5.
-- Assumes nothing.
use Rattle.std.specs.Prelude.{Bool, true, List, [], ◌∷◌, ◌++◌, map, ℕ, ◌+◌, ◌-◌, take, drop, set, get_or}
use Rattle.std.proofs.Math.Option.{Option, none, some}
use Prim.Native.String.{String, ◌++◌ as ◌then◌}
use Rattle.model.specs.Calls.{Outcome, accepted, refusal}
use Rattle.model.specs.Directives.{virtual_capacity, virtual_demand, excess, summed_excess, wanting, wants, ldof_at, ldof, has_low}
use Rattle.model.specs.Job.{Net, Job, low_of}
use Rattle.model.specs.Lists.{up_from}
use Rattle.model.specs.Read.{Lent, Result, found, low_line}
use Rattle.model.specs.Rows.Bench.{row, pair}
use Rattle.model.specs.Rows.Row.{Row, ◌gives◌, text_of, lent, verdict, sample_lent}
use Rattle.model.specs.Score.{Entry}
use Rattle.model.specs.Text.{bytes}

-- ---- the line

-- The sample with a line `low` for its first net, 18 lines. It needs what the sample needs.
abbrev marked : List String
marked =
    "width=3" ∷ "height=2" ∷ "layers=2" ∷ "alpha=1" ∷ "beta=1" ∷ "gamma=0"
    ∷ "east=1,1,1,1" ∷ "north=1,1,1" ∷ "east=1,1,1,1" ∷ "north=1,1,1" ∷ "nets=2"
    ∷ "net=1" ∷ "low=2" ∷ "pins=0,0,1;2,1,2" ∷ "edges=0,0,e;1,0,e;2,0,n"
    ∷ "net=2" ∷ "pins=0,0,1;0,1,1" ∷ "edges=0,0,n" ∷ []

abbrev enough : Lent
enough = sample_lent (some 392)

abbrev at : ℕ → String → ℕ × ℕ
at n l = verdict enough (text_of (set marked (n - 1) l))

abbrev missing : ℕ → Row (ℕ × ℕ)
missing n = verdict enough (text_of (take (n - 1) marked)) gives (2, n)

abbrev doubled : ℕ → Row (ℕ × ℕ)
doubled n = verdict enough (text_of (take n marked ++ drop (n - 1) marked)) gives (2, n + 1)

abbrev pub low_rows : List (Row (ℕ × ℕ))
low_rows =
    -- "a line `low` right after `net` holding 1 to K"
    (at 13 "low=1" gives (0, 0)) ∷ (at 13 "low=2" gives (0, 0)) ∷ (at 13 "low=0" gives (3, 13)) ∷ (at 13 "low=3" gives (3, 13)) ∷ (at 13 "low=99999" gives (3, 13))
    ∷ (at 13 "low=" gives (2, 13)) ∷ (at 13 "low=02" gives (2, 13)) ∷ (at 13 "low=2,2" gives (2, 13)) ∷ (at 13 "low= 2" gives (2, 13)) ∷ (at 13 "low=x" gives (2, 13))
    ∷ (at 13 "low=100000" gives (2, 13))
    -- it is there only where the line begins `low=`: else a line `pins` is missed
    ∷ (at 13 "low" gives (2, 13)) ∷ (at 13 "Low=2" gives (2, 13)) ∷ (at 13 "lows=2" gives (2, 13))
    -- no byte 10 ends it
    ∷ (verdict enough (text_of (take 12 marked) ++ bytes "low=2") gives (2, 13))
    -- it comes after 4, and before what stands on `pins`
    ∷ (verdict enough (text_of (set (set marked 11 "net=2") 12 "low=0")) gives (4, 12))
    ∷ (verdict enough (text_of (set (set marked 12 "low=0") 13 "pins=")) gives (3, 13))
    -- behind `pins`, and before `net`
    ∷ (verdict enough (text_of (take 12 marked ++ ("pins=0,0,1;2,1,2" ∷ "low=2" ∷ drop 14 marked))) gives (2, 14))
    ∷ (verdict enough (text_of (take 11 marked ++ ("low=2" ∷ "net=1" ∷ drop 13 marked))) gives (2, 12)) ∷ []

-- three or four lines a net: "A missing line has the number it would have had", and all later lines have theirs
abbrev pub low_line_rows : List (Row (ℕ × ℕ))
low_line_rows =
    map missing (up_from 1 18)
    ++ map doubled (up_from 1 18)
    ++ (verdict enough (text_of marked ++ bytes "x") gives (2, 19))
    ∷ (at 14 "pins=0,0,1;0,0,1" gives (5, 14)) ∷ (at 15 "edges=0,0,e;0,0,e" gives (6, 15)) ∷ (at 16 "net=1" gives (4, 16)) ∷ (at 18 "edges=0,0,e" gives (8, 18))
    ∷ (verdict (lent 234 1 4 (some 392)) (text_of marked) gives (10, 11))
    ∷ (verdict (lent 234 2 3 (some 392)) (text_of marked) gives (11, 18))
    ∷ (verdict (lent 234 2 4 (some 391)) (text_of marked) gives (11, 18))
    -- also in the last net
    ∷ (verdict enough (text_of (take 16 marked ++ ("low=1" ∷ drop 16 marked))) gives (0, 0))
    ∷ (verdict enough (text_of (take 16 marked ++ ("low=3" ∷ drop 16 marked))) gives (3, 17))
    ∷ (verdict (lent 234 2 3 none) (text_of (take 16 marked ++ ("low=1" ∷ drop 16 marked))) gives (11, 19)) ∷ []

-- with K = 8
abbrev pub low_read_rows : List (Row (Result (Option ℕ)))
low_read_rows =
    (low_line 8 (record { line = 5; rest = bytes "low=8\npins" }) gives found (some 8) (record { line = 6; rest = bytes "pins" }))
    ∷ (low_line 8 (record { line = 5; rest = bytes "low=9\npins" }) gives Result.refused 3 6)
    ∷ (low_line 8 (record { line = 5; rest = bytes "pins=" }) gives found none (record { line = 5; rest = bytes "pins=" })) ∷ []

-- ---- one edge

-- numbers by layer, from 1 up
abbrev by : List ℕ → ℕ → ℕ
by ns l = get_or ns (l - 1) 0

abbrev ten : ℕ → ℕ
ten = by (10 ∷ 10 ∷ 10 ∷ [])

abbrev pub excess_rows : List (Row ℕ)
excess_rows =
    -- source document 001, three layers with 10 tracks each. Its figure 3: 8 nets of type 3, 11 of type 2
    (virtual_capacity ten 3 3 gives 10) ∷ (virtual_capacity ten 3 2 gives 20) ∷ (virtual_demand ten 3 (by (0 ∷ 11 ∷ 8 ∷ [])) 3 gives 8)
    ∷ (virtual_demand ten 3 (by (0 ∷ 11 ∷ 8 ∷ [])) 2 gives 19) ∷ (summed_excess ten 3 (by (0 ∷ 11 ∷ 8 ∷ [])) gives 0)
    -- figure 4: 12 nets of type 3, and "the 2 units of overflow do not carry over to layers lower"
    ∷ (virtual_demand ten 3 (by (0 ∷ 11 ∷ 12 ∷ [])) 2 gives 21) ∷ (excess ten 3 (by (0 ∷ 11 ∷ 12 ∷ [])) 3 gives 2) ∷ (excess ten 3 (by (0 ∷ 11 ∷ 12 ∷ [])) 2 gives 1)
    ∷ (summed_excess ten 3 (by (0 ∷ 11 ∷ 12 ∷ [])) gives 3)
    -- figure 5: 8 nets of type 3, 14 of type 2; "the LDOF of the 2D edge e is 2"
    ∷ (summed_excess ten 3 (by (0 ∷ 14 ∷ 8 ∷ [])) gives 2)
    -- "both 0 above K"
    ∷ (virtual_capacity ten 3 4 gives 0) ∷ (virtual_demand ten 3 (by (0 ∷ 14 ∷ 8 ∷ 5 ∷ [])) 4 gives 0)
    -- capacity 0 at the top, all nets with `low` K
    ∷ (summed_excess (by (9 ∷ 9 ∷ 0 ∷ [])) 3 (by (0 ∷ 0 ∷ 4 ∷ [])) gives 4) ∷ (summed_excess (by (9 ∷ 9 ∷ 0 ∷ [])) 3 (by (0 ∷ 4 ∷ 0 ∷ [])) gives 0)
    ∷ (summed_excess (by (9 ∷ 9 ∷ 3 ∷ [])) 3 (by (0 ∷ 0 ∷ 4 ∷ [])) gives 1)
    -- "for each [..] t above 1": nets with `low` 1 do not count
    ∷ (summed_excess (by (0 ∷ 1 ∷ [])) 2 (by (7 ∷ 1 ∷ [])) gives 0) ∷ (summed_excess (by (0 ∷ 1 ∷ [])) 2 (by (7 ∷ 3 ∷ [])) gives 2) ∷ []

-- ---- a job

-- W = 2, H = 1, K = 3 with 2, 1 and 1 tracks; five nets on its edge: `low` 3, 3, 2, 1, and none
abbrev net_low : Option ℕ → List ℕ → Net
net_low l es = record { low = l; pins = record { tile = 0; layer = 1 } ∷ []; entries = es; edges = es }

abbrev five : Job
five = record {
  width = 2;
  height = 1;
  layers = 3;
  dirs = none;
  alpha = 1;
  beta = 1;
  gamma = 0;
  capacities = (2 ∷ []) ∷ (1 ∷ []) ∷ (1 ∷ []) ∷ [];
  nets = net_low (some 3) (0 ∷ []) ∷ net_low (some 3) (0 ∷ []) ∷ net_low (some 2) (0 ∷ []) ∷ net_low (some 1) (0 ∷ []) ∷ net_low none (0 ∷ []) ∷ net_low (some 2) [] ∷ [];
}

-- the same with layers that all run east, or all north where no edge goes: "t still runs over all layers"
abbrev five_along : List ℕ → Job
five_along ds = record {
  width = 2;
  height = 1;
  layers = 3;
  dirs = some ds;
  alpha = 1;
  beta = 1;
  gamma = 0;
  capacities = (2 ∷ []) ∷ (0 ∷ []) ∷ (1 ∷ []) ∷ [];
  nets = five.nets;
}

abbrev pub directive_rows : List (Row ℕ)
directive_rows =
    (wanting five 0 3 gives 2) ∷ (wanting five 0 2 gives 1) ∷ (wanting five 0 1 gives 2) ∷ (ldof_at five 0 gives 1) ∷ (ldof five gives 1)
    ∷ (ldof (five_along (0 ∷ 1 ∷ 0 ∷ [])) gives 2) ∷ (low_of (net_low none []) gives 1) ∷ (low_of (net_low (some 4) []) gives 4) ∷ []

abbrev pub wants_rows : List (Row (List ℕ))
wants_rows = (wants five 0 gives 3 ∷ 3 ∷ 2 ∷ []) ∷ []

abbrev pub has_low_rows : List (Row Bool)
has_low_rows = (has_low five gives true) ∷ []

-- ---- whole jobs

-- the entries of an order list: net, lowest wanted layer, score
abbrev entries_of : List (ℕ × ℕ × ℕ) → List Entry
entries_of [] = []
entries_of (e ∷ es) = record { net = e.0; low = e.1; score = e.2 } ∷ entries_of es

abbrev shown : List (ℕ × ℕ × ℕ) → List (List ℕ) → ℕ → ℕ → ℕ → String → Outcome
shown es ys v t m text = accepted (record { order = entries_of es; layers = ys; vias = v; total = t; maximum = m; text = bytes text })

-- C1 with the lines `low` of its nets
abbrev c1_with : String → String → String
c1_with one two =
    "width=3\nheight=1\nlayers=2\nalpha=1\nbeta=1\ngamma=0\neast=1,1\nnorth=\neast=1,1\nnorth=\nnets=2\n"
    then "net=1\n" then one then "pins=0,0,1;2,0,1\nedges=0,0,e;1,0,e\n"
    then "net=2\n" then two then "pins=0,0,1;1,0,1\nedges=0,0,e\n"

abbrev c1_shown : ℕ → ℕ → String → Outcome
c1_shown one two last =
    shown ((2, two, 3000) ∷ (1, one, 2500) ∷ []) ((2 ∷ 1 ∷ []) ∷ (1 ∷ []) ∷ []) 2 0 0
    ("order=2,1\nnet=1\nvias=2\nlayers=2,1\nnet=2\nvias=0\nlayers=1\n" then "total_vias=2\ntotal_overflow=0\nmax_overflow=0\n" then last)

abbrev pub marked_rows : List (Row Outcome)
marked_rows =
    -- "The placing is untouched"; each entry has the low of its own net; "printed as a last line `ldof`, in jobs that have a `low` line", also where it is 0
    row (c1_with "low=2\n" "") (c1_shown 2 1 "ldof=0\n")
    ∷ row (c1_with "" "low=2\n") (c1_shown 1 2 "ldof=0\n")
    ∷ row (c1_with "low=1\n" "low=1\n") (c1_shown 1 1 "ldof=0\n")
    ∷ row (c1_with "low=2\n" "low=2\n") (c1_shown 2 2 "ldof=1\n")
    ∷ row (c1_with "" "") (c1_shown 1 1 "")
    ∷ row (c1_with "low=3\n" "") (refusal 3 13)
    ∷ row (pair "2" "0" "1" then "net=1\nlow=2\npins=0,0,1;1,0,1\nedges=0,0,e\n")
    (shown ((1, 2, 3000) ∷ []) ((1 ∷ []) ∷ []) 0 0 0 "order=1\nnet=1\nvias=0\nlayers=1\ntotal_vias=0\ntotal_overflow=0\nmax_overflow=0\nldof=1\n")
    -- without nets no line
    ∷ row (pair "2" "0" "0") (shown [] [] 0 0 0 "order=\ntotal_vias=0\ntotal_overflow=0\nmax_overflow=0\n") ∷ []
