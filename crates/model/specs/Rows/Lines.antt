-- Rows for the refusals of document 01's table, line by line, and for the ends of every range.
-- Assumes nothing.
use Rattle.std.specs.Prelude.{true, List, [], ◌∷◌, ◌++◌, map, ℕ, zero, suc, ◌+◌, ◌-◌, take, drop, set, get_or}
use Rattle.std.proofs.Math.Option.{Option, none, some}
use Prim.Native.String.{String, ◌++◌ as ◌then◌}
use Rattle.model.specs.Job.{Job}
use Rattle.model.specs.Lists.{up_from}
use Rattle.model.specs.Read.{Lent, Result, refused, found, Reading, capacity_line, pins_line, edges_line, working_need, print_need, text_in}
use Rattle.model.specs.Rows.Row.{Row, ◌gives◌, text_of, lent, verdict, sample, sample_lent}
use Rattle.model.specs.Text.{bytes, number}

-- what every row below lends, where it says nothing else: enough for any grid
abbrev ample : Lent
ample = lent 276_224 4_096 100 (some 1_000)

-- the verdict on the sample with another line n
abbrev at : ℕ → String → ℕ × ℕ
at n l = verdict ample (text_of (set sample (n - 1) l))

-- the same with no line after it: where line n has no fault, line n + 1 is missing
abbrev up_to : ℕ → String → ℕ × ℕ
up_to n l = verdict ample (text_of (take (n - 1) sample ++ (l ∷ [])))

module _ {A : Type 0} where
  -- the verdict of one step of the reading: 0 and the line read last where the step finds no fault
  abbrev seen : Result A → ℕ × ℕ
  seen (refused n l) = (n, l)
  seen (found a p) = (0, p.line)

  -- a step on this line alone, where n lines stand before it
  abbrev on : ℕ → Reading A → String → ℕ × ℕ
  on n step l = seen (step (record { line = n; rest = text_of (l ∷ []) }))

-- ---- the lines and their order

-- "missing line": 2; "a missing line has the number it would have had"
abbrev missing : ℕ → Row (ℕ × ℕ)
missing n = verdict ample (text_of (take (n - 1) sample)) gives (2, n)

-- "in this fixed order": the next line in place of line n, and line n once more after itself; after the last, "text after the last line"
abbrev left_out : ℕ → Row (ℕ × ℕ)
left_out n = verdict ample (text_of (take (n - 1) sample ++ drop n sample)) gives (2, n)

abbrev doubled : ℕ → Row (ℕ × ℕ)
doubled n = verdict ample (text_of (take n sample ++ drop (n - 1) sample)) gives (2, n + 1)

-- "wrong key": a byte more before the key of line n
abbrev other_key : ℕ → Row (ℕ × ℕ)
other_key n = up_to n ("x" then get_or sample (n - 1) "") gives (2, n)

-- "ASCII lines, each ended by byte 10": the text ends with line n, and no byte 10 ends it
abbrev unended : ℕ → Row (ℕ × ℕ)
unended n = verdict ample (text_of (take (n - 1) sample) ++ bytes (get_or sample (n - 1) "")) gives (2, n)

abbrev pub line_rows : List (Row (ℕ × ℕ))
line_rows =
    (verdict ample (text_of sample) gives (0, 0)) ∷ map missing (up_from 1 17)
    ++ map doubled (up_from 1 17)
    ++ map other_key (up_from 1 17)
    ++ map left_out (1 ∷ 4 ∷ 7 ∷ 10 ∷ 13 ∷ 16 ∷ [])
    ++ map unended (1 ∷ 7 ∷ 13 ∷ 17 ∷ [])

-- "text after the last line": a byte, a byte 10, a whole line, a second job
abbrev after : String → Row (ℕ × ℕ)
after more = verdict ample (text_of sample ++ bytes more) gives (2, 18)

-- "Each line is key, `=`, value, without spaces."
abbrev pub shape_rows : List (Row (ℕ × ℕ))
shape_rows =
    after "x" ∷ after "\n" ∷ after "net=3\n" ∷ after "width=3\n"
    ∷ (up_to 1 "width" gives (2, 1)) ∷ (up_to 1 "width:3" gives (2, 1)) ∷ (up_to 1 "width3" gives (2, 1)) ∷ (up_to 1 "width==3" gives (2, 1))
    ∷ (up_to 1 "Width=3" gives (2, 1)) ∷ (up_to 1 "width =3" gives (2, 1)) ∷ (up_to 1 "width=3\r" gives (2, 1)) ∷ (up_to 1 "" gives (2, 1))
    ∷ (up_to 7 "east= 1,1,1,1" gives (2, 7)) ∷ (up_to 8 "north =1,1,1" gives (2, 8)) ∷ (up_to 13 "pins=0,0,1; 2,1,2" gives (2, 13))
    ∷ (up_to 14 "edges=0,0,e ;1,0,e;2,0,n" gives (2, 14)) ∷ []

-- ---- numbers

-- "A number is one to five digits in base ten, with no leading zero except 0 itself."
abbrev reads : String → Option ℕ → Row (Option ℕ)
reads s n = number (bytes s) gives n

abbrev pub number_rows : List (Row (Option ℕ))
number_rows =
    reads "0" (some 0) ∷ reads "7" (some 7) ∷ reads "9" (some 9) ∷ reads "10" (some 10) ∷ reads "4096" (some 4_096) ∷ reads "90817" (some 90_817)
    ∷ reads "99999" (some 99_999) ∷ reads "10000" (some 10_000) ∷ reads "100000" none ∷ reads "" none ∷ reads "00" none ∷ reads "01" none
    ∷ reads "000001" none ∷ reads "/" none ∷ reads ":" none ∷ reads "1/" none ∷ reads "1:" none ∷ reads "1x" none ∷ reads "x1" none ∷ reads "12x" none ∷ reads "1234x" none ∷ reads "-1" none
    ∷ reads "+1" none ∷ reads " 1" none ∷ reads "1 " none ∷ reads "1,2" none ∷ []

-- The lines with one number: wrong in form they give 2. Five digits have the form, and are above every range: 3, on a `net` line 4.
abbrev form_rows : ℕ → String → ℕ → List (Row (ℕ × ℕ))
form_rows n key large =
    (up_to n (key then "=") gives (2, n))
    ∷ (up_to n (key then "=x") gives (2, n))
    ∷ (up_to n (key then "=01") gives (2, n))
    ∷ (up_to n (key then "=1,1") gives (2, n))
    ∷ (up_to n (key then "=100000") gives (2, n))
    ∷ (up_to n (key then "=99999") gives (large, n))
    ∷ []

abbrev pub number_line_rows : List (Row (ℕ × ℕ))
number_line_rows =
    form_rows 1 "width" 3 ++ form_rows 2 "height" 3 ++ form_rows 3 "layers" 3 ++ form_rows 4 "alpha" 3 ++ form_rows 5 "beta" 3 ++ form_rows 6 "gamma" 3
    ++ form_rows 11 "nets" 3
    ++ form_rows 12 "net" 4
    ++ form_rows 15 "net" 4

-- ---- ranges

abbrev pub range_rows : List (Row (ℕ × ℕ))
range_rows =
    -- "W = width and H = height, 1 to 64"
    (up_to 1 "width=0" gives (3, 1)) ∷ (up_to 1 "width=1" gives (2, 2)) ∷ (up_to 1 "width=64" gives (2, 2)) ∷ (up_to 1 "width=65" gives (3, 1))
    ∷ (up_to 2 "height=0" gives (3, 2)) ∷ (up_to 2 "height=1" gives (2, 3)) ∷ (up_to 2 "height=64" gives (2, 3)) ∷ (up_to 2 "height=65" gives (3, 2))
    -- "K, the value of `layers`, is from 2 to 8"
    ∷ (up_to 3 "layers=0" gives (3, 3)) ∷ (up_to 3 "layers=1" gives (3, 3)) ∷ (up_to 3 "layers=2" gives (2, 4)) ∷ (up_to 3 "layers=8" gives (2, 4))
    ∷ (up_to 3 "layers=9" gives (3, 3))
    -- "alpha, beta, gamma: 0 to 255"
    ∷ (at 4 "alpha=0" gives (0, 0)) ∷ (at 4 "alpha=255" gives (0, 0)) ∷ (up_to 4 "alpha=256" gives (3, 4))
    ∷ (at 5 "beta=0" gives (0, 0)) ∷ (at 5 "beta=255" gives (0, 0)) ∷ (up_to 5 "beta=256" gives (3, 5))
    ∷ (at 6 "gamma=0" gives (0, 0)) ∷ (at 6 "gamma=255" gives (0, 0)) ∷ (up_to 6 "gamma=256" gives (3, 6))
    -- "nets: N, 0 to 4,096": no net line follows `nets=0`, and line 12 is missing after the others
    ∷ (up_to 11 "nets=0" gives (0, 0)) ∷ (at 11 "nets=0" gives (2, 12)) ∷ (up_to 11 "nets=1" gives (2, 12)) ∷ (up_to 11 "nets=4096" gives (2, 12))
    ∷ (up_to 11 "nets=4097" gives (3, 11)) ∷ (at 11 "nets=1" gives (2, 15)) ∷ (at 11 "nets=3" gives (2, 18))
    -- "it has no range, so any other well-formed number there gives 4 and not 3"
    ∷ (up_to 12 "net=0" gives (4, 12)) ∷ (up_to 12 "net=2" gives (4, 12)) ∷ (up_to 15 "net=0" gives (4, 15)) ∷ (up_to 15 "net=1" gives (4, 15))
    ∷ (up_to 15 "net=3" gives (4, 15)) ∷ []

-- "Width 64 passes", "Layers 2 and 8 pass": whole jobs without nets
abbrev times : ℕ → String → String
times zero s = ""
times (suc n) s = s then times n s

abbrev broad : String
broad = "alpha=0\nbeta=0\ngamma=0\n" then times 2 ("east=" then times 62 "1," then "1\nnorth=\n") then "nets=0\n"

abbrev tall : String
tall = "alpha=0\nbeta=0\ngamma=0\n" then times 2 ("east=\nnorth=" then times 62 "1," then "1\n") then "nets=0\n"

abbrev high : String
high = "alpha=0\nbeta=0\ngamma=0\n" then times 8 "east=\nnorth=\n" then "nets=0\n"

abbrev pub accepted_rows : List (Row (ℕ × ℕ))
accepted_rows =
    (verdict ample (bytes ("width=64\nheight=1\nlayers=2\n" then broad)) gives (0, 0))
    ∷ (verdict ample (bytes ("width=1\nheight=64\nlayers=2\n" then tall)) gives (0, 0))
    ∷ (verdict ample (bytes ("width=1\nheight=1\nlayers=8\n" then high)) gives (0, 0)) ∷ []

-- ---- capacities

-- a list of four capacities, on line 7
abbrev four : String → ℕ × ℕ
four = on 6 (capacity_line "east" 4 true)

-- "exactly (W − 1) × H capacities, comma between"; document 02, S-3: "Capacities run from 0 to 65,535"; form and list length before range
abbrev pub capacity_rows : List (Row (ℕ × ℕ))
capacity_rows =
    (four "east=0,1,2,65535" gives (0, 7)) ∷ (four "east=1,1,1,65536" gives (3, 7)) ∷ (four "east=65536,1,1,1" gives (3, 7)) ∷ (four "east=1,1,1,99999" gives (3, 7))
    ∷ (four "east=255,256,999,1000" gives (0, 7)) ∷ (four "east=9999,10000,65534,65535" gives (0, 7)) ∷ (four "east=65537,1,1,1" gives (3, 7))
    ∷ (four "east=1,1,1" gives (2, 7)) ∷ (four "east=1,1,1,1,1" gives (2, 7)) ∷ (four "east=" gives (2, 7)) ∷ (four "east=1,1,1,1," gives (2, 7))
    ∷ (four "east=,1,1,1" gives (2, 7)) ∷ (four "east=1,,1,1" gives (2, 7)) ∷ (four "east=1;1;1;1" gives (2, 7)) ∷ (four "east=1,1,1,01" gives (2, 7))
    ∷ (four "east=1,1,1,100000" gives (2, 7)) ∷ (four "east=1, 1,1,1" gives (2, 7)) ∷ (four "north=1,1,1,1" gives (2, 7))
    ∷ (four "east=65536,1,1" gives (2, 7)) ∷ (four "east=65536,1,1,x" gives (2, 7))
    -- "for each layer, from 1 (the bottom) up, `east` and `north`": (W − 1) × H and W × (H − 1) of them
    ∷ (at 7 "east=0,1,2,65535" gives (0, 0)) ∷ (up_to 7 "east=1,1,1,65536" gives (3, 7)) ∷ (up_to 7 "east=1,1,1" gives (2, 7)) ∷ (up_to 7 "east=65536,1,1,1,1" gives (2, 7))
    ∷ (at 8 "north=0,1,65535" gives (0, 0)) ∷ (up_to 8 "north=1,1,65536" gives (3, 8)) ∷ (up_to 8 "north=1,1" gives (2, 8)) ∷ (up_to 8 "north=1,1,1,65536" gives (2, 8))
    ∷ (at 9 "east=0,1,2,65535" gives (0, 0)) ∷ (up_to 9 "east=1,1,1,65536" gives (3, 9)) ∷ (up_to 9 "east=1,1,1" gives (2, 9)) ∷ (up_to 9 "east=1,1,1,1,1" gives (2, 9))
    ∷ (at 10 "north=0,1,65535" gives (0, 0)) ∷ (up_to 10 "north=1,1,65536" gives (3, 10)) ∷ (up_to 10 "north=1,1" gives (2, 10))
    ∷ (up_to 10 "north=1,1,1,1" gives (2, 10)) ∷ []

-- "Either may be an empty list": W = 1 has no `east` capacity and H = 1 no `north` one; and no list is longer there
abbrev narrow : String → String → String → String → ℕ × ℕ
narrow w h east north =
    verdict ample
    (text_of
    (w ∷ h ∷ "layers=2" ∷ "alpha=0" ∷ "beta=0" ∷ "gamma=0" ∷ ("east=" then east) ∷ ("north=" then north) ∷ ("east=" then east) ∷ ("north=" then north)
    ∷ "nets=0" ∷ []))

abbrev pub empty_list_rows : List (Row (ℕ × ℕ))
empty_list_rows =
    (narrow "width=1" "height=3" "" "1,1" gives (0, 0)) ∷ (narrow "width=1" "height=3" "0" "1,1" gives (2, 7))
    ∷ (narrow "width=1" "height=3" "" "" gives (2, 8)) ∷ (narrow "width=3" "height=1" "1,1" "" gives (0, 0))
    ∷ (narrow "width=3" "height=1" "1,1" "0" gives (2, 8)) ∷ (narrow "width=1" "height=1" "" "" gives (0, 0)) ∷ []

-- ---- pins

-- the `pins` line of the sample's net 1
abbrev pins : String → ℕ × ℕ
pins = on 12 (pins_line (record { width = 3; height = 2; layers = 2; dirs = none }))

abbrev pub pin_rows : List (Row (ℕ × ℕ))
pin_rows =
    -- "one or more `x,y,l`, semicolon between"
    (pins "pins=" gives (2, 13)) ∷ (pins "pins=0" gives (2, 13)) ∷ (pins "pins=0,0" gives (2, 13)) ∷ (pins "pins=0,0,1,1" gives (2, 13))
    ∷ (pins "pins=0,0,1;" gives (2, 13)) ∷ (pins "pins=;0,0,1" gives (2, 13)) ∷ (pins "pins=0,0,1;;2,1,2" gives (2, 13))
    ∷ (pins "pins=0,0,1,2,1,2" gives (2, 13)) ∷ (pins "pins=0;0;1" gives (2, 13)) ∷ (pins "pins=,0,1" gives (2, 13)) ∷ (pins "pins=0,,1" gives (2, 13))
    ∷ (pins "pins=0,0," gives (2, 13)) ∷ (pins "pins=0,0,e" gives (2, 13)) ∷ (pins "pins=00,0,1" gives (2, 13)) ∷ (pins "pins=0,100000,1" gives (2, 13))
    ∷ (pins "pins=0,0,01" gives (2, 13)) ∷ (pins "pin=0,0,1" gives (2, 13)) ∷ (pins "pins=0,0,1;2,1,2;1,1,1" gives (0, 13))
    -- "x is below W, y below H, l is 1 to K"
    ∷ (pins "pins=2,0,1" gives (0, 13)) ∷ (pins "pins=3,0,1" gives (3, 13)) ∷ (pins "pins=99999,0,1" gives (3, 13)) ∷ (pins "pins=0,1,1" gives (0, 13))
    ∷ (pins "pins=0,2,1" gives (3, 13)) ∷ (pins "pins=0,99999,1" gives (3, 13)) ∷ (pins "pins=0,0,0" gives (3, 13)) ∷ (pins "pins=0,0,1" gives (0, 13))
    ∷ (pins "pins=0,0,2" gives (0, 13)) ∷ (pins "pins=0,0,3" gives (3, 13)) ∷ (pins "pins=0,0,99999" gives (3, 13)) ∷ (pins "pins=0,0,1;3,0,1" gives (3, 13))
    -- "same tile and layer twice on `pins`": 5; not so another layer of the tile, or another tile
    ∷ (pins "pins=0,0,1;0,0,1" gives (5, 13)) ∷ (pins "pins=0,0,1;1,0,1;0,0,1" gives (5, 13)) ∷ (pins "pins=1,0,2;0,0,1;0,0,1" gives (5, 13))
    ∷ (pins "pins=0,0,1;0,0,2" gives (0, 13)) ∷ (pins "pins=0,0,1;1,0,1" gives (0, 13)) ∷ (pins "pins=0,0,1;0,1,1" gives (0, 13))
    -- "On one line the lower number wins.": 2 before 3, 2 before 5, 3 before 5
    ∷ (pins "pins=3,0,1;0,0" gives (2, 13)) ∷ (pins "pins=0,0,1;0,0,1;" gives (2, 13)) ∷ (pins "pins=0,0,1;0,0,1;3,0,1" gives (3, 13))
    -- the same in a whole text; "the first fault decides"
    ∷ (at 13 "pins=2,0,2" gives (0, 0)) ∷ (up_to 13 "pins=3,0,1" gives (3, 13)) ∷ (up_to 13 "pins=0,2,1" gives (3, 13)) ∷ (up_to 13 "pins=0,0,3" gives (3, 13))
    ∷ (up_to 13 "pins=0,0,1;0,0,1" gives (5, 13)) ∷ (at 16 "pins=0,0,2" gives (0, 0)) ∷ (up_to 16 "pins=" gives (2, 16)) ∷ (up_to 16 "pins=0,0,3" gives (3, 16))
    ∷ (up_to 16 "pins=0,1,2;0,1,2" gives (5, 16)) ∷ (verdict ample (text_of (take 11 sample ++ ("net=2" ∷ "pins=" ∷ []))) gives (4, 12))
    ∷ (verdict ample (text_of (take 12 sample ++ ("pins=0,0,1;0,0,1" ∷ "edges" ∷ []))) gives (5, 13)) ∷ []

-- ---- edges

-- the `edges` line of a net with pins in the tiles (0, 0) and (0, 1) of the sample's grid
abbrev edges : String → ℕ × ℕ
edges = on 13 (edges_line (record { width = 3; height = 2; layers = 2; dirs = none }) (record { tile = 0; layer = 1 } ∷ record { tile = 3; layer = 1 } ∷ []))

abbrev pub edge_rows : List (Row (ℕ × ℕ))
edge_rows =
    -- "none or more `x,y,e` or `x,y,n`, semicolon between"
    (edges "edges=0,0" gives (2, 14)) ∷ (edges "edges=0,0,n,n" gives (2, 14)) ∷ (edges "edges=0,0,n;" gives (2, 14)) ∷ (edges "edges=;0,0,n" gives (2, 14))
    ∷ (edges "edges=;" gives (2, 14)) ∷ (edges "edges=0,0,n;;0,0,e" gives (2, 14)) ∷ (edges "edges=0;0;n" gives (2, 14)) ∷ (edges "edges=0,0," gives (2, 14))
    ∷ (edges "edges=0,0,nn" gives (2, 14)) ∷ (edges "edges=0,0,w" gives (2, 14)) ∷ (edges "edges=0,0,s" gives (2, 14)) ∷ (edges "edges=0,0,N" gives (2, 14))
    ∷ (edges "edges=0,0,1" gives (2, 14)) ∷ (edges "edges=,0,n" gives (2, 14)) ∷ (edges "edges=0,,n" gives (2, 14)) ∷ (edges "edges=0,00,n" gives (2, 14))
    ∷ (edges "edges=100000,0,n" gives (2, 14)) ∷ (edges "edge=0,0,n" gives (2, 14)) ∷ (edges "edges" gives (2, 14)) ∷ (edges "" gives (2, 14)) ∷ (edges "edges=0,0,n" gives (0, 14))
    -- "both ends inside the grid": east from x = W − 2 and y = H − 1 at most, north from x = W − 1 and y = H − 2 at most
    ∷ (edges "edges=0,0,n;0,1,e;1,1,e" gives (0, 14)) ∷ (edges "edges=0,0,n;2,0,e" gives (3, 14)) ∷ (edges "edges=0,0,n;2,1,e" gives (3, 14))
    ∷ (edges "edges=0,0,n;0,2,e" gives (3, 14)) ∷ (edges "edges=0,0,n;0,0,e;1,0,e;2,0,n" gives (0, 14)) ∷ (edges "edges=0,0,n;0,1,n" gives (3, 14))
    ∷ (edges "edges=0,0,n;3,0,n" gives (3, 14)) ∷ (edges "edges=99999,0,e" gives (3, 14)) ∷ (edges "edges=0,99999,n" gives (3, 14))
    -- "same edge twice on `edges`": 6
    ∷ (edges "edges=0,0,n;0,0,n" gives (6, 14)) ∷ (edges "edges=0,0,n;0,0,e;0,0,n" gives (6, 14)) ∷ (edges "edges=0,0,n;0,0,e;0,0,e" gives (6, 14))
    -- document 02, S-6: "Refusal 7 never occurs from now on"
    ∷ (edges "edges=0,0,n;0,0,e;1,0,n;0,1,e" gives (0, 14)) ∷ (edges "edges=0,0,n;0,0,e;1,0,e;0,1,e;1,1,e;2,0,n" gives (0, 14))
    ∷ (edges "edges=0,0,n;0,0,e;1,0,e;2,0,n;1,0,n;1,1,e" gives (0, 14)) ∷ (edges "edges=0,0,e;1,0,n;0,1,e" gives (0, 14))
    -- "a pin or edge not reached from the first pin's tile along the edges": 8, also where there is a ring
    ∷ (edges "edges=" gives (8, 14)) ∷ (edges "edges=0,0,e" gives (8, 14)) ∷ (edges "edges=0,1,e" gives (8, 14)) ∷ (edges "edges=0,0,n;1,0,e" gives (8, 14))
    ∷ (edges "edges=1,0,n;0,0,n" gives (8, 14)) ∷ (edges "edges=0,0,e;0,1,e" gives (8, 14))
    -- "On one line the lower number wins.": 2 before 3, 2 before 6, 3 before 6, 6 before 8; where the second would close a ring too
    ∷ (edges "edges=2,0,e;0,0" gives (2, 14)) ∷ (edges "edges=0,0,n;0,0,n;" gives (2, 14)) ∷ (edges "edges=0,0,n;0,0,n;2,0,e" gives (3, 14))
    ∷ (edges "edges=0,0,n;0,0,e;1,0,n;0,1,e;0,0,n" gives (6, 14)) ∷ (edges "edges=1,0,e;1,0,e" gives (6, 14))
    ∷ (edges "edges=1,0,n;1,0,e;2,0,n;1,1,e" gives (8, 14))
    -- the same in a whole text; "the first fault decides"
    ∷ (up_to 14 "edges=0,0" gives (2, 14)) ∷ (up_to 14 "edges=0,0,e;1,0,e;2,0,e" gives (3, 14)) ∷ (up_to 14 "edges=0,0,e;0,0,e" gives (6, 14))
    ∷ (up_to 14 "edges=0,0,e;1,0,e;2,0,n;1,0,n;1,1,e" gives (2, 15)) ∷ (up_to 14 "edges=0,0,e" gives (8, 14)) ∷ (at 13 "pins=2,1,1;0,1,1" gives (8, 14))
    ∷ (at 13 "pins=0,1,1;2,1,1" gives (8, 14)) ∷ (at 13 "pins=1,1,1" gives (8, 14)) ∷ (up_to 17 "edges=0,0,n;" gives (2, 17))
    ∷ (up_to 17 "edges=0,0,n;0,1,n" gives (3, 17)) ∷ (up_to 17 "edges=0,0,n;0,0,n" gives (6, 17)) ∷ (up_to 17 "edges=0,0,n;0,0,e;1,0,n;0,1,e" gives (0, 0))
    ∷ (up_to 17 "edges=" gives (8, 17)) ∷ (verdict ample (text_of (take 13 sample ++ ("edges=" ∷ "net=x" ∷ []))) gives (8, 14)) ∷ []

-- a net without edges: its pins stand in one tile
abbrev edgeless : String → ℕ × ℕ
edgeless pins = verdict ample (text_of (take 15 sample ++ (pins ∷ "edges=" ∷ [])))

abbrev pub edgeless_rows : List (Row (ℕ × ℕ))
edgeless_rows =
    (edgeless "pins=1,1,2" gives (0, 0)) ∷ (edgeless "pins=1,1,2;1,1,1" gives (0, 0)) ∷ (edgeless "pins=1,1,2;1,0,2" gives (8, 17)) ∷ []

-- ---- lent lengths

-- "Working numbers, 2 × K × E + 2 × E + 32 × T of them"; "a print buffer of 256 + 64 × N + 2 × A bytes"
abbrev pub need_rows : List (Row ℕ)
need_rows =
    (working_need 1 1 2 gives 32) ∷ (working_need 3 2 2 gives 234) ∷ (working_need 2 3 2 gives 234) ∷ (working_need 3 2 5 gives 276)
    ∷ (working_need 64 64 8 gives 276_224) ∷ (print_need 0 0 gives 256) ∷ (print_need 1 0 gives 320) ∷ (print_need 0 1 gives 258) ∷ (print_need 2 4 gives 392)
    ∷ (print_need 4_096 100_000 gives 462_400) ∷ []

abbrev lending : Lent → ℕ × ℕ
lending l = verdict l (text_of sample)

abbrev lending_to : Lent → List String → ℕ × ℕ
lending_to l ls = verdict l (text_of ls)

abbrev pub lent_rows : List (Row (ℕ × ℕ))
lent_rows =
    -- exactly enough, with and without a print buffer, and more
    (lending (sample_lent (some 392)) gives (0, 0)) ∷ (lending (sample_lent none) gives (0, 0)) ∷ (lending (lent 235 3 5 (some 393)) gives (0, 0))
    -- "9, 3: fewer working numbers than needed"; "9 is found right after line 3", after 2 and 3 of that line
    ∷ (lending (lent 233 2 4 (some 392)) gives (9, 3)) ∷ (lending (lent 0 0 0 (some 0)) gives (9, 3))
    ∷ (lending_to (lent 233 2 4 none) (take 3 sample) gives (9, 3)) ∷ (lending_to (lent 234 2 4 none) (take 3 sample) gives (2, 4))
    ∷ (lending_to (lent 0 2 4 none) (take 2 sample) gives (2, 3)) ∷ (lending_to (lent 0 2 4 none) (set sample 2 "layers=9") gives (3, 3))
    ∷ (lending_to (lent 0 2 4 none) (set sample 2 "layers=x") gives (2, 3))
    -- "10, the `nets` line: fewer order entries than N"; "10 after the `nets` line", after 2 and 3 of that line
    ∷ (lending (lent 234 1 4 (some 392)) gives (10, 11)) ∷ (lending (lent 234 0 0 (some 0)) gives (10, 11))
    ∷ (lending_to (lent 234 1 4 none) (take 11 sample) gives (10, 11)) ∷ (lending_to (lent 234 2 4 none) (take 11 sample) gives (2, 12))
    ∷ (lending_to (lent 234 0 4 none) (take 10 sample) gives (2, 11)) ∷ (lending_to (lent 234 0 4 none) (set sample 10 "nets=4097") gives (3, 11))
    ∷ (lending_to (lent 234 0 4 none) (set sample 10 "nets=02") gives (2, 11)) ∷ (lending_to (lent 234 0 0 none) (take 10 sample ++ ("nets=0" ∷ [])) gives (0, 0))
    ∷ (lending_to (lent 234 4_095 4 none) (take 10 sample ++ ("nets=4096" ∷ [])) gives (10, 11))
    -- "11, the last line: answer list or print buffer too short"; "11 after the whole text", after every fault of it
    ∷ (lending (lent 234 2 3 (some 392)) gives (11, 17)) ∷ (lending (lent 234 2 4 (some 391)) gives (11, 17)) ∷ (lending (lent 234 2 3 none) gives (11, 17))
    ∷ (lending (lent 234 2 0 (some 0)) gives (11, 17)) ∷ (lending_to (lent 234 2 0 (some 0)) (sample ++ ("" ∷ [])) gives (2, 18))
    ∷ (lending_to (lent 234 2 0 (some 0)) (set sample 16 "edges=") gives (8, 17)) ∷ (lending_to (lent 234 2 0 (some 0)) (take 16 sample) gives (2, 17))
    ∷ (lending_to (lent 234 0 0 (some 255)) (take 10 sample ++ ("nets=0" ∷ [])) gives (11, 11))
    ∷ (lending_to (lent 234 0 0 (some 256)) (take 10 sample ++ ("nets=0" ∷ [])) gives (0, 0)) ∷ []

-- ---- the size of the text

-- "1, 0: text above 1,048,576 bytes"; "Number 1 comes first": a reading of a text of that size, here with nothing in it and nothing lent
abbrev sized : ℕ → Result Job
sized size = text_in (lent 0 0 0 none) size (record { line = 0; rest = [] })

abbrev pub size_rows : List (Row (Result Job))
size_rows = (sized 0 gives refused 2 1) ∷ (sized 1_048_576 gives refused 2 1) ∷ (sized 1_048_577 gives refused 1 0) ∷ []
