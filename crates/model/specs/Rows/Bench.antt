-- The starred bench jobs of document 01, C1 to C10: each with the program's lent lengths.
-- Assumes nothing.
use Rattle.std.specs.Prelude.{List, [], ◌∷◌, ℕ}
use Prim.Native.String.{String, ◌++◌ as ◌then◌}
use Rattle.model.specs.Calls.{Outcome, refusal, accepted, outcome}
use Rattle.model.specs.Program.{program_lent}
use Rattle.model.specs.Rows.Row.{Row, ◌gives◌}
use Rattle.model.specs.Score.{Entry}
use Rattle.model.specs.Text.{bytes}

-- an order list from its net numbers and scores, of nets without a line `low`
abbrev pub order_of : List (ℕ × ℕ) → List Entry
order_of [] = []
order_of (e ∷ es) = record { net = e.0; low = 1; score = e.1 } ∷ order_of es

-- an accepted job: its order list, the layers of its entries, its three numbers, its print
abbrev pub shows : List (ℕ × ℕ) → List (List ℕ) → ℕ → ℕ → ℕ → String → Outcome
shows es ys v t m text = accepted (record { order = order_of es; layers = ys; vias = v; total = t; maximum = m; text = bytes text })

abbrev pub row : String → Outcome → Row Outcome
row text result = outcome program_lent (bytes text) gives result

-- ---- the rows

-- C1
abbrev c1 : Row Outcome
c1 =
    row
    ("width=3\nheight=1\nlayers=2\nalpha=1\nbeta=1\ngamma=0\neast=1,1\nnorth=\neast=1,1\nnorth=\nnets=2\n"
    then "net=1\npins=0,0,1;2,0,1\nedges=0,0,e;1,0,e\n"
    then "net=2\npins=0,0,1;1,0,1\nedges=0,0,e\n")
    (shows ((2, 3000) ∷ (1, 2500) ∷ []) ((2 ∷ 1 ∷ []) ∷ (1 ∷ []) ∷ []) 2 0 0
    ("order=2,1\nnet=1\nvias=2\nlayers=2,1\nnet=2\nvias=0\nlayers=1\n" then "total_vias=2\ntotal_overflow=0\nmax_overflow=0\n"))

-- C2: the empty text
abbrev c2 : Row Outcome
c2 = row "" (refusal 2 1)

-- C3: one tile, no nets
abbrev c3 : Row Outcome
c3 =
    row "width=1\nheight=1\nlayers=2\nalpha=1\nbeta=1\ngamma=0\neast=\nnorth=\neast=\nnorth=\nnets=0\n"
    (shows [] [] 0 0 0 "order=\ntotal_vias=0\ntotal_overflow=0\nmax_overflow=0\n")

-- C4: K = 4, one tile, pins on layers 1 and 4; P is 1
abbrev c4 : Row Outcome
c4 =
    row
    ("width=1\nheight=1\nlayers=4\nalpha=1\nbeta=1\ngamma=0\neast=\nnorth=\neast=\nnorth=\neast=\nnorth=\neast=\nnorth=\nnets=1\n"
    then "net=1\npins=0,0,1;0,0,4\nedges=\n")
    (shows ((1, 2000) ∷ []) ([] ∷ []) 3 0 0 "order=1\nnet=1\nvias=3\nlayers=\ntotal_vias=3\ntotal_overflow=0\nmax_overflow=0\n")

-- C5 to C7: W = 2, H = 1, K = 2, each net with a pin in both tiles; the capacities of layers 1 and 2, and the number of nets
abbrev pub pair : String → String → String → String
pair one two count =
    "width=2\nheight=1\nlayers=2\nalpha=1\nbeta=1\ngamma=0\neast=" then one then "\nnorth=\neast=" then two then "\nnorth=\nnets=" then count then "\n"

abbrev c5 : Row Outcome
c5 =
    row (pair "1" "0" "1" then "net=1\npins=0,0,2;1,0,2\nedges=0,0,e\n")
    (shows ((1, 3000) ∷ []) ((1 ∷ []) ∷ []) 2 0 0 "order=1\nnet=1\nvias=2\nlayers=1\ntotal_vias=2\ntotal_overflow=0\nmax_overflow=0\n")

abbrev c6 : Row Outcome
c6 =
    row (pair "1" "0" "2" then "net=1\npins=0,0,2;1,0,2\nedges=0,0,e\nnet=2\npins=0,0,2;1,0,2\nedges=0,0,e\n")
    (shows ((1, 3000) ∷ (2, 3000) ∷ []) ((2 ∷ []) ∷ (1 ∷ []) ∷ []) 2 1 1
    "order=1,2\nnet=1\nvias=0\nlayers=2\nnet=2\nvias=2\nlayers=1\ntotal_vias=2\ntotal_overflow=1\nmax_overflow=1\n")

abbrev pub c7 : Row Outcome
c7 =
    row
    (pair "0" "0" "3"
    then "net=1\npins=0,0,1;1,0,1\nedges=0,0,e\nnet=2\npins=0,0,1;1,0,1\nedges=0,0,e\nnet=3\npins=0,0,1;1,0,1\nedges=0,0,e\n")
    (shows ((1, 3000) ∷ (2, 3000) ∷ (3, 3000) ∷ []) ((1 ∷ []) ∷ (1 ∷ []) ∷ (2 ∷ []) ∷ []) 2 3 2
    ("order=1,2,3\nnet=1\nvias=0\nlayers=1\nnet=2\nvias=0\nlayers=1\nnet=3\nvias=2\nlayers=2\n"
    then "total_vias=2\ntotal_overflow=3\nmax_overflow=2\n"))

-- C8: alpha 1, L = 3, the other weights 0: the score is the first term, 333
abbrev c8a : Row Outcome
c8a =
    row
    ("width=4\nheight=1\nlayers=2\nalpha=1\nbeta=0\ngamma=0\neast=1,1,1\nnorth=\neast=1,1,1\nnorth=\nnets=1\n"
    then "net=1\npins=0,0,1\nedges=0,0,e;1,0,e;2,0,e\n")
    (shows ((1, 333) ∷ []) ((1 ∷ 1 ∷ 1 ∷ []) ∷ []) 0 0 0 "order=1\nnet=1\nvias=0\nlayers=1,1,1\ntotal_vias=0\ntotal_overflow=0\nmax_overflow=0\n")

-- C8: gamma 1, D = 2, C = 3 (one edge, capacities 1 and 2, two nets): the score is the third term, 666
abbrev c8b : Row Outcome
c8b =
    row
    ("width=2\nheight=1\nlayers=2\nalpha=0\nbeta=0\ngamma=1\neast=1\nnorth=\neast=2\nnorth=\nnets=2\n"
    then "net=1\npins=0,0,1\nedges=0,0,e\nnet=2\npins=0,0,1\nedges=0,0,e\n")
    (shows ((1, 666) ∷ (2, 666) ∷ []) ((1 ∷ []) ∷ (2 ∷ []) ∷ []) 1 0 0
    "order=1,2\nnet=1\nvias=0\nlayers=1\nnet=2\nvias=1\nlayers=2\ntotal_vias=1\ntotal_overflow=0\nmax_overflow=0\n")

-- C9: gamma 1, D = 3, C = 0 (one edge, no capacity, three nets): the score is the third term, 3000
abbrev c9 : Row Outcome
c9 =
    row
    ("width=2\nheight=1\nlayers=2\nalpha=0\nbeta=0\ngamma=1\neast=0\nnorth=\neast=0\nnorth=\nnets=3\n"
    then "net=1\npins=0,0,1\nedges=0,0,e\nnet=2\npins=0,0,1\nedges=0,0,e\nnet=3\npins=0,0,1\nedges=0,0,e\n")
    (shows ((1, 3000) ∷ (2, 3000) ∷ (3, 3000) ∷ []) ((1 ∷ []) ∷ (1 ∷ []) ∷ (2 ∷ []) ∷ []) 1 3 2
    ("order=1,2,3\nnet=1\nvias=0\nlayers=1\nnet=2\nvias=0\nlayers=1\nnet=3\nvias=1\nlayers=2\n"
    then "total_vias=1\ntotal_overflow=3\nmax_overflow=2\n"))

-- C10: four edges round a square, with a pin in each tile, the last of which is dropped (document 02, S-6); and any three of them
abbrev square : String → String
square edges =
    "width=2\nheight=2\nlayers=2\nalpha=1\nbeta=1\ngamma=0\neast=1,1\nnorth=1,1\neast=1,1\nnorth=1,1\nnets=1\n"
    then "net=1\npins=0,0,1;1,0,1;0,1,1;1,1,1\nedges=" then edges then "\n"

abbrev c10 : Row Outcome
c10 =
    row (square "0,0,e;0,0,n;1,0,n;0,1,e")
    (shows ((1, 4333) ∷ []) ((1 ∷ 1 ∷ 1 ∷ 0 ∷ []) ∷ []) 0 0 0 "order=1\nnet=1\nvias=0\nlayers=1,1,1,0\ntotal_vias=0\ntotal_overflow=0\nmax_overflow=0\n")

abbrev three : String → Row Outcome
three edges =
    row (square edges)
    (shows ((1, 4333) ∷ []) ((1 ∷ 1 ∷ 1 ∷ []) ∷ []) 0 0 0 "order=1\nnet=1\nvias=0\nlayers=1,1,1\ntotal_vias=0\ntotal_overflow=0\nmax_overflow=0\n")

abbrev pub bench_rows : List (Row Outcome)
bench_rows =
    c1 ∷ c2 ∷ c3 ∷ c4 ∷ c5 ∷ c6 ∷ c7 ∷ c8a ∷ c8b ∷ c9 ∷ c10
    ∷ three "0,0,e;0,0,n;1,0,n" ∷ three "0,0,e;0,0,n;0,1,e" ∷ three "0,0,e;1,0,n;0,1,e" ∷ three "0,0,n;1,0,n;0,1,e" ∷ []
