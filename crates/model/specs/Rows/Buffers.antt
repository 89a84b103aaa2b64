-- Rows for what the calls return and leave in their buffers, for the print, and for the print program.
-- Assumes nothing.
use Rattle.std.specs.Prelude.{List, [], ◌∷◌, ◌++◌, ℕ, take, set, replicate}
use Rattle.std.proofs.Math.Option.{some}
use Prim.Native.String.{String, ◌++◌ as ◌then◌}
use Rattle.model.specs.Calls.{Returned, Buffers, Planned, plan_call, Printed, print_call, refusal}
use Rattle.model.specs.Print.{print_line, print_nets}
use Rattle.model.specs.Program.{program_lent, written, program}
use Rattle.model.specs.Read.{Lent}
use Rattle.model.specs.Rows.Bench.{order_of, pair}
use Rattle.model.specs.Rows.Row.{Row, ◌gives◌, text_of, lent, sample}
use Rattle.model.specs.Text.{bytes, decimals}

-- ---- the calls

-- Three nets on one edge without capacity. They need 2 × 2 × 1 + 2 × 1 + 32 × 2 = 70 working numbers, three order entries, three answer bytes and
-- 256 + 64 × 3 + 2 × 3 = 454 print bytes.
abbrev job : List ℕ
job =
    bytes
    (pair "0" "0" "3"
    then "net=1\npins=0,0,1\nedges=0,0,e\nnet=2\npins=0,0,1;1,0,1\nedges=0,0,e\nnet=3\npins=0,0,1;1,0,1\nedges=0,0,e\n")

abbrev print : List ℕ
print =
    bytes
    ("order=2,3,1\nnet=1\nvias=1\nlayers=2\nnet=2\nvias=0\nlayers=1\nnet=3\nvias=0\nlayers=1\n" then "total_vias=1\ntotal_overflow=3\nmax_overflow=2\n")

abbrev returns : ℕ → ℕ → ℕ → ℕ → ℕ → Returned
returns n l v t m = record { number = n; line = l; vias = v; total = t; maximum = m }

-- the working numbers are w of these; order list and answer list as given
abbrev holding : ℕ → ℕ → List (ℕ × ℕ) → List ℕ → Buffers
holding w value es ys = record { working = replicate w value; order = order_of es; answer = ys }

abbrev planned : Returned → Buffers → Planned
planned r b = record { returned = r; buffers = b }

-- "An accepted job returns 0, 0, total vias, TO and MO of the layered plan"; "A refused one returns number, line and zeros; order list, answer list
-- and print buffer are unchanged"; "After every call, refused or not, the whole buffer is zero."; "Longer buffers are fine; what lies beyond the
-- needed part, and beyond the printed text, stays unchanged"
abbrev pub plan_rows : List (Row Planned)
plan_rows =
    (plan_call job (holding 70 9 ((7, 7) ∷ (7, 7) ∷ (7, 7) ∷ []) (8 ∷ 8 ∷ 8 ∷ []))
    gives planned (returns 0 0 1 3 2) (holding 70 0 ((2, 3000) ∷ (3, 3000) ∷ (1, 2000) ∷ []) (2 ∷ 1 ∷ 1 ∷ [])))
    ∷ (plan_call job (holding 73 9 ((4, 1) ∷ (4, 2) ∷ (4, 3) ∷ (4, 4) ∷ (4, 5) ∷ []) (5 ∷ 6 ∷ 7 ∷ 8 ∷ 9 ∷ []))
    gives planned (returns 0 0 1 3 2) (holding 73 0 ((2, 3000) ∷ (3, 3000) ∷ (1, 2000) ∷ (4, 4) ∷ (4, 5) ∷ []) (2 ∷ 1 ∷ 1 ∷ 8 ∷ 9 ∷ [])))
    ∷ (plan_call job (holding 69 9 ((4, 1) ∷ (4, 2) ∷ (4, 3) ∷ []) (5 ∷ 6 ∷ 7 ∷ []))
    gives planned (returns 9 3 0 0 0) (holding 69 0 ((4, 1) ∷ (4, 2) ∷ (4, 3) ∷ []) (5 ∷ 6 ∷ 7 ∷ [])))
    ∷ (plan_call job (holding 70 9 ((4, 1) ∷ (4, 2) ∷ []) (5 ∷ 6 ∷ 7 ∷ []))
    gives planned (returns 10 11 0 0 0) (holding 70 0 ((4, 1) ∷ (4, 2) ∷ []) (5 ∷ 6 ∷ 7 ∷ [])))
    ∷ (plan_call job (holding 70 9 ((4, 1) ∷ (4, 2) ∷ (4, 3) ∷ []) (5 ∷ 6 ∷ []))
    gives planned (returns 11 20 0 0 0) (holding 70 0 ((4, 1) ∷ (4, 2) ∷ (4, 3) ∷ []) (5 ∷ 6 ∷ [])))
    ∷ (plan_call [] (holding 2 9 [] (5 ∷ [])) gives planned (returns 2 1 0 0 0) (holding 2 0 [] (5 ∷ []))) ∷ []

abbrev printed : Returned → ℕ → Buffers → List ℕ → Printed
printed r n b out = record { returned = r; length = n; buffers = b; print = out }

abbrev before : Buffers
before = holding 71 9 ((4, 1) ∷ (4, 2) ∷ (4, 3) ∷ (4, 4) ∷ []) (5 ∷ 6 ∷ 7 ∷ 8 ∷ [])

abbrev after : Buffers
after = holding 71 0 ((2, 3000) ∷ (3, 3000) ∷ (1, 2000) ∷ (4, 4) ∷ []) (2 ∷ 1 ∷ 1 ∷ 8 ∷ [])

abbrev cleaned : Buffers
cleaned = holding 71 0 ((4, 1) ∷ (4, 2) ∷ (4, 3) ∷ (4, 4) ∷ []) (5 ∷ 6 ∷ 7 ∷ 8 ∷ [])

-- "Print does the same and also writes the text below", "Print adds the length of its text", "The text fills its start."
abbrev pub print_rows : List (Row Printed)
print_rows =
    (print_call job before (replicate 454 5) gives printed (returns 0 0 1 3 2) 123 after (print ++ replicate 331 5))
    ∷ (print_call job before (replicate 460 5) gives printed (returns 0 0 1 3 2) 123 after (print ++ replicate 337 5))
    ∷ (print_call job before (replicate 453 5) gives printed (returns 11 20 0 0 0) 0 cleaned (replicate 453 5))
    ∷ (print_call [] before (6 ∷ 7 ∷ []) gives printed (returns 2 1 0 0 0) 0 cleaned (6 ∷ 7 ∷ [])) ∷ []

-- ---- printed lines

-- "Each printed line, a refusal's too, ends with byte 10."
abbrev pub printed_line_rows : List (Row (List ℕ))
printed_line_rows =
    (decimals [] gives []) ∷ (decimals (0 ∷ 9 ∷ 10 ∷ 99 ∷ 100 ∷ 4_096 ∷ 7_311_360 ∷ []) gives bytes "0,9,10,99,100,4096,7311360")
    ∷ (print_line "order" (12 ∷ 3 ∷ []) gives bytes "order=12,3\n") ∷ (print_line "layers" [] gives bytes "layers=\n")
    ∷ (print_nets 9 (10 ∷ 0 ∷ []) ((1 ∷ 12 ∷ []) ∷ [] ∷ []) gives bytes "net=9\nvias=10\nlayers=1,12\nnet=10\nvias=0\nlayers=\n")
    ∷ (written (refusal 11 12_345) gives bytes "refused=11,12345\n") ∷ []

-- ---- the program

-- "It lends 16,384 working numbers, 4,096 order entries and 65,536 bytes each for answer and print"
abbrev pub program_lent_rows : List (Row Lent)
program_lent_rows = (program_lent gives lent 16_384 4_096 65_536 (some 65_536)) ∷ []

abbrev answers : List String → String → Row (List ℕ)
answers input output = program (text_of input) gives bytes output

abbrev pub program_rows : List (Row (List ℕ))
program_rows =
    -- "writes the print, or `refused=number,line`"
    answers (take 10 sample ++ ("nets=0" ∷ [])) "order=\ntotal_vias=0\ntotal_overflow=0\nmax_overflow=0\n"
    ∷ answers (set sample 10 "nets=4097") "refused=3,11\n"
    ∷ answers (take 10 sample ++ ("nets=4096" ∷ [])) "refused=2,12\n"
    -- "so larger grids give 9 there": 16,380 and 16,386 working numbers
    ∷ answers ("width=15" ∷ "height=20" ∷ "layers=5" ∷ []) "refused=2,4\n"
    ∷ answers ("width=14" ∷ "height=27" ∷ "layers=2" ∷ []) "refused=9,3\n"
    ∷ answers ("width=64" ∷ "height=64" ∷ "layers=8" ∷ []) "refused=9,3\n" ∷ []
