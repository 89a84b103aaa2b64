-- The `edges` line as the definitions judge it, and what the code answers.
-- Assumes nothing.
use Rattle.std.specs.Prelude.{Bool, true, false, cond, List, map, ◌≡◌, ℕ, ◌+◌, ◌≤◌, eqb, length, drop, Ok, Err, Result as Outcome}
use Rattle.std.proofs.Math.Option.{none, some}
use Rattle.layout.specs.Shapes.{sizes_of}
use Rattle.layout.specs.declared.shape.Shape.{Shape}
use Rattle.model.specs.Job.{Pin}
use Rattle.model.specs.Lists.{all, twice}
use Rattle.model.specs.Read.{Result, refused, found, Triple, edge_inside, edge_at, has_layer, edges_line}
use Rattle.model.specs.Text.{cut_line}
use Rattle.model.specs.Tree.{ring, joined}
use Rattle.scan.specs.Lines.{Lined}
use Rattle.scan.specs.Ways.{edges_cut}
use Rattle.lines.specs.Told.{After, refused_by}
use Rattle.text.specs.Refusals.{place_of}
use Rattle.text.specs.declared.Cursor.{Cursor}
use Rattle.text.specs.declared.Fault.TheVariants.{Range as OutOfRange, EdgeTwice, Apart}
use Rattle.text.specs.declared.Refusal.{Refusal}
use Rattle.text.specs.declared.Refusal.TheVariants.{Line}
use Rattle.edges.specs.Reading.{Reading, edges_on}
use Rattle.edges.specs.declared.Edges.{Edges}
use Rattle.edges.specs.declared.Judged.{Judged}
use Rattle.edges.specs.declared.Judged.TheVariants.{Fine, Ring, Twice, Range}
use Rattle.edges.specs.declared.Seen.{Seen}

-- an `edges` line that was read, and the place of the next line
abbrev pub EdgesRead : Type 0
EdgesRead = Outcome (Edges × Cursor) Refusal

-- a line of entries that was read, judged but for its last test: range, the same edge twice, reach
abbrev pub judged_line : ℕ → ℕ → List Pin → ℕ → Lined → Result (List ℕ)
judged_line W H ps l none = refused 2 l
judged_line W H ps l (some c) =
    let es = map (edge_at W H) c.0 in
    cond (all (edge_inside W H) c.0)
    (cond (twice eqb es) (refused 6 l) (cond (joined W H ps es) (found es (record { line = l; rest = c.1 })) (refused 8 l)))
    (refused 3 l)

-- the verdict on reach, with a ring or without
abbrev pub reached_by : ℕ → ℕ → ℕ → Cursor → Bool → EdgesRead
reached_by parts entries from c ring = cond (eqb parts 1) (Ok (record { from = from; entries = entries; ring = ring }, c)) (Err (Line Apart c.line))

-- the verdict on a line whose form is right: its entries stand from `from` on, and c is the place after it
abbrev pub verdict_by : Judged → ℕ → ℕ → ℕ → Cursor → EdgesRead
verdict_by Fine parts entries from c = reached_by parts entries from c false
verdict_by Ring parts entries from c = reached_by parts entries from c true
verdict_by Twice parts entries from c = Err (Line EdgeTwice c.line)
verdict_by Range parts entries from c = Err (Line OutOfRange c.line)

abbrev pub verdict_of : Seen → ℕ → Cursor → EdgesRead
verdict_of v from c = verdict_by v.judged v.parts v.entries from c

-- A fine line r of the text s: its entries, the place after it, and what it leaves in the working numbers.
pub record EdgesFound (g : Shape) (n : ℕ) (s : List ℕ) (line : ℕ) (ps : List Pin) (w₀ w : List ℕ) (r : Lined) (e : Edges) (c : Cursor) : Type 0 where
  pub entries : List Triple
  pub text : r ≡ some (entries, drop c.at s)
  pub inside : all (edge_inside g.w g.h) entries ≡ true
  pub once : twice eqb (edges_on g entries) ≡ false
  pub ring_told : ring g.w g.h (edges_on g entries) ≡ e.ring
  pub reached : joined g.w g.h ps (edges_on g entries) ≡ true
  pub count_is : e.entries ≡ length (edges_on g entries)
  pub after : After (length s) line c
  pub reading : Reading g n ps (edges_on g entries) 1 w₀ w

-- the answer to the entries of a line, which stand from c on
abbrev pub EntriesRead : Shape → ℕ → List ℕ → Cursor → List Pin → List ℕ → List ℕ → Lined → EdgesRead → Type 0
EntriesRead g n s c ps w₀ w r (Err f) = judged_line g.w g.h ps c.line r ≡ refused_by f
EntriesRead g n s c ps w₀ w r (Ok x) = (x.0.from ≡ c.at) × EdgesFound g n s c.line ps w₀ w r x.0 x.1

-- An `edges` line at the place c of the text s that passed every test but the last, which decides: "13, on an `edges` line, after 8 and before 11, an edge
-- whose direction has no layer" (document 02, S-2).
pub record JoinedFound (g : Shape) (n : ℕ) (s : List ℕ) (c : Cursor) (ps : List Pin) (w₀ w : List ℕ) (e : Edges) (d : Cursor) : Type 0 where
  pub from_in : e.from ≤ length s
  pub line : EdgesFound g n s (c.line + 1) ps w₀ w (edges_cut (cut_line (drop e.from s))) e d
  pub left : edges_line (sizes_of g) ps (place_of s c)
      ≡ cond (all (has_layer (sizes_of g)) (edges_on g line.entries)) (found (edges_on g line.entries) (place_of s d)) (refused 13 d.line)

-- the answer to the line at a place, but for its last test
abbrev pub JoinedRead : Shape → ℕ → List ℕ → Cursor → List Pin → List ℕ → List ℕ → EdgesRead → Type 0
JoinedRead g n s c ps w₀ w (Err f) = edges_line (sizes_of g) ps (place_of s c) ≡ refused_by f
JoinedRead g n s c ps w₀ w (Ok x) = JoinedFound g n s c ps w₀ w x.0 x.1

-- A fine `edges` line at the place c of the text s.
pub record LineFound (g : Shape) (n : ℕ) (s : List ℕ) (c : Cursor) (ps : List Pin) (w₀ w : List ℕ) (e : Edges) (d : Cursor) : Type 0 where
  pub from_in : e.from ≤ length s
  pub line : EdgesFound g n s (c.line + 1) ps w₀ w (edges_cut (cut_line (drop e.from s))) e d
  pub is : edges_line (sizes_of g) ps (place_of s c) ≡ found (edges_on g line.entries) (place_of s d)

-- the answer to the line at a place
abbrev pub LineRead : Shape → ℕ → List ℕ → Cursor → List Pin → List ℕ → List ℕ → EdgesRead → Type 0
LineRead g n s c ps w₀ w (Err f) = edges_line (sizes_of g) ps (place_of s c) ≡ refused_by f
LineRead g n s c ps w₀ w (Ok x) = LineFound g n s c ps w₀ w x.0 x.1
