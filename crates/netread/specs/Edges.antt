-- The edges of a net that is read again.
-- Assumes nothing.
use Rattle.std.specs.Prelude.{List, [], map, ◌≡◌, ℕ, ◌+◌, ◌≤◌, ◌<◌, min, length, get_or}
use Rattle.std.proofs.Math.Option.{none}
use Rattle.std.proofs.Common.{◌∙◌}
use Rattle.layout.specs.Areas.{tiles_at, links_at, list_at, stops_at, tiles_of}
use Rattle.layout.specs.declared.shape.Shape.{Shape}
use Rattle.marks.specs.Marks.{marks_after}
use Rattle.marks.specs.Words.{Fits}
use Rattle.model.specs.Job.{Pin, Net}
use Rattle.model.specs.Read.{Triple}
use Rattle.model.specs.Walk.{lowest_from}
use Rattle.net.specs.AtHand.{AtHand}
use Rattle.theory.specs.links.Reach.{lo_of, hi_of}
use Rattle.ways.specs.Ends.{after-long}
use Rattle.ways.specs.Entry.{start_of, edge_of}
use Rattle.netread.specs.declared.Again.{Again}

-- w' is w apart from the tiles' marks and the list of edges
pub record Elsewhere (g : Shape) (w w' : List ℕ) : Type 0 where
  pub long : length w' ≡ length w
  pub low : (i : ℕ) → i < tiles_at g → get_or w' i 0 ≡ get_or w i 0
  pub between : (i : ℕ) → links_at g ≤ i → i < list_at g → get_or w' i 0 ≡ get_or w i 0
  pub high : (i : ℕ) → stops_at g ≤ i → get_or w' i 0 ≡ get_or w i 0

-- the marks after an edge is marked: way d, 0 for east and 1 for north, where it starts, and where it ends the way back
abbrev pub both_after : ℕ → List ℕ → ℕ → ℕ → ℕ → List ℕ
both_after n a here there d = marks_after n (marks_after n a here (8 + d)) there (10 + d)

pub both_long : (n : ℕ) (a : List ℕ) (here there d : ℕ) → length (both_after n a here there d) ≡ length a
both_long n a here there d = after-long n (marks_after n a here (8 + d)) there (10 + d) ∙ after-long n a here (8 + d)

-- the edge of entry t is marked in its two tiles, and listed behind those read before
pub record EdgeMarked (g : Shape) (n : ℕ) (t : Triple) (v : Again) (w w' : List ℕ) (r : Again) : Type 0 where
  pub marks : tiles_of g w' ≡ both_after n (tiles_of g w) (start_of g t) (hi_of g.w g.h (edge_of g t)) t.third
  pub listed : get_or w' (list_at g + v.entries) 0 ≡ edge_of g t
  pub others : (i : ℕ) → i < v.entries → get_or w' (list_at g + i) 0 ≡ get_or w (list_at g + i) 0
  pub elsewhere : Elsewhere g w w'
  pub lowest : r.low ≡ min v.low (start_of g t)
  pub count : r.entries ≡ v.entries + 1

-- a net with these pins and entries, all of which it keeps
abbrev pub net_with : List Pin → List ℕ → Net
net_with ps es = record { low = none; pins = ps; entries = es; edges = es }

-- The edges es are marked and listed. From the pins on, the working numbers then hold the net; low is the lowest tile before.
pub record EdgesMarked (g : Shape) (n low : ℕ) (es : List ℕ) (w w' : List ℕ) (r : Again) : Type 0 where
  pub hand : (ps : List Pin) → AtHand g n (net_with ps []) w → AtHand g n (net_with ps es) w'
  pub count : r.entries ≡ length es
  pub lowest : r.low ≡ lowest_from low (map (lo_of g.w g.h) es)
  pub elsewhere : Elsewhere g w w'

-- the same, and no stamp is above n
abbrev pub EdgesGoing : Shape → ℕ → ℕ → List ℕ → List ℕ → Again → List ℕ → Type 0
EdgesGoing g n low w w' v es = EdgesMarked g n low es w w' v × Fits n (tiles_of g w')
