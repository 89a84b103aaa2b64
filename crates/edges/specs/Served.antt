-- The ways that the entries of a line go, and those entries as they stand in the text. Document 02, S-2: "13, on an `edges` line, after 8 and before 11, an
-- edge whose direction has no layer".
-- Assumes nothing.
use Rattle.std.specs.Prelude.{Bool, true, cond, List, ◌≡◌, ℕ, eqb, length, drop}
use Rattle.std.proofs.Math.Option.{some}
use Rattle.layout.specs.declared.shape.Shape.{Shape}
use Rattle.model.specs.Lists.{all}
use Rattle.model.specs.Read.{Triple, edge_inside}
use Rattle.model.specs.Text.{cut_line}
use Rattle.scan.specs.Ways.{edges_cut}
use Rattle.edges.specs.declared.Edges.{Edges}

-- the way of an entry's edge, as `edge_at` takes it: 0 for east, 1 for north
abbrev pub way_on : Triple → ℕ
way_on t = cond (eqb t.third 0) 0 1

-- it goes this way
abbrev pub goes : ℕ → Triple → Bool
goes way t = eqb (way_on t) way

-- The entries ts of a line, all inside the grid, stand at e in the text s.
pub record EntriesAt (g : Shape) (s : List ℕ) (e : Edges) (ts : List Triple) : Type 0 where
  pub rest : List ℕ
  pub there : edges_cut (cut_line (drop e.from s)) ≡ some (ts, rest)
  pub inside : all (edge_inside g.w g.h) ts ≡ true
  pub count : e.entries ≡ length ts
