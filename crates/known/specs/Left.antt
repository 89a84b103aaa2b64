-- The next entry of an `edges` line that is read again.
-- Assumes nothing.
use Rattle.std.specs.Prelude.{Option, Some, None, List, ◌≡◌, refl, ℕ}
use Rattle.std.proofs.Common.{arith}
use Rattle.layout.specs.Shapes.{Shaped}
use Rattle.layout.specs.declared.shape.Shape.{Shape}
use Rattle.net.specs.Left.{EdgesLeft, left-bad, left-next}
use Rattle.scan.specs.Pins.{triple}
use Rattle.text.specs.Entries.{edge_entry_at}
use Rattle.text.specs.declared.Entry.{Entry}
use Rattle.ways.specs.Entry.{placed}
use Rattle.known.specs.Short.{ShortEntry}

pub edge-short : (s : List ℕ) (g : Shape) → Shaped g → (p i : ℕ) (es : List ℕ) → EdgesLeft s g.w g.h p i es → ShortEntry (edge_entry_at s i)
edge-short s g shaped p i es left = go (edge_entry_at s i) refl
  where
    go : (e : Option Entry) → e ≡ edge_entry_at s i → ShortEntry e
    go None h = left-bad s g.w g.h p i es left h
    go (Some e) h =
        let next = left-next s g.w g.h p i es left e h in
        let at = placed g shaped (triple e.x e.y e.third) next.inside next.way in
        (omega (arith, at.column, shaped.w_most), omega (arith, at.row, shaped.h_most), omega (arith, next.way))
