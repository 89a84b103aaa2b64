-- The edges of a line that is read again, as an iterator.
-- Assumes nothing.
use Rattle.std.specs.Prelude.{Option, Some, None, true, false, not, cond, List, ◌≡◌, ℕ, suc, ◌-◌, length}
use Rattle.std.specs.Iterator.{Count, at_most}
use Rattle.layout.specs.Shapes.{Shaped}
use Rattle.layout.specs.declared.shape.Shape.{Shape}
use Rattle.net.specs.Left.{EdgesLeft}
use Rattle.text.specs.Entries.{edge_entry_at}
use Rattle.text.specs.declared.Entry.{Entry}
use Rattle.known.specs.declared.Edges.{Edges}

-- entries inside some grid stand at i, up to the end of a line
pub record Standing (s : List ℕ) (i : ℕ) : Type 0 where
  pub grid : Shape
  pub shaped : Shaped grid
  pub line : ℕ
  pub so_far : List ℕ
  pub left : EdgesLeft s grid.w grid.h line i so_far

-- t gives all from p on
abbrev pub AllFrom : List ℕ → ℕ → Edges → Type 0
AllFrom s p t = (t.text.now ≡ s) × (t.at ≡ p) × (t.more ≡ true)

-- where there are more, they stand there
abbrev pub CanNext : Edges → Type 0
CanNext t = t.more ≡ true → Standing t.text.now t.at

-- an entry comes as long as there are more, and the next stands behind it
abbrev pub NextGives : Edges → Option Entry → Edges → Type 0
NextGives t None u = t.more ≡ false
NextGives t (Some e) u = (t.more ≡ true) × (Some e ≡ edge_entry_at t.text.now t.at) × (u.text.now ≡ t.text.now) × (u.at ≡ e.next) × (u.more ≡ not e.last)

abbrev pub entries_most : Edges → Count
entries_most t = at_most (cond t.more (suc (length t.text.now - t.at)) 0)
