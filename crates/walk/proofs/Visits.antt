-- A tile taken out: what the code reads of it is what stands at its place, and what it writes is what its visit leaves.
-- Assumes nothing.
use mathlib.Core.Bool.{true}
use mathlib.Core.List.{List}
use mathlib.Core.Path.{◌≡◌, refl}
use Prim.Native.Nat.{ℕ, ◌+◌, ◌%◌, ◌≤◌, ◌<◌}
use lib.ListN.{length, get_or, set}
use Rattle.layout.specs.Areas.{stops_at, above_at, tiles_at, engine_at}
use Rattle.layout.specs.Shapes.{WayRoom}
use Rattle.layout.specs.declared.shape.Shape.{Shape}
use Rattle.marks.specs.Words.{bits_in, bit_of}
use Rattle.walk.specs.Steps.{onward, four_ways, put_ways, tile_in, marks_in, branches_in, visited}

module _ (g : Shape) (stamp : ℕ) (w : List ℕ) (i n : ℕ) (s u q m : ℕ) (at-s : s ≡ stops_at g) (at-u : u ≡ above_at g) (at-q : q ≡ tiles_at g)
    (marks : m ≡ bits_in stamp (get_or w (q + get_or w (s + i) 0) 0)) where
  pub visit-asked : ((d : ℕ) → d < 4 → bit_of (marks_in g stamp w i) (8 + d) ≡ true → WayRoom g (tile_in g w i) d)
      → n + length (branches_in g stamp w i) ≤ g.m
      → ((d : ℕ) → d < 4 → bit_of m (8 + d) ≡ true → WayRoom g (get_or w (s + i) 0) d) × (n + length (onward g (get_or w (s + i) 0) m (get_or w (u + i) 0) four_ways) ≤ g.m)
  visit-asked h l = rw (marks, at-s, at-u, at-q) (h, l)

  pub visit-done : (r : ℕ) (w' : List ℕ) → r ≡ n + length (onward g (get_or w (s + i) 0) m (get_or w (u + i) 0) four_ways)
      → w' ≡ put_ways (stops_at g) g.m w n (onward g (get_or w (s + i) 0) m (get_or w (u + i) 0) four_ways)
      → (v v' : ℕ) → v ≡ engine_at g → v' ≡ engine_at g
      → (r ≡ n + length (branches_in g stamp w i)) × (set (set w' (v + i) r) (v' + g.m + i) (m % 256) ≡ visited g stamp w i n)
  visit-done r w' e f v v' at-v at-v' = rw (f, e, marks, at-s, at-u, at-q, at-v, at-v') (refl, refl)
