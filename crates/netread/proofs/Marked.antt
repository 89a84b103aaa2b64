-- An edge that is marked in its two tiles and listed.
-- Assumes nothing.
use mathlib.Core.Bool.{true}
use mathlib.Core.List.{List}
use mathlib.Core.Logic.{inl}
use mathlib.Core.Path.{◌≡◌, refl, ap, ap₂, ◌∙◌}
use Prim.Native.Nat.{ℕ, ◌+◌, ◌*◌, ◌≤◌, ◌<◌, min}
use native.Mathlib.Omega.{arith}
use lib.ListN.{length, set}
use lib.Seq.{get_or-set_same, get_or-set_other}
use Rattle.layout.specs.Areas.{tiles_at, list_at, areas_end, tiles_of}
use Rattle.layout.specs.Parts.{Outside, part-outside, set-outside}
use Rattle.layout.specs.Shapes.{Shaped, way_of}
use Rattle.layout.specs.declared.shape.Shape.{Shape}
use Rattle.layout.specs.declared.Way.{Way}
use Rattle.model.specs.Read.{edge_inside}
use Rattle.scan.specs.Pins.{triple}
use Rattle.theory.specs.links.Reach.{hi_of}
use Rattle.ways.specs.Entry.{edge_of, Placed, placed, ends_there, edge-is}
use Rattle.netread.specs.Edges.{both_after, EdgeMarked}
use Rattle.netread.specs.Hand.{elsewhere-marks, elsewhere-list, elsewhere-then}
use Rattle.netread.specs.declared.Again.{Again}

module _ (g : Shape) (shaped : Shaped g) (x y d : ℕ) (way-small : d ≤ 1) (inside : edge_inside g.w g.h (triple x y d) ≡ true) where
  pub at : Placed g (triple x y d)
  at = placed g shaped (triple x y d) inside way-small

  module _ (here : ℕ) (here-is : here ≡ y * g.w + x) (way : Way) (way-is : way ≡ way_of g here d) where
    leads : way.tile ≡ hi_of g.w g.h (edge_of g (triple x y d))
    leads = ends_there g shaped (triple x y d) inside way-small here here-is way way-is

    named : way.edge ≡ edge_of g (triple x y d)
    named = edge-is g shaped (triple x y d) inside way-small here here-is way way-is

    pub there-in : way.tile < g.t
    there-in = omega (arith, leads, at.end_in)

    pub edge-small : way.edge < 8064
    edge-small = omega (arith, named, at.known, shaped.e_most)

    module _ (n : ℕ) (v : Again) (few : v.entries < g.e) (w w₁ : List ℕ) (room : areas_end g ≤ length w)
        (marks : tiles_of g w₁ ≡ both_after n (tiles_of g w) here way.tile d) (out : Outside (tiles_at g) g.t w w₁)
        (from low : ℕ) (from_is : from ≡ list_at g) (low_is : low ≡ min v.low here) where
      stored : set w₁ (from + v.entries) way.edge ≡ set w₁ (list_at g + v.entries) way.edge
      stored = ap (λ (i : ℕ). set w₁ (i + v.entries) way.edge) from_is

      pub edge-marked : EdgeMarked g n (triple x y d) v w (set w₁ (from + v.entries) way.edge) (record { low = low; entries = v.entries + 1 })
      edge-marked = rw stored (record {
        marks =
            part-outside (list_at g + v.entries) 1 w₁ (set w₁ (list_at g + v.entries) way.edge) (set-outside w₁ (list_at g + v.entries) way.edge) (tiles_at g) g.t (inl (omega arith))
            ∙ marks
            ∙ ap₂ (λ (a b : ℕ). both_after n (tiles_of g w) a b d) here-is leads;
        listed = get_or-set_same w₁ (list_at g + v.entries) way.edge 0 (omega (arith, out.long, shaped.e_tiles)) ∙ named;
        others = λ i h. get_or-set_other w₁ (list_at g + v.entries) (list_at g + i) way.edge 0 (λ e. omega arith) ∙ out.high (list_at g + i) (omega arith);
        elsewhere = elsewhere-then g w w₁ (set w₁ (list_at g + v.entries) way.edge) (elsewhere-marks g w w₁ out) (elsewhere-list g w₁ v.entries way.edge (omega (arith, shaped.e_tiles)));
        lowest = low_is ∙ ap (min v.low) here-is;
        count = refl;
      })
