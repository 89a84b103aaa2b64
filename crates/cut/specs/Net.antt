-- A net whose entries have a ring: what is marked once its rings are cut.
-- Assumes nothing.
use Rattle.std.specs.Prelude.{true, List, [], ◌∷◌, map, ℕ, ◌+◌, ◌*◌, ◌≤◌, length, get_or}
use Rattle.std.proofs.Common.{inr, sym, subst, ◌∙◌, arith}
use Rattle.std.proofs.Math.Path.{◌≡◌, ap}
use Rattle.layout.specs.Areas.{tiles_at, links_at, chosen_at, tiles_of, links_of}
use Rattle.layout.specs.Parts.{part-outside, Outside, outside_wider, outside-then}
use Rattle.layout.specs.Shapes.{Shaped}
use Rattle.layout.specs.declared.shape.Shape.{Shape}
use Rattle.marks.specs.Marks.{Older}
use Rattle.marks.specs.Words.{Fits}
use Rattle.model.specs.Cut.{pinned}
use Rattle.model.specs.Grid.{grid_edges}
use Rattle.model.specs.Job.{Pin, Net}
use Rattle.model.specs.Lists.{bit}
use Rattle.model.specs.Tree.{ring}
use Rattle.model.specs.Walk.{lowest_from}
use Rattle.net.specs.AtHand.{Drawn}
use Rattle.net.specs.Left.{EdgesThere, edges-there, edges_none}
use Rattle.net.specs.Table.{PinsAt, EdgesAt}
use Rattle.netread.specs.Net.{PinsPut}
use Rattle.netread.specs.PinHand.{pins-drawn}
use Rattle.netread.specs.Pins.{PinsThere, no_tile}
use Rattle.theory.specs.cutting.Strip.{strips_to, strips-within}
use Rattle.theory.specs.links.Cut.{cut-strips}
use Rattle.theory.specs.links.Nets.{NetOk, EachPin}
use Rattle.theory.specs.links.Reach.{lo_of, hi_of}
use Rattle.theory.specs.links.Scores.{few-numbers}
use Rattle.theory.specs.walk.Joined.{kept, kept-le}
use Rattle.cut.specs.Bare.{Fine}
use Rattle.cut.specs.Joining.{Joined}
use Rattle.cut.specs.Strips.{both_tiles, Strippable, Stripped}

-- the lines of the net stand at p and q, and its entries have a ring
pub record RingAt (s : List ℕ) (g : Shape) (p q : ℕ) (net : Net) : Type 0 where
  pub pins : PinsAt s g.w g.h g.k p net
  pub edges : EdgesAt s g.w g.h q net
  pub ok : NetOk g.w g.h g.k net
  pub ring : ring g.w g.h net.entries ≡ true

-- the lines of some such net
pub record RingThere (s : List ℕ) (g : Shape) (p q : ℕ) : Type 0 where
  pub net : Net
  pub lines : RingAt s g p q net

-- its pins and the edges that it keeps are marked, and r is the lowest tile of its pins
pub record CutMarked (g : Shape) (n : ℕ) (net : Net) (w w' : List ℕ) (r : ℕ) : Type 0 where
  pub drawn : Drawn g n net.pins net.edges (tiles_of g w')
  pub links : Older (n + 1) (links_of g w')
  pub low : r ≡ lowest_from no_tile (map (λ p. p.tile) net.pins)
  pub around : Outside (tiles_at g) (2 * g.t) w w'

within-eight : (K : ℕ) → K ≤ 8 → (ps : List Pin) → EachPin (λ p. (1 ≤ p.layer) × (p.layer ≤ K)) ps → EachPin (λ p. (1 ≤ p.layer) × (p.layer ≤ 8)) ps
within-eight K h [] k = tt
within-eight K h (p ∷ ps) k = ((k.0.0, omega (arith, k.0.1)), within-eight K h ps k.1)

module _ (s : List ℕ) (g : Shape) (shaped : Shaped g) (p q : ℕ) (net : Net) (at : RingAt s g p q net) where
  pub pins-there : PinsThere s g p
  pins-there = record { net = net; pins = at.pins }

  pub entries-there : EdgesThere s g q
  entries-there = edges-there s g q shaped net at.edges at.ok

  -- it has one
  pub some-entry : get_or s q 0 ≡ 10 → ⊥
  unfolding ring
  some-entry e =
      let none = edges_none s g.w g.h q net at.edges e in
      let x : ◌≡◌ {A = ℕ} 0 1 = ap bit (ap (ring g.w g.h) (sym none) ∙ at.ring) in
      omega (arith, x)

  abbrev lo : ℕ → ℕ
  lo = lo_of g.w g.h

  abbrev hi : ℕ → ℕ
  hi = hi_of g.w g.h

  open-fine : Fine g net.pins (kept (lo_of g.w g.h) (hi_of g.w g.h) [] net.entries)
  open-fine = record {
    once = λ e. omega (arith, kept-le lo hi [] net.entries e, at.ok.entries_once e);
    known = λ e i. at.ok.entries_known e (omega (arith, kept-le lo hi [] net.entries e, i));
    layers = within-eight g.k shaped.k_most net.pins at.ok.pins_layers;
  }

  module _ (n : ℕ) (w w₁ : List ℕ) (room : chosen_at g ≤ length w) (older : Older n (tiles_of g w)) (links-older : Older n (links_of g w)) (low : ℕ) (put : PinsPut g n net w w₁ low) where
    drawn-pins : Drawn g n net.pins [] (tiles_of g w₁)
    drawn-pins = pins-drawn g shaped n net at.ok w w₁ room older put.marks

    pub fits-pins : Fits n (tiles_of g w₁)
    fits-pins = drawn-pins.fits

    pub older-links : Older n (links_of g w₁)
    older-links = subst (Older n) (sym (part-outside (tiles_at g) g.t w w₁ put.out (links_at g) g.t (inr (omega arith)))) links-older

    module _ (w₂ : List ℕ) (joined : Joined g n net.entries w₁ w₂) where
      pub strippable : Strippable g n (tiles_of g w₂)
      strippable = record { pins = net.pins; edges = kept lo hi [] net.entries; fine = open-fine; drawn = joined.drawn net.pins drawn-pins }

      module _ (w₃ : List ℕ) (stripped : Stripped g n (both_tiles g net.entries) (tiles_of g w₂) (tiles_of g w₃)) (out : Outside (tiles_at g) g.t w₂ w₃) where
        few : length (kept lo hi [] net.entries) ≤ g.e
        few = omega (arith, few-numbers (grid_edges g.w g.h) (kept lo hi [] net.entries) open-fine.known open-fine.once, shaped.e_is)

        edges_are : strips_to lo hi (pinned net.pins) g.e (both_tiles g net.entries) (kept lo hi [] net.entries) ≡ net.edges
        edges_are =
            strips-within lo hi (pinned net.pins) g.e (both_tiles g net.entries) (kept lo hi [] net.entries) few
            ∙ cut-strips g.w g.h net.pins net.entries at.ring
            ∙ sym at.ok.cut_is

        pub cut-marked : CutMarked g n net w w₃ low
        cut-marked = record {
          drawn = subst (λ (es : List ℕ). Drawn g n net.pins es (tiles_of g w₃)) edges_are (stripped.drawn net.pins (kept lo hi [] net.entries) open-fine (joined.drawn net.pins drawn-pins));
          links = subst (Older (n + 1)) (sym (part-outside (tiles_at g) g.t w₂ w₃ out (links_at g) g.t (inr (omega arith)))) joined.links.older;
          low = put.low;
          around =
              outside-then (tiles_at g) (2 * g.t) w w₁ w₃ (outside_wider (tiles_at g) g.t (tiles_at g) (2 * g.t) w w₁ put.out (omega arith) (omega arith))
              (outside-then (tiles_at g) (2 * g.t) w₁ w₂ w₃ joined.around (outside_wider (tiles_at g) g.t (tiles_at g) (2 * g.t) w₂ w₃ out (omega arith) (omega arith)));
        }
