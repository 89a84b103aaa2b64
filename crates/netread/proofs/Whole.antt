-- The two lines of a net, one after the other.
-- Assumes nothing.
use mathlib.Core.List.{List, [], map}
use mathlib.Core.Path.{◌≡◌, sym, ap, ap₂, subst, ◌∙◌}
use Prim.Native.Nat.{ℕ, ◌+◌, ◌*◌, ◌≤◌, ◌<◌}
use native.Mathlib.Omega.{arith}
use lib.ListN.{length}
use Rattle.layout.specs.Areas.{links_at, areas_end, tiles_of, links_of}
use Rattle.layout.specs.Parts.{part_same}
use Rattle.layout.specs.Shapes.{Shaped}
use Rattle.layout.specs.declared.shape.Shape.{Shape}
use Rattle.marks.specs.Marks.{Older}
use Rattle.marks.specs.Words.{Fits}
use Rattle.model.specs.Job.{Pin, Net, Job}
use Rattle.model.specs.Lists.{In}
use Rattle.model.specs.Read.{pin_at}
use Rattle.model.specs.Walk.{lowest_from}
use Rattle.net.specs.AtHand.{Drawn, AtHand}
use Rattle.net.specs.Left.{EdgesThere, edges-there}
use Rattle.net.specs.Table.{PinsAt, EdgesAt}
use Rattle.scan.specs.First.{one_line}
use Rattle.theory.specs.links.Reach.{lo_of}
use Rattle.theory.specs.walk.NetVias.{pin_tiles}
use Rattle.netread.specs.Edges.{Elsewhere, EdgesMarked, net_with}
use Rattle.netread.specs.Hand.{elsewhere-marks, elsewhere-then}
use Rattle.netread.specs.Net.{PinsPut, NetThere, LinesOf, NetRead}
use Rattle.netread.specs.PinHand.{pins-drawn, net-lowest}
use Rattle.netread.specs.Pins.{PinsThere, no_tile}
use Rattle.netread.specs.declared.Again.{Again}

-- a line has its pins only
one-pins : (s : List ℕ) (W H K p : ℕ) (m n : Net) → PinsAt s W H K p m → PinsAt s W H K p n → m.pins ≡ n.pins
one-pins s W H K p m n a b =
    sym a.are ∙ ap (map (pin_at W)) (one_line a.entries b.entries a.rest b.rest (sym a.there ∙ b.there)) ∙ b.are

-- what is at hand of a net are its pins and its entries, where it keeps them all
hand_of : (g : Shape) (n : ℕ) (net : Net) (w : List ℕ) → net.edges ≡ net.entries → AtHand g n (net_with net.pins net.entries) w → AtHand g n net w
hand_of g n net w e h = record { drawn = subst (λ (es : List ℕ). Drawn g n net.pins es (tiles_of g w)) (sym e) h.drawn; list = h.list }

module _ (s : List ℕ) (g : Shape) (p q : ℕ) (shaped : Shaped g) (there : NetThere s g p q) where
  pub pins-are : PinsThere s g p
  pins-are = record { net = there.net; pins = there.pins }

  pub edges_are : EdgesThere s g q
  edges_are = edges-there s g q shaped there.net there.edges there.ok

  -- its pins are marked
  module _ (n : ℕ) (w w₁ : List ℕ) (room : areas_end g ≤ length w) (low : ℕ) (put : (m : Net) → PinsAt s g.w g.h g.k p m → PinsPut g n m w w₁ low) where
    one : PinsPut g n there.net w w₁ low
    one = put there.net there.pins

    pub still-room : areas_end g ≤ length w₁
    still-room = omega (arith, one.out.long)

    -- the pins are at hand, and no edge yet
    module _ (older : Older n (tiles_of g w)) where
      hand : AtHand g n (net_with there.net.pins []) w₁
      hand = record { drawn = pins-drawn g shaped n there.net there.ok w w₁ (omega arith) older one.marks; list = λ i h. absurd (omega arith) }

      pub still-fits : Fits n (tiles_of g w₁)
      still-fits = hand.drawn.fits

    module _ (older : Older n (tiles_of g w)) (w' : List ℕ) (r : Again)
        (edges-marked : (m : Net) → EdgesAt s g.w g.h q m → EdgesMarked g n low m.entries w₁ w' r) where
      pub net-read : (j : Job) (net : Net) → LinesOf s g p q j net → net.edges ≡ net.entries → NetRead g n j net w w' r
      net-read j net lines all-kept =
          let e = edges-marked net lines.edges in
          let same = one-pins s g.w g.h g.k p there.net net there.pins lines.pins in
          record {
            hand = hand_of g n net w' all-kept (rw same at (e.hand there.net.pins (hand older)));
            count = e.count;
            root =
                e.lowest
                ∙ ap (λ (es : List ℕ). lowest_from low (map (lo_of g.w g.h) es)) (sym all-kept)
                ∙ ap (λ (b : ℕ). lowest_from b (map (lo_of g.w g.h) net.edges)) (put net lines.pins).low
                ∙ ap₂ (λ (W H : ℕ). lowest_from (lowest_from no_tile (map (λ (k : Pin). k.tile) net.pins)) (map (lo_of W H) net.edges)) lines.width lines.height
                ∙ net-lowest j (omega (arith, lines.width, shaped.w_least)) (omega (arith, lines.height, shaped.h_least)) net
                (omega (arith, ap length same, there.ok.some_pin)) (small there.net.pins net.pins same there.ok.pins_inside);
            long = elsewhere.long;
            low = elsewhere.low;
            links = λ h t. omega (arith, subst (Older n) (sym links-same) h t);
          }
        where
          elsewhere : Elsewhere g w w'
          elsewhere = elsewhere-then g w w₁ w' (elsewhere-marks g w w₁ one.out) (edges-marked net lines.edges).elsewhere

          links-same : links_of g w' ≡ links_of g w
          links-same = part_same (links_at g) g.t w w' elsewhere.long (λ i h. elsewhere.between (links_at g + i) (omega arith) (omega arith))

          small : (ps qs : List Pin) → ps ≡ qs → ((t : ℕ) → In t (pin_tiles ps) → t < g.w * g.h) → (t : ℕ) → In t (pin_tiles qs) → t < no_tile
          small ps qs e h t i = omega (arith, h t (rw e i), shaped.t_is, shaped.t_most)
