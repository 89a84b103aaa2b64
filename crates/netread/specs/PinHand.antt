-- The pins of a net that is read again: what the working numbers hold of them, and their lowest tile.
-- Assumes nothing.
use Rattle.std.specs.Prelude.{Bool, true, false, ◌&&◌, ◌||◌, cond, List, [], ◌∷◌, ◌++◌, map, ◌≡◌, refl, ℕ, ◌+◌, ◌-◌, ◌≤◌, ◌<◌, min, eqb, length}
use Rattle.std.proofs.Common.{sym, ap, ◌∙◌, arith, eq-eqb, ne_eqb}
use Rattle.std.proofs.Math.Decide.{ℕ_discrete}
use Rattle.layout.specs.Areas.{tiles_at, chosen_at, tiles_of}
use Rattle.layout.specs.Parts.{part-long}
use Rattle.layout.specs.Shapes.{Shaped}
use Rattle.layout.specs.declared.shape.Shape.{Shape}
use Rattle.marks.specs.Marks.{marked, Older, marks_after, older-fits, none-marked}
use Rattle.model.specs.Job.{Pin, Net, Job}
use Rattle.model.specs.Lists.{any, has, In}
use Rattle.model.specs.Read.{same_pin}
use Rattle.model.specs.Vias.{pin_layers}
use Rattle.model.specs.Walk.{end_tiles, net_tiles, lowest_from, lowest}
use Rattle.net.specs.AtHand.{Drawn}
use Rattle.pins.specs.Laws.{AllInside, first-twice, pins-has, pins-others, pins-fit}
use Rattle.pins.specs.Pins.{pin_marked, mark_pin, mark_pins, marked_twice}
use Rattle.theory.specs.congestion.Sums.{in_head, in_tail}
use Rattle.theory.specs.links.Nets.{NetOk, EachPin}
use Rattle.theory.specs.links.Reach.{lo_of, hi_of}
use Rattle.theory.specs.walk.NetVias.{pin_tiles}
use Rattle.theory.specs.walk.Ways.{way?}
use Rattle.netread.specs.Pins.{after_pins, no_tile}
use Rattle.netread.specs.Ways.{lo-hi}

-- ---- marks

-- where no pin is met twice, each mark is a new one
after-pins : (n : ℕ) (a : List ℕ) (ps : List Pin) → marked_twice n a ps ≡ false → after_pins n a ps ≡ mark_pins n a ps
unfolding marks_after
after-pins n a [] e = refl
after-pins n a (p ∷ ps) e = go (pin_marked n a p) refl e (after-pins n (mark_pin n a p) ps)
  where
    go : (q : Bool) → pin_marked n a p ≡ q → cond q true (marked_twice n (mark_pin n a p) ps) ≡ false
        → (marked_twice n (mark_pin n a p) ps ≡ false → after_pins n (mark_pin n a p) ps ≡ mark_pins n (mark_pin n a p) ps)
        → after_pins n (cond (pin_marked n a p) a (mark_pin n a p)) ps ≡ mark_pins n (mark_pin n a p) ps
    go true h k rest = absurd (let y : ◌≡◌ {A = ℕ} 0 1 = cc in omega arith)
    go false h k rest = rw h (rest k)

eqb-turned : (a b : ℕ) → eqb a b ≡ eqb b a
eqb-turned a b = go (ℕ_discrete a b)
  where
    go : Dec (a ≡ b) → eqb a b ≡ eqb b a
    go (yes e) = eq-eqb a b e ∙ sym (eq-eqb b a (sym e))
    go (no n) = ne_eqb a b n ∙ sym (ne_eqb b a (λ e. n (sym e)))

-- a pin of the list is in tile t on layer l
pin-layer : (t l : ℕ) (ps : List Pin) → any (λ p. same_pin p (record { tile = t; layer = l })) ps ≡ has (pin_layers t ps) l
pin-layer t l [] = refl
pin-layer t l (p ∷ ps) = rw (pin-layer t l ps, eqb-turned p.layer l) (go (eqb p.tile t))
  where
    go : (a : Bool) → cond (a && eqb l p.layer) true (has (pin_layers t ps) l) ≡ has (cond a (p.layer ∷ pin_layers t ps) (pin_layers t ps)) l
    go true = refl
    go false = refl

all-inside : (size K : ℕ) → K ≤ 8 → (ps : List Pin) → ((t : ℕ) → In t (pin_tiles ps) → t < size) → EachPin (λ p. (1 ≤ p.layer) × (p.layer ≤ K)) ps → AllInside size ps
all-inside size K few [] h k = tt
all-inside size K few (p ∷ ps) h k =
    ((h p.tile (in_head p.tile (pin_tiles ps)), k.0.0, omega (arith, k.0.1)), all-inside size K few ps (λ t i. h t (in_tail t p.tile (pin_tiles ps) i)) k.1)

module _ (g : Shape) (shaped : Shaped g) (n : ℕ) (net : Net) (ok : NetOk g.w g.h g.k net) (w w' : List ℕ) (room : chosen_at g ≤ length w)
    (older : Older n (tiles_of g w)) (marks : tiles_of g w' ≡ after_pins n (tiles_of g w) net.pins) where
  inside : AllInside (length (tiles_of g w)) net.pins
  inside =
      all-inside (length (tiles_of g w)) g.k shaped.k_most net.pins
      (λ t i. omega (arith, ok.pins_inside t i, shaped.t_is, part-long (tiles_at g) g.t w (omega arith)))
      ok.pins_layers

  once : marked_twice n (tiles_of g w) net.pins ≡ false
  once = first-twice n (tiles_of g w) older net.pins inside ∙ ok.pins_once

  marks-are : tiles_of g w' ≡ mark_pins n (tiles_of g w) net.pins
  marks-are = marks ∙ after-pins n (tiles_of g w) net.pins once

  none_or : (b c : Bool) → c ≡ false → (b || c) ≡ b
  none_or true c e = refl
  none_or false c e = e

  and_none : (b : Bool) → false ≡ (b && false)
  and_none true = refl
  and_none false = refl

  -- the pins are marked, and no edge yet
  pub pins-drawn : Drawn g n net.pins [] (tiles_of g w')
  pins-drawn = record {
    fits = rw marks-are (pins-fit n (tiles_of g w) net.pins inside once (older-fits n (tiles_of g w) older));
    pins = λ t l b h k.
        ap (λ (a : List ℕ). marked n a t (l - 1)) marks-are
        ∙ pins-has n (tiles_of g w) net.pins inside once (record { tile = t; layer = l }) h
        ∙ none_or (any (λ p. same_pin p (record { tile = t; layer = l })) net.pins) (marked n (tiles_of g w) t (l - 1)) (none-marked n (tiles_of g w) older t (l - 1))
        ∙ pin-layer t l net.pins;
    ways = λ t d b h.
        ap (λ (a : List ℕ). marked n a t (8 + d)) marks-are
        ∙ pins-others n (tiles_of g w) net.pins inside once t (8 + d) (omega arith)
        ∙ none-marked n (tiles_of g w) older t (8 + d)
        ∙ and_none (way? g.w g.h t d);
  }

-- ---- the lowest tile

lowest-append : (a : ℕ) (xs ys : List ℕ) → lowest_from a (xs ++ ys) ≡ lowest_from (lowest_from a xs) ys
lowest-append a [] ys = refl
lowest-append a (x ∷ xs) ys = lowest-append (min a x) xs ys

-- of an edge's two tiles the one where it starts
lowest-ends : (j : Job) → 1 ≤ j.width → 1 ≤ j.height → (a : ℕ) (es : List ℕ) → lowest_from a (end_tiles j es) ≡ lowest_from a (map (lo_of j.width j.height) es)
lowest-ends j wide high a [] = refl
lowest-ends j wide high a (e ∷ es) =
    let k : min (min a (lo_of j.width j.height e)) (hi_of j.width j.height e) ≡ min a (lo_of j.width j.height e) = omega (arith, lo-hi j.width j.height wide high e) in
    ap (λ (b : ℕ). lowest_from b (end_tiles j es)) k ∙ lowest-ends j wide high (min a (lo_of j.width j.height e)) es

lowest-pins : (ps : List Pin) → 1 ≤ length ps → ((t : ℕ) → In t (pin_tiles ps) → t < no_tile) → (ys : List ℕ)
    → lowest_from (lowest_from no_tile (map (λ p. p.tile) ps)) ys ≡ lowest (map (λ p. p.tile) ps ++ ys)
lowest-pins [] h k ys = absurd (omega arith)
lowest-pins (p ∷ ps) h k ys =
    let e : min no_tile p.tile ≡ p.tile = omega (arith, k p.tile (in_head p.tile (pin_tiles ps))) in
    ap (λ (b : ℕ). lowest_from (lowest_from b (map (λ (q : Pin). q.tile) ps)) ys) e ∙ sym (lowest-append p.tile (map (λ (q : Pin). q.tile) ps) ys)

-- the lowest tile of the pins, and then of the edges' starts, is the net's
pub net-lowest : (j : Job) → 1 ≤ j.width → 1 ≤ j.height → (net : Net) → 1 ≤ length net.pins → ((t : ℕ) → In t (pin_tiles net.pins) → t < no_tile)
    → lowest_from (lowest_from no_tile (map (λ p. p.tile) net.pins)) (map (lo_of j.width j.height) net.edges) ≡ lowest (net_tiles j net)
net-lowest j wide high net h k =
    sym (lowest-ends j wide high (lowest_from no_tile (map (λ p. p.tile) net.pins)) net.edges) ∙ lowest-pins net.pins h k (end_tiles j net.edges)
