-- The working numbers after the `pins` line of a net: its pins are marked, each of their tiles is a part, and nothing is joined yet.
-- Assumes nothing.
use Rattle.std.specs.Prelude.{false, List, [], ◌∷◌, ◌++◌, ◌≡◌, refl, ℕ, ◌+◌, ◌-◌, ◌*◌, ◌≤◌, ◌<◌, eqb, length, Ok}
use Rattle.std.proofs.Common.{append_assoc, append-nil, inr, sym, ap, ◌∙◌, subst, arith}
use Rattle.layout.specs.Areas.{demand_at, tiles_at, links_at, chosen_at, tiles_of, links_of}
use Rattle.layout.specs.Dirs.{dirs_of}
use Rattle.layout.specs.Parts.{Outside, part-long, part-outside}
use Rattle.layout.specs.Shapes.{sizes_of, Shaped}
use Rattle.layout.specs.declared.shape.Shape.{Shape}
use Rattle.marks.specs.Marks.{bits_at, marked, touched, Older, mark-long, mark-touches, none_yet, none-marked, older-fits}
use Rattle.model.specs.Job.{Pin}
use Rattle.model.specs.Lists.{twice, bit, In}
use Rattle.model.specs.Read.{Place, Result, refused, found, same_pin, pins_line}
use Rattle.model.specs.Score.{different_tiles}
use Rattle.pins.specs.Laws.{AllInside, first-twice, first-new, still-inside, pins-others, pins-fit, first-tiles}
use Rattle.lines.specs.Told.{mapped}
use Rattle.pins.specs.Pins.{Marked, mark_pin, mark_pins, marked_twice, new_tiles, pins_marked, pins_told}
use Rattle.pins.specs.declared.Pins.{Pins}
use Rattle.text.specs.Refusals.{place_of}
use Rattle.text.specs.declared.Cursor.{Cursor}
use Rattle.theory.specs.congestion.Sums.{in_head, in_tail}
use Rattle.theory.specs.links.Counted.{Counted, counted-pin}
use Rattle.theory.specs.links.Nets.{EachPin}
use Rattle.theory.specs.links.Reach.{lo_of, hi_of}
use Rattle.theory.specs.links.Reading.{PinsOk, pins-give, gives_found}
use Rattle.theory.specs.walk.NetVias.{pin_tiles, net_tiles}
use Rattle.theory.specs.walk.Parts.{touches-test}
use Rattle.union.specs.Links.{parent_in, older-links}
use Rattle.union.specs.Parts.{older-counted}
use Rattle.ways.specs.Ends.{first-mark}
use Rattle.ways.specs.Entry.{start_of}
use Rattle.edges.specs.Reading.{Reading, Begun}
use Rattle.edges.specs.Steps.{reading-here}

-- ---- a fine line of pins

pub record PinsFit (g : Shape) (ps : List Pin) : Type 0 where
  pub some_pin : 1 ≤ length ps
  pub inside : AllInside g.t ps
  pub once : twice same_pin ps ≡ false

pub pins-fit-grid : (g : Shape) → Shaped g → (p q : Place) (ps : List Pin) → pins_line (sizes_of g) p ≡ found ps q → PinsFit g ps
pins-fit-grid g shaped p q ps e =
    let k = gives_found (PinsOk g.w g.h g.k (dirs_of g.k g.dirs)) (pins_line (sizes_of g) p) ps q e (pins-give g.w g.h g.k (dirs_of g.k g.dirs) p) in
    record { some_pin = k.0; inside = go ps k.1 k.2; once = k.3 }
  where
    go : (qs : List Pin) → ((t : ℕ) → In t (pin_tiles qs) → t < g.w * g.h) → EachPin (λ r. (1 ≤ r.layer) × (r.layer ≤ g.k)) qs → AllInside g.t qs
    go [] h l = tt
    go (r ∷ qs) h l = (
      (omega (arith, h r.tile (in_head r.tile (pin_tiles qs)), shaped.t_is), l.0.0, omega (arith, l.0.1, shaped.k_most)),
      go qs (λ t i. h t (in_tail t r.tile (pin_tiles qs) i)) l.1,
    )

-- what the answer to a `pins` line says, where it is fine: the pins, and that the marks a are those of earlier nets, b, and theirs
pub record PinsFound (g : Shape) (n : ℕ) (s : List ℕ) (c : Cursor) (b a : List ℕ) (p : Pins) (d : Cursor) : Type 0 where
  pub pins : List Pin
  pub is : pins_line (sizes_of g) (place_of s c) ≡ found pins (place_of s d)
  pub fit : PinsFit g pins
  pub marks : a ≡ mark_pins n b pins
  pub parts : p.tiles ≡ new_tiles n b pins

pub pins-found : (g : Shape) → Shaped g → (n : ℕ) (s : List ℕ) (c : Cursor) (b a : List ℕ) (p : Pins) (d : Cursor)
    → pins_told s a (Ok (p, d)) ≡ mapped (pins_marked n b) (pins_line (sizes_of g) (place_of s c)) → PinsFound g n s c b a p d
pins-found g shaped n s c b a p d e = go (pins_line (sizes_of g) (place_of s c)) refl e
  where
    go : (r : Result (List Pin)) → pins_line (sizes_of g) (place_of s c) ≡ r → pins_told s a (Ok (p, d)) ≡ mapped (pins_marked n b) r → PinsFound g n s c b a p d
    go (refused k j) h q = absurd (let y : ◌≡◌ {A = ℕ} 0 1 = cc in omega arith)
    go (found ps t) h q =
        let left : record { marks = a; tiles = p.tiles } ≡ pins_marked n b ps = cc in
        let place : place_of s d ≡ t = cc in
        record {
          pins = ps;
          is = h ∙ ap (λ (z : Place). found ps z) (sym place);
          fit = pins-fit-grid g shaped (place_of s c) t ps h;
          marks = ap (λ (m : Marked). m.marks) left;
          parts = ap (λ (m : Marked). m.tiles) left;
        }

-- ---- the parts

module _ (lo hi : ℕ → ℕ) (n : ℕ) (par : ℕ → ℕ) (size : ℕ) where
  -- the pins `done` are marked in a, and then those of `rest`
  counted-pins : (a : List ℕ) → length a ≡ size → (done rest : List Pin) (k : ℕ) → AllInside (length a) rest → marked_twice n a rest ≡ false
      → Counted lo hi size (λ t. bit (touched n a t)) par k (net_tiles lo hi done []) []
      → Counted lo hi size (λ t. bit (touched n (mark_pins n a rest) t)) par (k + new_tiles n a rest) (net_tiles lo hi (done ++ rest) []) []
  counted-pins a long done [] k i e c =
      let z : k ≡ k + 0 = omega arith in
      subst (λ (m : ℕ). Counted lo hi size (λ t. bit (touched n a t)) par m (net_tiles lo hi (done ++ []) []) []) z (rw (append-nil done) c)
  counted-pins a long done (p ∷ rest) k i e c =
      let f = first-new n a p rest e in
      let one = counted-pin lo hi size (λ t. bit (touched n a t)) (λ t. bit (touched n (mark_pin n a p) t)) par k (k + bit (eqb (bits_at n a p.tile) 0)) done [] p c
      (omega (arith, i.0.0))
      (touches-test (touched n a) (touched n (mark_pin n a p)) p.tile (mark-touches n a p.tile (p.layer - 1) i.0.0 (omega (arith, i.0)) f.0))
      (omega (arith, first-mark n a p.tile)) in
      let rest_of = counted-pins (mark_pin n a p) (mark-long n a p.tile (p.layer - 1) ∙ long) (done ++ (p ∷ [])) rest (k + bit (eqb (bits_at n a p.tile) 0))
      (still-inside n a p rest i.1) f.1 one in
      let sum_is : k + bit (eqb (bits_at n a p.tile) 0) + new_tiles n (mark_pin n a p) rest ≡ k + (bit (eqb (bits_at n a p.tile) 0) + new_tiles n (mark_pin n a p) rest) = omega arith in
      subst (λ (m : ℕ). Counted lo hi size (λ t. bit (touched n (mark_pins n (mark_pin n a p) rest) t)) par m (net_tiles lo hi (done ++ (p ∷ rest)) []) []) sum_is
      (subst (λ (l : List Pin). Counted lo hi size (λ t. bit (touched n (mark_pins n (mark_pin n a p) rest) t)) par
      (k + bit (eqb (bits_at n a p.tile) 0) + new_tiles n (mark_pin n a p) rest) (net_tiles lo hi l []) []) (append_assoc done (p ∷ []) rest) rest_of)

-- ---- after the line

-- The marks of the tiles are those of earlier nets and then of the pins ps; the links are those of earlier nets.
module _ (g : Shape) (n : ℕ) (ps : List Pin) (fit : PinsFit g ps) (w₀ w : List ℕ) (room : chosen_at g ≤ length w₀) (tiles-older : Older n (tiles_of g w₀))
    (links-older : Older n (links_of g w₀)) (out : Outside (tiles_at g) g.t w₀ w) (marks : tiles_of g w ≡ mark_pins n (tiles_of g w₀) ps) where
  long : length (tiles_of g w₀) ≡ g.t
  long = part-long (tiles_at g) g.t w₀ (omega arith)

  inside : AllInside (length (tiles_of g w₀)) ps
  inside = rw long fit.inside

  new : marked_twice n (tiles_of g w₀) ps ≡ false
  new = first-twice n (tiles_of g w₀) tiles-older ps inside ∙ fit.once

  links-same : links_of g w ≡ links_of g w₀
  links-same = part-outside (tiles_at g) g.t w₀ w out (links_at g) g.t (inr (omega arith))

  untouched : (t : ℕ) → bit (touched n (tiles_of g w₀) t) ≡ 0
  untouched t = rw (none_yet n (tiles_of g w₀) tiles-older t)

  pub pins-reading : Reading g n ps [] (new_tiles n (tiles_of g w₀) ps) w₀ w
  pins-reading = record {
    long = out.long;
    low = λ i h. out.low i (omega arith);
    demand = λ e h. omega (arith, out.low (demand_at g + e) (omega arith));
    flat = λ i b h. out.low i h;
    fits = rw marks (pins-fit n (tiles_of g w₀) ps inside new (older-fits n (tiles_of g w₀) tiles-older));
    links = rw links-same (older-links n (links_of g w₀) links-older);
    ways = λ t i h.
        ap (λ (l : List ℕ). marked n l (start_of g t) (8 + t.third)) marks
        ∙ pins-others n (tiles_of g w₀) ps inside new (start_of g t) (8 + t.third) (omega arith)
        ∙ none-marked n (tiles_of g w₀) tiles-older (start_of g t) (8 + t.third);
    counted = rw (marks, links-same) counted;
  }
    where
      lo : ℕ → ℕ
      lo = lo_of g.w g.h

      hi : ℕ → ℕ
      hi = hi_of g.w g.h

      counted : Counted (lo_of g.w g.h) (hi_of g.w g.h) g.t (λ t. bit (touched n (mark_pins n (tiles_of g w₀) ps) t)) (parent_in n (links_of g w₀))
          (new_tiles n (tiles_of g w₀) ps) (net_tiles (lo_of g.w g.h) (hi_of g.w g.h) ps []) []
      counted =
          let z : 0 + new_tiles n (tiles_of g w₀) ps ≡ new_tiles n (tiles_of g w₀) ps = omega arith in
          subst (λ (m : ℕ). Counted lo hi g.t (λ t. bit (touched n (mark_pins n (tiles_of g w₀) ps) t)) (parent_in n (links_of g w₀)) m (net_tiles lo hi ps []) []) z
          (counted-pins lo hi n (parent_in n (links_of g w₀)) g.t (tiles_of g w₀) long [] ps 0 inside new
          (older-counted lo hi g.t n (links_of g w₀) (λ t. bit (touched n (tiles_of g w₀) t)) untouched links-older))

  -- the `edges` line may be read
  -- they are in as many tiles as new ones were found
  pub pins-tiles : new_tiles n (tiles_of g w₀) ps ≡ different_tiles ps
  pins-tiles = first-tiles n (tiles_of g w₀) tiles-older ps inside new

  pub pins-begun : Begun g n (new_tiles n (tiles_of g w₀) ps) w
  pins-begun = (ps, fit.some_pin, reading-here g n ps (new_tiles n (tiles_of g w₀) ps) w₀ w pins-reading)
