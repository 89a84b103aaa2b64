-- The walk under way: of n places written, those below i are taken out. What stands in the working numbers is the walk up to there.
-- Assumes nothing.
use mathlib.Core.Bool.{true, ◌&&◌}
use mathlib.Core.List.{List}
use mathlib.Core.Logic.{⊎_elim, ◌↔◌}
use mathlib.Core.Path.{◌≡◌, refl, sym, ap, ap₂, ◌∙◌}
use Prim.Native.Nat.{ℕ, zero, suc, ◌+◌, ◌-◌, ◌*◌, ◌/◌, ◌%◌, ◌≤◌, ◌<◌}
use native.Mathlib.Numerals.{add-one}
use native.Mathlib.Omega.{arith}
use lib.ListN.{length, get_or, set, length-set}
use lib.Seq.{get_or-set_same, get_or-set_other}
use Rattle.layout.specs.Areas.{tiles_at, stops_at, above_at, engine_at, areas_end, tiles_of}
use Rattle.layout.specs.Parts.{Outside, part_at, set-outside, outside_wider, outside-then}
use Rattle.layout.specs.Shapes.{Shaped, WayRoom}
use Rattle.layout.specs.declared.shape.Shape.{Shape}
use Rattle.layout.specs.declared.Way.{Way}
use Rattle.marks.specs.Marks.{bits_at}
use Rattle.marks.specs.Words.{bits_in, bit_of, stamp_unit}
use Rattle.model.specs.Grid.{grid_edges}
use Rattle.model.specs.Job.{Job, Net, tile_count}
use Rattle.model.specs.Lists.{In, has}
use Rattle.model.specs.Walk.{walk}
use Rattle.theory.specs.congestion.Sums.{lt-or-ge}
use Rattle.theory.specs.links.Edges.{near_of, lo-is, hi-is, near-is}
use Rattle.theory.specs.links.Engine.{stop_at, branches_at, kids_at, first_at, edges_few, walk-by-place, above-is, root-above}
use Rattle.theory.specs.links.Nets.{NetOk, root-same}
use Rattle.theory.specs.links.Reach.{lo_of, hi_of}
use Rattle.theory.specs.walk.Stops.{branches}
use Rattle.theory.specs.walk.Ways.{lo, hi, near, way?, way_edge}
use Rattle.walk.specs.Branches.{leads, leads-long, leads-at, used-room, branches-are}
use Rattle.walk.specs.Steps.{onward, four_ways, tile_in, above_in, marks_in, branches_in, visited}
use Rattle.walk.specs.Walked.{Walks, Walked}
use Rattle.walk.proofs.Places.{tile-inside, place-room, branch-edge, branch-tile}
use Rattle.walk.proofs.Puts.{no_way, old-tile, old-edge, new-tile, new-edge, old-end, old-pins, new-end, new-pins, after-outside}

-- the low eight bits of a number are those of the number
low_bit : (b k : ℕ) → k < 8 → bit_of (b % 256) k ≡ bit_of b k
low_bit b zero h = let e : b % 256 % 2 ≡ b % 2 = omega arith in rw e
low_bit b (suc zero) h = let e : b % 256 / 2 % 2 ≡ b / 2 % 2 = omega arith in rw e
low_bit b (suc (suc zero)) h = let e : b % 256 / 2 / 2 % 2 ≡ b / 2 / 2 % 2 = omega arith in rw e
low_bit b (suc (suc (suc zero))) h = let e : b % 256 / 2 / 2 / 2 % 2 ≡ b / 2 / 2 / 2 % 2 = omega arith in rw e
low_bit b (suc (suc (suc (suc zero)))) h = let e : b % 256 / 2 / 2 / 2 / 2 % 2 ≡ b / 2 / 2 / 2 / 2 % 2 = omega arith in rw e
low_bit b (suc (suc (suc (suc (suc zero))))) h = let e : b % 256 / 2 / 2 / 2 / 2 / 2 % 2 ≡ b / 2 / 2 / 2 / 2 / 2 % 2 = omega arith in rw e
low_bit b (suc (suc (suc (suc (suc (suc zero)))))) h = let e : b % 256 / 2 / 2 / 2 / 2 / 2 / 2 % 2 ≡ b / 2 / 2 / 2 / 2 / 2 / 2 % 2 = omega arith in rw e
low_bit b (suc (suc (suc (suc (suc (suc (suc zero))))))) h = let e : b % 256 / 2 / 2 / 2 / 2 / 2 / 2 / 2 % 2 ≡ b / 2 / 2 / 2 / 2 / 2 / 2 / 2 % 2 = omega arith in rw e
low_bit b (suc (suc (suc (suc (suc (suc (suc (suc k)))))))) h = absurd (omega arith)

pub record Going (g : Shape) (stamp : ℕ) (j : Job) (net : Net) (w₀ w : List ℕ) (i n : ℕ) : Type 0 where
  pub taken : i ≤ suc (length net.edges)
  pub written : n ≡ first_at j net i
  pub stops : (k : ℕ) → k < n → get_or w (stops_at g + k) 0 ≡ (stop_at j net k).tile
  pub none_above : get_or w (above_at g + 0) 0 ≡ g.e
  pub above : (k : ℕ) → suc k < n → get_or w (above_at g + suc k) 0 ≡ get_or (walk j net) k 0
  pub ends : (k : ℕ) → k < i → get_or w (engine_at g + k) 0 ≡ first_at j net (suc k)
  pub pins : (k : ℕ) → k < i → get_or w (engine_at g + g.m + k) 0 ≡ bits_at stamp (tiles_of g w₀) (stop_at j net k).tile % 256
  pub outside : Outside (stops_at g) (4 * g.m) w₀ w

-- e is what stood there when the walk began, and w₀ what stands there once its first place is written
pub record Begun (g : Shape) (stamp : ℕ) (j : Job) (net : Net) (root : ℕ) (e w₀ : List ℕ) : Type 0 where
  pub room : areas_end g ≤ length e
  pub walks : Walks g stamp j net root e
  pub first : w₀ ≡ set (set e (stops_at g) root) (above_at g) g.e

module _ (g : Shape) (shaped : Shaped g) (stamp : ℕ) (j : Job) (net : Net) (root : ℕ) (w₀ : List ℕ) (room : areas_end g ≤ length w₀) (walks : Walks g stamp j net root w₀) where
  abbrev es : List ℕ
  es = net.edges

  wide : 1 ≤ j.width
  wide = omega (arith, shaped.w_least, walks.width)

  high : 1 ≤ j.height
  high = omega (arith, shaped.h_least, walks.height)

  ok : NetOk j.width j.height j.layers net
  ok = walks.ok

  size : g.t ≡ tile_count j
  size = shaped.t_is ∙ ap₂ (λ (a b : ℕ). a * b) walks.width walks.height

  edges-in : g.e ≡ grid_edges j.width j.height
  edges-in = shaped.e_is ∙ ap₂ grid_edges walks.width walks.height

  few : suc (length net.edges) ≤ g.m
  few = omega (arith, size, edges_few j wide high net ok)

  -- ---- the root

  root_is : root ≡ (stop_at j net 0).tile
  root_is = walks.lowest_tile ∙ root-same j net ok.some_pin

  pub root_in : root < g.t
  root_in = omega (arith, root_is, size, tile-inside j wide high net ok 0 (omega arith))

  pub going_start : (w : List ℕ) → w ≡ set (set w₀ (stops_at g) root) (above_at g) g.e → Going g stamp j net w₀ w 0 1
  going_start w e = rw e (record {
    taken = omega arith;
    written = refl;
    stops = first;
    none_above = ap (λ (p : ℕ). get_or begun p 0) (omega arith) ∙ get_or-set_same (set w₀ (stops_at g) root) (above_at g) g.e 0 (omega (arith, shaped.t_least, length-set w₀ (stops_at g) root));
    above = λ k h. absurd (omega arith);
    ends = λ k h. absurd (omega arith);
    pins = λ k h. absurd (omega arith);
    outside =
        outside-then (stops_at g) (4 * g.m) w₀ (set w₀ (stops_at g) root) begun
        (outside_wider (stops_at g) 1 (stops_at g) (4 * g.m) w₀ (set w₀ (stops_at g) root) (set-outside w₀ (stops_at g) root) (omega arith) (omega (arith, shaped.t_least)))
        (outside_wider (above_at g) 1 (stops_at g) (4 * g.m) (set w₀ (stops_at g) root) begun (set-outside (set w₀ (stops_at g) root) (above_at g) g.e) (omega arith) (omega (arith, shaped.t_least)));
  })
    where
      begun : List ℕ
      begun = set (set w₀ (stops_at g) root) (above_at g) g.e

      first : (k : ℕ) → k < 1 → get_or (set (set w₀ (stops_at g) root) (above_at g) g.e) (stops_at g + k) 0 ≡ (stop_at j net k).tile
      first zero h =
          ap (λ (p : ℕ). get_or (set (set w₀ (stops_at g) root) (above_at g) g.e) p 0) (omega arith)
          ∙ get_or-set_other (set w₀ (stops_at g) root) (above_at g) (stops_at g) g.e 0 (λ q. omega (arith, shaped.t_least))
          ∙ get_or-set_same w₀ (stops_at g) root 0 (omega (arith, shaped.t_least))
          ∙ root_is
      first (suc k) h = absurd (omega arith)

  -- ---- a tile is taken out

  module _ (w : List ℕ) (i n : ℕ) (go : Going g stamp j net w₀ w i n) (more : i < n) where
    abbrev x : ℕ
    x = (stop_at j net i).tile

    abbrev m : ℕ
    m = bits_at stamp (tiles_of g w₀) (stop_at j net i).tile

    left : i ≤ length net.edges
    left = omega (arith, go.taken, go.written, place-room j wide high net ok i go.taken)

    x-in : (stop_at j net i).tile < g.t
    x-in = omega (arith, size, tile-inside j wide high net ok i left)

    marks-are : marks_in g stamp w i ≡ bits_at stamp (tiles_of g w₀) (stop_at j net i).tile
    marks-are =
        ap (λ (p : ℕ). bits_in stamp (get_or w (tiles_at g + p) 0)) (go.stops i more)
        ∙ ap (bits_in stamp) (go.outside.low (tiles_at g + x) (omega (arith, x-in)) ∙ sym (part_at (tiles_at g) g.t w₀ x x-in))

    marked : (d : ℕ) → d < 4 → bit_of (bits_at stamp (tiles_of g w₀) (stop_at j net i).tile) (8 + d) ≡ (way? g.w g.h (stop_at j net i).tile d && has net.edges (way_edge g.w g.h (stop_at j net i).tile d))
    marked d h = walks.hand.drawn.ways x d x-in h

    -- the way back
    back : (e : ℕ) → In e net.edges → (e ≡ above_in g w i) ↔ (suc e ≡ (stop_at j net i).above)
    back e k = at i go more left
      where
        at : (i : ℕ) → Going g stamp j net w₀ w i n → i < n → i ≤ length net.edges → (e ≡ above_in g w i) ↔ (suc e ≡ (stop_at j net i).above)
        at zero f h l = (
          λ p. absurd (omega (arith, p, f.none_above, edges-in, ok.known e k)),
          λ p. absurd (omega (arith, p, root-above j wide high net ok)),
        )
        at (suc q) f h l =
            let a = f.above q h in
            let b = above-is j wide high net ok q (omega arith) in
            (λ p. omega (arith, p, a, b), λ p. omega (arith, p, a, b))

    lo-same : lo g.w g.h ≡ lo_of j.width j.height
    lo-same = ap₂ lo walks.width walks.height ∙ sym (lo-is j.width j.height wide)

    hi-same : hi g.w g.h ≡ hi_of j.width j.height
    hi-same = ap₂ hi walks.width walks.height ∙ sym (hi-is j.width j.height wide)

    near_same : near g.w g.h ≡ near_of j.width j.height
    near_same = ap₂ near walks.width walks.height ∙ sym (near-is j.width j.height wide)

    ways-are : branches_in g stamp w i ≡ leads (lo_of j.width j.height) (hi_of j.width j.height) (stop_at j net i).tile (branches_at j net (stop_at j net i))
    ways-are =
        ap₂ (λ (y z : ℕ). onward g y z (above_in g w i) four_ways) (go.stops i more) marks-are
        ∙ branches-are g shaped x x-in m es marked (above_in g w i) (stop_at j net i).above back
        ∙ ap (λ (l : ℕ → ℕ). leads l (hi g.w g.h) x (branches (near g.w g.h) es (stop_at j net i))) lo-same
        ∙ ap (λ (l : ℕ → ℕ). leads (lo_of j.width j.height) l x (branches (near g.w g.h) es (stop_at j net i))) hi-same
        ∙ ap (λ (l : ℕ → List ℕ). leads (lo_of j.width j.height) (hi_of j.width j.height) x (branches l es (stop_at j net i))) near_same

    kids : length (branches_in g stamp w i) ≡ kids_at j net i
    kids = ap length ways-are ∙ leads-long (lo_of j.width j.height) (hi_of j.width j.height) x (branches_at j net (stop_at j net i))

    next : n + length (branches_in g stamp w i) ≡ first_at j net (suc i)
    next = omega (arith, kids, go.written, (walk-by-place j wide high net ok).next i left)

    places : n + length (branches_in g stamp w i) ≤ g.m
    places = omega (arith, next, few, place-room j wide high net ok (suc i) (omega (arith, left)))

    -- what `visit` requires
    pub visit-tile : (i < g.m) × (tile_in g w i < g.t)
    visit-tile = (omega (arith, left, few), rw (go.stops i more) x-in)

    pub visit-ways : (d : ℕ) → d < 4 → bit_of (marks_in g stamp w i) (8 + d) ≡ true → WayRoom g (tile_in g w i) d
    visit-ways = rw (marks-are, go.stops i more) (used-room g shaped x x-in m es marked)

    pub visit-room : n + length (branches_in g stamp w i) ≤ g.m
    visit-room = places

    pub visit-fits : get_or w (tiles_at g + tile_in g w i) 0 < (stamp + 1) * stamp_unit
    visit-fits =
        let e : get_or w (tiles_at g + (stop_at j net i).tile) 0 ≡ get_or (tiles_of g w₀) (stop_at j net i).tile 0 =
        go.outside.low (tiles_at g + x) (omega (arith, x-in)) ∙ sym (part_at (tiles_at g) g.t w₀ x x-in) in
        rw (go.stops i more) (omega (arith, e, walks.hand.drawn.fits x))

    -- branch k is the walk's next tile
    way_at : (k : ℕ) → k < kids_at j net i → get_or (branches_in g stamp w i) k no_way ≡ record { tile = (stop_at j net (n + k)).tile; edge = get_or (walk j net) (n - 1 + k) 0 }
    way_at k h =
        ap (λ (ys : List Way). get_or ys k no_way) ways-are
        ∙ leads-at (lo_of j.width j.height) (hi_of j.width j.height) x (branches_at j net (stop_at j net i)) no_way k h
        ∙ ap₂ {C = Way} (λ (y e : ℕ). record { tile = y; edge = e })
        (sym (branch-tile j wide high net ok i k left h) ∙ ap (λ (p : ℕ). (stop_at j net (p + k)).tile) (sym go.written))
        (sym (branch-edge j wide high net ok i k left h) ∙ ap (λ (p : ℕ). get_or (walk j net) (p - 1 + k) 0) (sym go.written))

    abbrev ys : List Way
    ys = branches_in g stamp w i

    abbrev r : ℕ
    r = n + length (branches_in g stamp w i)

    abbrev v : ℕ
    v = marks_in g stamp w i % 256

    here : i < g.m
    here = visit-tile.0

    long : stops_at g + g.m + g.m + g.m + g.m ≤ length w
    long = omega (arith, go.outside.long)

    next-stops : (k : ℕ) → k < n + length (branches_in g stamp w i) → get_or (visited g stamp w i n) (stops_at g + k) 0 ≡ (stop_at j net k).tile
    next-stops k h =
        ⊎_elim
        (λ a. old-tile (stops_at g) g.m w i n ys r v here places long k a ∙ go.stops k a)
        (λ a.
        let e : n + (k - n) ≡ k = omega arith in
        ap (λ (p : ℕ). get_or (visited g stamp w i n) (stops_at g + p) 0) (sym e)
        ∙ new-tile (stops_at g) g.m w i n ys r v here places long (k - n) (omega arith)
        ∙ ap (λ (y : Way). y.tile) (way_at (k - n) (omega (arith, kids)))
        ∙ ap (λ (p : ℕ). (stop_at j net p).tile) e)
        (lt-or-ge k n)

    next-above : (k : ℕ) → suc k < n + length (branches_in g stamp w i) → get_or (visited g stamp w i n) (above_at g + suc k) 0 ≡ get_or (walk j net) k 0
    next-above k h =
        ⊎_elim
        (λ a. old-edge (stops_at g) g.m w i n ys r v here places long (suc k) a ∙ go.above k a)
        (λ a.
        let e : n + (suc k - n) ≡ suc k = omega arith in
        let f : n - 1 + (suc k - n) ≡ k = omega (arith, more) in
        ap (λ (p : ℕ). get_or (visited g stamp w i n) (above_at g + p) 0) (sym e)
        ∙ new-edge (stops_at g) g.m w i n ys r v here places long (suc k - n) (omega arith)
        ∙ ap (λ (y : Way). y.edge) (way_at (suc k - n) (omega (arith, kids)))
        ∙ ap (λ (p : ℕ). get_or (walk j net) p 0) f)
        (lt-or-ge (suc k) n)

    next-ends : (k : ℕ) → k < suc i → get_or (visited g stamp w i n) (engine_at g + k) 0 ≡ first_at j net (suc k)
    next-ends k h =
        ⊎_elim
        (λ a. old-end (stops_at g) g.m w i n ys r v here places long k a ∙ go.ends k a)
        (λ a.
        let e : k ≡ i = omega arith in
        rw e (new-end (stops_at g) g.m w i n ys r v here places long ∙ next))
        (lt-or-ge k i)

    next-pins : (k : ℕ) → k < suc i → get_or (visited g stamp w i n) (engine_at g + g.m + k) 0 ≡ bits_at stamp (tiles_of g w₀) (stop_at j net k).tile % 256
    next-pins k h =
        ⊎_elim
        (λ a. old-pins (stops_at g) g.m w i n ys r v here places long k a ∙ go.pins k a)
        (λ a.
        let e : k ≡ i = omega arith in
        rw e (new-pins (stops_at g) g.m w i n ys r v here places long ∙ ap (λ (p : ℕ). p % 256) marks-are))
        (lt-or-ge k i)

    pub going_next : (w' : List ℕ) (n' : ℕ) → n' ≡ n + length (branches_in g stamp w i) → w' ≡ visited g stamp w i n → Going g stamp j net w₀ w' (i + 1) n'
    going_next w' n' e f = rw (e, f, add-one i) (record {
      taken = omega (arith, left);
      written = next;
      stops = next-stops;
      none_above = old-edge (stops_at g) g.m w i n ys r v here places long 0 (omega arith) ∙ go.none_above;
      above = next-above;
      ends = next-ends;
      pins = next-pins;
      outside = outside-then (stops_at g) (4 * g.m) w₀ w (visited g stamp w i n) go.outside (after-outside (stops_at g) g.m w i n ys r v here places long);
    })

  -- ---- none is left

  pub going_end : (w : List ℕ) (i n : ℕ) → Going g stamp j net w₀ w i n → n ≤ i → Walked g j net w₀ w n
  going_end w i n go h = record {
    tiles = all.1;
    stops = λ k l. go.stops k (omega (arith, all));
    above = λ k l. go.above k (omega (arith, all));
    ends = λ k l. go.ends k (omega (arith, all));
    pins_small = λ k l. omega (arith, go.pins k (omega (arith, all)));
    pins = λ k l q a b.
        ap (λ (p : ℕ). bit_of p (q - 1)) (go.pins k (omega (arith, all)))
        ∙ low_bit (bits_at stamp (tiles_of g w₀) (stop_at j net k).tile) (q - 1) (omega arith)
        ∙ walks.hand.drawn.pins (stop_at j net k).tile q (omega (arith, size, tile-inside j wide high net ok k l)) a b;
    outside = go.outside;
  }
    where
      all : (i ≡ suc (length net.edges)) × (n ≡ suc (length net.edges))
      all = ⊎_elim
          (λ a. absurd (omega (arith, go.written, (walk-by-place j wide high net ok).ahead i (omega arith))))
          (λ a.
          let e : i ≡ suc (length net.edges) = omega (arith, go.taken) in
          (e, go.written ∙ ap (first_at j net) e ∙ (walk-by-place j wide high net ok).whole))
          (lt-or-ge i (suc (length net.edges)))
