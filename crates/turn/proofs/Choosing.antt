-- A net's turn, second step: its legal layers, and its choice of layers.
-- Assumes nothing.
use mathlib.Core.List.{List}
use mathlib.Core.Bool.{true}
use mathlib.Core.Logic.{inl, ◌↔◌}
use mathlib.Core.Path.{◌≡◌, refl, sym, ap, ◌∙◌, subst}
use Prim.Native.Nat.{ℕ, zero, suc, ◌+◌, ◌-◌, ◌*◌, ◌≤◌, ◌<◌}
use native.Mathlib.Omega.{arith}
use lib.Dec.{T}
use lib.ListN.{length, get_or, take, drop, length-drop}
use lib.Seq.{slice, take-take, take-add, drop_at, drop-drop, length-take-le, ext_get_or}
use Rattle.sets.specs.Mask.{IsSet}
use Rattle.sets.specs.Mask as mask
use Rattle.engine.specs.Net.{Holds, HoldsNet, Placed}
use Rattle.layout.specs.Areas.{tiles_at, links_at, chosen_at, list_at, above_at, engine_at, areas_end}
use Rattle.layout.specs.Parts.{part, part_at, part-long, part-outside, Outside, outside_wider, outside-then}
use Rattle.layout.specs.Shapes.{Shaped}
use Rattle.layout.specs.declared.shape.Shape.{Shape}
use Rattle.marks.specs.Marks.{Older}
use Rattle.marks.specs.Words.{bit_of, bit_is}
use Rattle.model.specs.Job.{group}
use Rattle.model.specs.Limits.{most_nets}
use Rattle.model.specs.Lists.{In}
use Rattle.model.specs.Plan.{placed, legal}
use Rattle.model.specs.Vias.{vias}
use Rattle.theory.specs.links.Best.{LegalFor, in_walk, cheapest, to-walk, vias-cost, best-walk, best-is, legal-rising, legal-iff, legal-choice}
use Rattle.theory.specs.links.Engine.{pins_at, stop_at, pins-cover}
use Rattle.theory.specs.links.Limits.{capacity-small, limit-small}
use Rattle.theory.specs.links.Planned.{stands, turn-legal}
use Rattle.theory.specs.congestion.Tests.{is_true, has_in}
use Rattle.tracks.specs.Legal.{legal_mask, legal-in}
use Rattle.tracks.specs.OccupiedAll.{layers_at, edges_of, layers_in}
use Rattle.net.specs.Places.{SmallCapacities, small-capacities}
use Rattle.turn.specs.Kept.{outside_low, so-far-low}
use Rattle.turn.specs.Steps.{masks_at, engine_of, KnownEdges, legal_at, LegalPut}
use Rattle.turn.specs.Turn.{Turn, turn_net, turn_walk, walk_layers, turn_limit, turn_vias, NetWalked, NetChosen}
use Rattle.turn.proofs.Net.{net-ok, wide, high, as_long, edges_fit, walk-known, entries_known, entries_fit}

-- ---- lists

-- a part that holds the list xs
pub part-is : (a : ℕ) (w xs : List ℕ) → a + length xs ≤ length w → ((i : ℕ) → i < length xs → get_or w (a + i) 0 ≡ get_or xs i 0) → part a (length xs) w ≡ xs
part-is a w xs room h =
    ext_get_or 0 (part a (length xs) w) xs (part-long a (length xs) w room)
    (λ i b. let k : i < length xs = omega (arith, part-long a (length xs) w room) in part_at a (length xs) w i k ∙ h i k)

-- a stretch of a part
slice-part : (a m b k : ℕ) (w : List ℕ) → b + k ≤ m → a + m ≤ length w → slice b (b + k) (part a m w) ≡ part (a + b) k w
slice-part a m b k w h room =
    ap (drop b) (take-take (b + k) m (drop a w) h ∙ take-add b k (drop a w))
    ∙ drop_at (take b (drop a w)) (take k (drop b (drop a w))) b (length-take-le b (drop a w) (omega (arith, length-drop a w)))
    ∙ ap (take k) (drop-drop b a w)

-- ---- the masks

-- the engine's test of a layer in a mask is the bit
has-bit : (m l : ℕ) → mask.has m l ≡ bit_of m (l - 1)
has-bit m l = bit_is m (l - 1)

module _ (g : Shape) (shaped : Shaped g) (n : ℕ) (w : List ℕ) (room : areas_end g ≤ length w) (stamp : ℕ) (u : Turn) (h : NetWalked g stamp n w u) where
  fit : length (turn_net u).edges < g.m
  fit = edges_fit u g shaped h.grid

  pub tiles-fit : (1 ≤ n) × (n ≤ g.m)
  tiles-fit = (omega (arith, h.tiles), omega (arith, h.tiles, fit))

  pub limit-fits : (m : ℕ → ℕ) → ((e : ℕ) → m e ≡ turn_limit u e) → (e : ℕ) → m e ≤ most_nets
  limit-fits m h e = omega (arith, h e, limit-small u.lent u.job u.accepted (group u.job e), u.accepted.count_of_nets)

  pub small : SmallCapacities g w
  small = small-capacities g u.job w h.so_far.capacities (capacity-small u.lent u.job u.accepted)

  -- the edge above place k + 1
  edge_in : (k : ℕ) → k < length (turn_net u).edges → get_or (turn_walk u) k 0 < g.e
  edge_in k b = walk-known u g shaped h.grid (get_or (turn_walk u) k 0) (stands (turn_walk u) k (omega (arith, as_long u)))

  pub known : KnownEdges g n w
  known zero p q = absurd (omega arith)
  known (suc k) p q = omega (arith, h.above k (omega (arith, h.tiles)), edge_in k (omega (arith, h.tiles)))

  module _ (m : ℕ → ℕ) (m_is : (e : ℕ) → m e ≡ turn_limit u e) (w' : List ℕ) (put : LegalPut g n m w w') where
    part_room : engine_at g + 12 * g.m ≤ length w'
    part_room = omega (arith, put.outside.long)

    -- what stands in the engine's part
    engine-at : (i : ℕ) → i < 12 * g.m → get_or (engine_of g w') i 0 ≡ get_or w' (engine_at g + i) 0
    engine-at i b = part_at (engine_at g) (12 * g.m) w' i b

    ends_at : (i : ℕ) → i ≤ length (turn_net u).edges → get_or (engine_of g w') i 0 ≡ get_or w (engine_at g + i) 0
    ends_at i b = engine-at i (omega (arith, fit)) ∙ put.outside.low (engine_at g + i) (omega (arith, fit))

    pins-at : (i : ℕ) → i ≤ length (turn_net u).edges → get_or (engine_of g w') (g.m + i) 0 ≡ get_or w (engine_at g + g.m + i) 0
    pins-at i b =
        let p : engine_at g + (g.m + i) ≡ engine_at g + g.m + i = omega arith in
        engine-at (g.m + i) (omega (arith, fit)) ∙ ap (λ (x : ℕ). get_or w' x 0) p ∙ put.outside.low (engine_at g + g.m + i) (omega (arith, fit))

    pins-set : (i : ℕ) → i ≤ length (turn_net u).edges → IsSet (get_or w (engine_at g + g.m + i) 0) (pins_at u.job (turn_net u) i)
    pins-set i b = record {
      small = h.pins_small i b;
      covers = λ l k. let r = pins-cover (stop_at u.job (turn_net u) i).tile (turn_net u).pins (net-ok u).pins_layers l k in (r.0, omega (arith, r.1, u.accepted.layers.1));
      into = λ l p q t.
          (has_in (pins_at u.job (turn_net u) i) l).0 (subst T (has-bit (get_or w (engine_at g + g.m + i) 0) l ∙ h.pins i b l p q) t);
      back = λ l k.
          let r = pins-cover (stop_at u.job (turn_net u) i).tile (turn_net u).pins (net-ok u).pins_layers l k in
          subst T (sym (has-bit (get_or w (engine_at g + g.m + i) 0) l ∙ h.pins i b l r.0 (omega (arith, r.1, u.accepted.layers.1))))
          ((has_in (pins_at u.job (turn_net u) i) l).1 k);
    }

    mask_at : (i : ℕ) → i < length (turn_net u).edges → get_or (engine_of g w') (2 * g.m + suc i) 0 ≡ legal_at g w (turn_limit u) (get_or (turn_walk u) i 0)
    mask_at i b =
        let p : engine_at g + (2 * g.m + suc i) ≡ masks_at g + suc i = omega arith in
        engine-at (2 * g.m + suc i) (omega (arith, fit))
        ∙ ap (λ (x : ℕ). get_or w' x 0) p
        ∙ put.masks (suc i) (omega arith) (omega (arith, h.tiles))
        ∙ ap (legal_at g w m) (h.above i b)
        ∙ ap (legal_mask g w (get_or (turn_walk u) i 0)) (m_is (get_or (turn_walk u) i 0))

    bit_at : (i : ℕ) → i < length (turn_net u).edges → (l : ℕ) → mask.has (get_or (engine_of g w') (2 * g.m + suc i) 0) l ≡ bit_of (legal_at g w (turn_limit u) (get_or (turn_walk u) i 0)) (l - 1)
    bit_at i b l = has-bit (get_or (engine_of g w') (2 * g.m + suc i) 0) l ∙ ap (λ (x : ℕ). bit_of x (l - 1)) (mask_at i b)

    -- a layer of the edge above place i + 1 is legal just where its bit is set
    legal-there : (i : ℕ) → i < length (turn_net u).edges → (l : ℕ) → 1 ≤ l → l ≤ u.job.layers
        → (bit_of (legal_at g w (turn_limit u) (get_or (turn_walk u) i 0)) (l - 1) ≡ true) ↔ In l (legal u.job u.plan (get_or (turn_walk u) i 0))
    legal-there i b l p q =
        let e = get_or (turn_walk u) i 0 in
        legal-in g u.job u.plan w h.so_far h.grid.layers e l (edge_in i b) p (omega (arith, h.grid.layers)) (capacity-small u.lent u.job u.accepted e l)
        (limit-fits (turn_limit u) (λ a. refl) e)

    -- the net has a legal choice
    some : (z : List ℕ) × LegalFor u.job (placed u.job u.plan) (turn_net u) z
    some = turn-legal u.lent u.job u.accepted u.entry u.rest u.plan u.midway

    pub holds : Holds u.job (turn_net u) (legal u.job u.plan) (engine_of g w') g.m n g.k
    holds = record {
      wide = wide u;
      high = high u;
      ok = net-ok u;
      layers = h.grid.layers;
      some = omega (arith, u.accepted.layers.0);
      deep = u.accepted.layers.1;
      tiles = h.tiles;
      small = omega (arith, shaped.t_most);
      fits = fit;
      room = omega (arith, part-long (engine_at g) (12 * g.m) w' part_room);
      ends = λ i b. ends_at i b ∙ h.ends i b;
      pins = λ i b. subst (λ (x : ℕ). IsSet x (pins_at u.job (turn_net u) i)) (sym (pins-at i b)) (pins-set i b);
      into = λ i b l p q t.
          (legal-there i b l p q).0 (sym (bit_at i b l) ∙ is_true (mask.has (get_or (engine_of g w') (2 * g.m + suc i) 0) l) t);
      back = λ i b l k.
          let r = (legal-iff u.job u.plan (get_or (turn_walk u) i 0) l).0 k in
          subst T
          (sym (bit_at i b l ∙ (legal-there i b l r.0 r.1).1 k)) tt;
      rising = legal-rising u.job u.plan;
      inside = λ e l k. let r = (legal-iff u.job u.plan e l).0 k in (r.0, r.1);
      choice = in_walk u.job (turn_net u) some.0;
      valid = (to-walk u.job (wide u) (high u) (turn_net u) (net-ok u) (legal u.job u.plan) (λ x. x) some.0 (legal-choice u.job u.plan (turn_net u) some.0 some.1)).0;
    }

    pub holds-net : HoldsNet (engine_of g w') g.m n g.k
    holds-net = record { job = u.job; net = turn_net u; allowed = legal u.job u.plan; holds = holds }

    -- ---- the choice

    module _ (w'' : List ℕ) (r : ℕ) (o : Outside (engine_at g) (12 * g.m) w' w'')
        (placed-net : Placed (λ x. x) u.job (turn_net u) (legal u.job u.plan) (engine_of g w') (engine_of g w'') g.m r) where
      whole : Outside (engine_at g) (12 * g.m) w w''
      whole =
          outside-then (engine_at g) (12 * g.m) w w' w''
          (outside_wider (masks_at g) g.m (engine_at g) (12 * g.m) w w' put.outside (omega arith) (omega arith)) o

      last : n - 1 ≡ length (turn_net u).edges
      last = omega (arith, h.tiles)

      above_at_lem : (i : ℕ) → i < length (turn_walk u) → get_or w'' (above_at g + 1 + i) 0 ≡ get_or (turn_walk u) i 0
      above_at_lem i b =
          let p : above_at g + 1 + i ≡ above_at g + suc i = omega arith in
          whole.low (above_at g + 1 + i) (omega (arith, as_long u, fit)) ∙ ap (λ (x : ℕ). get_or w x 0) p ∙ h.above i (omega (arith, as_long u))

      edges-stand : edges_of g n w'' ≡ turn_walk u
      edges-stand =
          ap (λ (k : ℕ). part (above_at g + 1) k w'') (last ∙ sym (as_long u))
          ∙ part-is (above_at g + 1) w'' (turn_walk u) (omega (arith, whole.long, as_long u, fit)) above_at_lem

      layers-stand : layers_in g n w'' ≡ walk_layers u
      layers-stand =
          let p : engine_at g + (3 * g.m + 1) ≡ layers_at g + 1 = omega arith in
          ap (λ (k : ℕ). part (layers_at g + 1) k w'') last
          ∙ ap (λ (a : ℕ). part a (length (turn_net u).edges) w'') (sym p)
          ∙ sym (slice-part (engine_at g) (12 * g.m) (3 * g.m + 1) (length (turn_net u).edges) w'' (omega (arith, fit)) (omega (arith, whole.long)))
          ∙ placed-net.layers
          ∙ sym (best-walk u.job u.plan (turn_net u))

      pub net-chosen : NetChosen g stamp n w'' u × (r ≡ turn_vias u)
      net-chosen = (
        record {
          grid = h.grid;
          tiles = h.tiles;
          list = λ i b. whole.low (list_at g + i) (omega (arith, entries_fit u g shaped h.grid, shaped.e_tiles)) ∙ h.list i b;
          edges = edges-stand;
          layers = layers-stand;
          so_far = so-far-low g w w'' (outside_low g (engine_at g) (12 * g.m) w w'' (omega arith) whole) u.job _ _ h.so_far;
          older = subst (Older (suc stamp)) (sym (part-outside (engine_at g) (12 * g.m) w w'' whole (tiles_at g) g.t (inl (omega arith)))) h.older;
          links = subst (Older (suc stamp)) (sym (part-outside (engine_at g) (12 * g.m) w w'' whole (links_at g) g.t (inl (omega arith)))) h.links;
          free = λ e i z. whole.low (chosen_at g + e) (omega (arith, entries_known u g shaped h.grid e i, shaped.e_tiles)) ∙ h.free e i z;
        },
        placed-net.cost ∙ sym (vias-cost u.job (turn_net u).pins (turn_net u).edges (cheapest (legal u.job u.plan) (λ x. x) u.job (turn_net u)))
            ∙ ap (vias u.job (turn_net u).pins (turn_net u).edges) (sym (best-is u.job u.plan (turn_net u))),
      )

      pub chosen-long : length w'' ≡ length w
      chosen-long = whole.long
