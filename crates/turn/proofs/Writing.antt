-- A net's turn, last step: its layers by edge, then in the order of its line, and one more net on them.
-- Assumes nothing.
use mathlib.Core.Bool.{Bool, true, false}
use mathlib.Core.List.{List, map}
use mathlib.Core.Logic.{inl, inr}
use mathlib.Core.Path.{◌≡◌, refl, sym, ap, ap₂, ◌∙◌, subst}
use Prim.Native.Nat.{ℕ, zero, suc, ◌+◌, ◌-◌, ◌*◌, ◌≤◌, ◌<◌}
use native.Mathlib.Omega.{arith}
use lib.Dec.{T}
use lib.ListN.{length, get_or}
use Rattle.layout.specs.Areas.{loads_at, tiles_at, links_at, chosen_at, list_at, above_at, areas_end}
use Rattle.layout.specs.Parts.{part_at, part-long, part-outside, Outside}
use Rattle.layout.specs.Shapes.{Shaped}
use Rattle.layout.specs.declared.shape.Shape.{Shape}
use Rattle.marks.specs.Marks.{Older}
use Rattle.model.specs.Lists.{has, In}
use Rattle.model.specs.Plan.{layer_of, best}
use Rattle.net.specs.SoFar.{SoFar}
use Rattle.theory.specs.congestion.Tests.{has_in, has-none}
use Rattle.theory.specs.links.Best.{layer-map}
use Rattle.theory.specs.links.Dropped.{layer-none}
use Rattle.theory.specs.links.Planned.{stands}
use Rattle.tracks.specs.OccupiedAll.{layers_at, edges_of, layers_in, occupied_all, CanTake, all-outside}
use Rattle.tracks.specs.Turn.{turn-takes, turn-so-far}
use Rattle.turn.specs.Chosen.{put_other, put-at, put-outside, layer-small, map_same}
use Rattle.turn.specs.Kept.{outside_low, so-far-low}
use Rattle.turn.specs.Steps.{KnownEdges, put_by, chosen_in, listed_layers, CanAnswer}
use Rattle.turn.specs.Turn.{Turn, turn_net, turn_walk, walk_layers, turn_layers, turn_plan, turn_answer, NetChosen, NetPlaced}
use Rattle.turn.proofs.Choosing.{part-is}
use Rattle.turn.proofs.Net.{same_edges, edges-once, as_long, edges_are, edges_fit, entries_known, entries_fit, walk-known}

module _ (g : Shape) (shaped : Shaped g) (n : ℕ) (w : List ℕ) (room : areas_end g ≤ length w) (stamp : ℕ) (u : Turn) (h : NetChosen g stamp n w u) where
  fit : length (turn_net u).edges < g.m
  fit = edges_fit u g shaped h.grid

  pub tiles-fit : n ≤ g.m
  tiles-fit = omega (arith, h.tiles, fit)

  -- the edge above place k + 1
  pub known : KnownEdges g n w
  known zero p q = absurd (omega arith)
  known (suc k) p q =
      let i : above_at g + suc k ≡ above_at g + 1 + k = omega arith in
      omega (
        arith,
        ap (λ (x : ℕ). get_or w x 0) i,
        part_at (above_at g + 1) (n - 1) w k (omega arith),
        ap (λ (xs : List ℕ). get_or xs k 0) h.edges,
        walk-known u g shaped h.grid (get_or (turn_walk u) k 0) (stands (turn_walk u) k (omega (arith, as_long u, h.tiles))),
      )

  layers-long : length (walk_layers u) ≡ length (turn_walk u)
  layers-long =
      sym (ap length h.layers)
      ∙ part-long (layers_at g + 1) (n - 1) w (omega (arith, tiles-fit))
      ∙ sym (part-long (above_at g + 1) (n - 1) w (omega (arith, tiles-fit)))
      ∙ ap length h.edges

  module _ (w' : List ℕ) (put : w' ≡ put_by (chosen_at g) w (edges_of g n w) (layers_in g n w)) where
    put-walk : w' ≡ put_by (chosen_at g) w (turn_walk u) (walk_layers u)
    put-walk = put ∙ ap₂ (λ (es ls : List ℕ). put_by (chosen_at g) w es ls) h.edges h.layers

    pub put-kept : Outside (chosen_at g) (2 * g.t) w w'
    put-kept =
        subst (Outside (chosen_at g) (2 * g.t) w) (sym put-walk)
        (put-outside (chosen_at g) (2 * g.t) w (turn_walk u) (walk_layers u) (λ e i. omega (arith, walk-known u g shaped h.grid e i, shaped.e_tiles)))

    edges-stand : edges_of g n w' ≡ turn_walk u
    edges-stand = part-outside (chosen_at g) (2 * g.t) w w' put-kept (above_at g + 1) (n - 1) (inr (omega arith)) ∙ h.edges

    layers-stand : layers_in g n w' ≡ walk_layers u
    layers-stand = part-outside (chosen_at g) (2 * g.t) w w' put-kept (layers_at g + 1) (n - 1) (inr (omega arith)) ∙ h.layers

    so_far : SoFar g u.job u.plan w'
    so_far = so-far-low g w w' (outside_low g (chosen_at g) (2 * g.t) w w' (omega arith) put-kept) u.job _ _ h.so_far

    takes-walk : CanTake g w' (turn_walk u) (walk_layers u)
    takes-walk = turn-takes u.lent u.job u.accepted u.entry u.rest u.plan u.midway g h.grid.layers (edges_are u g shaped h.grid) w' so_far

    pub takes : CanTake g w' (edges_of g n w') (layers_in g n w')
    takes = rw (edges-stand, layers-stand) takes-walk

    -- ---- the answer

    chosen_at_lem : (e : ℕ) → In e (turn_net u).edges → chosen_in g w' e ≡ layer_of (turn_walk u) (walk_layers u) e
    chosen_at_lem e i =
        ap (λ (v : List ℕ). get_or v (chosen_at g + e) 0) put-walk
        ∙ put-at (chosen_at g) w (turn_walk u) (walk_layers u) (edges-once u) (λ a k. omega (arith, walk-known u g shaped h.grid a k, shaped.e_tiles)) layers-long e
        (omega (arith, same_edges u e))

    list_at_lem : (i : ℕ) → i < length (turn_net u).entries → get_or w' (list_at g + i) 0 ≡ get_or (turn_net u).entries i 0
    list_at_lem i b = put-kept.high (list_at g + i) (omega arith) ∙ h.list i b

    -- an entry that is kept has its layer, and one that is not has 0
    chosen_by : (b : Bool) (e : ℕ) → has (turn_net u).edges e ≡ b → In e (turn_net u).entries → (chosen_in g w' e ≡ layer_of (turn_net u).edges (turn_layers u) e) × (chosen_in g w' e < 256)
    unfolding best
    chosen_by true e k i =
        let there = (has_in (turn_net u).edges e).0 (subst T (sym k) tt) in
        let c = chosen_at_lem e there in (
          c ∙ sym (layer-map (layer_of (turn_walk u) (walk_layers u)) (turn_net u).edges e there),
          omega (arith, c, layer-small g w' (turn_walk u) (walk_layers u) takes-walk e (omega (arith, same_edges u e, there)), shaped.k_most),
        )
    chosen_by false e k i =
        let none = has-none (turn_net u).edges e k in
        let z : chosen_in g w' e ≡ 0 =
        ap (λ (v : List ℕ). get_or v (chosen_at g + e) 0) put-walk ∙ put_other (chosen_at g) w (turn_walk u) (walk_layers u) e (omega (arith, same_edges u e, none)) ∙ h.free e i k in
        (z ∙ sym (layer-none (turn_net u).edges (turn_layers u) e none), omega (arith, z))

    chosen_is : (e : ℕ) → In e (turn_net u).entries → (chosen_in g w' e ≡ layer_of (turn_net u).edges (turn_layers u) e) × (chosen_in g w' e < 256)
    chosen_is e i = chosen_by (has (turn_net u).edges e) e refl i

    module _ (c : ℕ) (count : c ≡ length (turn_net u).entries) where
      entries-few : length (turn_net u).entries ≤ 2 * g.t
      entries-few = omega (arith, entries_fit u g shaped h.grid, shaped.e_tiles)

      pub can-answer : CanAnswer g c w'
      can-answer = record {
        known = λ i b. omega (arith, list_at_lem i (omega arith), entries_known u g shaped h.grid (get_or (turn_net u).entries i 0) (stands (turn_net u).entries i (omega arith)));
        small = λ i b.
            omega (arith, ap (chosen_in g w') (list_at_lem i (omega arith)), (chosen_is (get_or (turn_net u).entries i 0) (stands (turn_net u).entries i (omega arith))).1);
      }

      pub answer_fits : c ≤ 2 * g.t
      answer_fits = omega (arith, entries-few)

      answer_is : listed_layers g w' c ≡ turn_answer u
      answer_is =
          ap (λ (k : ℕ). listed_layers g w' k) count
          ∙ ap (map (chosen_in g w')) (part-is (list_at g) w' (turn_net u).entries (omega (arith, entries-few, put-kept.long)) list_at_lem)
          ∙ map_same (chosen_in g w') (layer_of (turn_net u).edges (turn_layers u)) (turn_net u).entries (λ e i. (chosen_is e i).0)

      pub net-placed : (w'' out : List ℕ) → w'' ≡ occupied_all g w' (edges_of g n w') (layers_in g n w') → out ≡ listed_layers g w' c → NetPlaced g stamp w'' out u
      net-placed w'' out w''-is out-is = record {
        layers = out-is ∙ answer_is;
        so_far =
            subst (SoFar g u.job (turn_plan u)) (sym occupied)
            (turn-so-far u.lent u.job u.accepted u.entry u.rest u.plan u.midway g h.grid.layers (edges_are u g shaped h.grid) w' so_far
            (omega (arith, put-kept.long)));
        older =
            subst (Older (suc stamp))
            (sym
            (part-outside (loads_at g) (loads_at g + g.e) w' w'' kept (tiles_at g) g.t (inr (omega arith))
            ∙ part-outside (chosen_at g) (2 * g.t) w w' put-kept (tiles_at g) g.t (inl (omega arith))))
            h.older;
        links =
            subst (Older (suc stamp))
            (sym
            (part-outside (loads_at g) (loads_at g + g.e) w' w'' kept (links_at g) g.t (inr (omega arith))
            ∙ part-outside (chosen_at g) (2 * g.t) w w' put-kept (links_at g) g.t (inl (omega arith))))
            h.links;
      }
        where
          occupied : w'' ≡ occupied_all g w' (turn_walk u) (walk_layers u)
          occupied = w''-is ∙ ap₂ (λ (es ls : List ℕ). occupied_all g w' es ls) edges-stand layers-stand

          kept : Outside (loads_at g) (loads_at g + g.e) w' w''
          kept =
              subst (Outside (loads_at g) (loads_at g + g.e) w') (sym occupied)
              (all-outside g w' (turn_walk u) (walk_layers u) (omega (arith, put-kept.long)) takes-walk)

    pub still-long : (w'' : List ℕ) → w'' ≡ occupied_all g w' (edges_of g n w') (layers_in g n w') → length w'' ≡ length w
    still-long w'' e =
        ap length e ∙ (all-outside g w' (edges_of g n w') (layers_in g n w') (omega (arith, put-kept.long)) takes).long ∙ put-kept.long
