-- The walk by place: where each branch of a tile stands, and that all places have room.
-- Assumes nothing.
use mathlib.Core.List.{List}
use mathlib.Core.Path.{◌≡◌, sym, ap, ◌∙◌}
use Prim.Native.Nat.{ℕ, suc, ◌+◌, ◌-◌, ◌≤◌, ◌<◌}
use native.Mathlib.Omega.{arith}
use lib.ListN.{length, take, drop, get_or}
use lib.Seq.{get_or-take, get_or-drop}
use Rattle.model.specs.Job.{Job, Net, tile_count}
use Rattle.model.specs.Walk.{walk}
use Rattle.theory.specs.engine.Places.{first-le}
use Rattle.theory.specs.links.Edges.{near_of}
use Rattle.theory.specs.links.Engine.{walk_stops, no_stop, stop_at, branches_at, kids_at, first_at, all-at, stops-long, walk-by-place, kids-are}
use Rattle.theory.specs.links.Nets.{NetOk, tree}
use Rattle.theory.specs.links.Reach.{lo_of, hi_of}
use Rattle.theory.specs.walk.NetVias.{root_of, Tree, net-cuts, root-inside}
use Rattle.theory.specs.walk.Stops.{Stop, Sound, edges_of, far, nexts-at, walk-nexts, walk-sound-from}

module _ (j : Job) (wide : 1 ≤ j.width) (high : 1 ≤ j.height) (net : Net) (ok : NetOk j.width j.height j.layers net) where
  abbrev lo : ℕ → ℕ
  lo = lo_of j.width j.height

  abbrev hi : ℕ → ℕ
  hi = hi_of j.width j.height

  abbrev near : ℕ → List ℕ
  near = near_of j.width j.height

  abbrev es : List ℕ
  es = net.edges

  abbrev root : ℕ
  root = root_of lo hi net.pins es

  t : Tree lo hi near (tile_count j) net.pins es
  t = tree j wide high net ok

  inside : root_of (lo_of j.width j.height) (hi_of j.width j.height) net.pins net.edges < tile_count j
  inside = root-inside lo hi near (tile_count j) net.pins es t

  -- a tile of the walk is one of the grid
  pub tile-inside : (i : ℕ) → i ≤ length net.edges → (stop_at j net i).tile < tile_count j
  tile-inside i h =
      (all-at (Sound lo hi near (tile_count j) es t.fits) (walk_stops j net) (walk-sound-from lo hi near (tile_count j) es t.fits root inside) i (omega (arith, stops-long j wide high net ok))).0

  -- the places up to the end of the branches of a tile are those of tiles
  pub place-room : (i : ℕ) → i ≤ suc (length net.edges) → first_at j net i ≤ suc (length net.edges)
  place-room i h = first-le (kids_at j net) (first_at j net) (length es) (walk j net) (walk-by-place j wide high net ok) (suc (length es) - i) i (omega arith)

  -- branch k of tile i
  module _ (i k : ℕ) (h : i ≤ length net.edges) (l : k < kids_at j net i) where
    pub branch-edge : get_or (walk j net) (first_at j net i - 1 + k) 0 ≡ get_or (branches_at j net (stop_at j net i)) k 0
    branch-edge =
        sym (get_or-drop (first_at j net i - 1) (walk j net) k 0)
        ∙ sym (get_or-take (kids_at j net i) (drop (first_at j net i - 1) (walk j net)) k 0 l)
        ∙ ap (λ (xs : List ℕ). get_or xs k 0) (kids-are j wide high net ok i h)

    pub branch-tile : (stop_at j net (first_at j net i + k)).tile ≡ far (lo_of j.width j.height) (hi_of j.width j.height) (stop_at j net i).tile (get_or (branches_at j net (stop_at j net i)) k 0)
    branch-tile =
        let e : first_at j net i + k ≡ suc (length (edges_of near es (take i (walk_stops j net))) + k) = omega arith in
        ap (λ (p : ℕ). (stop_at j net p).tile) e
        ∙ ap (λ (ss : List Stop). (get_or ss (suc (length (edges_of near es (take i (walk_stops j net))) + k)) no_stop).tile)
        (walk-nexts lo hi near (tile_count j) es t.fits (net-cuts lo hi near (tile_count j) net.pins es t) root inside)
        ∙ ap (λ (s : Stop). s.tile) (nexts-at lo hi near es (walk_stops j net) i k no_stop (omega (arith, stops-long j wide high net ok)) l)
