-- The walk, for a reader: for every net of an accepted job it lists each edge of the net once, and it starts at the net's lowest tile.
-- Assumes nothing.
use Rattle.std.specs.Prelude.{◌≡◌, refl, List, [], ◌∷◌, ◌++◌, ◌⊎◌, ℕ, zero, suc, ◌-◌, ◌≤◌, ◌<◌, length}
use Rattle.std.proofs.Common.{sym, ap, ◌∙◌, subst, arith}
use Rattle.model.specs.Lists.{occurs, In}
use Rattle.model.specs.Job.{Net, Job, net_count, tile_count, ends, net_of}
use Rattle.model.specs.Read.{Lent, Place, found, read}
use Rattle.model.specs.Walk.{net_tiles, lowest, walk}
use Rattle.theory.specs.congestion.Sums.{in_head}
use Rattle.theory.specs.walk.Stops.{Stop, At, Fits, branches, next_stops, edges_of, in-branches}
use Rattle.theory.specs.walk.Stops as stops
use Rattle.theory.specs.walk.NetVias.{root_of, root-tile, root-lowest, root-inside}
use Rattle.theory.specs.links.Reach.{lo_of, hi_of}
use Rattle.theory.specs.links.Edges.{near_of}
use Rattle.theory.specs.links.Nets.{NetOk, tree, walk_is, walk-edges, tiles-same, root-same}
use Rattle.theory.specs.links.Reading.{Accepted, accepted}
use Rattle.theory.specs.links.Planned.{net-ok}

-- the first edge of a walk from a tile meets that tile
module _ (lo hi : ℕ → ℕ) (near : ℕ → List ℕ) (size : ℕ) (es : List ℕ) (fits : Fits lo hi near size es) (root : ℕ) (inside : root < size) where
  none-waits : (n : ℕ) → stops.walk lo hi near es n [] ≡ []
  none-waits zero = refl
  none-waits (suc n) = refl

  first_edge : (a : ℕ) (ws : List ℕ) → edges_of near es (stops.walk_from lo hi near es root) ≡ a ∷ ws → At lo hi a root
  first_edge a ws e = go (branches near es start) refl e
    where
      start : Stop
      start = record { tile = root; above = 0 }

      go : (bs : List ℕ) → branches near es start ≡ bs → bs ++ edges_of near es (stops.walk lo hi near es (length es) (next_stops lo hi root bs)) ≡ a ∷ ws → At lo hi a root
      go [] k h = let z : [] ≡ a ∷ ws = ap (edges_of near es) (sym (none-waits (length es))) ∙ h in let y : ◌≡◌ {A = ℕ} 0 1 = cc in absurd (omega arith)
      go (b ∷ bs) k h =
          let same : b ≡ a = cc in
          subst (λ (x : ℕ). At lo hi x root) same ((in-branches lo hi near size es fits start b inside).0 (subst (λ (xs : List ℕ). In b xs) (sym k) (in_head b bs))).1

module _ (j : Job) (wide : 1 ≤ j.width) (high : 1 ≤ j.height) (n : Net) (ok : NetOk j.width j.height j.layers n) where
  abbrev lo' : ℕ → ℕ
  lo' = lo_of j.width j.height

  abbrev hi' : ℕ → ℕ
  hi' = hi_of j.width j.height

  abbrev near' : ℕ → List ℕ
  near' = near_of j.width j.height

  abbrev root' : ℕ
  root' = root_of lo' hi' n.pins n.edges

  -- the tile that the walk starts at is the lowest of the net's tiles
  lowest-is : In (lowest (net_tiles j n)) (net_tiles j n) × ((t : ℕ) → In t (net_tiles j n) → lowest (net_tiles j n) ≤ t)
  lowest-is =
      rw (root-same j n ok.some_pin, tiles-same j n)
      (root-tile lo' hi' near' (tile_count j) n.pins n.edges (tree j wide high n ok), root-lowest lo' hi' near' (tile_count j) n.pins n.edges (tree j wide high n ok))

  first-at : (a : ℕ) (ws : List ℕ) → walk j n ≡ a ∷ ws → ((ends j a).one ≡ lowest (net_tiles j n)) ⊎ ((ends j a).other ≡ lowest (net_tiles j n))
  first-at a ws h =
      subst (λ (t : ℕ). At lo' hi' a t) (sym (root-same j n ok.some_pin))
      (first_edge lo' hi' near' (tile_count j) n.edges (tree j wide high n ok).fits root' (root-inside lo' hi' near' (tile_count j) n.pins n.edges (tree j wide high n ok)) a ws
      (sym (walk_is j wide high n ok) ∙ h))

-- ---- the net of number k of an accepted job

module _ (lent : Lent) (text : List ℕ) (j : Job) (p : Place) (e : read lent text ≡ found j p) (k : ℕ) (from_one : 1 ≤ k) (of-job : k ≤ net_count j) where
  acc : Accepted lent j
  acc = accepted lent text j p e

  ok' : NetOk j.width j.height j.layers (net_of j k)
  ok' = let s : suc (k - 1) ≡ k = omega arith in subst (λ (i : ℕ). NetOk j.width j.height j.layers (net_of j i)) s (net-ok lent j acc (k - 1) (omega arith))

  -- the walk lists each edge as often as the net's `edges` line does
  pub walk-lists : (a : ℕ) → occurs a (walk j (net_of j k)) ≡ occurs a (net_of j k).edges
  walk-lists = walk-edges j acc.width.0 acc.height.0 (net_of j k) ok'

  -- which is at most once
  pub edges-once : (a : ℕ) → occurs a (net_of j k).edges ≤ 1
  edges-once = ok'.once

  -- "breadth first from the net's lowest-numbered tile": the tile that the walk starts at is the lowest of the net's tiles
  pub start-lowest : In (lowest (net_tiles j (net_of j k))) (net_tiles j (net_of j k))
      × ((t : ℕ) → In t (net_tiles j (net_of j k)) → lowest (net_tiles j (net_of j k)) ≤ t)
  start-lowest = lowest-is j acc.width.0 acc.height.0 (net_of j k) ok'

  -- and the first edge of the walk meets that tile
  pub first-meets : (a : ℕ) (ws : List ℕ) → walk j (net_of j k) ≡ a ∷ ws
      → ((ends j a).one ≡ lowest (net_tiles j (net_of j k))) ⊎ ((ends j a).other ≡ lowest (net_tiles j (net_of j k)))
  first-meets = first-at j acc.width.0 acc.height.0 (net_of j k) ok'
