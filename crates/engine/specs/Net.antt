-- A net in a part of the working numbers, before and after its layers are placed, over any layers by edge and any heights.
-- Assumes nothing.
use Rattle.std.specs.Prelude.{◌≡◌, List, ℕ, suc, ◌+◌, ◌*◌, ◌≤◌, ◌<◌, T, get_or, length, take, drop}
use Rattle.std.proofs.Math.Seq.{slice}
use Rattle.model.specs.Lists.{In}
use Rattle.model.specs.Job.{Net, Job}
use Rattle.model.specs.Layering.{IsChoice}
use Rattle.model.specs.Walk.{walk}
use Rattle.theory.specs.congestion.Dictionary.{Rising}
use Rattle.theory.specs.links.Nets.{NetOk}
use Rattle.theory.specs.links.Best.{cost_by, cheapest_in_walk, cheapest}
use Rattle.theory.specs.links.Engine.{first_at, pins_at}
use Rattle.sets.specs.Mask.{has, IsSet}

-- What stands in the slice w, which has room for m tiles, before the net of job j takes its turn, where `allowed e` are the layers that edge e may have: n is
-- the number of the net's tiles and K the number of layers. Tile i is the i-th stop of the walk, and the edge above tile i + 1 is the i-th edge of the walk.
pub record Holds (j : Job) (net : Net) (allowed : ℕ → List ℕ) (w : List ℕ) (m n K : ℕ) : Type 0 where
  -- the net is one that the reading lets pass
  pub wide : 1 ≤ j.width
  pub high : 1 ≤ j.height
  pub ok : NetOk j.width j.height j.layers net
  pub layers : K ≡ j.layers
  pub some : 1 ≤ j.layers
  pub deep : j.layers ≤ 8
  -- the slice is long enough
  pub tiles : n ≡ suc (length net.edges)
  pub small : m ≤ 65536
  pub fits : suc (length net.edges) ≤ m
  pub room : 12 * m ≤ length w
  -- where the branches of each tile end, which is where those of the next begin
  pub ends : (i : ℕ) → i ≤ length net.edges → get_or w i 0 ≡ first_at j net (suc i)
  -- the layers of the pins of each tile
  pub pins : (i : ℕ) → i ≤ length net.edges → IsSet (get_or w (m + i) 0) (pins_at j net i)
  -- the allowed layers are layers of the stack, in rising order
  pub rising : (e : ℕ) → Rising (allowed e)
  pub inside : (e l : ℕ) → In l (allowed e) → (1 ≤ l) × (l ≤ j.layers)
  -- those of the edge above each tile but the root stand in the slice
  pub into : (i : ℕ) → i < length net.edges → (l : ℕ) → 1 ≤ l → l ≤ j.layers → T (has (get_or w (2 * m + suc i) 0) l) → In l (allowed (get_or (walk j net) i 0))
  pub back : (i : ℕ) → i < length net.edges → (l : ℕ) → In l (allowed (get_or (walk j net) i 0)) → T (has (get_or w (2 * m + suc i) 0) l)
  -- there is a choice for the net
  pub choice : List ℕ
  pub valid : IsChoice allowed (walk j net) choice

-- some net stands in the slice
pub record HoldsNet (w : List ℕ) (m n K : ℕ) : Type 0 where
  pub job : Job
  pub net : Net
  pub allowed : ℕ → List ℕ
  pub holds : Holds job net allowed w m n K

-- The slice u after the net's layers are placed, and the number v that is returned, over heights P: the layers are those of the cheapest choice, by edge in walk
-- order from 3m + 1 on, and v is its cost. What stood below 3m and from 12m on stays.
pub record Placed (P : ℕ → ℕ) (j : Job) (net : Net) (allowed : ℕ → List ℕ) (w u : List ℕ) (m v : ℕ) : Type 0 where
  pub long : length u ≡ length w
  pub low : take (3 * m) u ≡ take (3 * m) w
  pub high : drop (12 * m) u ≡ drop (12 * m) w
  pub layers : slice (3 * m + 1) (3 * m + 1 + length net.edges) u ≡ cheapest_in_walk allowed P j net
  pub cost : v ≡ cost_by P j net.pins net.edges (cheapest allowed P j net)
