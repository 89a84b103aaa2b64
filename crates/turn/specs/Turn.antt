-- A net's turn: what is asked before it, what stands in the working numbers between its steps, and what it leaves.
-- Assumes nothing.
use Rattle.std.specs.Prelude.{Bool, true, false, List, ◌∷◌, map, ◌≡◌, ℕ, suc, ◌+◌, ◌-◌, ◌≤◌, ◌<◌, length, get_or, set}
use Rattle.std.proofs.Common.{ap}
use Rattle.layout.specs.Areas.{tiles_at, chosen_at, list_at, above_at, engine_at, tiles_of, links_of}
use Rattle.layout.specs.Shapes.{ShapeOf}
use Rattle.layout.specs.declared.shape.Shape.{Shape}
use Rattle.marks.specs.Marks.{Older}
use Rattle.marks.specs.Words.{bit_of}
use Rattle.model.specs.Job.{Net, Job, net_of}
use Rattle.model.specs.Lists.{has, In}
use Rattle.model.specs.Plan.{layer_of, best, best_in_walk}
use Rattle.model.specs.Read.{Lent}
use Rattle.model.specs.Score.{Entry}
use Rattle.model.specs.Vias.{vias}
use Rattle.model.specs.Tree.{ring}
use Rattle.model.specs.Walk.{net_tiles, lowest, walk}
use Rattle.net.specs.AtHand.{AtHand}
use Rattle.net.specs.SoFar.{SoFar}
use Rattle.net.specs.Table.{PinsAt, EdgesAt}
use Rattle.theory.specs.links.Engine.{first_at, pins_at}
use Rattle.theory.specs.links.Flat.{limit_at}
use Rattle.theory.specs.links.Planned.{Midway}
use Rattle.theory.proofs.links.Planned.{midway-next}
use Rattle.theory.specs.links.Reading.{Accepted}
use Rattle.tracks.specs.OccupiedAll.{edges_of, layers_in}

-- the net whose turn it is, of an accepted job, with the plan of the nets before it
pub record Turn : Type 0 where
  pub lent : Lent
  pub job : Job
  pub accepted : Accepted lent job
  pub entry : Entry
  pub rest : List Entry
  pub plan : List (List ℕ)
  pub midway : Midway lent job accepted (entry ∷ rest) plan

abbrev pub turn_net : Turn → Net
turn_net u = net_of u.job u.entry.net

-- the layers that it gets, and the plan with them
abbrev pub turn_layers : Turn → List ℕ
turn_layers u = best u.job u.plan (turn_net u)

abbrev pub turn_plan : Turn → List (List ℕ)
turn_plan u = set u.plan (u.entry.net - 1) (turn_layers u)

-- the same in walk order
abbrev pub turn_walk : Turn → List ℕ
turn_walk u = walk u.job (turn_net u)

abbrev pub walk_layers : Turn → List ℕ
walk_layers u = best_in_walk u.job u.plan (turn_net u) (turn_walk u)

-- the limit on one layer's overflow, by edge
abbrev pub turn_limit : Turn → ℕ → ℕ
turn_limit u e = limit_at u.job e

-- the grid and the stack are those of the job
pub record OfJob (g : Shape) (j : Job) : Type 0 where
  pub width : g.w ≡ j.width
  pub height : g.h ≡ j.height
  pub layers : g.k ≡ j.layers

pub of-job : (g : Shape) (j : Job) → ShapeOf j.width j.height j.layers g.dirs g → OfJob g j
of-job g j e = record { width = e.width; height = e.height; layers = e.layers }

-- where the plan stands after the turn: the nets left are the rest
pub turn-next : (u : Turn) → Midway u.lent u.job u.accepted u.rest (turn_plan u)
turn-next u = midway-next u.lent u.job u.accepted u.entry u.rest u.plan u.midway

-- ---- before the turn

-- the net's lines stand at p and q of the text, d is whether it lost an edge, the working numbers hold the plan so far, and every mark and link has an earlier stamp
pub record Before (s : List ℕ) (p q : ℕ) (d : Bool) (g : Shape) (stamp : ℕ) (w : List ℕ) (u : Turn) : Type 0 where
  pub grid : OfJob g u.job
  pub so_far : SoFar g u.job u.plan w
  pub older : Older stamp (tiles_of g w)
  pub links : Older stamp (links_of g w)
  pub pins : PinsAt s u.job.width u.job.height u.job.layers p (turn_net u)
  pub edges : EdgesAt s u.job.width u.job.height q (turn_net u)
  pub whole : d ≡ false → (turn_net u).edges ≡ (turn_net u).entries
  pub cut : d ≡ true → ring u.job.width u.job.height (turn_net u).entries ≡ true

pub record BeforeSome (s : List ℕ) (p q : ℕ) (d : Bool) (g : Shape) (stamp : ℕ) (w : List ℕ) : Type 0 where
  pub turn : Turn
  pub before : Before s p q d g stamp w turn

-- the same, with the limits m by edge, and a stretch of c numbers for the net's layers
pub record TurnAt (s : List ℕ) (p q : ℕ) (d : Bool) (g : Shape) (stamp : ℕ) (m : ℕ → ℕ) (w : List ℕ) (c : ℕ) (u : Turn) : Type 0 where
  pub before : Before s p q d g stamp w u
  pub limit_is : (e : ℕ) → m e ≡ turn_limit u e
  pub count : c ≡ length (turn_net u).entries

pub record TurnSome (s : List ℕ) (p q : ℕ) (d : Bool) (g : Shape) (stamp : ℕ) (m : ℕ → ℕ) (w : List ℕ) (c : ℕ) : Type 0 where
  pub turn : Turn
  pub at : TurnAt s p q d g stamp m w c turn

-- ---- between its steps

-- nothing is chosen for the entries that it lost
abbrev pub Free : Shape → List ℕ → Turn → Type 0
Free g w u = (e : ℕ) → In e (turn_net u).entries → has (turn_net u).edges e ≡ false → get_or w (chosen_at g + e) 0 ≡ 0

-- The net is read: its pins and edges are marked, its entries listed, and r is its lowest tile. The plan so far is as it was.
pub record NetAgain (g : Shape) (stamp : ℕ) (w w' : List ℕ) (r : ℕ) (u : Turn) : Type 0 where
  pub hand : AtHand g stamp (turn_net u) w'
  pub root : r ≡ lowest (net_tiles u.job (turn_net u))
  pub long : length w' ≡ length w
  pub low : (i : ℕ) → i < tiles_at g → get_or w' i 0 ≡ get_or w i 0
  pub links : Older (suc stamp) (links_of g w')
  pub free : Free g w' u

-- The net is read and walked, with n tiles: by place the edge above it, the end of its branches and its pins, and its entries listed as its line has
-- them. The plan so far is as it was, and every mark is older than the next stamp.
pub record NetWalked (g : Shape) (stamp n : ℕ) (w : List ℕ) (u : Turn) : Type 0 where
  pub grid : OfJob g u.job
  pub tiles : n ≡ suc (length (turn_net u).edges)
  pub list : (i : ℕ) → i < length (turn_net u).entries → get_or w (list_at g + i) 0 ≡ get_or (turn_net u).entries i 0
  pub above : (i : ℕ) → i < length (turn_net u).edges → get_or w (above_at g + suc i) 0 ≡ get_or (turn_walk u) i 0
  pub ends : (i : ℕ) → i ≤ length (turn_net u).edges → get_or w (engine_at g + i) 0 ≡ first_at u.job (turn_net u) (suc i)
  pub pins_small : (i : ℕ) → i ≤ length (turn_net u).edges → get_or w (engine_at g + g.m + i) 0 < 256
  pub pins : (i : ℕ) → i ≤ length (turn_net u).edges → (l : ℕ) → 1 ≤ l → l ≤ 8
      → bit_of (get_or w (engine_at g + g.m + i) 0) (l - 1) ≡ has (pins_at u.job (turn_net u) i) l
  pub so_far : SoFar g u.job u.plan w
  pub older : Older (suc stamp) (tiles_of g w)
  pub links : Older (suc stamp) (links_of g w)
  pub free : Free g w u

pub record WalkedSome (g : Shape) (n : ℕ) (m : ℕ → ℕ) (w : List ℕ) : Type 0 where
  pub turn : Turn
  pub stamp : ℕ
  pub walked : NetWalked g stamp n w turn
  pub limit_is : (e : ℕ) → m e ≡ turn_limit turn e

-- the layers are chosen, by walk place
pub record NetChosen (g : Shape) (stamp n : ℕ) (w : List ℕ) (u : Turn) : Type 0 where
  pub grid : OfJob g u.job
  pub tiles : n ≡ suc (length (turn_net u).edges)
  pub list : (i : ℕ) → i < length (turn_net u).entries → get_or w (list_at g + i) 0 ≡ get_or (turn_net u).entries i 0
  pub edges : edges_of g n w ≡ turn_walk u
  pub layers : layers_in g n w ≡ walk_layers u
  pub so_far : SoFar g u.job u.plan w
  pub older : Older (suc stamp) (tiles_of g w)
  pub links : Older (suc stamp) (links_of g w)
  pub free : Free g w u

pub record ChosenSome (g : Shape) (n c : ℕ) (w : List ℕ) : Type 0 where
  pub turn : Turn
  pub stamp : ℕ
  pub chosen : NetChosen g stamp n w turn
  pub count : c ≡ length (turn_net turn).entries

abbrev pub turn_vias : Turn → ℕ
turn_vias u = vias u.job (turn_net u).pins (turn_net u).edges (turn_layers u)

-- ---- after it

-- the layers of its entries, 0 of one that it lost
abbrev pub turn_answer : Turn → List ℕ
turn_answer u = map (layer_of (turn_net u).edges (turn_layers u)) (turn_net u).entries

-- the net's layers stand in its stretch, and the working numbers hold the plan with this net
pub record NetPlaced (g : Shape) (stamp : ℕ) (w out : List ℕ) (u : Turn) : Type 0 where
  pub layers : out ≡ turn_answer u
  pub so_far : SoFar g u.job (turn_plan u) w
  pub older : Older (suc stamp) (tiles_of g w)
  pub links : Older (suc stamp) (links_of g w)

-- the same, and r is the net's vias
pub record TurnDone (g : Shape) (stamp : ℕ) (w out : List ℕ) (r : ℕ) (u : Turn) : Type 0 where
  pub placed : NetPlaced g stamp w out u
  pub vias_are : r ≡ turn_vias u
