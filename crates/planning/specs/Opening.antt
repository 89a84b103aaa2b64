-- A text that is read, and the nets of its job scored.
-- Assumes nothing.
use Rattle.std.specs.Prelude.{List, ◌≡◌, ℕ, suc, ◌+◌, ◌-◌, ◌*◌, ◌≤◌, length, Ok, Err, Result as Outcome}
use Rattle.std.proofs.Common.{◌∙◌, arith}
use Rattle.head.specs.declared.Head.{Head}
use Rattle.layout.specs.Areas.{loads_at, demand_at, flat_at, areas_end, edge-room}
use Rattle.layout.specs.Dirs.{dirs_of}
use Rattle.layout.specs.Shapes.{ShapeOf, Shaped}
use Rattle.lines.specs.Told.{refused_by}
use Rattle.model.specs.Job.{Job, net_count}
use Rattle.model.specs.Read.{Lent, Place, found, read}
use Rattle.net.specs.Dropped.{Unmarked, Remarked}
use Rattle.net.specs.SoFar.{Capacities}
use Rattle.order.specs.Ready.{Scored}
use Rattle.theory.specs.links.Reading.{Accepted}
use Rattle.flat.specs.FlatPlan.{FlatCapacities, FlatDemands, NoLoads}
use Rattle.text.specs.declared.Refusal.{Refusal}

-- the working numbers hold the flat plan of the accepted job j, no net is placed, and of each net at most m stamps were used
pub record Given (m : ℕ) (h : Head) (w : List ℕ) (lent : Lent) (j : Job) : Type 0 where
  pub accepted : Accepted lent j
  pub shape : ShapeOf j.width j.height j.layers h.shape.dirs h.shape
  pub dirs : dirs_of h.shape.k h.shape.dirs ≡ j.dirs
  pub shaped : Shaped h.shape
  pub room : areas_end h.shape ≤ length w
  pub capacities : Capacities h.shape j w
  pub flat : FlatCapacities h.shape j w
  pub demands : FlatDemands h.shape j w
  pub loads : NoLoads h.shape w
  pub unmarked : Unmarked h.shape (suc (m * h.nets)) w
  pub count : h.nets ≡ net_count j

-- once marks and links have changed
pub given-remarked : (m k : ℕ) (h : Head) (w w' : List ℕ) (lent : Lent) (j : Job) → Given m h w lent j → Remarked h.shape (suc (k * h.nets)) w w' → Given k h w' lent j
given-remarked m k h w w' lent j a r = record {
  accepted = a.accepted;
  shape = a.shape;
  dirs = a.dirs;
  shaped = a.shaped;
  room = omega (arith, a.room, r.out.long);
  capacities = record { caps = λ e l b x y. r.out.low (e * h.shape.k + (l - 1)) (omega (arith, edge-room h.shape e b)) ∙ a.capacities.caps e l b x y };
  flat = λ e b. r.out.low (flat_at h.shape + e) (omega arith) ∙ a.flat e b;
  demands = λ e b. r.out.low (demand_at h.shape + e) (omega arith) ∙ a.demands e b;
  loads = λ i b. r.out.low (loads_at h.shape + i) (omega arith) ∙ a.loads i b;
  unmarked = r.after;
  count = a.count;
}

-- the text is accepted; the working numbers and the net table are those of its job
pub record OpenFound (s : List ℕ) (lent : Lent) (w table : List ℕ) (h : Head) : Type 0 where
  pub job : Job
  pub place : Place
  pub is : read lent s ≡ found job place
  pub given : Given 3 h w lent job
  pub scored : Scored s job table

abbrev pub OpenTold : List ℕ → Lent → List ℕ → List ℕ → Outcome Head Refusal → Type 0
OpenTold s lent w table (Err r) = read lent s ≡ refused_by r
OpenTold s lent w table (Ok h) = OpenFound s lent w table h

-- how many entries of the order list there are to write
abbrev pub nets_of : Outcome Head Refusal → ℕ
nets_of (Ok h) = h.nets
nets_of (Err r) = 0
