-- What must stand where the nets of an accepted job are put in placing order.
-- Assumes nothing.
use Rattle.std.specs.Prelude.{List, ◌≡◌, ℕ, suc, ◌+◌, ◌*◌, ◌<◌, get_or}
use Rattle.std.proofs.Common.{inr, ap, ◌∙◌, arith}
use Rattle.layout.specs.Areas.{demand_at, flat_at, tiles_at, links_at}
use Rattle.layout.specs.Parts.{part-outside, Outside}
use Rattle.layout.specs.Table.{tiles_column, score_in}
use Rattle.layout.specs.declared.shape.Shape.{Shape}
use Rattle.model.specs.Job.{Job, net_count, net_of}
use Rattle.model.specs.Read.{Lent}
use Rattle.model.specs.Score.{different_tiles, score}
use Rattle.net.specs.Checked.{Checked}
use Rattle.net.specs.Dropped.{Unmarked, Remarked}
use Rattle.net.specs.Table.{Table, PinTiles, Marks}
use Rattle.theory.specs.links.Reading.{Accepted}
use Rattle.flat.specs.FlatPlan.{FlatDemands, FlatCapacities}
use Rattle.order.specs.declared.Weights.{Weights}

-- job j is accepted; the text s, the shape, the weights, the working numbers and the net table are its own
pub record Ready (s : List ℕ) (g : Shape) (a : Weights) (w table : List ℕ) (lent : Lent) (j : Job) : Type 0 where
  pub accepted : Accepted lent j
  pub width : g.w ≡ j.width
  pub height : g.h ≡ j.height
  pub layers : g.k ≡ j.layers
  pub alpha : a.alpha ≡ j.alpha
  pub beta : a.beta ≡ j.beta
  pub gamma : a.gamma ≡ j.gamma
  -- the stamps of the scoring come after two for each net
  pub stamp : a.stamp ≡ suc (2 * net_count j)
  -- d(e) and c(e) of the flat plan
  pub demands : FlatDemands g j w
  pub capacities : FlatCapacities g j w
  pub rows : Table s j table

-- so it is with some job, of n nets
pub record SomeJob (s : List ℕ) (g : Shape) (a : Weights) (w table : List ℕ) (n : ℕ) : Type 0 where
  pub lent : Lent
  pub job : Job
  pub ready : Ready s g a w table lent job
  pub pins : PinTiles job table
  pub count : n ≡ net_count job

-- so it is with some job that has a net in place i, from 0
pub record SomeNet (s : List ℕ) (g : Shape) (a : Weights) (w table : List ℕ) (i : ℕ) : Type 0 where
  pub lent : Lent
  pub job : Job
  pub ready : Ready s g a w table lent job
  pub there : i < net_count job
  pub pins : get_or table (tiles_column i) 0 ≡ different_tiles (net_of job (suc i)).pins

-- the rows of the nets, their scores, and their lowest wanted layers
pub record Scored (s : List ℕ) (j : Job) (table : List ℕ) : Type 0 where
  pub rows : Table s j table
  pub scores : (i : ℕ) → i < net_count j → score_in table i ≡ score j (net_of j (suc i))
  pub lows : Marks j table

-- so it is with a job whose text is checked, once its flat capacities are in their place
pub ready-checked : (s : List ℕ) (g : Shape) (a : Weights) (w w' table : List ℕ) (lent : Lent) (j : Job) → Accepted lent j → Checked s g j w table
    → Outside (flat_at g) g.e w w' → FlatCapacities g j w' → a.alpha ≡ j.alpha → a.beta ≡ j.beta → a.gamma ≡ j.gamma → a.stamp ≡ suc (2 * net_count j) → Ready s g a w' table lent j
ready-checked s g a w w' table lent j acc checked out flat alpha-is beta-is gamma-is stamp-is = record {
  accepted = acc;
  width = checked.shape.width;
  height = checked.shape.height;
  layers = checked.shape.layers;
  alpha = alpha-is;
  beta = beta-is;
  gamma = gamma-is;
  stamp = stamp-is;
  demands = λ e b. out.low (demand_at g + e) (omega arith) ∙ checked.demand e b;
  capacities = flat;
  rows = checked.rows;
}

-- and once the marks and the links of its tiles are others, and the table has more
pub ready-remarked : (s : List ℕ) (g : Shape) (a : Weights) (n : ℕ) (w w' table table' : List ℕ) (lent : Lent) (j : Job) → Ready s g a w table lent j → Remarked g n w w'
    → Table s j table' → Ready s g a w' table' lent j
ready-remarked s g a n w w' table table' lent j r m rows = record {
  accepted = r.accepted;
  width = r.width;
  height = r.height;
  layers = r.layers;
  alpha = r.alpha;
  beta = r.beta;
  gamma = r.gamma;
  stamp = r.stamp;
  demands = λ e b. m.out.low (demand_at g + e) (omega arith) ∙ r.demands e b;
  capacities = λ e b. m.out.low (flat_at g + e) (omega arith) ∙ r.capacities e b;
  rows = rows;
}

-- and the marks and the links of its tiles are those of the reading
pub unmarked-checked : (s : List ℕ) (g : Shape) (w w' table : List ℕ) (j : Job) → Checked s g j w table → Outside (flat_at g) g.e w w' → (n : ℕ) → n ≡ net_count j
    → Unmarked g (suc (2 * n)) w'
unmarked-checked s g w w' table j checked out n e = record {
  marks = λ t. omega (arith, ap (λ (a : List ℕ). get_or a t 0) (part-outside (flat_at g) g.e w w' out (tiles_at g) g.t (inr (omega arith))), checked.marks t);
  links = λ t. omega (arith, ap (λ (a : List ℕ). get_or a t 0) (part-outside (flat_at g) g.e w w' out (links_at g) g.t (inr (omega arith))), checked.links t);
}
