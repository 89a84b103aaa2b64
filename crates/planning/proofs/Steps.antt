-- From the checked text to the scored job, and from there to the plan.
-- Assumes nothing.
use Rattle.std.specs.Prelude.{Option}
use mathlib.Core.List.{List, []}
use mathlib.Core.Logic.{inr}
use mathlib.Core.Path.{◌≡◌, sym, ap, ap₂, ◌∙◌}
use Prim.Native.Nat.{ℕ, suc, ◌+◌, ◌-◌, ◌*◌, ◌≤◌, ◌<◌, max}
use native.Mathlib.Omega.{arith}
use lib.ListN.{length, get_or, replicate}
use lib.Seq.{sets}
use Rattle.head.specs.declared.Head.{Head}
use Rattle.layout.specs.Areas.{loads_at, demand_at, flat_at, tiles_at, links_at, areas_end, edge-room}
use Rattle.layout.specs.Parts.{part, Outside, part-outside}
use Rattle.layout.specs.Shapes.{Shaped}
use Rattle.layout.specs.declared.shape.Shape.{Shape}
use Rattle.model.specs.Grid.{east_count, grid_edges}
use Rattle.model.specs.Job.{Job, net_count, edge_count, entry_count}
use Rattle.model.specs.Limits.{most_nets}
use Rattle.model.specs.Overflow.{limit}
use Rattle.model.specs.Plan.{plan}
use Rattle.model.specs.Print.{ldof_line}
use Rattle.model.specs.Read.{Lent, print_need}
use Rattle.net.specs.Dropped.{Unmarked, Remarked}
use Rattle.net.specs.SoFar.{Capacities, SoFar}
use Rattle.net.specs.Table.{PinTiles, Marks}
use Rattle.order.specs.Ready.{Ready, SomeJob, Scored, ready-checked, unmarked-checked}
use Rattle.order.specs.declared.Weights.{Weights}
use Rattle.placing.specs.Turns.{Start}
use Rattle.net.specs.Held.{Held}
use Rattle.print.specs.Handed.{Handed, plan-rows, plan-text, plan-fits, plan-overwrites}
use Rattle.print.specs.Texts.{ldof_text, plan_text, Rows}
use Rattle.reader.specs.Whole.{JobFound}
use Rattle.theory.specs.links.Closed.{capacity-all}
use Rattle.theory.specs.links.Limits.{demand-small, capacity-small, maximum-small}
use Rattle.theory.proofs.links.Meets.{plan-largest}
use Rattle.theory.proofs.links.Planned.{plan-meets}
use Rattle.theory.specs.links.Reading.{Accepted, accepted}
use Rattle.directives.specs.Asked.{Asked, AskedSome}
use Rattle.flat.specs.FlatPlan.{AllCounted, FlatCapacities, FlatDemands, Overflows, so-far-first}
use Rattle.flat.specs.Limited.{limits_of, limit_at, LimitsAre, limits-are}
use Rattle.net.specs.Places.{SmallCapacities, small-capacities}
use Rattle.flat.specs.declared.Flat.{Flat}
use Rattle.flat.specs.declared.Limits.{Limits}
use Rattle.tracks.specs.Shut.{Closed, first-loads, first-closed}
use Rattle.turn.specs.Turn.{of-job}
use Rattle.planning.specs.Closing.{Turned, PlanMade, PrintMade}
use Rattle.planning.specs.Opening.{Given, given-remarked, OpenFound}
use Rattle.planning.specs.declared.Totals.{Totals}

-- ---- a text that is read

module _ (s : List ℕ) (lent : Lent) (w table : List ℕ) (h : Head) (k : JobFound s lent w table h) where
  job-accepted : Accepted lent k.job
  job-accepted = accepted lent s k.job k.place k.is

  pub shaped : Shaped h.shape
  shaped = k.checked.shaped

  layers-are : h.shape.k ≡ k.job.layers
  layers-are = k.checked.shape.layers

  pub nets-few : h.nets ≤ most_nets
  nets-few = omega (arith, k.nets, job-accepted.count_of_nets)

  pub flat-room : tiles_at h.shape ≤ length w
  flat-room = omega (arith, k.checked.room)

  pub small : SmallCapacities h.shape w
  small = small-capacities h.shape k.job w k.checked.capacities (capacity-small lent k.job job-accepted)

  -- its flat capacities are in their place
  module _ (w₁ : List ℕ) (flat : (i : Job) → Capacities h.shape i w → h.shape.k ≡ i.layers → AllCounted i → FlatCapacities h.shape i w₁)
      (out : Outside (flat_at h.shape) h.shape.e w w₁) where
    flat-here : FlatCapacities h.shape k.job w₁
    flat-here = flat k.job k.checked.capacities layers-are (capacity-all lent k.job job-accepted)

    pub still-room : tiles_at h.shape ≤ length w₁
    still-room = omega (arith, out.long, flat-room)

    -- the weights are those of the head
    module _ (a : Weights) (are : (a.alpha ≡ h.weights.alpha) × (a.beta ≡ h.weights.beta) × (a.gamma ≡ h.weights.gamma) × (a.stamp ≡ suc (2 * h.nets))) where
      ready : Ready s h.shape a w₁ table lent k.job
      ready =
          ready-checked s h.shape a w w₁ table lent k.job job-accepted k.checked out flat-here (are.0 ∙ k.alpha) (are.1 ∙ k.beta) (are.2 ∙ k.gamma) (omega (arith, are.3, k.nets))

      pub some-job : SomeJob s h.shape a w₁ table h.nets
      some-job = record { lent = lent; job = k.job; ready = ready; pins = k.checked.pin_tiles; count = k.nets }

    pub reading-marks : Unmarked h.shape (suc (2 * h.nets)) w₁
    reading-marks = unmarked-checked s h.shape w w₁ table k.job k.checked out h.nets k.nets

    given : Given 2 h w₁ lent k.job
    given = record {
      accepted = job-accepted;
      shape = k.checked.shape;
      dirs = k.checked.dirs;
      shaped = shaped;
      room = omega (arith, out.long, k.checked.room);
      capacities = record { caps = λ e l b x y. out.low (e * h.shape.k + (l - 1)) (omega (arith, edge-room h.shape e b)) ∙ k.checked.capacities.caps e l b x y };
      flat = flat-here;
      demands = λ e b. out.low (demand_at h.shape + e) (omega arith) ∙ k.checked.demand e b;
      loads = λ i b. out.low (loads_at h.shape + i) (omega arith) ∙ k.checked.loads (loads_at h.shape + i) (omega arith) (omega arith);
      unmarked = reading-marks;
      count = k.nets;
    }

    -- and its nets are scored
    pub opened : (a : Weights) → (a.alpha ≡ h.weights.alpha) × (a.beta ≡ h.weights.beta) × (a.gamma ≡ h.weights.gamma) × (a.stamp ≡ suc (2 * h.nets)) → (w₂ table' : List ℕ)
        → ((l : Lent) (j : Job) → Ready s h.shape a w₁ table l j → PinTiles j table → Marks j table → h.nets ≡ net_count j → Scored s j table')
        → Remarked h.shape (suc (3 * h.nets)) w₁ w₂ → OpenFound s lent w₂ table' h
    opened a are w₂ table' scored remarked = record {
      job = k.job;
      place = k.place;
      is = k.is;
      given = given-remarked 2 3 h w₁ w₂ lent k.job given remarked;
      scored = scored lent k.job (ready a are) k.checked.pin_tiles k.checked.lows k.nets;
    }

-- ---- a job whose order stands

module _ (s : List ℕ) (h : Head) (w table : List ℕ) (size : ℕ) (lent : Lent) (j : Job) (at : Turned 4 s h w table size lent j) where
  abbrev g : Shape
  g = h.shape

  border-is : h.shape.east ≡ east_count j.width j.height
  border-is = at.given.shaped.east_is ∙ ap₂ east_count at.given.shape.width at.given.shape.height

  edges_are : h.shape.e ≡ edge_count j
  edges_are = at.given.shaped.e_is ∙ ap₂ grid_edges at.given.shape.width at.given.shape.height

  pub tiles-room : tiles_at h.shape ≤ length w
  tiles-room = omega (arith, at.given.room)

  pub few-nets : h.nets ≤ most_nets
  few-nets = omega (arith, at.given.count, at.given.accepted.count_of_nets)

  pub few-demands : (e : ℕ) → e < h.shape.e → get_or w (demand_at h.shape + e) 0 ≤ most_nets
  few-demands e b = omega (arith, at.given.demands e b, demand-small lent j at.given.accepted e, at.given.accepted.count_of_nets)

  module _ (w₁ : List ℕ) (r : Flat)
      (over : (i : Job) → FlatDemands h.shape i w → FlatCapacities h.shape i w → h.shape.e ≡ edge_count i → Overflows h.shape i w₁ r)
      (out : Outside (demand_at h.shape) h.shape.e w w₁) where
    pub overflows-here : Overflows h.shape j w₁ r
    overflows-here = over j at.given.demands at.given.flat edges_are

    pub few-most : r.most ≤ most_nets
    few-most = omega (arith, overflows-here.most, maximum-small lent j at.given.accepted, at.given.accepted.count_of_nets)

    pub few-over : (e : ℕ) → e < h.shape.e → get_or w₁ (demand_at h.shape + e) 0 ≤ most_nets
    few-over e b = omega (arith, overflows-here.each e b, demand-small lent j at.given.accepted e, at.given.accepted.count_of_nets)

    pub flat-room-still : flat_at h.shape ≤ length w₁
    flat-room-still = omega (arith, out.long, at.given.room)

    -- the limits are those of the definitions
    pub limits-told : LimitsAre j (limits_of h.shape w₁ r.most)
    limits-told =
        limits-are g j w₁ r.most overflows-here.each overflows-here.most at.given.shape.layers edges_are border-is at.given.shaped.east_most at.given.dirs

    -- and the layers that run the other way are closed
    module _ (w₂ : List ℕ) (shut : Closed h.shape w₁ w₂) where
      pub all_room : areas_end h.shape ≤ length w₂
      all_room = omega (arith, shut.outside.long, out.long, at.given.room)

      -- what is kept by tile is as it was
      kept : (a : ℕ) → tiles_at h.shape ≤ a → part a h.shape.t w₂ ≡ part a h.shape.t w
      kept a b = part-outside (loads_at g) (loads_at g) w₁ w₂ shut.outside a g.t (inr (omega arith)) ∙ part-outside (demand_at g) g.e w w₁ out a g.t (inr (omega arith))

      first : SoFar h.shape j (replicate (net_count j) []) w₂
      first =
          so-far-first g j w₂ (record {
            caps = λ e l b x y.
                shut.outside.low (e * g.k + (l - 1)) (omega (arith, edge-room g e b))
                ∙ out.low (e * g.k + (l - 1)) (omega (arith, edge-room g e b))
                ∙ at.given.capacities.caps e l b x y;
          })
          (first-loads g j w₁ w₂ shut at.given.dirs border-is empty) (first-closed g j w₁ w₂ shut at.given.dirs border-is empty)
          (λ e b. shut.outside.high (demand_at g + e) (omega arith) ∙ overflows-here.each e b)
        where
          empty : (i : ℕ) → i < loads_at h.shape → get_or w₁ (loads_at h.shape + i) 0 ≡ 0
          empty i b = out.low (loads_at g + i) (omega arith) ∙ at.given.loads i b

      pub placing-starts : (m : Limits) → m ≡ limits_of h.shape w₁ r.most → Start s h.shape h.nets (limit_at m) w₂ table size lent j
      placing-starts m m_is = record {
        accepted = at.given.accepted;
        grid = of-job g j at.given.shape;
        count = at.given.count;
        limit_is = λ e. ap (λ (x : Limits). limit_at x e) m_is ∙ limits-told.each e;
        so_far = first;
        older = λ t. omega (arith, ap (λ (l : List ℕ). get_or l t 0) (kept (tiles_at g) (omega arith)), at.given.unmarked.marks t);
        links = λ t. omega (arith, ap (λ (l : List ℕ). get_or l t 0) (kept (links_at g) (omega arith)), at.given.unmarked.links t);
        rows = at.rows;
        turns_are = at.turns;
        room = at.room;
      }

      pub largest-told : (m : Limits) (v : ℕ) → m ≡ limits_of h.shape w₁ r.most → v ≡ max m.east m.north → v ≡ max (limit j 0) (limit j 1)
      largest-told m v m_is v-is = v-is ∙ ap (λ (x : Limits). max x.east x.north) m_is ∙ limits-told.largest

-- ---- what the counting of its nets asks

module _ (s : List ℕ) (h : Head) (w table : List ℕ) (size : ℕ) (lent : Lent) (j : Job) (at : Turned 3 s h w table size lent j) where
  pub directives-asked : Asked s h.shape table lent j
  directives-asked = record {
    accepted = at.given.accepted;
    width = at.given.shape.width;
    height = at.given.shape.height;
    layers = at.given.shape.layers;
    edges = at.given.shaped.e_is ∙ ap₂ grid_edges at.given.shape.width at.given.shape.height;
    rows = at.rows;
    lows = at.lows;
  }

  pub directives-some : AskedSome s h.shape w table h.nets
  directives-some = record { lent = lent; job = j; asked = directives-asked; count = at.given.count; capacities = at.given.capacities; loads = at.given.loads }

-- ---- a plan that is made

module _ (s : List ℕ) (h : Head) (w table answer answer' table' : List ℕ) (t : Totals) (lent : Lent) (j : Job) (at : Turned 3 s h w table (length answer) lent j) (made : PlanMade j answer answer' table' t) (last : Option ℕ) (last_told : ldof_text last ≡ ldof_line j) where
  acc : Accepted lent j
  acc = at.given.accepted

  held : Held j (plan j) table' answer'
  held = made.placed.held

  handed : Handed j h.nets table' t.vias t.total t.maximum last
  handed = record {
    count = at.given.count;
    turns = λ k b. made.placed.turns_are k (omega (arith, at.given.count));
    vias_told = made.placed.vias_are;
    total_told = made.total_is ∙ sym (plan-meets lent j acc).least_total;
    most_told = made.maximum_is ∙ sym (plan-largest lent j acc);
    last_told = last_told;
  }

  pub rows-there : Rows h.nets table' answer'
  rows-there = plan-rows lent j acc table' answer' held h.nets t.vias t.total t.maximum last handed

  module _ (out : List ℕ) (room : print_need (net_count j) (entry_count j) ≤ length out) where
    pub text-fits : length (plan_text h.nets table' answer' t.vias t.total t.maximum last) ≤ length out
    text-fits = plan-fits lent j acc table' answer' held h.nets t.vias t.total t.maximum last handed out room

    pub print-made : (out' : List ℕ) (size : ℕ) → out' ≡ sets out 0 (plan_text h.nets table' answer' t.vias t.total t.maximum last)
        → size ≡ length (plan_text h.nets table' answer' t.vias t.total t.maximum last) → PrintMade j out out' size
    print-made out' size e l = record {
      text_is = e ∙ plan-overwrites lent j acc table' answer' held h.nets t.vias t.total t.maximum last handed out room;
      size_is = l ∙ ap length (plan-text lent j acc table' answer' held h.nets t.vias t.total t.maximum last handed);
    }
