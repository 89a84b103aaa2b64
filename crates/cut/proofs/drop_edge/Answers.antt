-- `drop_edge` meets its contract: a marked entry stays, and any other is taken out of the demand.
-- Assumes nothing.
use mathlib.Core.List.{[], ◌∷◌, ◌++◌}
use mathlib.Core.Path.{◌≡◌, sym, ap₂, subst, ◌∙◌}
use Prim.Native.Nat.{ℕ, ◌+◌, ◌-◌, ◌<◌}
use native.Mathlib.Omega.{arith}
use lib.ListN.{get_or, set}
use Rattle.layout.specs.Areas.{demand_at}
use Rattle.layout.specs.Parts.{outside-same, outside_wider, set-outside}
use Rattle.model.specs.Read.{Triple}
use Rattle.scan.specs.Pins.{triple}
use Rattle.ways.specs.Entry.{edge_of}
use Rattle.cut.specs.Dropped.{Uncounted, uncounted-keeps, uncounted-drops}
use Rattle.cut.proofs.drop_edge.Goals as goal
use Rattle.cut.proofs.drop_edge.Goals.{After-edge_of, Start}

-- the entry
module _ (z : Start) where
  abbrev entry : Triple
  entry = triple z.args.e.x z.args.e.y z.args.e.third

-- it is counted where its edge has its demand
module _ (e : After-edge_of) where
  place : e.demand_at.result + e.edge_of.result ≡ demand_at e.args.g + edge_of e.args.g (entry (goal.at.After-edge_of e).Start)
  place = ap₂ (λ (x y : ℕ). x + y) e.demand_at.ensures.value e.edge_of.ensures.0

pub returns-then-keeps : goal.returns-then-keeps
returns-then-keeps c =
    let g = c.args.g in record {
      uncounted = (λ ps es xs w₀ n drawn so_far.
          subst (Uncounted g es (xs ++ (edge_of g (entry (goal.at.returns-then-keeps c).Start) ∷ [])) w₀ c.args.w.now) (omega arith)
          (uncounted-keeps g es xs w₀ c.args.w.now n so_far (edge_of g (entry (goal.at.returns-then-keeps c).Start)) (sym (c.keeps.ensures ps es drawn) ∙ c.if-keeps.true)));
      upper_bound = (omega arith, outside-same (demand_at g) g.e c.args.w.now);
    }

pub bounds-w-i : goal.bounds-w-i
bounds-w-i c =
    omega (arith, place (goal.at.bounds-w-i c).After-edge_of, c.edge_of.ensures, c.requires.g_in_bounds.0)

pub overflow_sub-w : goal.overflow_sub-w
overflow_sub-w c =
    rw (place (goal.at.overflow_sub-w c).After-edge_of) c.requires.bound

pub bounds-w-i-2 : goal.bounds-w-i-2
bounds-w-i-2 c =
    omega (arith, place (goal.at.bounds-w-i-2 c).After-edge_of, c.edge_of.ensures, c.requires.g_in_bounds.0)

pub returns : goal.returns
returns c =
    let g = c.args.g in
    let w = c.args.w.now in
    let i = edge_of g (entry (goal.at.returns c).Start) in
    let v = get_or w (demand_at g + i) 0 - 1 in
    let known : i < g.e = omega (arith, c.edge_of.ensures.0, c.edge_of.ensures.1) in record {
      uncounted = rw (place (goal.at.returns c).After-edge_of) (λ ps es xs w₀ n drawn so_far.
          uncounted-drops g es xs w₀ w n so_far i (sym (c.keeps.ensures ps es drawn) ∙ c.if-keeps.false) known (omega (arith, known, c.requires.g_in_bounds.0)) c.requires.bound);
      upper_bound = rw (place (goal.at.returns c).After-edge_of) (omega arith, outside_wider (demand_at g + i) 1 (demand_at g) g.e w (set w (demand_at g + i) v) (set-outside w (demand_at g + i) v) (omega arith) (omega arith));
    }
