-- A net's turn: its layers can take it, and the working numbers then hold the plan with this net.
-- Assumes nothing.
use Rattle.std.specs.Prelude.{List, ◌∷◌, ◌≡◌, ℕ, ◌-◌, ◌≤◌, ◌<◌, length, set}
use Rattle.std.proofs.Common.{sym, ◌∙◌, arith}
use Rattle.std.proofs.Math.Path.{ap}
use Rattle.layout.specs.Areas.{flat_at}
use Rattle.layout.specs.declared.shape.Shape.{Shape}
use Rattle.model.specs.Job.{Net, Job, edge_count, net_of}
use Rattle.model.specs.Lists.{occurs, In}
use Rattle.model.specs.Overflow.{uses, flat_overflow}
use Rattle.model.specs.Plan.{placed, layer_of, best, best_in_walk}
use Rattle.model.specs.Read.{Lent}
use Rattle.model.specs.Score.{Entry}
use Rattle.model.specs.Walk.{walk}
use Rattle.net.specs.SoFar.{SoFar}
use Rattle.theory.specs.congestion.Problem.{flat_bounds, LegalChoice, place}
use Rattle.theory.specs.links.Best.{map-layer, walk-once, best-legal, legal-length}
use Rattle.theory.specs.links.Flat.{problem, limit_at}
use Rattle.theory.specs.links.Limits.{placed-small}
use Rattle.theory.specs.links.Nets.{NetOk, walk-edges}
use Rattle.theory.specs.links.Planned.{Midway, turn-ok, turn-legal, placed-next}
use Rattle.theory.specs.links.Reading.{Accepted}
use Rattle.theory.specs.links.Step.{uses-order}
use Rattle.tracks.specs.Occupied.{so-far-same}
use Rattle.tracks.specs.OccupiedAll.{occupied_all, CanTake, choice-takes, choice-occupied}

module _ (lent : Lent) (j : Job) (acc : Accepted lent j) (t : Entry) (ts : List Entry) (plan : List (List ℕ)) (midway : Midway lent j acc (t ∷ ts) plan)
    (g : Shape) (layers : g.k ≡ j.layers) (edges : g.e ≡ edge_count j) (w : List ℕ) (s : SoFar g j plan w) where
  abbrev n : Net
  n = net_of j t.net

  abbrev ws : List ℕ
  ws = walk j (net_of j t.net)

  abbrev y : List ℕ
  y = best_in_walk j plan (net_of j t.net) (walk j (net_of j t.net))

  ok : NetOk j.width j.height j.layers n
  ok = turn-ok lent j acc t ts plan midway

  good : LegalChoice (problem j) (limit_at j) (placed j plan) ws y
  good =
      let z = turn-legal lent j acc t ts plan midway in
      best-legal j acc.width.0 acc.height.0 n ok plan z.0 z.1

  once : (e : ℕ) → occurs e ws ≤ 1
  once = walk-once j acc.width.0 acc.height.0 n ok

  same_edges : (e : ℕ) → occurs e ws ≡ occurs e n.edges
  same_edges = walk-edges j acc.width.0 acc.height.0 n ok

  known : (e : ℕ) → In e ws → e < g.e
  known e i = omega (arith, ok.known e (omega (arith, same_edges e)))

  pub turn-takes : CanTake g w ws y
  turn-takes = choice-takes g j (flat_bounds (problem j) (limit_at j)) layers (placed j plan) w s (λ e l. omega (arith, placed-small lent j acc plan e l, acc.count_of_nets)) ws y good once known

  -- the net puts the same on each layer, whether its edges are read in walk order or by its line
  same-uses : (e l : ℕ) → uses e l ws y ≡ uses e l n.edges (best j plan n)
  unfolding best
  same-uses e l =
      ap (uses e l ws) (sym (map-layer ws y once (legal-length (problem j) (limit_at j) (placed j plan) ws y good)))
      ∙ uses-order e l (layer_of ws y) n.edges ws (same_edges e)

  pub turn-so-far : flat_at g ≤ length w → SoFar g j (set plan (t.net - 1) (best j plan n)) (occupied_all g w ws y)
  turn-so-far room =
      so-far-same g j (flat_overflow j) (place (placed j plan) ws y) (placed j (set plan (t.net - 1) (best j plan n))) (occupied_all g w ws y)
      (λ e l. omega (arith, same-uses e l, placed-next lent j acc t ts plan midway e l))
      (choice-occupied g j (flat_bounds (problem j) (limit_at j)) layers (placed j plan) w s room ws y good once known)
