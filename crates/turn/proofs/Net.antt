-- The net whose turn it is: it is one that the reading lets pass, its walk has its edges, and its grid is that of the code.
-- Assumes nothing.
use mathlib.Core.Path.{◌≡◌, ap₂, ◌∙◌}
use Prim.Native.Nat.{ℕ, ◌≤◌, ◌<◌}
use native.Mathlib.Omega.{arith}
use lib.ListN.{length}
use Rattle.layout.specs.Shapes.{Shaped}
use Rattle.layout.specs.declared.shape.Shape.{Shape}
use Rattle.model.specs.Grid.{tiles, grid_edges}
use Rattle.model.specs.Job.{tile_count, edge_count}
use Rattle.model.specs.Lists.{occurs, In}
use Rattle.theory.specs.links.Best.{walk-once}
use Rattle.theory.specs.links.Engine.{edges_few, walk-long}
use Rattle.theory.specs.links.Nets.{NetOk, walk-edges}
use Rattle.theory.specs.links.Planned.{turn-ok}
use Rattle.theory.specs.links.Scores.{few-numbers}
use Rattle.turn.specs.Turn.{Turn, turn_net, turn_walk, OfJob}

module _ (u : Turn) where
  pub net-ok : NetOk u.job.width u.job.height u.job.layers (turn_net u)
  net-ok = turn-ok u.lent u.job u.accepted u.entry u.rest u.plan u.midway

  pub wide : 1 ≤ u.job.width
  wide = u.accepted.width.0

  pub high : 1 ≤ u.job.height
  high = u.accepted.height.0

  pub same_edges : (e : ℕ) → occurs e (turn_walk u) ≡ occurs e (turn_net u).edges
  same_edges = walk-edges u.job wide high (turn_net u) net-ok

  pub edges-once : (e : ℕ) → occurs e (turn_walk u) ≤ 1
  edges-once = walk-once u.job wide high (turn_net u) net-ok

  pub as_long : length (turn_walk u) ≡ length (turn_net u).edges
  as_long = walk-long u.job wide high (turn_net u) net-ok

  module _ (g : Shape) (shaped : Shaped g) (grid : OfJob g u.job) where
    pub tiles-are : g.t ≡ tile_count u.job
    tiles-are = shaped.t_is ∙ ap₂ (λ (W H : ℕ). tiles W H) grid.width grid.height

    pub edges_are : g.e ≡ edge_count u.job
    edges_are = shaped.e_is ∙ ap₂ (λ (W H : ℕ). grid_edges W H) grid.width grid.height

    -- fewer edges than tiles
    pub edges_fit : length (turn_net u).edges < g.m
    edges_fit = omega (arith, tiles-are, edges_few u.job wide high (turn_net u) net-ok)

    pub edges-known : (e : ℕ) → In e (turn_net u).edges → e < g.e
    edges-known e i = omega (arith, edges_are, net-ok.known e i)

    -- and of the entries of its line
    pub entries_known : (e : ℕ) → In e (turn_net u).entries → e < g.e
    entries_known e i = omega (arith, edges_are, net-ok.entries_known e i)

    pub entries_fit : length (turn_net u).entries ≤ g.e
    entries_fit = omega (arith, edges_are, few-numbers (grid_edges u.job.width u.job.height) (turn_net u).entries net-ok.entries_known net-ok.entries_once)

    pub walk-known : (e : ℕ) → In e (turn_walk u) → e < g.e
    walk-known e i = edges-known e (omega (arith, same_edges e))
