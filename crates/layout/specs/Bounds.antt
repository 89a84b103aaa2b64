-- The numbers of a grid and its stack: each in document 01's limits, and how they follow from one another.
-- Assumes nothing.
use Rattle.std.specs.Prelude.{◌≡◌, ℕ, ◌*◌, ◌≤◌}
use Rattle.model.specs.Grid.{tiles, east_count, grid_edges}
use Rattle.model.specs.Limits.{least_side, most_side, least_layers, most_layers}

-- the most tiles of a grid
abbrev pub most_tiles : ℕ
most_tiles = most_side * most_side

-- W, H and K; T tiles, room for m places of a walk, the edges that go east, and E edges in all
pub record Bounded (w h k t m east e : ℕ) : Type 0 where
  pub w_least : least_side ≤ w
  pub w_most : w ≤ most_side
  pub h_least : least_side ≤ h
  pub h_most : h ≤ most_side
  pub k_least : least_layers ≤ k
  pub k_most : k ≤ most_layers
  pub t_is : t ≡ tiles w h
  pub east_is : east ≡ east_count w h
  pub e_is : e ≡ grid_edges w h
  pub m_is : m ≡ t
  pub t_least : 1 ≤ t
  pub t_most : t ≤ most_tiles
  pub east_most : east ≤ e
  pub e_most : e ≤ 8064
  pub e_tiles : e ≤ 2 * t
  pub all_most : k * e ≤ 64512
