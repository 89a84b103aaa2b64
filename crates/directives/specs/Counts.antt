-- The nets that want a layer, counted by edge and wanted layer in the working numbers.
-- Assumes nothing.
use Rattle.std.specs.Prelude.{Bool, cond, List, [], ◌∷◌, ℕ, ◌+◌, ◌-◌, ◌*◌, ◌≤◌, ◌<◌, ltb, get_or, set}
use Rattle.layout.specs.Areas.{loads_at}
use Rattle.layout.specs.Table.{low_in}
use Rattle.layout.specs.declared.shape.Shape.{Shape}
use Rattle.model.specs.Directives.{summed_excess}
use Rattle.model.specs.Job.{Net, low_of}
use Rattle.model.specs.Limits.{most_capacity, most_nets}
use Rattle.model.specs.Lists.{up_from, any}

-- where the nets are counted that want layer t of edge e
abbrev pub cell : Shape → ℕ → ℕ → ℕ
cell g e t = loads_at g + (e * g.k + (t - 1))

-- one more such net; and a net with the edges es
unfoldable pub one_more : Shape → ℕ → ℕ → List ℕ → List ℕ
one_more g t e w = set w (cell g e t) (get_or w (cell g e t) 0 + 1)

abbrev pub marked : Shape → ℕ → List ℕ → List ℕ → List ℕ
marked g t [] w = w
marked g t (e ∷ es) w = marked g t es (one_more g t e w)

-- a net counts where it wants a layer above 1
abbrev pub marked_net : Shape → Net → List ℕ → List ℕ
marked_net g n w = let r = marked g (low_of n) n.edges w in cond (ltb 1 (low_of n)) r w

abbrev pub marked_nets : Shape → List Net → List ℕ → List ℕ
marked_nets g [] w = w
marked_nets g (n ∷ ns) w = marked_nets g ns (marked_net g n w)

-- of edge e: the tracks of layer t, the nets counted there, and the excess that both lead to
abbrev pub room_in : Shape → List ℕ → ℕ → ℕ → ℕ
room_in g w e t = get_or w (e * g.k + (t - 1)) 0

abbrev pub need_in : Shape → List ℕ → ℕ → ℕ → ℕ
need_in g w e t = get_or w (cell g e t) 0

abbrev pub excess_in : Shape → List ℕ → ℕ → ℕ
excess_in g w e = summed_excess (room_in g w e) g.k (need_in g w e)

-- some of n nets has a line `low`
abbrev pub any_low : List ℕ → ℕ → Bool
any_low table n = any (λ i. ltb 0 (low_in table i)) (up_from 0 n)

-- ---- bounds

-- one more net that wants layer t can be counted on every edge
abbrev pub Few : Shape → ℕ → List ℕ → Type 0
Few g t w = (e : ℕ) → e < g.e → get_or w (cell g e t) 0 < most_nets

-- no track and no net too many on the layers of edge e from 2 on
abbrev pub SmallRooms : Shape → List ℕ → ℕ → Type 0
SmallRooms g w e = (t : ℕ) → 2 ≤ t → t ≤ g.k → (room_in g w e t ≤ most_capacity) × (need_in g w e t ≤ most_nets)
