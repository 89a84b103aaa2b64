-- What each step of a turn writes, over the working numbers alone.
-- Assumes nothing.
use Rattle.std.specs.Prelude.{List, [], ◌∷◌, map, ◌≡◌, ℕ, ◌+◌, ◌*◌, ◌≤◌, ◌<◌, get_or, set}
use Rattle.layout.specs.Areas.{chosen_at, list_at, above_at, engine_at}
use Rattle.layout.specs.Parts.{part, Outside}
use Rattle.layout.specs.declared.shape.Shape.{Shape}
use Rattle.tracks.specs.Legal.{legal_mask}

-- by walk place: the legal layers of the edge above it
abbrev pub masks_at : Shape → ℕ
masks_at g = engine_at g + 2 * g.m

-- the engine's part: by walk place, and the cost rows
abbrev pub engine_of : Shape → List ℕ → List ℕ
engine_of g w = part (engine_at g) (12 * g.m) w

-- above each of the places 1 to n − 1 of the walk stands an edge of the grid
abbrev pub KnownEdges : Shape → ℕ → List ℕ → Type 0
KnownEdges g n w = (i : ℕ) → 1 ≤ i → i < n → get_or w (above_at g + i) 0 < g.e

-- the legal layers of an edge, where the limits are m by edge
abbrev pub legal_at : Shape → List ℕ → (ℕ → ℕ) → ℕ → ℕ
legal_at g w m e = legal_mask g w e (m e)

-- they are put by walk place, and nothing else
pub record LegalPut (g : Shape) (n : ℕ) (m : ℕ → ℕ) (w w' : List ℕ) : Type 0 where
  pub masks : (i : ℕ) → 1 ≤ i → i < n → get_or w' (masks_at g + i) 0 ≡ legal_at g w m (get_or w (above_at g + i) 0)
  pub outside : Outside (masks_at g) g.m w w'

-- the layers ls put by edge, at the places from a on of the edges es
abbrev pub put_by : ℕ → List ℕ → List ℕ → List ℕ → List ℕ
put_by a w [] ls = w
put_by a w (e ∷ es) [] = w
put_by a w (e ∷ es) (l ∷ ls) = put_by a (set w (a + e) l) es ls

-- the layer that stands for an edge
abbrev pub chosen_in : Shape → List ℕ → ℕ → ℕ
chosen_in g w e = get_or w (chosen_at g + e) 0

-- the layers of the first n edges listed, in the order of the list
abbrev pub listed_layers : Shape → List ℕ → ℕ → List ℕ
listed_layers g w n = map (chosen_in g w) (part (list_at g) n w)

-- no layer stands any more for the first n edges listed
pub record ChosenCleared (g : Shape) (n : ℕ) (w w' : List ℕ) : Type 0 where
  pub each : (i : ℕ) → i < n → chosen_in g w' (get_or w (list_at g + i) 0) ≡ 0
  pub outside : Outside (chosen_at g) (2 * g.t) w w'

-- the first n edges listed are edges of the grid
abbrev pub KnownList : Shape → ℕ → List ℕ → Type 0
KnownList g n w = (i : ℕ) → i < n → get_or w (list_at g + i) 0 < g.e

-- the first n edges listed are edges of the grid, and the layers that stand for them are small numbers
pub record CanAnswer (g : Shape) (n : ℕ) (w : List ℕ) : Type 0 where
  pub known : KnownList g n w
  pub small : (i : ℕ) → i < n → chosen_in g w (get_or w (list_at g + i) 0) < 256
