-- What the answers of this crate's functions say, in the definitions' words.
-- Assumes nothing.
use Rattle.std.specs.Prelude.{◌≡◌, List, ℕ, ◌+◌, ◌*◌, ◌≤◌, length, drop, Ok, Err, Result as Outcome}
use Rattle.std.proofs.Common.{sym, ap, ◌∙◌}
use Rattle.model.specs.Limits.{most_weight, most_nets}
use Rattle.model.specs.Read.{Result, found, next, Sizes, Lent, working_need, read}
use Rattle.theory.specs.links.JobText.{option_lines, head_lines}
use Rattle.layout.specs.Dirs.{dirs_of}
use Rattle.layout.specs.Shapes.{sizes_of, Shaped}
use Rattle.layout.specs.declared.shape.Shape.{Shape}
use Rattle.text.specs.Refusals.{place_of}
use Rattle.text.specs.declared.Cursor.{Cursor}
use Rattle.text.specs.declared.Refusal.{Refusal}
use Rattle.lines.specs.Told.{refused_by, After}
use Rattle.capacities.specs.Capacities.{capacities_of}
use Rattle.head.specs.Reads.{HeadJob, head_in, rest_in, read-splits}
use Rattle.head.specs.declared.Weights.{Weights}
use Rattle.head.specs.declared.Head.{Head}

-- ---- sizes and weights in the text s

abbrev pub sizes_told : List ℕ → Outcome (Shape × Cursor) Refusal → Result Sizes
sizes_told s (Ok x) = found (sizes_of x.0) (place_of s x.1)
sizes_told s (Err r) = refused_by r

-- the next line comes after `line` others, and after the line `dirs` where it stands
abbrev pub sizes_hold : ℕ → ℕ → Outcome (Shape × Cursor) Refusal → Type 0
sizes_hold size line (Ok x) = Shaped x.0 × After size (line + option_lines (dirs_of x.0.k x.0.dirs)) x.1
sizes_hold size line (Err r) = Unit {0}

pub record Small (v : Weights) : Type 0 where
  pub alpha : v.alpha ≤ most_weight
  pub beta : v.beta ≤ most_weight
  pub gamma : v.gamma ≤ most_weight

abbrev pub weights_told : List ℕ → Outcome (Weights × Cursor) Refusal → Result Weights
weights_told s (Ok x) = found x.0 (place_of s x.1)
weights_told s (Err r) = refused_by r

abbrev pub weights_hold : ℕ → ℕ → Outcome (Weights × Cursor) Refusal → Type 0
weights_hold size line (Ok x) = Small x.0 × After size line x.1
weights_hold size line (Err r) = Unit {0}

-- ---- the line `nets`

abbrev pub nets_hold : ℕ → ℕ → ℕ → Outcome (ℕ × Cursor) Refusal → Type 0
nets_hold size line order (Ok x) = (x.0 ≤ most_nets) × (x.0 ≤ order) × After size line x.1
nets_hold size line order (Err r) = Unit {0}

-- ---- the head

abbrev pub head_job : Head → List ℕ → HeadJob
head_job h w = record {
  width = h.shape.w;
  height = h.shape.h;
  layers = h.shape.k;
  dirs = dirs_of h.shape.k h.shape.dirs;
  alpha = h.weights.alpha;
  beta = h.weights.beta;
  gamma = h.weights.gamma;
  capacities = capacities_of h.shape w;
  nets = h.nets;
}

abbrev pub head_told : List ℕ → List ℕ → Outcome (Head × Cursor) Refusal → Result HeadJob
head_told s w (Ok x) = found (head_job x.0 w) (place_of s x.1)
head_told s w (Err r) = refused_by r

-- what holds of a head that was read, in a text of this size, with working numbers w before and x after, and so many order entries
pub record Holds (size entries : ℕ) (w x : List ℕ) (h : Head) (c : Cursor) : Type 0 where
  pub shaped : Shaped h.shape
  pub alpha : h.weights.alpha ≤ most_weight
  pub beta : h.weights.beta ≤ most_weight
  pub gamma : h.weights.gamma ≤ most_weight
  pub nets : h.nets ≤ most_nets
  pub order : h.nets ≤ entries
  pub working : working_need h.shape.w h.shape.h h.shape.k ≤ length w
  pub place : c.at ≤ size
  pub lines : c.line ≡ head_lines (dirs_of h.shape.k h.shape.dirs) h.shape.k
  pub beyond : drop (h.shape.k * h.shape.e) x ≡ drop (h.shape.k * h.shape.e) w

abbrev pub head_holds : ℕ → ℕ → List ℕ → List ℕ → Outcome (Head × Cursor) Refusal → Type 0
head_holds size entries w x (Ok y) = Holds size entries w x y.0 y.1
head_holds size entries w x (Err r) = Unit {0}

-- the definitions' reading of the whole text, once the head was read: the refusal, or the rest after it
pub read_by : (lent : Lent) (s x : List ℕ) (r : Outcome (Head × Cursor) Refusal) →
    head_told s x r ≡ head_in (length s) lent.working lent.order (record { line = 0; rest = s }) →
    read lent s ≡ next (head_told s x r) (rest_in lent)
read_by lent s x r e = read-splits lent s ∙ ap (λ (t : Result HeadJob). next t (rest_in lent)) (sym e)
