-- The head of a job text: the lines from `width` through `nets`. The definitions' reading is that of the head and then that of the rest.
-- Assumes nothing.
use Rattle.std.specs.Prelude.{◌≡◌, refl, ◌&&◌, List, ℕ, leb, length}
use Rattle.std.proofs.Math.Option.{Option}
use Rattle.model.specs.Job.{Job, entry_count}
use Rattle.model.specs.Limits.{least_side, most_side, least_layers, most_layers, most_weight, most_nets, most_text}
use Rattle.model.specs.Read.{Place, Result, Reading, refused, found, next, ◌>>=◌, ◌>>◌, give, need, ranged, dirs_line, capacity_lines, Sizes, nets, Lent, working_need, print_need, print_fits, end, job_in, read}
use Rattle.head.specs.declared.Weights.{Weights}

-- what the head of a job says
pub record HeadJob : Type 0 where
  pub width : ℕ
  pub height : ℕ
  pub layers : ℕ
  -- the way of each layer, where the line `dirs` stands
  pub dirs : Option (List ℕ)
  pub alpha : ℕ
  pub beta : ℕ
  pub gamma : ℕ
  -- for each layer, from 1 up, the capacities of its edges by edge number
  pub capacities : List (List ℕ)
  -- N, the number of nets
  pub nets : ℕ

-- the line `dirs`, where it stands, of K layers
unfoldable pub ways_in : ℕ → ℕ → ℕ → Reading Sizes
ways_in W H K = do
  ds ← dirs_line K
  give (record { width = W; height = H; layers = K; dirs = ds })

-- the lines `width`, `height` and `layers`, and `dirs`
unfoldable pub stack_in : ℕ → ℕ → Reading Sizes
stack_in W H = do
  K ← ranged "layers" least_layers most_layers
  ways_in W H K

unfoldable pub sizes_in : Reading Sizes
sizes_in = do
  W ← ranged "width" least_side most_side
  H ← ranged "height" least_side most_side
  stack_in W H

-- the lines `alpha`, `beta` and `gamma`
unfoldable pub weights_in : Reading Weights
weights_in = do
  a ← ranged "alpha" 0 most_weight
  b ← ranged "beta" 0 most_weight
  g ← ranged "gamma" 0 most_weight
  give (record { alpha = a; beta = b; gamma = g })

-- the line `nets`; "10, the `nets` line: fewer order entries than N"
unfoldable pub nets_in : ℕ → Reading ℕ
nets_in order = do
  N ← ranged "nets" 0 most_nets
  need 10 (leb N order)
  give N

-- the lines after these
unfoldable pub body_in : Sizes → ℕ → Reading HeadJob
body_in z order = do
  v ← weights_in
  cs ← capacity_lines z.width z.height z.dirs 1 z.layers
  N ← nets_in order
  give (record { width = z.width; height = z.height; layers = z.layers; dirs = z.dirs; alpha = v.alpha; beta = v.beta; gamma = v.gamma; capacities = cs; nets = N })

-- "1, 0: text above 1,048,576 bytes"; "9 is found right after line 3", or after line 4 where that is `dirs`, "10 after the `nets` line": by the lengths of the text, of the working
-- numbers and of the order list
unfoldable pub head_in : ℕ → ℕ → ℕ → Reading HeadJob
head_in size working order = do
  need 1 (leb size most_text)
  z ← sizes_in
  need 9 (leb (working_need z.width z.height z.layers) working)
  body_in z order

-- the nets and the end of the text, after the head
unfoldable pub rest_in : Lent → HeadJob → Reading Job
rest_in lent h = do
  ns ← nets (record { width = h.width; height = h.height; layers = h.layers; dirs = h.dirs }) 1 h.nets
  end
  let job : Job = record {
    width = h.width;
    height = h.height;
    layers = h.layers;
    dirs = h.dirs;
    alpha = h.alpha;
    beta = h.beta;
    gamma = h.gamma;
    capacities = h.capacities;
    nets = ns;
  }
  need 11 (leb (entry_count job) lent.answer && print_fits (print_need h.nets (entry_count job)) lent.print)
  give job

-- ---- the reading is that of the head, then that of the rest

-- a step that two readings begin with, the second of them grouped otherwise
module _ {A B C : Type 0} where
  once : (r : Result A) (k : A → Reading C) (f : A → Reading B) (g : B → Reading C) →
      ((a : A) (p : Place) → k a p ≡ next (f a p) g) → next r k ≡ next (next r f) g
  once (refused n l) k f g h = refl
  once (found a p) k f g h = h a p

module _ {A B C D : Type 0} where
  twice : (r : Result A) (k : A → Reading D) (e : A → Reading B) (f : B → Reading C) (g : C → Reading D) →
      ((a : A) (p : Place) → k a p ≡ next (next (e a p) f) g) → next r k ≡ next (next (next r e) f) g
  twice (refused n l) k e f g h = refl
  twice (found a p) k e f g h = h a p

pub read-splits : (lent : Lent) (text : List ℕ) →
    read lent text ≡ next (head_in (length text) lent.working lent.order (record { line = 0; rest = text })) (rest_in lent)
unfolding read job_in head_in sizes_in stack_in ways_in body_in weights_in nets_in rest_in
read-splits lent text =
    once (need 1 (leb (length text) most_text) (record { line = 0; rest = text })) _ _ _ λ u p.
    twice (ranged "width" least_side most_side p) _ _ _ _ λ W p.
    twice (ranged "height" least_side most_side p) _ _ _ _ λ H p.
    twice (ranged "layers" least_layers most_layers p) _ _ _ _ λ K p.
    twice (dirs_line K p) _ _ _ _ λ ds p.
    once (need 9 (leb (working_need W H K) lent.working) p) _ _ _ λ u p.
    twice (ranged "alpha" 0 most_weight p) _ _ _ _ λ a p.
    twice (ranged "beta" 0 most_weight p) _ _ _ _ λ b p.
    twice (ranged "gamma" 0 most_weight p) _ _ _ _ λ g p.
    once (capacity_lines W H ds 1 K p) _ _ _ λ cs p.
    twice (ranged "nets" 0 most_nets p) _ _ _ _ λ N p.
    twice (need 10 (leb N lent.order) p) _ _ _ _ λ u p.
    refl
