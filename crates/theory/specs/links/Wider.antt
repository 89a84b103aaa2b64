-- A larger bound on the capacities accepts every text that a smaller one accepts, with the same job. Document 02, S-3: "every text accepted earlier yields the
-- same plan".
-- Assumes nothing.
use Rattle.std.specs.Prelude.{◌≡◌, refl, List, [], ◌∷◌, ◌++◌, Bool, true, false, ◌&&◌, ◌||◌, ◌↔◌, ℕ, zero, suc, ◌≤◌, T, eqb, leb, length}
use Rattle.std.proofs.Common.{sym, ap, ◌∙◌, arith, leb→le, le→leb}
use Rattle.std.proofs.Math.Option.{Option}
use Prim.Native.String.{String}
use Rattle.model.specs.Calls.{told_of, accepted, outcome}
use Rattle.model.specs.Grid.{east_count, north_count}
use Rattle.model.specs.Job.{Job, runs, entry_count}
use Rattle.model.specs.Limits.{least_side, most_side, least_layers, most_layers, most_weight, most_capacity, most_nets, most_text}
use Rattle.model.specs.Lists.{all}
use Rattle.model.specs.Plan.{plan}
use Rattle.model.specs.Read.{Place, Result, refused, found, Reading, next, ◌>>=◌, ◌>>◌, give, form, need, line, ranged, dirs_line, capacity_line, capacity_lines, nets, Lent, working_need, print_need, print_fits, end, job_in, read}
use Rattle.model.specs.Score.{order}
use Rattle.model.specs.Text.{numbers}
use Rattle.theory.specs.links.Chain.{refused-found}
use Rattle.theory.specs.links.JobText.{behind-same}
use Rattle.theory.specs.congestion.Tests.{is_true, all_in, in_all}

-- ---- the reading with the bound as a parameter

-- what reads the capacity lines: for W, H, the directions, and m layers from l on
abbrev Lines : Type 0
Lines = ℕ → ℕ → Option (List ℕ) → ℕ → ℕ → Reading (List (List ℕ))

-- one line, each capacity at most `most`
abbrev capacity_line_to : ℕ → String → ℕ → Bool → Reading (List ℕ)
capacity_line_to most key size along = do
  v ← line 2 key
  cs ← form 2 (numbers v)
  need 2 (eqb (length cs) size)
  need 3 (all (λ c. leb c most) cs)
  need 12 (along || all (λ c. eqb c 0) cs)
  give cs

abbrev capacity_lines_to : ℕ → Lines
capacity_lines_to most W H ds l zero = give []
capacity_lines_to most W H ds l (suc m) = do
  east ← capacity_line_to most "east" (east_count W H) (runs ds 0 l)
  north ← capacity_line_to most "north" (north_count W H) (runs ds 1 l)
  above ← capacity_lines_to most W H ds (suc l) m
  give ((east ++ north) ∷ above)

-- the whole text, with any reading of the capacity lines
abbrev job_with : Lines → Lent → Reading Job
job_with lines lent = do
  W ← ranged "width" least_side most_side
  H ← ranged "height" least_side most_side
  K ← ranged "layers" least_layers most_layers
  ds ← dirs_line K
  need 9 (leb (working_need W H K) lent.working)
  a ← ranged "alpha" 0 most_weight
  b ← ranged "beta" 0 most_weight
  g ← ranged "gamma" 0 most_weight
  cs ← lines W H ds 1 K
  N ← ranged "nets" 0 most_nets
  need 10 (leb N lent.order)
  ns ← nets (record { width = W; height = H; layers = K; dirs = ds }) 1 N
  end
  let job : Job = record { width = W; height = H; layers = K; dirs = ds; alpha = a; beta = b; gamma = g; capacities = cs; nets = ns }
  need 11 (leb (entry_count job) lent.answer && print_fits (print_need N (entry_count job)) lent.print)
  give job

abbrev read_with : Lines → Lent → List ℕ → Result Job
read_with lines lent text = next (need 1 (leb (length text) most_text) (record { line = 0; rest = text })) (λ u. job_with lines lent)

-- the reading under which capacities run from 0 to `most`
unfoldable pub read_to : ℕ → Lent → List ℕ → Result Job
read_to most lent text = read_with (capacity_lines_to most) lent text

-- ---- what one reading accepts, another accepts with the same value

-- what x finds, y finds
record Follows {A : Type 0} (x y : Result A) : Type 0 where
  finds : (a : A) (p : Place) → x ≡ found a p → y ≡ found a p

module _ {A : Type 0} where
  follows-refused : (n l : ℕ) (y : Result A) → Follows (refused n l) y
  follows-refused n l y = record { finds = λ a p e. absurd (refused-found e) }

  follows-equal : (x y : Result A) → x ≡ y → Follows x y
  follows-equal x y e = record { finds = λ a p h. sym e ∙ h }

  follows_same : (x : Result A) → Follows x x
  follows_same x = follows-equal x x refl

follows-need : (n : ℕ) (b c : Bool) (p : Place) → (T b → T c) → Follows (need n b p) (need n c p)
follows-need n true c p h = rw (is_true c (h tt)) (follows_same (found tt p))
follows-need n false c p h = follows-refused n p.line (need n c p)

module _ {A B : Type 0} where
  follows_next : (x y : Result A) (f g : A → Reading B) → Follows x y → ((a : A) (p : Place) → Follows (f a p) (g a p)) → Follows (next x f) (next y g)
  follows_next (refused n l) y f g h k = follows-refused n l (next y g)
  follows_next (found a p) y f g h k = rw (h.finds a p refl) (k a p)

  -- the same step first
  then-follows : (x : Result A) (f g : A → Reading B) → ((a : A) (p : Place) → Follows (f a p) (g a p)) → Follows (next x f) (next x g)
  then-follows x f g k = follows_next x x f g (follows_same x) k

module _ (F G : Lines) (h : (W H : ℕ) (ds : Option (List ℕ)) (l m : ℕ) (p : Place) → Follows (F W H ds l m p) (G W H ds l m p)) (lent : Lent) where
  job-follows : (p : Place) → Follows (job_with F lent p) (job_with G lent p)
  job-follows p =
      then-follows (ranged "width" least_side most_side p) _ _
      (λ W p₁. then-follows (ranged "height" least_side most_side p₁) _ _
      (λ H p₂. then-follows (ranged "layers" least_layers most_layers p₂) _ _
      (λ K p₃. then-follows (dirs_line K p₃) _ _
      (λ ds p₄. then-follows (need 9 (leb (working_need W H K) lent.working) p₄) _ _
      (λ u p₅. then-follows (ranged "alpha" 0 most_weight p₅) _ _
      (λ a p₆. then-follows (ranged "beta" 0 most_weight p₆) _ _
      (λ b p₇. then-follows (ranged "gamma" 0 most_weight p₇) _ _
      (λ g p₈. follows_next (F W H ds 1 K p₈) (G W H ds 1 K p₈) _ _ (h W H ds 1 K p₈)
      (λ cs p₉. follows_same _)))))))))

  read-follows : (text : List ℕ) → Follows (read_with F lent text) (read_with G lent text)
  read-follows text = then-follows (need 1 (leb (length text) most_text) (record { line = 0; rest = text })) _ _ (λ u p. job-follows p)

-- ---- a larger bound

all-below : (m n : ℕ) → m ≤ n → (cs : List ℕ) → T (all (λ c. leb c m) cs) → T (all (λ c. leb c n) cs)
all-below m n h cs t = in_all (λ c. leb c n) cs (λ c i. le→leb c n (omega (arith, leb→le c m (all_in (λ d. leb d m) cs t c i))))

module _ (m n : ℕ) (h : m ≤ n) where
  line-follows : (key : String) (size : ℕ) (along : Bool) (p : Place) → Follows (capacity_line_to m key size along p) (capacity_line_to n key size along p)
  line-follows key size along p =
      then-follows (line 2 key p) _ _
      (λ v p₁. then-follows (form 2 (numbers v) p₁) _ _
      (λ cs p₂. then-follows (need 2 (eqb (length cs) size) p₂) _ _
      (λ u p₃. follows_next (need 3 (all (λ c. leb c m) cs) p₃) (need 3 (all (λ c. leb c n) cs) p₃) _ _ (follows-need 3 (all (λ c. leb c m) cs) (all (λ c. leb c n) cs) p₃ (all-below m n h cs))
      (λ u p₄. follows_same _))))

  lines-follow : (W H : ℕ) (ds : Option (List ℕ)) (l k : ℕ) (p : Place) → Follows (capacity_lines_to m W H ds l k p) (capacity_lines_to n W H ds l k p)
  lines-follow W H ds l zero p = follows_same (found [] p)
  lines-follow W H ds l (suc k) p =
      follows_next (capacity_line_to m "east" (east_count W H) (runs ds 0 l) p) _ _ _ (line-follows "east" (east_count W H) (runs ds 0 l) p)
      (λ east p₁. follows_next (capacity_line_to m "north" (north_count W H) (runs ds 1 l) p₁) _ _ _ (line-follows "north" (north_count W H) (runs ds 1 l) p₁)
      (λ north p₂. follows_next (capacity_lines_to m W H ds (suc l) k p₂) _ _ _ (lines-follow W H ds (suc l) k p₂)
      (λ above p₃. follows_same _)))

  -- a text that is accepted under a bound is accepted under every larger one, with the same job
  pub wider : (lent : Lent) (text : List ℕ) (j : Job) (p : Place) → read_to m lent text ≡ found j p → read_to n lent text ≡ found j p
  unfolding read_to
  wider lent text j p e = (read-follows (capacity_lines_to m) (capacity_lines_to n) lines-follow lent text).finds j p e

-- ---- the bound of the definitions

lines_same : (W H : ℕ) (ds : Option (List ℕ)) (l k : ℕ) (p : Place) → capacity_lines_to most_capacity W H ds l k p ≡ capacity_lines W H ds l k p
unfolding capacity_line
lines_same W H ds l zero p = refl
lines_same W H ds l (suc k) p =
    behind-same (capacity_line "east" (east_count W H) (runs ds 0 l) p)
    (λ east p₁. behind-same (capacity_line "north" (north_count W H) (runs ds 1 l) p₁)
    (λ north p₂. ap (λ (r : Result (List (List ℕ))). next r (λ above. give ((east ++ north) ∷ above))) (lines_same W H ds (suc l) k p₂)))

module _ (lent : Lent) (text : List ℕ) (j : Job) (p : Place) where
  pub bound-is : (read_to most_capacity lent text ≡ found j p) ↔ (read lent text ≡ found j p)
  unfolding read_to read job_in
  bound-is = (
    (λ e. (read-follows (capacity_lines_to most_capacity) capacity_lines (λ W H ds l k q. follows-equal _ _ (lines_same W H ds l k q)) lent text).finds j p e),
    (λ e. (read-follows capacity_lines (capacity_lines_to most_capacity) (λ W H ds l k q. follows-equal _ _ (sym (lines_same W H ds l k q))) lent text).finds j p e),
  )

  -- a text that was accepted under a smaller bound is accepted, and has the order, the plan and the print of its job
  pub accepted-earlier : (m : ℕ) → m ≤ most_capacity → read_to m lent text ≡ found j p → read lent text ≡ found j p
  accepted-earlier m h e = bound-is.0 (wider m most_capacity h lent text j p e)

  pub planned-earlier : (m : ℕ) → m ≤ most_capacity → read_to m lent text ≡ found j p → outcome lent text ≡ accepted (told_of j (order j) (plan j))
  unfolding outcome
  planned-earlier m h e = rw (accepted-earlier m h e)
