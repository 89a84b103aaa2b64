-- The whole text: what the answer says in the definitions' words.
-- Assumes nothing.
use Rattle.std.specs.Prelude.{◌&&◌, List, ◌≡◌, refl, ℕ, ◌≤◌, ◌<◌, leb, length, get_or, Some, None, Ok, Err, Option as Maybe, Result as Outcome}
use Rattle.std.proofs.Math.Option.{Option, none, some}
use Rattle.capacities.specs.Capacities.{capacities_of}
use Rattle.head.specs.Reads.{rest_in}
use Rattle.head.specs.Told.{head_job}
use Rattle.head.specs.declared.Head.{Head}
use Rattle.layout.specs.Areas.{loads_at, flat_at, tiles_at, chosen_at, areas_end}
use Rattle.layout.specs.Dirs.{dirs_of}
use Rattle.layout.specs.Shapes.{sizes_of, Shaped}
use Rattle.lines.specs.Told.{refused_by}
use Rattle.model.specs.Job.{Net, Job, net_count, entry_count}
use Rattle.model.specs.Limits.{most_nets}
use Rattle.model.specs.Read.{Place, Result, Reading, refused, found, next, ◌>>◌, give, need, nets, Lent, print_need, print_fits, end, read}
use Rattle.net.specs.Checked.{Checked}
use Rattle.nets.specs.Nets.{SoRead}
use Rattle.text.specs.Refusals.{place_of}
use Rattle.text.specs.declared.Cursor.{Cursor}
use Rattle.text.specs.declared.Refusal.{Refusal}

-- Plan borrows no print buffer
abbrev pub print_lent : Maybe ℕ → Option ℕ
print_lent None = none
print_lent (Some n) = some n

-- what is lent, by its lengths
abbrev pub lent_by : ℕ → ℕ → ℕ → Maybe ℕ → Lent
lent_by working order answer print = record { working = working; order = order; answer = answer; print = print_lent print }

-- ---- after the nets

-- the end of the text, and what N nets with A entries need: "11 after the whole text"
unfoldable pub end_in : ℕ → ℕ → ℕ → Option ℕ → Reading (Unit {0})
end_in N A answer print = do
  end
  need 11 (leb A answer && print_fits (print_need N A) print)

-- the job of a head, its capacities in the working numbers w, and of its nets
abbrev pub job_of : Head → List ℕ → List Net → Job
job_of h w ns = record {
  width = h.shape.w;
  height = h.shape.h;
  layers = h.shape.k;
  dirs = dirs_of h.shape.k h.shape.dirs;
  alpha = h.weights.alpha;
  beta = h.weights.beta;
  gamma = h.weights.gamma;
  capacities = capacities_of h.shape w;
  nets = ns;
}

-- the rest of the text is its nets and then its end
pub rest-splits : (lent : Lent) (h : Head) (w : List ℕ) (p : Place) →
    rest_in lent (head_job h w) p
    ≡ next (nets (sizes_of h.shape) 1 h.nets p)
    (λ ns q. next (end_in h.nets (entry_count (job_of h w ns)) lent.answer lent.print q) (λ u. give (job_of h w ns)))
unfolding rest_in end_in
rest-splits lent h w p = go (nets (sizes_of h.shape) 1 h.nets p)
  where
    ended : (e : Result (Unit {0})) (k : Reading (Unit {0})) (j : Job) → next e (λ u. ◌>>◌ k (give j)) ≡ next (next e (λ u. k)) (λ u. give j)
    ended (refused n l) k j = refl
    ended (found u q) k j = refl

    go : (r : Result (List Net)) →
        next r (λ ns. ◌>>◌ end (◌>>◌ (need 11 (leb (entry_count (job_of h w ns)) lent.answer && print_fits (print_need h.nets (entry_count (job_of h w ns))) lent.print)) (give (job_of h w ns))))
        ≡ next r (λ ns q. next (next (end q) (λ u. need 11 (leb (entry_count (job_of h w ns)) lent.answer && print_fits (print_need h.nets (entry_count (job_of h w ns))) lent.print))) (λ u. give (job_of h w ns)))
    go (refused n l) = refl
    go (found ns q) = ended (end q) (need 11 (leb (entry_count (job_of h w ns)) lent.answer && print_fits (print_need h.nets (entry_count (job_of h w ns))) lent.print)) (job_of h w ns)

-- The nets behind the head h, whose capacities stand in w₀, and the end of the text. The other two lengths that are lent have no part in it.
pub record RestFound (s : List ℕ) (h : Head) (answer : ℕ) (print : Maybe ℕ) (p : Place) (w₀ w table : List ℕ) : Type 0 where
  pub nets_read : List Net
  pub place : Place
  pub is : (working order : ℕ) → rest_in (lent_by working order answer print) (head_job h w₀) p ≡ found (job_of h w₀ nets_read) place
  pub count : length nets_read ≡ h.nets
  pub entries : ℕ
  pub so_read : SoRead s h.shape nets_read entries w₀ w table

abbrev pub RestTold : List ℕ → Head → ℕ → Maybe ℕ → Place → List ℕ → List ℕ → List ℕ → Outcome Head Refusal → Type 0
RestTold s h answer print p w₀ w table (Err r) = (working order : ℕ) → rest_in (lent_by working order answer print) (head_job h w₀) p ≡ refused_by r
RestTold s h answer print p w₀ w table (Ok k) = (k ≡ h) × RestFound s h answer print p w₀ w table

-- ---- the whole

-- The head h is read up to c, its capacities stand in the working numbers w, and what the nets are counted and marked in is zero: the rest of the text decides.
pub record HeadFound (s : List ℕ) (working order : ℕ) (w : List ℕ) (h : Head) (c : Cursor) : Type 0 where
  pub is : (answer : ℕ) (print : Maybe ℕ) → read (lent_by working order answer print) s ≡ rest_in (lent_by working order answer print) (head_job h w) (place_of s c)
  pub shaped : Shaped h.shape
  pub nets : h.nets ≤ most_nets
  pub place : c.at ≤ length s
  pub lines : c.line < 1000
  pub short : length s ≤ 1048576
  pub room : areas_end h.shape ≤ length w
  pub counts : (k : ℕ) → loads_at h.shape ≤ k → k < flat_at h.shape → get_or w k 0 ≡ 0
  pub kept : (k : ℕ) → tiles_at h.shape ≤ k → k < chosen_at h.shape → get_or w k 0 ≡ 0

abbrev pub HeadTold : List ℕ → ℕ → ℕ → List ℕ → Outcome (Head × Cursor) Refusal → Type 0
HeadTold s working order w (Err r) = (answer : ℕ) (print : Maybe ℕ) → read (lent_by working order answer print) s ≡ refused_by r
HeadTold s working order w (Ok x) = HeadFound s working order w x.0 x.1

-- the job that the definitions read: its numbers, and what the working numbers and the net table hold of it
pub record JobFound (s : List ℕ) (lent : Lent) (w table : List ℕ) (h : Head) : Type 0 where
  pub job : Job
  pub place : Place
  pub is : read lent s ≡ found job place
  pub checked : Checked s h.shape job w table
  pub alpha : h.weights.alpha ≡ job.alpha
  pub beta : h.weights.beta ≡ job.beta
  pub gamma : h.weights.gamma ≡ job.gamma
  pub nets : h.nets ≡ net_count job

abbrev pub JobTold : List ℕ → Lent → List ℕ → List ℕ → Outcome Head Refusal → Type 0
JobTold s lent w table (Err r) = read lent s ≡ refused_by r
JobTold s lent w table (Ok h) = JobFound s lent w table h
