-- The nets are placed in their turns, and the plan is told and printed.
-- Assumes nothing.
use Rattle.std.specs.Prelude.{List, ◌≡◌, ℕ, suc, ◌*◌, ◌≤◌, max, length, Ok, Err, Result as Outcome}
use Rattle.std.proofs.Common.{arith}
use Rattle.head.specs.declared.Head.{Head}
use Rattle.model.specs.Calls.{overwrite}
use Rattle.model.specs.Job.{Job, net_count, entry_count}
use Rattle.model.specs.Overflow.{TO, limit}
use Rattle.model.specs.Plan.{plan}
use Rattle.model.specs.Print.{printed}
use Rattle.model.specs.Read.{Lent, print_need}
use Rattle.model.specs.Score.{order}
use Rattle.net.specs.Dropped.{Remarked, remarked-same}
use Rattle.net.specs.Table.{Table, TurnsIn, Marks}
use Rattle.placing.specs.Turns.{AllPlaced}
use Rattle.planning.specs.Opening.{Given, given-remarked}
use Rattle.text.specs.declared.Refusal.{Refusal}
use Rattle.planning.specs.declared.Totals.{Totals}

-- the net table has the order of job j and the lowest wanted layers of its nets, and the answer list has this length; at most m stamps of each net were used
pub record Turned (m : ℕ) (s : List ℕ) (h : Head) (w table : List ℕ) (size : ℕ) (lent : Lent) (j : Job) : Type 0 where
  pub given : Given m h w lent j
  pub rows : Table s j table
  pub turns : TurnsIn j table
  pub lows : Marks j table
  pub room : entry_count j ≤ size

pub record TurnedSome (m : ℕ) (s : List ℕ) (h : Head) (w table : List ℕ) (size : ℕ) : Type 0 where
  pub lent : Lent
  pub job : Job
  pub turned : Turned m s h w table size lent job

-- once marks and links have changed
pub turned-remarked : (m k : ℕ) (s : List ℕ) (h : Head) (w w' table : List ℕ) (size : ℕ) (lent : Lent) (j : Job) → Turned m s h w table size lent j → Remarked h.shape (suc (k * h.nets)) w w'
    → Turned k s h w' table size lent j
turned-remarked m k s h w w' table size lent j t r = record { given = given-remarked m k h w w' lent j t.given r; rows = t.rows; turns = t.turns; lows = t.lows; room = t.room }

-- the nets are scored, and their directives may be counted: placing asks no more
pub turned-to-place : (s : List ℕ) (h : Head) (w table : List ℕ) (size : ℕ) (lent : Lent) (j : Job) → Turned 3 s h w table size lent j → Turned 4 s h w table size lent j
turned-to-place s h w table size lent j t =
    turned-remarked 3 4 s h w w table size lent j t (remarked-same h.shape (suc (3 * h.nets)) (suc (4 * h.nets)) w (omega arith) t.given.unmarked)

-- so it is, and a print buffer of `bytes` has room
pub record PrintSome (s : List ℕ) (h : Head) (w table : List ℕ) (size bytes : ℕ) : Type 0 where
  pub lent : Lent
  pub job : Job
  pub turned : Turned 3 s h w table size lent job
  pub bytes_room : print_need (net_count job) (entry_count job) ≤ bytes

-- what is asked of an opened job
abbrev pub ToClose : List ℕ → List ℕ → List ℕ → ℕ → Outcome Head Refusal → Type 0
ToClose s w table size (Ok h) = TurnedSome 3 s h w table size
ToClose s w table size (Err r) = Unit {0}

abbrev pub ToPrint : List ℕ → List ℕ → List ℕ → ℕ → ℕ → Outcome Head Refusal → Type 0
ToPrint s w table size bytes (Ok h) = PrintSome s h w table size bytes
ToPrint s w table size bytes (Err r) = Unit {0}

-- the answer list and the net table hold the plan of job j, and t is told of it
pub record PlanMade (j : Job) (answer answer' table' : List ℕ) (t : Totals) : Type 0 where
  pub placed : AllPlaced j answer answer' table' t.vias
  pub total_is : t.total ≡ TO j
  pub maximum_is : t.maximum ≡ max (limit j 0) (limit j 1)

-- what Plan returns for an opened job
pub record PlanDone (s : List ℕ) (h : Head) (w table answer answer' : List ℕ) (r : Outcome Totals Refusal) : Type 0 where
  pub totals : Totals
  pub is : r ≡ Ok totals
  pub table' : List ℕ
  pub made : (lent : Lent) (j : Job) → Turned 3 s h w table (length answer) lent j → PlanMade j answer answer' table' totals

-- "answer list [..] unchanged" by a refusal
abbrev pub PlanClosed : List ℕ → List ℕ → List ℕ → List ℕ → List ℕ → Outcome Head Refusal → Outcome Totals Refusal → Type 0
PlanClosed s w table answer answer' (Err f) r = (r ≡ Err f) × (answer' ≡ answer)
PlanClosed s w table answer answer' (Ok h) r = PlanDone s h w table answer answer' r

-- the print of job j stands at the start of the print buffer, and has this length
pub record PrintMade (j : Job) (out out' : List ℕ) (size : ℕ) : Type 0 where
  pub text_is : out' ≡ overwrite (printed j (order j) (plan j)) out
  pub size_is : size ≡ length (printed j (order j) (plan j))

-- what Print returns, and what stands in its buffer
pub record PrintDone (s : List ℕ) (h : Head) (w table answer answer' out out' : List ℕ) (r : Outcome (Totals × ℕ) Refusal) : Type 0 where
  pub totals : Totals
  pub size : ℕ
  pub is : r ≡ Ok (totals, size)
  pub table' : List ℕ
  pub made : (lent : Lent) (j : Job) → Turned 3 s h w table (length answer) lent j → PlanMade j answer answer' table' totals
  pub told : (lent : Lent) (j : Job) → Turned 3 s h w table (length answer) lent j → print_need (net_count j) (entry_count j) ≤ length out → PrintMade j out out' size

abbrev pub PrintClosed : List ℕ → List ℕ → List ℕ → List ℕ → List ℕ → List ℕ → List ℕ → Outcome Head Refusal → Outcome (Totals × ℕ) Refusal → Type 0
PrintClosed s w table answer answer' out out' (Err f) r = (r ≡ Err f) × ((answer' ≡ answer) × (out' ≡ out))
PrintClosed s w table answer answer' out out' (Ok h) r = PrintDone s h w table answer answer' out out' r
