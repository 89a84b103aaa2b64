-- The job text as one chain of lines: it reads as the definition does.
-- Assumes nothing.
use Rattle.std.specs.Prelude.{◌≡◌, List, [], ◌∷◌, ◌++◌, Bool, true, false, ◌&&◌, ◌⊎◌, ◌↔◌, T, leb, length}
use Rattle.std.proofs.Math.Path.{refl}
use Rattle.std.proofs.Common.{◌∙◌, subst, arith}
use Rattle.std.proofs.Math.Option.{Option, none, some}
use Prim.Native.Nat.{ℕ, zero, suc, ◌+◌, ◌*◌, ◌≤◌, ◌<◌}
use Rattle.model.specs.Grid.{east_count, north_count}
use Rattle.model.specs.Job.{Net, Job, runs, entry_count}
use Rattle.model.specs.Limits.{least_side, most_side, least_layers, most_layers, most_weight, most_nets, most_text}
use Rattle.model.specs.Text.{behind}
use Rattle.model.specs.Read.{Place, Result, Reading, next, give, need, if_there, optional, letters_line, dirs_line, ranged, capacity_line, capacity_lines, Sizes, net_line, low_line, pins_line, edges_line, net_with, net_lines, nets, Lent, working_need, print_need, print_fits, job_in, read}
use Rattle.theory.specs.links.Chain.{Rows, no_more_text, row, Kind, opening, line_of, Chain, done, reads, may, tests, ends, where_begun, run}
use Rattle.theory.specs.links.Words.{leb-fails, and-fails}
use Rattle.theory.specs.links.Kinds.{ranged_kind, dirs_kind, low_kind, capacity_kind, net_kind, pins_kind, edges_kind, next-next, ranged-is, low_is, letters-is, capacity-is, net_is, pins-is, edges-is}

-- the reading starts before the first line
abbrev pub start : List ℕ → Place
start text = record { line = 0; rest = text }

-- ---- the numbers of the lines: a line that a later request adds changes these alone

-- a line that may be left out, where it stands
module _ {A : Type 0} where
  abbrev pub option_lines : Option A → ℕ
  option_lines none = 0
  option_lines (some a) = 1

  pub option-few : (o : Option A) → option_lines o ≤ 1
  option-few none = omega arith
  option-few (some a) = omega arith

-- the line after which the working numbers are tested: "Check 9 follows line 4, and gives 4 as its line, where line 4 begins `dirs=`", and else `layers`
abbrev pub stack_line : Option (List ℕ) → ℕ
stack_line ds = 3 + option_lines ds

-- the line of layer l's capacities, `east` with way 0 and `north` with way 1
abbrev pub capacities_at : Option (List ℕ) → ℕ → ℕ → ℕ
capacities_at ds l way = stack_line ds + 2 + 2 * l + way

-- the lines of the head; the last of them is `nets`
abbrev pub head_lines : Option (List ℕ) → ℕ → ℕ
head_lines ds K = stack_line ds + 4 + 2 * K

-- the lines of these nets: three or four each
abbrev pub nets_lines : List Net → ℕ
nets_lines [] = 0
nets_lines (n ∷ ns) = 3 + option_lines n.low + nets_lines ns

pub lines-few : (ns : List Net) → nets_lines ns ≤ 4 * length ns
lines-few [] = omega arith
lines-few (n ∷ ns) = omega (arith, option-few n.low, lines-few ns)

pub lines_snoc : (ns : List Net) (n : Net) → nets_lines (ns ++ (n ∷ [])) ≡ nets_lines ns + (3 + option_lines n.low)
lines_snoc [] n = omega arith
lines_snoc (m ∷ ns) n = omega (arith, lines_snoc ns n)

-- the lines through the first nets, which are these; the last of them is the last one's `edges` line
abbrev pub lines_to : Sizes → List Net → ℕ
lines_to z ns = head_lines z.dirs z.layers + nets_lines ns

-- ---- the lines in their order

module _ {A : Type 0} where
  -- "for each layer, from 1 (the bottom) up, `east` and `north`": m layers, from layer l on
  abbrev pub layers_chain : Sizes → ℕ → ℕ → (List (List ℕ) → Chain A) → Chain A
  layers_chain z l zero k = k []
  layers_chain z l (suc m) k =
      reads (capacity_kind "east" (east_count z.width z.height) (runs z.dirs 0 l)) (λ east.
      reads (capacity_kind "north" (north_count z.width z.height) (runs z.dirs 1 l)) (λ north.
      layers_chain z (suc l) m (λ above. k ((east ++ north) ∷ above))))

  -- the lines `pins` and `edges` of a net, whose lowest wanted layer is told, and what it keeps of its entries
  abbrev pub tree_chain : Sizes → Option ℕ → (Net → Chain A) → Chain A
  tree_chain z low k = reads (pins_kind z) (λ pins. reads (edges_kind z pins) (λ entries. k (net_with z low pins entries)))

  -- "for each net `net`, `pins`, `edges`", and "a line `low` right after `net`" where it stands: m nets, from number i on
  abbrev pub nets_chain : Sizes → ℕ → ℕ → (List Net → Chain A) → Chain A
  nets_chain z i zero k = k []
  nets_chain z i (suc m) k =
      reads (net_kind i) (λ u. may (low_kind z.layers) none (λ low. tree_chain z low (λ n. nets_chain z (suc i) m (λ others. k (n ∷ others)))))

-- "answer list or print buffer too short", for N nets and A entries
abbrev pub RoomShort : Lent → ℕ → ℕ → Type 0
RoomShort lent N A = (lent.answer < A) ⊎ ((m : ℕ) × (lent.print ≡ some m) × (m < print_need N A))

pub print-fails : (n : ℕ) (o : Option ℕ) → (print_fits n o ≡ false) ↔ ((m : ℕ) × (o ≡ some m) × (m < n))
print-fails n none = (λ e. absurd (subst T e tt), λ h. no-some h.1)
  where
    no-some : {m : ℕ} → ◌≡◌ {A = Option ℕ} none (some m) → true ≡ false
    no-some e = let z : ◌≡◌ {A = ℕ} 0 1 = cc in absurd (omega arith)
print-fails n (some m) = (λ e. (m, refl, (leb-fails n m).0 e), λ h. (leb-fails n m).1 (same_some h.1 h.2))
  where
    same_some : {k : ℕ} → some m ≡ some k → k < n → m < n
    same_some {k} e h = let z : m ≡ k = cc in omega arith

-- one row by itself
abbrev pub one : (n : ℕ) (b : Bool) (Wrong : Type 0) → (b ≡ false) ↔ Wrong → Rows (Unit {0})
one n b Wrong w = row n b Wrong (λ h. w) no_more_text

-- how many working numbers are needed
abbrev pub needed_by : Sizes → ℕ
needed_by z = working_need z.width z.height z.layers

-- "9, 3: fewer working numbers than needed"
abbrev pub working_row : Lent → Sizes → Rows (Unit {0})
working_row lent z = one 9 (leb (needed_by z) lent.working) (lent.working < needed_by z) (leb-fails (needed_by z) lent.working)

-- "10, the `nets` line: fewer order entries than N"
abbrev pub order_row : Lent → ℕ → Rows (Unit {0})
order_row lent N = one 10 (leb N lent.order) (lent.order < N) (leb-fails N lent.order)

-- "11, the last line: answer list or print buffer too short"
abbrev pub room_row : Lent → ℕ → Job → Rows (Unit {0})
room_row lent N job =
    one 11 (leb (entry_count job) lent.answer && print_fits (print_need N (entry_count job)) lent.print) (RoomShort lent N (entry_count job))
    (and-fails (leb (entry_count job) lent.answer) (print_fits (print_need N (entry_count job)) lent.print)
    (leb-fails (entry_count job) lent.answer) (print-fails (print_need N (entry_count job)) lent.print))

-- "text after the last line" is 2 on the line after it
abbrev pub end_chain : Lent → ℕ → Job → Chain Job
end_chain lent N job = ends (tests (room_row lent N job) (done job))

-- a job of this head and these nets
abbrev pub job_of : Sizes → ℕ → ℕ → ℕ → List (List ℕ) → List Net → Job
job_of z a b g cs ns = record { width = z.width; height = z.height; layers = z.layers; dirs = z.dirs; alpha = a; beta = b; gamma = g; capacities = cs; nets = ns }

-- the lines behind test 9
abbrev pub body_chain : Lent → Sizes → Chain Job
body_chain lent z =
    reads (ranged_kind "alpha" 0 most_weight) (λ a.
    reads (ranged_kind "beta" 0 most_weight) (λ b.
    reads (ranged_kind "gamma" 0 most_weight) (λ g.
    layers_chain z 1 z.layers (λ cs.
    reads (ranged_kind "nets" 0 most_nets) (λ N.
    tests (order_row lent N)
    (nets_chain z 1 N (λ ns. end_chain lent N (job_of z a b g cs ns))))))))

-- what follows `layers` and `dirs`
abbrev pub stack_chain : Lent → ℕ → ℕ → ℕ → Option (List ℕ) → Chain Job
stack_chain lent W H K ds =
    let z : Sizes = record { width = W; height = H; layers = K; dirs = ds } in
    tests (working_row lent z) (body_chain lent z)

-- "One key per line, in this fixed order"; "A line `dirs` may stand right after `layers`"; "9 is found right after line 3, 10 after the `nets` line, 11 after the
-- whole text"
abbrev pub job_chain : Lent → Chain Job
job_chain lent =
    reads (ranged_kind "width" least_side most_side) (λ W.
    reads (ranged_kind "height" least_side most_side) (λ H.
    reads (ranged_kind "layers" least_layers most_layers) (λ K.
    may (dirs_kind K) none (stack_chain lent W H K))))

-- "1, 0: text above 1,048,576 bytes"; "Number 1 comes first"
abbrev pub text_chain : Lent → List ℕ → Chain Job
text_chain lent text = tests (one 1 (leb (length text) most_text) (most_text < length text) (leb-fails (length text) most_text)) (job_chain lent)

-- ---- it reads as the definition does

same_next : {A B : Type 0} {r s : Result A} {f g : A → Reading B} → r ≡ s → ((a : A) (p : Place) → f a p ≡ g a p) → next r f ≡ next s g
same_next e h = λ i. next (e i) (λ a p. h a p i)

-- two steps that agree in what comes after
pub behind-same : {A B : Type 0} (r : Result A) {f g : A → Reading B} → ((a : A) (p : Place) → f a p ≡ g a p) → next r f ≡ next r g
behind-same r h = λ i. next r (λ a p. h a p i)

-- a line that may be left out, and its value then
optional-run : {A B C : Type 0} (k : Kind A (Option B)) (r : Reading B) (f : Option B → Chain C)
    → ((q : Place) → next (r q) (λ b. give (some b)) ≡ line_of k q) → (p : Place) → next (optional k.key r p) (λ o. run (f o)) ≡ run (may k none f) p
optional-run k r f same p = go (behind (opening k) p.rest)
  where
    go : (o : Option (List ℕ)) → next (if_there o r p) (λ c. run (f c)) ≡ where_begun o (next (line_of k p) (λ d. run (f d))) (run (f none) p)
    go none = refl
    go (some v) = λ i. next (same p i) (λ d. run (f d))

module _ {A : Type 0} (z : Sizes) where
  layers-run : (l m : ℕ) (k : List (List ℕ) → Chain A) (p : Place) → next (capacity_lines z.width z.height z.dirs l m p) (λ cs. run (k cs)) ≡ run (layers_chain z l m k) p
  layers-run l zero k p = refl
  layers-run l (suc m) k p =
      next-next (capacity_line "east" (east_count z.width z.height) (runs z.dirs 0 l) p) _ _
      ∙ same_next (capacity-is "east" (east_count z.width z.height) (runs z.dirs 0 l) p) (λ east q.
      next-next (capacity_line "north" (north_count z.width z.height) (runs z.dirs 1 l) q) _ _
      ∙ same_next (capacity-is "north" (north_count z.width z.height) (runs z.dirs 1 l) q) (λ north r.
      next-next (capacity_lines z.width z.height z.dirs (suc l) m r) _ _ ∙ layers-run (suc l) m (λ above. k ((east ++ north) ∷ above)) r))

module _ {A : Type 0} (z : Sizes) where
  nets-run : (i m : ℕ) (k : List Net → Chain A) (p : Place) → next (nets z i m p) (λ ns. run (k ns)) ≡ run (nets_chain z i m k) p
  unfolding net_lines low_line
  nets-run i zero k p = refl
  nets-run i (suc m) k p =
      next-next (net_lines z i p) _ _
      ∙ next-next (net_line i p) _ _
      ∙ same_next (net_is i p) (λ u q.
      next-next (optional "low" (ranged "low" 1 z.layers) q) _ _
      ∙ behind-same (optional "low" (ranged "low" 1 z.layers) q) (λ low o.
      next-next (pins_line z o) _ _
      ∙ same_next (pins-is z o) (λ pins r.
      next-next (edges_line z pins r) _ _
      ∙ same_next (edges-is z pins r) (λ edges s.
      next-next (nets z (suc i) m s) _ _ ∙ nets-run (suc i) m (λ others. k (net_with z low pins edges ∷ others)) s)))
      ∙ optional-run (low_kind z.layers) (ranged "low" 1 z.layers) (λ low. tree_chain z low (λ n. nets_chain z (suc i) m (λ others. k (n ∷ others)))) (low_is z.layers) q)

job-run : (lent : Lent) (p : Place) → job_in lent p ≡ run (job_chain lent) p
unfolding job_in dirs_line
job-run lent p =
    same_next (ranged-is "width" least_side most_side p) (λ W p1.
    same_next (ranged-is "height" least_side most_side p1) (λ H p2.
    same_next (ranged-is "layers" least_layers most_layers p2) (λ K p3.
    behind-same (optional "dirs" (letters_line K) p3) (λ ds pd.
    let z : Sizes = record { width = W; height = H; layers = K; dirs = ds } in
    behind-same (need 9 (leb (working_need W H K) lent.working) pd) (λ u p4.
    same_next (ranged-is "alpha" 0 most_weight p4) (λ a p5.
    same_next (ranged-is "beta" 0 most_weight p5) (λ b p6.
    same_next (ranged-is "gamma" 0 most_weight p6) (λ g p7.
    behind-same (capacity_lines W H ds 1 K p7) (λ cs p8.
    same_next (ranged-is "nets" 0 most_nets p8) (λ N p9.
    behind-same (need 10 (leb N lent.order) p9) (λ u10 p10. nets-run z 1 N _ p10)))
    ∙ layers-run z 1 K _ p7)))))
    ∙ optional-run (dirs_kind K) (letters_line K) (stack_chain lent W H K) (letters-is K) p3)))

pub read_is : (lent : Lent) (text : List ℕ) → read lent text ≡ run (text_chain lent text) (start text)
unfolding read
read_is lent text = behind-same (need 1 (leb (length text) most_text) (start text)) (λ u p. job-run lent p)
