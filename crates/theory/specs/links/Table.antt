-- The table of refusals of documents 01 and 02, row by row and in its words: why a text is refused with a number and a line. Every line before it is then in
-- order, and no row that is tested earlier fits the line. That a text is refused with a number and a line exactly where the row of this number fits this line
-- stands in proofs/links/Table.antt.
-- Assumes nothing.
use Rattle.std.specs.Prelude.{◌≡◌, List, [], ◌∷◌, ◌++◌, Bool, false, ◌≢◌, ℕ, zero, suc, ◌+◌, ◌<◌, length}
use Rattle.std.proofs.Math.Option.{Option, none, some}
use Prim.Native.String.{String}
use Rattle.model.specs.Job.{Pin, Net, Job, runs, entry_count}
use Rattle.model.specs.Limits.{most_text}
use Rattle.model.specs.Read.{Place, Sizes, Triple, Lent}
use Rattle.model.specs.Text.{behind}
use Rattle.theory.specs.links.Chain.{Kind, opening, Stands, WrongForm, Chain, reads, may, tests, ends, Comes}
use Rattle.theory.specs.links.Words.{Some, PinTwice, EdgeTwice, NotReached}
use Rattle.theory.specs.links.Kinds.{OutOfRange, CapacitiesOut, Nonzero, PinsOut, EdgesOut, NoLayer, pins_of, edges_of, ranged_kind, dirs_kind, low_kind, capacity_kind, net_kind, pins_kind, edges_kind}
use Rattle.theory.specs.links.JobText.{start, option_lines, stack_line, capacities_at, head_lines, lines_to, tree_chain, nets_chain, body_chain, end_chain, job_of, RoomShort, needed_by, working_row, order_row, room_row, text_chain}

-- ---- tables

-- no row
pub data Nothing : Type 1 where

-- the row at a place of the table, with its line l
abbrev pub row_at : List (ℕ → Type 1) → ℕ → ℕ → Type 1
row_at [] n l = Nothing
row_at (r ∷ rs) zero l = r l
row_at (r ∷ rs) (suc n) l = row_at rs n l

module _ (lent : Lent) (text : List ℕ) where
  -- the reading comes to the step t at the place q, with every line before in order
  abbrev pub At : Chain Job → Place → Type 1
  At = Comes (text_chain lent text) (start text)

  -- line l has the key and the form of its kind, and b stands there; every line before it is in order
  pub record LineAt {B C : Type 0} (k : Kind B C) (b : B) (l : ℕ) : Type 1 where
    pub others : C → Chain Job
    pub before : Place
    pub after : Place
    pub comes : At (reads k others) before
    pub stands : Stands k before b after
    pub line : l ≡ suc before.line

  -- the same of a line that may be left out, and is not
  pub record ThereAt {B C : Type 0} (k : Kind B (Option C)) (b : B) (l : ℕ) : Type 1 where
    pub others : Option C → Chain Job
    pub before : Place
    pub after : Place
    pub value : List ℕ
    pub comes : At (may k none others) before
    pub there : behind (opening k) before.rest ≡ some value
    pub stands : Stands k before b after
    pub line : l ≡ suc before.line

  -- z is what `width`, `height`, `layers` and `dirs` say, and N the value of `nets`: the lines up to there are in order, and give it
  abbrev pub Stack : Sizes → Type 1
  Stack z = (q : Place) × At (tests (working_row lent z) (body_chain lent z)) q

  abbrev pub Nets : ℕ → Type 1
  Nets N = (s : Chain Job) × (q : Place) × At (tests (order_row lent N) s) q

  -- what follows the nets: `earlier` are read, and others to be put behind them
  abbrev pub ended : Sizes → ℕ → ℕ → ℕ → List (List ℕ) → ℕ → List Net → List Net → Chain Job
  ended z a b g cs N earlier others = end_chain lent N (job_of z a b g cs (earlier ++ others))

  -- z is what the head says, and there are more than these nets: the lines of `earlier` are in order, and those of the next one follow
  pub record OfNet (z : Sizes) (earlier : List Net) : Type 1 where
    pub alpha : ℕ
    pub beta : ℕ
    pub gamma : ℕ
    pub capacities : List (List ℕ)
    pub left : ℕ
    pub place : Place
    pub stack : Stack z
    pub nets : Nets (length earlier + suc left)
    pub comes : At (nets_chain z (suc (length earlier)) (suc left) (ended z alpha beta gamma capacities (length earlier + suc left) earlier)) place

  -- and of the next one the lines up to `pins`: `low` is its lowest wanted layer, where it has one
  pub record OfTree (z : Sizes) (earlier : List Net) (low : Option ℕ) : Type 1 where
    pub net : OfNet z earlier
    pub place : Place
    pub comes : At (tree_chain z low (λ n. nets_chain z (suc (suc (length earlier))) net.left (λ others. ended z net.alpha net.beta net.gamma net.capacities (length earlier + suc net.left) earlier (n ∷ others)))) place

  -- its lines `net`, `pins` and `edges`
  abbrev pub net_at : Sizes → List Net → ℕ
  net_at z earlier = lines_to z earlier + 1

  abbrev pub pins_at : Sizes → List Net → Option ℕ → ℕ
  pins_at z earlier low = lines_to z earlier + 2 + option_lines low

  abbrev pub edges_at : Sizes → List Net → Option ℕ → ℕ
  edges_at z earlier low = lines_to z earlier + 3 + option_lines low

  -- ---- the rows: why each number is returned, with the line l

  -- "1, 0: text above 1,048,576 bytes"
  pub data TooLong (l : ℕ) : Type 1 where
    too_long : most_text < length text → l ≡ 0 → TooLong l

  -- "2, the line: wrong key, form or list length, missing line, text after the last line"
  pub data WrongAt (l : ℕ) : Type 1 where
    wrong_form : {B C : Type 0} (k : Kind B C) (f : C → Chain Job) (q : Place) → At (reads k f) q → k.number ≡ 2 → WrongForm k q → l ≡ suc q.line → WrongAt l
    -- a line that may be left out, and is not
    wrong_there : {B C : Type 0} (k : Kind B C) (c : C) (f : C → Chain Job) (q : Place) (v : List ℕ) → At (may k c f) q → behind (opening k) q.rest ≡ some v
        → k.number ≡ 2 → WrongForm k q → l ≡ suc q.line → WrongAt l
    wrong_length : (key : String) (size : ℕ) (along : Bool) (cs : List ℕ) → LineAt (capacity_kind key size along) cs l → length cs ≢ size → WrongAt l
    wrong_letters : (K : ℕ) (ds : List ℕ) → ThereAt (dirs_kind K) ds l → length ds ≢ K → WrongAt l
    text_after : (s : Chain Job) (q : Place) → At (ends s) q → (q.rest ≡ [] → ⊥) → l ≡ suc q.line → WrongAt l

  -- "3, the line: a number outside its range, an edge leaving the grid"
  pub data RangeAt (l : ℕ) : Type 1 where
    number_out : (key : String) (low high m : ℕ) → LineAt (ranged_kind key low high) m l → OutOfRange low high m → RangeAt l
    low_out : (K m : ℕ) → ThereAt (low_kind K) m l → OutOfRange 1 K m → RangeAt l
    capacity_out : (key : String) (size : ℕ) (along : Bool) (cs : List ℕ) → LineAt (capacity_kind key size along) cs l → length cs ≡ size → CapacitiesOut cs → RangeAt l
    pin_out : (z : Sizes) (ps : List Triple) → LineAt (pins_kind z) ps l → PinsOut z ps → RangeAt l
    edge_out : (z : Sizes) (pins : List Pin) (es : List Triple) → LineAt (edges_kind z pins) es l → EdgesOut z es → RangeAt l

  -- "4, the line: net number out of turn"
  pub data TurnAt (l : ℕ) : Type 1 where
    out_of_turn : (z : Sizes) (earlier : List Net) (m : ℕ) → OfNet z earlier → LineAt (net_kind (suc (length earlier))) m (net_at z earlier) → m ≢ suc (length earlier)
        → l ≡ net_at z earlier → TurnAt l

  -- "5, the line: same tile and layer twice on `pins`"
  pub data PinTwiceAt (l : ℕ) : Type 1 where
    pin_twice : (z : Sizes) (earlier : List Net) (low : Option ℕ) (ps : List Triple) → OfTree z earlier low → LineAt (pins_kind z) ps (pins_at z earlier low) → (PinsOut z ps → ⊥)
        → PinTwice (pins_of z ps) → l ≡ pins_at z earlier low → PinTwiceAt l

  -- "6, the line: same edge twice on `edges`"
  pub data EdgeTwiceAt (l : ℕ) : Type 1 where
    edge_twice : (z : Sizes) (earlier : List Net) (low : Option ℕ) (pins : List Pin) (es : List Triple) → OfTree z earlier low → LineAt (edges_kind z pins) es (edges_at z earlier low) → (EdgesOut z es → ⊥)
        → EdgeTwice (edges_of z es) → l ≡ edges_at z earlier low → EdgeTwiceAt l

  -- row 7 has ended: "Refusal 7 never occurs from now on, and 8 no longer presumes that there is no ring" (document 02, S-6)
  abbrev pub RingAt : ℕ → Type 1
  RingAt l = Nothing

  -- "8, the `edges` line: no ring, but a pin or edge not reached from the first pin's tile along the edges"
  pub data ReachAt (l : ℕ) : Type 1 where
    not_reached : (z : Sizes) (earlier : List Net) (low : Option ℕ) (pins : List Pin) (es : List Triple) → OfTree z earlier low → LineAt (edges_kind z pins) es (edges_at z earlier low) → (EdgesOut z es → ⊥)
        → (EdgeTwice (edges_of z es) → ⊥) → NotReached z.width z.height pins (edges_of z es) → l ≡ edges_at z earlier low → ReachAt l

  -- "9, 3: fewer working numbers than needed", "right after line 3": the line read last is line 3, and line 4 where it begins `dirs=`
  pub data WorkingAt (l : ℕ) : Type 1 where
    working_short : (z : Sizes) (q : Place) → At (tests (working_row lent z) (body_chain lent z)) q → lent.working < needed_by z
        → q.line ≡ stack_line z.dirs → l ≡ stack_line z.dirs → WorkingAt l

  -- "10, the `nets` line: fewer order entries than N", "after the `nets` line", the last of the head
  pub data OrderAt (l : ℕ) : Type 1 where
    order_short : (z : Sizes) (N : ℕ) (s : Chain Job) (q : Place) → Stack z → At (tests (order_row lent N) s) q → lent.order < N
        → q.line ≡ head_lines z.dirs z.layers → l ≡ head_lines z.dirs z.layers → OrderAt l

  -- "11, the last line: answer list or print buffer too short", "after the whole text", whose last line is that of the last net
  pub data RoomAt (l : ℕ) : Type 1 where
    room_short : (z : Sizes) (N : ℕ) (j : Job) (s : Chain Job) (q : Place) → Stack z → Nets N → At (tests (room_row lent N j) s) q → RoomShort lent N (entry_count j)
        → q.line ≡ lines_to z j.nets → l ≡ lines_to z j.nets → RoomAt l

  -- "12, on a capacity line, after 3, a nonzero capacity on a layer that runs the other way": the line of layer m, `east` with way 0 and `north` with way 1
  pub data ClosedAt (l : ℕ) : Type 1 where
    closed_layer : (z : Sizes) (key : String) (size m way : ℕ) (cs : List ℕ) → Stack z → LineAt (capacity_kind key size (runs z.dirs way m)) cs l
        → length cs ≡ size → (CapacitiesOut cs → ⊥) → runs z.dirs way m ≡ false → Nonzero cs → l ≡ capacities_at z.dirs m way → ClosedAt l

  -- "13, on an `edges` line, after 8 and before 11, an edge whose direction has no layer"
  pub data NoLayerAt (l : ℕ) : Type 1 where
    no_layer : (z : Sizes) (earlier : List Net) (low : Option ℕ) (pins : List Pin) (es : List Triple) → OfTree z earlier low → LineAt (edges_kind z pins) es (edges_at z earlier low) → (EdgesOut z es → ⊥)
        → (EdgeTwice (edges_of z es) → ⊥) → (NotReached z.width z.height pins (edges_of z es) → ⊥)
        → Some (NoLayer z) (edges_of z es) → l ≡ edges_at z earlier low → NoLayerAt l

  -- the table: the rows of the numbers 1 to 13
  abbrev pub table : List (ℕ → Type 1)
  table =
      TooLong ∷ WrongAt ∷ RangeAt ∷ TurnAt ∷ PinTwiceAt ∷ EdgeTwiceAt ∷ RingAt ∷ ReachAt ∷ WorkingAt ∷ OrderAt ∷ RoomAt ∷ ClosedAt ∷ NoLayerAt ∷ []

  -- why the number n and the line l are returned
  abbrev pub Why : ℕ → ℕ → Type 1
  Why zero l = Nothing
  Why (suc n) l = row_at table n l
