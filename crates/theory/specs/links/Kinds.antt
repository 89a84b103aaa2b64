-- The kinds of lines of a job text, as a table: key, form, rows of tests with their numbers and words. A new number on a line is one more row, a new line one
-- more kind. Each reads as the definition does.
-- Assumes nothing.
use Rattle.std.specs.Prelude.{◌≡◌, List, map, Bool, true, false, ◌&&◌, ◌||◌, not, ◌≢◌, ℕ, ◌≤◌, ◌<◌, eqb, leb, length}
use Rattle.std.proofs.Math.Path.{refl}
use Rattle.std.proofs.Common.{◌∙◌}
use Rattle.std.proofs.Math.Option.{Option, some}
use Prim.Native.String.{String}
use Rattle.model.specs.Grid.{east_count}
use Rattle.model.specs.Job.{Pin, group_in, runs}
use Rattle.model.specs.Limits.{most_capacity}
use Rattle.model.specs.Lists.{up_from, all, twice}
use Rattle.model.specs.Text.{number, numbers}
use Rattle.model.specs.Tree.{joined}
use Rattle.model.specs.Read.{Place, Result, refused, found, Reading, next, form, need, give, line, number_line, ranged, letters, letters_line, capacity_line, Sizes, Triple, pin_entries, edge_entries, pin_inside, edge_inside, pin_at, edge_at, same_pin, net_line, pins_line, has_layer, edges_line}
use Rattle.theory.specs.links.Chain.{no_more_text, row, Kind, line_of}
use Rattle.theory.specs.links.Words.{leb-fails, eqb-fails, or-fails, range-fails, Some, all-fails, NotAny, any-fails, PinInside, pin-fails, EdgeInside, edge-fails, Twice, same-pins, EdgeTwice, edges-twice, NotReached, joined-fails}

-- ---- the table

-- "3, the line: a number outside its range"
abbrev pub OutOfRange : ℕ → ℕ → ℕ → Type 0
OutOfRange low high n = (low ≤ n) × (n ≤ high) → ⊥

abbrev pub CapacitiesOut : List ℕ → Type 0
CapacitiesOut = Some (λ c. most_capacity < c)

-- "a nonzero capacity"
abbrev pub Nonzero : List ℕ → Type 0
Nonzero = Some (λ c. c ≢ 0)

abbrev pub PinsOut : Sizes → List Triple → Type 0
PinsOut z = Some (λ p. PinInside z.width z.height z.layers p → ⊥)

-- "an edge leaving the grid"
abbrev pub EdgesOut : Sizes → List Triple → Type 0
EdgesOut z = Some (λ e. EdgeInside z.width z.height e → ⊥)

-- the pins and the edges that entries name
abbrev pub pins_of : Sizes → List Triple → List Pin
pins_of z = map (pin_at z.width)

abbrev pub edges_of : Sizes → List Triple → List ℕ
edges_of z = map (edge_at z.width z.height)

-- "an edge whose direction has no layer": none of the layers 1 to K runs its way
abbrev pub NoLayer : Sizes → ℕ → Type 0
NoLayer z e = NotAny (runs z.dirs (group_in z.dirs (east_count z.width z.height) e)) (up_from 1 z.layers)

-- a line with one number from low to high: 2, 3
abbrev pub ranged_kind : String → ℕ → ℕ → Kind ℕ ℕ
ranged_kind key low high = record {
  key = key;
  number = 2;
  value = number;
  rows = λ n. row 3 (leb low n && leb n high) (OutOfRange low high n) (λ h. range-fails low high n) no_more_text;
  result = λ n. n;
}

-- the line `dirs`: 2, where the letters are not as many as the layers too
abbrev pub dirs_kind : ℕ → Kind (List ℕ) (Option (List ℕ))
dirs_kind K = record {
  key = "dirs";
  number = 2;
  value = letters;
  rows = λ ds. row 2 (eqb (length ds) K) (length ds ≢ K) (λ h. eqb-fails (length ds) K) no_more_text;
  result = λ ds. some ds;
}

-- the line `low` of a net: 2, 3
abbrev pub low_kind : ℕ → Kind ℕ (Option ℕ)
low_kind K = record {
  key = "low";
  number = 2;
  value = number;
  rows = λ n. row 3 (leb 1 n && leb n K) (OutOfRange 1 K n) (λ h. range-fails 1 K n) no_more_text;
  result = λ n. some n;
}

-- a line of capacities: 2, "list length" too, 3, and "12, on a capacity line, after 3, a nonzero capacity on a layer that runs the other way"
abbrev pub capacity_kind : String → ℕ → Bool → Kind (List ℕ) (List ℕ)
capacity_kind key size along = record {
  key = key;
  number = 2;
  value = numbers;
  rows = λ cs.
      row 2 (eqb (length cs) size) (length cs ≢ size) (λ h. eqb-fails (length cs) size)
      (row 3 (all (λ c. leb c most_capacity) cs) (CapacitiesOut cs)
      (λ h. all-fails (λ c. leb c most_capacity) (λ c. most_capacity < c) (λ c. leb-fails c most_capacity) cs)
      (row 12 (along || all (λ c. eqb c 0) cs) ((along ≡ false) × Nonzero cs)
      (λ h. or-fails along (all (λ c. eqb c 0) cs) (all-fails (λ c. eqb c 0) (λ c. c ≢ 0) (λ c. eqb-fails c 0) cs))
      no_more_text));
  result = λ cs. cs;
}

-- the line `net` of net i: 2, and "4, the line: net number out of turn"
abbrev pub net_kind : ℕ → Kind ℕ (Unit {0})
net_kind i = record {
  key = "net";
  number = 2;
  value = number;
  rows = λ n. row 4 (eqb n i) (n ≢ i) (λ h. eqb-fails n i) no_more_text;
  result = λ n. tt;
}

-- the line `pins`: 2, 3, and "5, the line: same tile and layer twice on `pins`", in words that are written out here: that those of the table of refusals,
-- `PinTwice`, are the same is for its law to show
abbrev pub pins_kind : Sizes → Kind (List Triple) (List Pin)
pins_kind z = record {
  key = "pins";
  number = 2;
  value = pin_entries;
  rows = λ ps.
      let W = z.width in
      let H = z.height in
      let K = z.layers in
      row 3 (all (pin_inside W H K) ps) (PinsOut z ps)
      (λ h. all-fails (pin_inside W H K) (λ p. PinInside W H K p → ⊥) (pin-fails W H K) ps)
      (row 5 (not (twice same_pin (pins_of z ps))) (Twice (λ p q. (p.tile ≡ q.tile) × (p.layer ≡ q.layer)) (pins_of z ps)) (λ h. same-pins (pins_of z ps))
      no_more_text);
  result = pins_of z;
}

-- the line `edges`: 2, 3, "6, the line: same edge twice on `edges`", 8, "a pin or edge not reached from the first pin's tile along the edges", "13, on an
-- `edges` line, after 8 and before 11, an edge whose direction has no layer"
abbrev pub edges_kind : Sizes → List Pin → Kind (List Triple) (List ℕ)
edges_kind z pins = record {
  key = "edges";
  number = 2;
  value = edge_entries;
  rows = λ es.
      let W = z.width in
      let H = z.height in
      row 3 (all (edge_inside W H) es) (EdgesOut z es)
      (λ h. all-fails (edge_inside W H) (λ e. EdgeInside W H e → ⊥) (edge-fails W H) es)
      (row 6 (not (twice eqb (edges_of z es))) (EdgeTwice (edges_of z es)) (λ h. edges-twice (edges_of z es))
      (row 8 (joined W H pins (edges_of z es)) (NotReached W H pins (edges_of z es)) (λ h. joined-fails W H pins (edges_of z es))
      (row 13 (all (has_layer z) (edges_of z es)) (Some (NoLayer z) (edges_of z es))
      (λ h. all-fails (has_layer z) (NoLayer z) (λ e. any-fails (runs z.dirs (group_in z.dirs (east_count W H) e)) (up_from 1 z.layers)) (edges_of z es))
      no_more_text)));
  result = edges_of z;
}

-- ---- the definitions read so

pub next-next : {A B C : Type 0} (r : Result A) (f : A → Reading B) (g : B → Reading C) → next (next r f) g ≡ next r (λ a p. next (f a p) g)
next-next (refused n l) f g = refl
next-next (found a p) f g = refl

need-last : (n : ℕ) (b : Bool) (p : Place) → need n b p ≡ next (need n b p) (λ u. give tt)
need-last n true p = refl
need-last n false p = refl

pub ranged-is : (key : String) (low high : ℕ) (p : Place) → ranged key low high p ≡ line_of (ranged_kind key low high) p
unfolding ranged line_of
ranged-is key low high p = next-next (line 2 key p) (λ v. form 2 (number v)) (λ n. λ q. next (need 3 (leb low n && leb n high) q) (λ u. give n))

pub low_is : (K : ℕ) (p : Place) → next (ranged "low" 1 K p) (λ n. give (some n)) ≡ line_of (low_kind K) p
unfolding line_of
low_is K p =
    (λ i. next (ranged-is "low" 1 K p i) (λ n. give (some n)))
    ∙ next-next (line 2 "low" p) (λ v q. next (form 2 (number v) q) (λ n r. next (need 3 (leb 1 n && leb n K) r) (λ u. give n))) (λ n. give (some n))
    ∙ (λ i. next (line 2 "low" p) (λ v q. inner v q i))
  where
    inner : (v : List ℕ) (q : Place)
        → next (next (form 2 (number v) q) (λ n r. next (need 3 (leb 1 n && leb n K) r) (λ u. give n))) (λ n. give (some n))
        ≡ next (form 2 (number v) q) (λ n r. next (need 3 (leb 1 n && leb n K) r) (λ u. give (some n)))
    inner v q =
        next-next (form 2 (number v) q) (λ n r. next (need 3 (leb 1 n && leb n K) r) (λ u. give n)) (λ n. give (some n))
        ∙ (λ i. next (form 2 (number v) q) (λ n r. next-next (need 3 (leb 1 n && leb n K) r) (λ u. give n) (λ m. give (some m)) i))

pub letters-is : (K : ℕ) (p : Place) → next (letters_line K p) (λ ds. give (some ds)) ≡ line_of (dirs_kind K) p
unfolding line_of
letters-is K p =
    next-next (line 2 "dirs" p) (λ v q. next (form 2 (letters v) q) (λ ds r. next (need 2 (eqb (length ds) K) r) (λ u. give ds))) (λ ds. give (some ds))
    ∙ (λ i. next (line 2 "dirs" p) (λ v q. inner v q i))
  where
    inner : (v : List ℕ) (q : Place)
        → next (next (form 2 (letters v) q) (λ ds r. next (need 2 (eqb (length ds) K) r) (λ u. give ds))) (λ ds. give (some ds))
        ≡ next (form 2 (letters v) q) (λ ds r. next (need 2 (eqb (length ds) K) r) (λ u. give (some ds)))
    inner v q =
        next-next (form 2 (letters v) q) (λ ds r. next (need 2 (eqb (length ds) K) r) (λ u. give ds)) (λ ds. give (some ds))
        ∙ (λ i. next (form 2 (letters v) q) (λ ds r. next-next (need 2 (eqb (length ds) K) r) (λ u. give ds) (λ ds. give (some ds)) i))

pub capacity-is : (key : String) (size : ℕ) (along : Bool) (p : Place) → capacity_line key size along p ≡ line_of (capacity_kind key size along) p
unfolding capacity_line line_of
capacity-is key size along p = refl

pub net_is : (i : ℕ) (p : Place) → net_line i p ≡ line_of (net_kind i) p
unfolding line_of
net_is i p =
    (λ j. next (number_line "net" p) (λ n q. need-last 4 (eqb n i) q j))
    ∙ next-next (line 2 "net" p) (λ v. form 2 (number v)) (λ n. λ q. next (need 4 (eqb n i) q) (λ u. give tt))

module _ (z : Sizes) where
  pub pins-is : (p : Place) → pins_line z p ≡ line_of (pins_kind z) p
  unfolding pins_line line_of
  pins-is p = refl

  pub edges-is : (pins : List Pin) (p : Place) → edges_line z pins p ≡ line_of (edges_kind z pins) p
  unfolding edges_line line_of
  edges-is pins p = refl
