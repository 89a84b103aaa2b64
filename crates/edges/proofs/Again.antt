-- The entries of a line that was found right, read again: which of them have a layer.
-- Assumes nothing.
use mathlib.Core.Bool.{Bool, true, false, ◌&&◌, cond}
use mathlib.Core.List.{List, [], ◌∷◌}
use mathlib.Core.Option.{Option, none, some}
use mathlib.Core.Path.{◌≡◌, refl, sym, ap, ◌∙◌}
use Prim.Native.Nat.{ℕ, zero, suc, ◌+◌, ◌%◌, ◌≤◌, ◌<◌}
use native.Mathlib.Omega.{arith}
use borrow.Author.Tests.{lt-ltb, le-ltb, eqb-false, eq-eqb, ne_eqb}
use lib.Dec.{eqb, ltb}
use lib.ListN.{length, drop, get_or}
use Rattle.std.specs.Prelude.{Some, None, Option as Maybe}
use Rattle.layout.specs.Dirs.{digits_of, dirs_of}
use Rattle.layout.specs.Shapes.{sizes_of, Shaped}
use Rattle.layout.specs.declared.shape.Dirs.{Dirs}
use Rattle.layout.specs.declared.shape.Shape.{Shape}
use Rattle.model.specs.Grid.{east_count, east_edge, north_edge}
use Rattle.model.specs.Job.{group_in, runs}
use Rattle.model.specs.Lists.{up_from, all, any}
use Rattle.model.specs.Read.{Triple, edge_inside, edge_at, has_layer}
use Rattle.scan.specs.Edges.{edge-is, edge_told, edge-way}
use Rattle.scan.specs.First.{some-none, front, one_line, all_first}
use Rattle.scan.specs.Inside.{false-true}
use Rattle.scan.specs.Pins.{triple}
use Rattle.scan.specs.Places.{drop-byte, head-drop}
use Rattle.scan.specs.Ways.{edges_of, edges-empty, edges_some}
use Rattle.text.specs.Entries.{edge_entry_at}
use Rattle.text.specs.declared.Entry.{Entry}
use Rattle.ways.specs.Entry.{placed}
use Rattle.edges.specs.Reading.{edges_on}
use Rattle.edges.specs.Served.{way_on, goes, EntriesAt}
use Rattle.edges.specs.declared.Edges.{Edges}

-- ---- whether all entries go one way

-- the way of an entry is its third part, as it was read
way-read : (d : ℕ) → d ≤ 1 → cond (eqb d 0) 0 1 ≡ d
way-read zero h = refl
way-read (suc zero) h = refl
way-read (suc (suc d)) h = absurd (omega arith)

-- The entries from i on are the last of those from `from` on, and say whether all of these go this way.
abbrev pub Left : List ℕ → ℕ → ℕ → ℕ → Type 0
Left s way from i =
    (ts : List Triple) (rest : List ℕ) → edges_of (drop from s) ≡ some (ts, rest)
    → (us : List Triple) × (edges_of (drop i s) ≡ some (us, rest)) × (all (goes way) ts ≡ all (goes way) us)

module _ (s : List ℕ) (way from i : ℕ) (left : Left s way from i) where
  -- an entry is there always
  pub left-bad : None ≡ edge_entry_at s i → (ts : List Triple) (rest : List ℕ) → edges_of (drop from s) ≡ some (ts, rest) → true ≡ all (goes way) ts
  left-bad e ts rest h = let k = left ts rest h in some-none (k.0, rest) (sym k.1 ∙ edge-is s i None e)

  -- the entry at i
  module _ (r : Entry) (is : Some r ≡ edge_entry_at s i) where
    abbrev here : Triple
    here = triple r.x r.y r.third

    goes-here : goes way (triple r.x r.y r.third) ≡ eqb r.third way
    goes-here = ap (λ (d : ℕ). eqb d way) (way-read r.third (edge-way s i (Some r) is))

    only : r.last ≡ true → (us : List Triple) (rest : List ℕ) → edges_of (drop i s) ≡ some (us, rest) → us ≡ here ∷ []
    only last us rest h = one_line us (here ∷ []) rest (drop r.next s) (sym h ∙ edge_told s i r is true last)

    module _ (last : r.last ≡ false) where
      behind : (us : List Triple) (rest : List ℕ) → edges_of (drop i s) ≡ some (us, rest)
          → (vs : List Triple) × (edges_of (drop r.next s) ≡ some (vs, rest)) × (us ≡ here ∷ vs)
      behind us rest h = front here (edges_of (drop r.next s)) us rest (sym h ∙ (edge_told s i r is false last).0)

      -- the place after it
      pub left-place : (i < r.next) × (r.next ≤ length s)
      left-place = let k = edge_told s i r is false last in (k.1, k.2)

    -- it goes the other way
    pub left_other : (r.third ≡ way → ⊥) → (ts : List Triple) (rest : List ℕ) → edges_of (drop from s) ≡ some (ts, rest) → false ≡ all (goes way) ts
    left_other n ts rest h = let k = left ts rest h in sym (k.2 ∙ go r.last refl k.0 k.1)
      where
        no_way : (vs : List Triple) → all (goes way) (here ∷ vs) ≡ false
        no_way vs = rw (goes-here ∙ ne_eqb r.third way n)

        go : (q : Bool) → r.last ≡ q → (us : List Triple) → edges_of (drop i s) ≡ some (us, rest) → all (goes way) us ≡ false
        go true e us k = rw (only e us rest k) (no_way [])
        go false e us k = let b = behind e us rest k in rw b.2 (no_way b.0)

    -- it goes this way
    module _ (e : r.third ≡ way) where
      this-way : (vs : List Triple) → all (goes way) (here ∷ vs) ≡ all (goes way) vs
      this-way vs = rw (goes-here ∙ eq-eqb r.third way e)

      pub left-last : r.last ≡ true → (ts : List Triple) (rest : List ℕ) → edges_of (drop from s) ≡ some (ts, rest) → true ≡ all (goes way) ts
      left-last last ts rest h = let k = left ts rest h in sym (k.2 ∙ ap (all (goes way)) (only last k.0 rest k.1) ∙ this-way [])

      pub left-more : r.last ≡ false → Left s way from r.next
      left-more last ts rest h =
          let k = left ts rest h in
          let b = behind last k.0 rest k.1 in
          (b.0, b.1, k.2 ∙ ap (all (goes way)) b.2 ∙ this-way b.0)

-- ---- whether all entries have a layer

-- some of k layers runs this way
abbrev pub some_layer : ℕ → Maybe Dirs → ℕ → Bool
some_layer k d way = any (runs (dirs_of k d) way) (up_from 1 k)

-- where none runs east, the first runs north
pub north-runs : (k : ℕ) (d : Maybe Dirs) → 1 ≤ k → some_layer k d 0 ≡ false → some_layer k d 1 ≡ true
north-runs zero d h e = absurd (omega arith)
north-runs (suc k) None h e = refl
north-runs (suc k) (Some d) h e = go (eqb (d.north % 2) 0) refl e
  where
    go : (q : Bool) → eqb (d.north % 2) 0 ≡ q → cond q true (any (runs (some (digits_of (suc k) d.north)) 0) (up_from 2 k)) ≡ false → some_layer (suc k) (Some d) 1 ≡ true
    go true z n = absurd (false-true (sym n))
    go false z n = let one : d.north % 2 ≡ 1 = omega (arith, eqb-false (d.north % 2) 0 z) in rw (eq-eqb (d.north % 2) 1 one) refl

module _ (g : Shape) (shaped : Shaped g) where
  abbrev W : ℕ
  W = g.w

  abbrev H : ℕ
  H = g.h

  -- the east edges are numbered first
  east-first : (t : Triple) → edge_inside g.w g.h t ≡ true → ltb (edge_at g.w g.h t) (east_count g.w g.h) ≡ eqb t.third 0
  east-first t inside = go (eqb t.third 0) inside
    where
      go : (q : Bool) → cond q (ltb (t.x + 1) W && ltb t.y H) (ltb t.x W && ltb (t.y + 1) H) ≡ true
          → ltb (cond q (east_edge W t.x t.y) (north_edge W H t.x t.y)) (east_count W H) ≡ q
      go true h = lt-ltb (east_edge W t.x t.y) (east_count W H) ((placed g shaped (triple t.x t.y 0) h (omega arith)).east_side refl)
      go false h = le-ltb (north_edge W H t.x t.y) (east_count W H) (omega arith)

  -- an edge has a layer just where some layer runs the way of its entry
  entry-layer : (t : Triple) → edge_inside g.w g.h t ≡ true → has_layer (sizes_of g) (edge_at g.w g.h t) ≡ some_layer g.k g.dirs (way_on t)
  entry-layer t inside = go (dirs_of g.k g.dirs)
    where
      go : (ds : Option (List ℕ)) → any (runs ds (group_in ds (east_count W H) (edge_at W H t))) (up_from 1 g.k) ≡ any (runs ds (way_on t)) (up_from 1 g.k)
      go none = refl
      go (some ds) = rw (east-first t inside)

  -- the same of all entries, by what is known of the two ways
  module _ (p : ℕ → Bool) (east : some_layer g.k g.dirs 0 ≡ p 0) (north : some_layer g.k g.dirs 1 ≡ p 1) where
    by_way : (q : Bool) → some_layer g.k g.dirs (cond q 0 1) ≡ p (cond q 0 1)
    by_way true = east
    by_way false = north

    all_layers : (ts : List Triple) → all (edge_inside g.w g.h) ts ≡ true → all (λ t. p (way_on t)) ts ≡ all (has_layer (sizes_of g)) (edges_on g ts)
    all_layers [] h = refl
    all_layers (t ∷ ts) h =
        let k = all_first (edge_inside g.w g.h) t ts h in
        rw (entry-layer t k.0 ∙ by_way (eqb t.third 0), all_layers ts k.1)

all_pass : (ts : List Triple) → true ≡ all (λ t. true) ts
all_pass [] = refl
all_pass (t ∷ ts) = all_pass ts

module _ (g : Shape) (shaped : Shaped g) (s : List ℕ) (e : Edges) (ts : List Triple) (at : EntriesAt g s e ts) where
  -- a line without entries
  pub served-none : e.entries ≡ 0 → true ≡ all (has_layer (sizes_of g)) (edges_on g ts)
  served-none z = go ts (sym at.count ∙ z)
    where
      go : (us : List Triple) → length us ≡ 0 → true ≡ all (has_layer (sizes_of g)) (edges_on g us)
      go [] h = refl
      go (u ∷ us) h = absurd (omega arith)

  -- a line with entries
  full : (e.entries ≡ 0 → ⊥) → edges_of (drop e.from s) ≡ some (ts, at.rest)
  full n = sym (edges_some (drop e.from s) (λ z. none-there (sym (head-drop s e.from) ∙ z))) ∙ at.there
    where
      none-there : get_or s e.from 0 ≡ 10 → ⊥
      none-there z =
          let h : ts ≡ [] = one_line ts [] at.rest (drop (e.from + 1) s) (sym at.there ∙ rw (drop-byte s e.from 10 z (omega arith)) (edges-empty (drop (e.from + 1) s))) in
          n (at.count ∙ ap length h)

  -- layers run only this way, and r says whether all entries go it
  pub served-way : (e.entries ≡ 0 → ⊥) → (way : ℕ) → some_layer g.k g.dirs 0 ≡ eqb 0 way → some_layer g.k g.dirs 1 ≡ eqb 1 way
      → (r : Bool) → ((us : List Triple) (rest : List ℕ) → edges_of (drop e.from s) ≡ some (us, rest) → r ≡ all (goes way) us) → r ≡ all (has_layer (sizes_of g)) (edges_on g ts)
  served-way n way east north r k = k ts at.rest (full n) ∙ all_layers g shaped (λ w. eqb w way) east north ts at.inside

  -- layers run both ways
  pub served-both : some_layer g.k g.dirs 0 ≡ true → some_layer g.k g.dirs 1 ≡ true → true ≡ all (has_layer (sizes_of g)) (edges_on g ts)
  served-both h k = all_pass ts ∙ all_layers g shaped (λ w. true) h k ts at.inside
