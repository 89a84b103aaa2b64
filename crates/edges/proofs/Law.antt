-- The line's answer is the definitions'.
-- Assumes nothing.
use mathlib.Core.Bool.{Bool, true, false, not, cond}
use mathlib.Core.List.{List, [], map}
use mathlib.Core.Option.{Option, none, some}
use mathlib.Core.Path.{◌≡◌, refl, sym, ap, ◌∙◌}
use Prim.Native.Nat.{ℕ, suc, ◌+◌, ◌≤◌}
use native.Mathlib.Omega.{arith}
use lib.Dec.{eqb}
use lib.ListN.{length, drop, get_or, drop_of_length-le, length-map}
use Rattle.std.specs.Prelude.{Some, Ok, Err, Result as Outcome}
use Rattle.layout.specs.Shapes.{sizes_of}
use Rattle.layout.specs.declared.shape.Shape.{Shape}
use Rattle.model.specs.Job.{Pin}
use Rattle.model.specs.Lists.{all, twice}
use Rattle.model.specs.Read.{Place, Result, refused, found, Reading as Reads, next, ◌>>=◌, ◌>>◌, give, form, need, line, Sizes, Triple, edge_entries, edge_inside, edge_at, has_layer, edges_line}
use Rattle.model.specs.Text.{bytes, cut_line, behind}
use Rattle.model.specs.Tree.{joined}
use Rattle.scan.specs.Lines.{Lined}
use Rattle.scan.specs.Places.{drop-byte, get_d-in, head-drop}
use Rattle.scan.specs.Ways.{edges_of, edges_cut, edges_in, edges_ranged, edges_key, ranged, edges-law, edges_some}
use Rattle.lines.specs.Opens.{place-is, place-within, key-there, key-other, expected-there, expected-other}
use Rattle.lines.specs.Reads.{opened_of, expected_of}
use Rattle.lines.specs.Told.{refused_by}
use Rattle.text.specs.Refusals.{place_of}
use Rattle.text.specs.declared.Cursor.{Cursor}
use Rattle.text.specs.declared.Fault.TheVariants.{Form, NoLayer}
use Rattle.text.specs.declared.Refusal.{Refusal}
use Rattle.text.specs.declared.Refusal.TheVariants.{Line}
use Rattle.edges.specs.Line.{EdgesRead, judged_line, verdict_by, EntriesRead, JoinedFound, JoinedRead, LineRead}
use Rattle.edges.specs.Reading.{Reading, edges_on}
use Rattle.edges.specs.Served.{EntriesAt}
use Rattle.edges.specs.declared.Edges.{Edges}
use Rattle.edges.specs.declared.Judged.TheVariants.{Fine}
use Rattle.edges.proofs.Loop.{shown-start, read-end}

module _ (z : Sizes) (ps : List Pin) where
  abbrev W : ℕ
  W = z.width

  abbrev H : ℕ
  H = z.height

  -- the last test
  abbrev layered : List ℕ → Reads (List ℕ)
  layered edges = do
    need 13 (all (has_layer z) edges)
    give edges

  -- the tests after form and range
  abbrev tested : List Triple → Reads (List ℕ)
  tested ts = do
    let edges = map (edge_at W H) ts
    need 6 (not (twice eqb edges))
    need 8 (joined W H ps edges)
    layered edges

  ranged-then : (p : Place) → edges_line z ps p ≡ next (edges_ranged W H p) tested
  unfolding edges_line edges_ranged
  ranged-then p = go (line 2 "edges" p)
    where
      test : (ts : List Triple) (q : Place) (b : Bool) → next (need 3 b q) (λ u. tested ts) ≡ next (next (need 3 b q) (λ u. give ts)) tested
      test ts q true = refl
      test ts q false = refl

      read : (o : Option (List Triple)) (q : Place)
          → next (form 2 o q) (λ ts. ◌>>◌ (need 3 (all (edge_inside W H) ts)) (tested ts)) ≡ next (next (form 2 o q) (λ ts. ◌>>◌ (need 3 (all (edge_inside W H) ts)) (give ts))) tested
      read none q = refl
      read (some ts) q = test ts q (all (edge_inside W H) ts)

      go : (r : Result (List ℕ)) → next r (λ v. ◌>>=◌ (form 2 (edge_entries v)) (λ ts. ◌>>◌ (need 3 (all (edge_inside W H) ts)) (tested ts))) ≡ next (next r (edges_in W H)) tested
      go (refused n l) = refl
      go (found v q) = read (edge_entries v) q

  judged-then : (l : ℕ) (r : Lined) → next (ranged W H l r) tested ≡ next (judged_line W H ps l r) layered
  judged-then l none = refl
  judged-then l (some c) = go (all (edge_inside W H) c.0)
    where
      edges : List ℕ
      edges = map (edge_at W H) c.0

      place : Place
      place = record { line = l; rest = c.1 }

      tests : (a d : Bool) → next (need 6 (not a) place) (λ u. ◌>>◌ (need 8 d) (layered edges)) ≡ next (cond a (refused 6 l) (cond d (found edges place) (refused 8 l))) layered
      tests true d = refl
      tests false true = refl
      tests false false = refl

      go : (p : Bool) → next (cond p (found c.0 place) (refused 3 l)) tested
          ≡ next (cond p (cond (twice eqb edges) (refused 6 l) (cond (joined W H ps edges) (found edges place) (refused 8 l))) (refused 3 l)) layered
      go true = tests (twice eqb edges) (joined W H ps edges)
      go false = refl

  -- what it says of the edges of a line that passed the others
  layered-then : (edges : List ℕ) (p : Place) → layered edges p ≡ cond (all (has_layer z) edges) (found edges p) (refused 13 p.line)
  layered-then edges p = go (all (has_layer z) edges)
    where
      go : (b : Bool) → next (need 13 b p) (λ u. give edges) ≡ cond b (found edges p) (refused 13 p.line)
      go true = refl
      go false = refl

  -- the line that was opened at c
  module _ (s : List ℕ) (c : Cursor) (o : Outcome Cursor Refusal) (e : o ≡ expected_of s c (bytes "edges=")) where
    reads : edges_line z ps (place_of s c) ≡ next (edges_key W H (suc c.line) (behind (bytes "edges=") (drop c.at s))) tested
    reads = ranged-then _ ∙ ap (λ (r : Result (List Triple)). next r tested) (edges-law W H c.line (drop c.at s))

    line_other : (x : Refusal) → o ≡ Err x → edges_line z ps (place_of s c) ≡ refused_by x
    line_other x h =
        let p = expected-other s c (bytes "edges=") x (sym e ∙ h) in
        rw p.1 (reads ∙ key-other s c (bytes "edges=") p.0 (λ n u. next (edges_key W H n u) tested))

    module _ (d : Cursor) (h : o ≡ Ok d) where
      there : opened_of s c (bytes "edges=") ≡ Some d
      there = expected-there s c (bytes "edges=") d (sym e ∙ h)

      line-there : edges_line z ps (place_of s c) ≡ next (judged_line W H ps d.line (edges_cut (cut_line (drop d.at s)))) layered
      line-there = reads ∙ key-there s c (bytes "edges=") d there (λ n u. next (edges_key W H n u) tested) ∙ judged-then d.line (edges_cut (cut_line (drop d.at s)))

-- ---- the value, from c on

module _ (g : Shape) (n : ℕ) (s : List ℕ) (c : Cursor) (ps : List Pin) (w₀ w : List ℕ) where
  -- the text ends there
  pub list-short : length s ≤ c.at → EntriesRead g n s c ps w₀ w (edges_cut (cut_line (drop c.at s))) (Err (Line Form c.line))
  list-short h = rw (drop_of_length-le s {i = c.at} h)

  -- a line without entries
  pub list-empty : get_or s c.at 0 ≡ 10 → (parts : ℕ) → 1 ≤ length ps → Reading g n ps [] parts w₀ w → (r : EdgesRead) → r ≡ verdict_by Fine parts 0 c.at (record { at = c.at + 1; line = c.line })
      → EntriesRead g n s c ps w₀ w (edges_cut (cut_line (drop c.at s))) r
  list-empty h parts some_pin reading r e =
      rw (e, drop-byte s c.at 10 h (omega arith))
      (read-end g n s ps some_pin w₀ w [] c (record { at = c.at + 1; line = c.line }) (record { place = omega (arith, get_d-in s c.at 10 h (omega arith)); lines = refl }) parts 0 refl Fine
      (shown-start g n ps w₀ parts w reading))

  -- a line with entries
  pub list_full : (get_or s c.at 0 ≡ 10 → ⊥) → (r : EdgesRead) → EntriesRead g n s c ps w₀ w (edges_of (drop c.at s)) r → EntriesRead g n s c ps w₀ w (edges_cut (cut_line (drop c.at s))) r
  list_full h r k = rw (edges_some (drop c.at s) (λ q. h (sym (head-drop s c.at) ∙ q))) k

-- ---- the line

module _ (g : Shape) (n : ℕ) (s : List ℕ) (c : Cursor) (o : Outcome Cursor Refusal) (e : o ≡ expected_of s c (bytes "edges=")) (ps : List Pin) (w₀ w : List ℕ) where
  pub read-other : (x : Refusal) → o ≡ Err x → JoinedRead g n s c ps w₀ w (Err x)
  read-other x h = line_other (sizes_of g) ps s c o e x h

  pub read-there : c.at ≤ length s → (b : Cursor) → o ≡ Ok b → (r : EdgesRead) → EntriesRead g n s b ps w₀ w (edges_cut (cut_line (drop b.at s))) r → JoinedRead g n s c ps w₀ w r
  read-there h b t (Err f) k = line-there (sizes_of g) ps s c o e b t ∙ ap (λ (r : Result (List ℕ)). next r (layered (sizes_of g) ps)) k
  read-there h b t (Ok x) k = record {
    from_in = omega (arith, k.0, place-within s c (bytes "edges=") b (there (sizes_of g) ps s c o e b t) h);
    line = record {
      entries = k.1.entries;
      text = ap (λ (m : ℕ). edges_cut (cut_line (drop m s))) k.0 ∙ k.1.text;
      inside = k.1.inside;
      once = k.1.once;
      ring_told = k.1.ring_told;
      reached = k.1.reached;
      count_is = k.1.count_is;
      after = record { place = k.1.after.place; lines = k.1.after.lines ∙ ap (λ (y : Cursor). y.line) (place-is s c (bytes "edges=") b (there (sizes_of g) ps s c o e b t)) };
      reading = k.1.reading;
    };
    left = line-there (sizes_of g) ps s c o e b t
        ∙ ap (λ (r : Result (List ℕ)). next r (layered (sizes_of g) ps)) judged
        ∙ layered-then (sizes_of g) ps (edges_on g k.1.entries) (place_of s x.1);
  }
    where
      judged : judged_line g.w g.h ps b.line (edges_cut (cut_line (drop b.at s))) ≡ found (edges_on g k.1.entries) (place_of s x.1)
      judged = rw (k.1.text, k.1.inside, k.1.once, k.1.reached, k.1.after.lines)

-- ---- the last test

module _ (g : Shape) (n : ℕ) (s : List ℕ) (c : Cursor) (ps : List Pin) (w₀ w : List ℕ) where
  -- a refusal before it is the line's
  pub line_refused : (r : EdgesRead) → JoinedRead g n s c ps w₀ w r → (f : Refusal) → r ≡ Err f → LineRead g n s c ps w₀ w (Err f)
  line_refused r k f q = rw q at k

  module _ (r : EdgesRead) (k : JoinedRead g n s c ps w₀ w r) (e : Edges) (d : Cursor) (q : r ≡ Ok (e, d)) where
    joined-found : JoinedFound g n s c ps w₀ w e d
    joined-found = rw q at k

    entries_at : EntriesAt g s e joined-found.line.entries
    entries_at = record {
      rest = drop d.at s;
      there = joined-found.line.text;
      inside = joined-found.line.inside;
      count = joined-found.line.count_is ∙ length-map joined-found.line.entries (edge_at g.w g.h);
    }

    module _ (b : Bool) (served : (ts : List Triple) → EntriesAt g s e ts → b ≡ all (has_layer (sizes_of g)) (edges_on g ts)) where
      layers-are : all (has_layer (sizes_of g)) (edges_on g joined-found.line.entries) ≡ b
      layers-are = sym (served joined-found.line.entries entries_at)

      -- every edge has a layer
      pub line-served : b ≡ true → LineRead g n s c ps w₀ w (Ok (e, d))
      line-served t = record {
        from_in = joined-found.from_in;
        line = joined-found.line;
        is = joined-found.left ∙ rw (layers-are ∙ t);
      }

      -- some edge has none
      pub line-unserved : b ≡ false → LineRead g n s c ps w₀ w (Err (Line NoLayer d.line))
      line-unserved t = joined-found.left ∙ rw (layers-are ∙ t)
