-- The turns of the loop over the entries of a line, and the verdict at its end.
-- Assumes nothing.
use mathlib.Core.Bool.{Bool, true, false, cond}
use mathlib.Core.List.{List, [], ◌∷◌, ◌++◌}
use mathlib.Core.Option.{some}
use mathlib.Core.Path.{◌≡◌, refl, sym, ◌∙◌}
use Prim.Native.Nat.{ℕ, ◌+◌, ◌≤◌}
use native.Mathlib.Omega.{arith}
use borrow.Author.Tests.{eqb-true}
use lib.Dec.{eqb}
use lib.ListN.{length, drop, length-append, length-map}
use Rattle.std.specs.Prelude.{Some, None, Ok, Err}
use Rattle.layout.specs.Shapes.{Shaped}
use Rattle.layout.specs.declared.shape.Shape.{Shape}
use Rattle.marks.specs.Words.{most_stamp}
use Rattle.model.specs.Job.{Pin}
use Rattle.model.specs.Lists.{all, twice}
use Rattle.model.specs.Read.{refused, found, Triple, edge_inside, edge_at}
use Rattle.model.specs.Tree.{ring, joined}
use Rattle.scan.specs.Pins.{triple}
use Rattle.scan.specs.Ways.{edges_of}
use Rattle.lines.specs.Told.{After}
use Rattle.text.specs.Entries.{edge_entry_at}
use Rattle.text.specs.declared.Cursor.{Cursor}
use Rattle.text.specs.declared.Entry.{Entry}
use Rattle.text.specs.declared.Fault.TheVariants.{Form, Apart}
use Rattle.text.specs.declared.Refusal.TheVariants.{Line}
use Rattle.theory.specs.links.Counted.{counted-joined}
use Rattle.theory.specs.links.Roots.{ring-none}
use Rattle.edges.specs.Entries.{before, before-none, entry-fits, text-bad, text-last, text-more, place-more}
use Rattle.edges.specs.Line.{EdgesRead, judged_line, reached_by, verdict_by, verdict_of, EntriesRead}
use Rattle.edges.specs.Reading.{Reading, Few, Begun, Going, Shown, GoesOn, Ready, edges_on}
use Rattle.edges.specs.declared.Judged.{Judged}
use Rattle.edges.specs.declared.Judged.TheVariants.{Fine, Ring, Twice, Range}
use Rattle.edges.specs.declared.Seen.{Seen}
use Rattle.edges.proofs.Turns.{shown-ready}

-- ---- the verdict

module _ (g : Shape) (n : ℕ) (s : List ℕ) (ps : List Pin) (some_pin : 1 ≤ length ps) (w₀ w : List ℕ) (ts : List Triple) (c d : Cursor) (after : After (length s) c.line d) (parts entries : ℕ) (entries_are : entries ≡ length ts) where
  abbrev l : ℕ
  l = d.line

  judged-by : (p q u : Bool) → all (edge_inside g.w g.h) ts ≡ p → twice eqb (edges_on g ts) ≡ q → joined g.w g.h ps (edges_on g ts) ≡ u
      → judged_line g.w g.h ps c.line (some (ts, drop d.at s))
      ≡ cond p (cond q (refused 6 l) (cond u (found (edges_on g ts) (record { line = l; rest = drop d.at s })) (refused 8 l))) (refused 3 l)
  judged-by p q u a b f = rw (sym after.lines, a, b, f)

  reached-is : (qs : List Pin) → 1 ≤ length qs → Reading g n qs (edges_on g ts) parts w₀ w → eqb parts 1 ≡ joined g.w g.h qs (edges_on g ts)
  reached-is [] h r = absurd (omega arith)
  reached-is (q ∷ qs) h r = counted-joined g.w g.h g.t _ _ parts q qs (edges_on g ts) r.counted

  -- the marks went on to the end: reach decides, with a ring or without
  reach-end : (ringed : Bool) → Going g n ps w₀ ts parts w → ring g.w g.h (edges_on g ts) ≡ ringed
      → EntriesRead g n s c ps w₀ w (some (ts, drop d.at s)) (reached_by parts entries c.at d ringed)
  reach-end ringed k told = go (eqb parts 1) refl
    where
      go : (q : Bool) → eqb parts 1 ≡ q
          → EntriesRead g n s c ps w₀ w (some (ts, drop d.at s)) (cond q (Ok (record { from = c.at; entries = entries; ring = ringed }, d)) (Err (Line Apart d.line)))
      go true e = (
        refl,
        record {
          entries = ts;
          text = refl;
          inside = k.inside;
          once = k.once;
          ring_told = told;
          reached = sym (reached-is ps some_pin k.reading) ∙ e;
          count_is = entries_are ∙ sym (length-map ts (edge_at g.w g.h));
          after = after;
          reading = rw (eqb-true parts 1 e) at k.reading;
        },
      )
      go false e = judged-by true false false k.inside k.once (sym (reached-is ps some_pin k.reading) ∙ e)

  pub read-end : (j : Judged) → Shown g n ps w₀ ts parts w j → EntriesRead g n s c ps w₀ w (some (ts, drop d.at s)) (verdict_by j parts entries c.at d)
  read-end Fine k = reach-end false k.0 k.1
  read-end Ring k = reach-end true k.0 k.1
  read-end Twice k = judged-by true true (joined g.w g.h ps (edges_on g ts)) k.0 k.1 refl
  read-end Range k = judged-by false (twice eqb (edges_on g ts)) (joined g.w g.h ps (edges_on g ts)) k refl refl

-- ---- the loop

pub shown-start : (g : Shape) (n : ℕ) (ps : List Pin) (w₀ : List ℕ) (parts : ℕ) (w : List ℕ) → Reading g n ps [] parts w₀ w → Shown g n ps w₀ [] parts w Fine
shown-start g n ps w₀ parts w r = (record { inside = refl; once = refl; reading = r }, ring-none g.w g.h)

-- The entries from c up to i are read, and v is what they have shown. w₀ are the working numbers as they were before the line.
pub record Passed (g : Shape) (n parts : ℕ) (s : List ℕ) (c : Cursor) (w₀ w : List ℕ) (i : ℕ) (v : Seen) : Type 0 where
  pub long : length w ≡ length w₀
  pub place : v.entries + c.at ≤ i
  pub few : v.entries ≤ length s
  pub entries : List Triple
  pub text : edges_of (drop c.at s) ≡ before entries (edges_of (drop i s))
  pub count : v.entries ≡ length entries
  pub shown : (ps : List Pin) (b : List ℕ) → 1 ≤ length ps → Reading g n ps [] parts b w₀ → Shown g n ps b entries v.parts w v.judged

module _ (g : Shape) (n parts : ℕ) (s : List ℕ) (c : Cursor) (w₀ : List ℕ) where
  pub passed_start : Passed g n parts s c w₀ w₀ c.at (record { entries = 0; parts = parts; judged = Fine })
  passed_start = record {
    long = refl;
    place = omega arith;
    few = omega arith;
    entries = [];
    text = before-none (edges_of (drop c.at s));
    count = refl;
    shown = λ ps b h r. shown-start g n ps b parts w₀ r;
  }

  module _ (w : List ℕ) (i : ℕ) (v : Seen) (passed : Passed g n parts s c w₀ w i v) where
    pub passed-ready : Shaped g → n ≤ most_stamp → Few g n w₀ → Begun g n parts w₀ → GoesOn v.judged → Ready g n v.parts w
    passed-ready shaped small few begun on =
        shown-ready g n begun.0 w₀ passed.entries v.parts w shaped small begun.1 few v.judged (passed.shown begun.0 w₀ begun.1 begun.2) on

    pub passed-bad : None ≡ edge_entry_at s i → (ps : List Pin) (b : List ℕ) → EntriesRead g n s c ps b w (edges_of (drop c.at s)) (Err (Line Form c.line))
    passed-bad e ps b = rw (text-bad s c.at i passed.entries passed.text e)

    -- one entry more
    module _ (k : Entry) (is : Some k ≡ edge_entry_at s i) (w' : List ℕ) (v' : Seen) (long : length w' ≡ length w) (one_more : v'.entries ≡ v.entries + 1)
        (shown : (ps : List Pin) (b : List ℕ) (ts : List Triple) → Shown g n ps b ts v.parts w v.judged → Shown g n ps b (ts ++ (triple k.x k.y k.third ∷ [])) v'.parts w' v'.judged) where
      abbrev here : Triple
      here = triple k.x k.y k.third

      counts : v'.entries ≡ length (passed.entries ++ (triple k.x k.y k.third ∷ []))
      counts = omega (arith, passed.count, length-append passed.entries (here ∷ []))

      pub passed-more : k.last ≡ false → Passed g n parts s c w₀ w' k.next v'
      passed-more e =
          let p = place-more s c.at i passed.entries passed.text k is e in
          let q = entry-fits s i (Some k) is in
          record {
            long = long ∙ passed.long;
            place = omega (arith, p, passed.place);
            few = omega (arith, p, q.1, passed.place);
            entries = passed.entries ++ (here ∷ []);
            text = text-more s c.at i passed.entries passed.text k is e;
            count = counts;
            shown = λ ps b h r. shown ps b passed.entries (passed.shown ps b h r);
          }

      pub passed-last : k.last ≡ true → (r : EdgesRead) → r ≡ verdict_of v' c.at (record { at = k.next; line = c.line }) → (ps : List Pin) (b : List ℕ) → 1 ≤ length ps → Reading g n ps [] parts b w₀
          → EntriesRead g n s c ps b w' (edges_of (drop c.at s)) r
      passed-last e r h ps b some_pin reading =
          rw (h, text-last s c.at i passed.entries passed.text k is e)
          (read-end g n s ps some_pin b w' (passed.entries ++ (here ∷ [])) c (record { at = k.next; line = c.line })
          (record { place = (entry-fits s i (Some k) is).1; lines = refl }) v'.parts v'.entries counts v'.judged
          (shown ps b passed.entries (passed.shown ps b some_pin reading)))
