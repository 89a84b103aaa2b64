-- What is left of an `edges` line that is read again, entry by entry.
-- Assumes nothing.
use Rattle.std.specs.Prelude.{Some, None, Bool, true, false, List, [], ◌∷◌, ◌++◌, map, ◌≡◌, refl, ℕ, ◌+◌, ◌≤◌, ◌<◌, length, drop, get_or}
use Rattle.std.proofs.Common.{append_assoc, ⊎_elim, sym, ap, ◌∙◌, arith, length-append, drop_of_length-le}
use Rattle.std.proofs.Math.Option.{some}
use Rattle.layout.specs.Shapes.{Shaped}
use Rattle.layout.specs.declared.shape.Shape.{Shape}
use Rattle.model.specs.Grid.{grid_edges}
use Rattle.model.specs.Job.{Net}
use Rattle.model.specs.Lists.{all, has, occurs}
use Rattle.model.specs.Read.{Triple, edge_inside, edge_at}
use Rattle.scan.specs.Edges.{edge-is, edge_told, edge-way}
use Rattle.scan.specs.First.{some-none, front, one_line, all_first}
use Rattle.scan.specs.Pins.{triple}
use Rattle.scan.specs.Places.{drop-byte, head-drop}
use Rattle.scan.specs.Ways.{edges_of, edges-empty, edges_some}
use Rattle.text.specs.Entries.{edge_entry_at}
use Rattle.text.specs.declared.Entry.{Entry}
use Rattle.theory.specs.congestion.Sums.{lt-or-ge, same_refl}
use Rattle.theory.specs.links.Nets.{NetOk}
use Rattle.theory.specs.links.Scores.{few-numbers}
use Rattle.theory.specs.congestion.Tests.{has-false}
use Rattle.theory.specs.walk.Stops.{occurs-append}
use Rattle.net.specs.Table.{EdgesAt}

-- the entries es of the line at p were read, and those at i are left of it
pub record EdgesLeft (s : List ℕ) (W H p i : ℕ) (es : List ℕ) : Type 0 where
  pub entries : List Triple
  pub rest : List ℕ
  pub there : edges_of (drop i s) ≡ some (entries, rest)
  pub inside : all (edge_inside W H) entries ≡ true
  pub whole : (net : Net) → EdgesAt s W H p net → es ++ map (edge_at W H) entries ≡ net.entries

-- the next entry of the line, inside the grid
pub record EdgeNext (s : List ℕ) (W H p : ℕ) (es : List ℕ) (t : Triple) : Type 0 where
  pub inside : edge_inside W H t ≡ true
  pub way : t.third ≤ 1
  pub whole : (net : Net) → EdgesAt s W H p net → (us : List ℕ) × (es ++ (edge_at W H t ∷ us) ≡ net.entries)

-- some net's entries stand at p: no edge twice
pub record EdgesThere (s : List ℕ) (g : Shape) (p : ℕ) : Type 0 where
  pub net : Net
  pub edges : EdgesAt s g.w g.h p net
  pub once : (e : ℕ) → occurs e net.entries ≤ 1
  pub few : length net.entries ≤ g.e

-- a net that the reading let pass has no more entries than there are edges
pub entries-few : (g : Shape) → Shaped g → (net : Net) → NetOk g.w g.h g.k net → length net.entries ≤ g.e
entries-few g shaped net ok = omega (arith, few-numbers (grid_edges g.w g.h) net.entries ok.entries_known ok.entries_once, shaped.e_is)

-- so its entries are such
pub edges-there : (s : List ℕ) (g : Shape) (p : ℕ) → Shaped g → (net : Net) → EdgesAt s g.w g.h p net → NetOk g.w g.h g.k net → EdgesThere s g p
edges-there s g p shaped net at ok = record {
  net = net;
  edges = at;
  once = ok.entries_once;
  few = entries-few g shaped net ok;
}

-- the next edge is not among those read, and these are fewer than there are edges
module _ (s : List ℕ) (g : Shape) (p : ℕ) (es : List ℕ) (t : Triple) (there : EdgesThere s g p) (next : EdgeNext s g.w g.h p es t) where
  abbrev edge : ℕ
  edge = edge_at g.w g.h t

  after : (us : List ℕ) × (es ++ (edge_at g.w g.h t ∷ us) ≡ there.net.entries)
  after = next.whole there.net there.edges

  pub next-new : has es (edge_at g.w g.h t) ≡ false
  next-new =
      has-false es edge
      (omega (
        arith,
        there.once edge,
        ap (occurs edge) after.1,
        occurs-append edge es (edge ∷ after.0),
        same_refl edge,
      ))

  pub next-room : length es < g.e
  next-room = omega (arith, there.few, ap length after.1, length-append es (edge ∷ after.0))

module _ (s : List ℕ) (W H p : ℕ) where
  module _ (net : Net) (at : EdgesAt s W H p net) where
    pub edges-place : p < length s
    edges-place = ⊎_elim (λ h. h) (λ h. some-none (at.entries, at.rest) (sym at.there ∙ rw (drop_of_length-le s {i = p} h))) (lt-or-ge p (length s))

    -- a line without entries
    pub edges_none : get_or s p 0 ≡ 10 → net.entries ≡ []
    edges_none e =
        sym at.are
        ∙ ap (map (edge_at W H)) (one_line at.entries [] at.rest (drop (p + 1) s) (sym at.there ∙ rw (drop-byte s p 10 e (omega arith)) (edges-empty (drop (p + 1) s))))

    pub left-start : (get_or s p 0 ≡ 10 → ⊥) → EdgesLeft s W H p p []
    left-start h = record {
      entries = at.entries;
      rest = at.rest;
      there = sym (edges_some (drop p s) (λ e. h (sym (head-drop s p) ∙ e))) ∙ at.there;
      inside = at.inside;
      whole = λ n k. ap (map (edge_at W H)) (one_line at.entries k.entries at.rest k.rest (sym at.there ∙ k.there)) ∙ k.are;
    }

  -- ---- the entry at i

  module _ (i : ℕ) (es : List ℕ) (left : EdgesLeft s W H p i es) where
    pub left-bad : {A : Type 0} → None ≡ edge_entry_at s i → A
    left-bad e = some-none (left.entries, left.rest) (sym left.there ∙ edge-is s i None e)

    module _ (k : Entry) (is : Some k ≡ edge_entry_at s i) where
      abbrev here : Triple
      here = triple k.x k.y k.third

      last-only : k.last ≡ true → left.entries ≡ triple k.x k.y k.third ∷ []
      last-only e = one_line left.entries (here ∷ []) left.rest (drop k.next s) (sym left.there ∙ edge_told s i k is true e)

      pub last-whole : k.last ≡ true → (net : Net) → EdgesAt s W H p net → es ++ (edge_at W H (triple k.x k.y k.third) ∷ []) ≡ net.entries
      last-whole e net at = ap (λ (ts : List Triple). es ++ map (edge_at W H) ts) (sym (last-only e)) ∙ left.whole net at

      pub last-next : k.last ≡ true → EdgeNext s W H p es (triple k.x k.y k.third)
      last-next e = record {
        inside = (all_first (edge_inside W H) here [] (ap (all (edge_inside W H)) (sym (last-only e)) ∙ left.inside)).0;
        way = edge-way s i (Some k) is;
        whole = λ net at. ([], last-whole e net at);
      }

      more-front : k.last ≡ false → (us : List Triple) × (edges_of (drop k.next s) ≡ some (us, left.rest)) × (left.entries ≡ triple k.x k.y k.third ∷ us)
      more-front e = front here (edges_of (drop k.next s)) left.entries left.rest (sym left.there ∙ (edge_told s i k is false e).0)

      more-passes : (e : k.last ≡ false) → (edge_inside W H (triple k.x k.y k.third) ≡ true) × (all (edge_inside W H) (more-front e).0 ≡ true)
      more-passes e = all_first (edge_inside W H) here (more-front e).0 (ap (all (edge_inside W H)) (sym (more-front e).2) ∙ left.inside)

      pub more-next : k.last ≡ false → EdgeNext s W H p es (triple k.x k.y k.third)
      more-next e = record {
        inside = (more-passes e).0;
        way = edge-way s i (Some k) is;
        whole = λ net at.
            (map (edge_at W H) (more-front e).0, ap (λ (ts : List Triple). es ++ map (edge_at W H) ts) (sym (more-front e).2) ∙ left.whole net at);
      }

      pub left-next : EdgeNext s W H p es (triple k.x k.y k.third)
      left-next = go k.last refl
        where
          go : (q : Bool) → k.last ≡ q → EdgeNext s W H p es (triple k.x k.y k.third)
          go true e = last-next e
          go false e = more-next e

      pub more_left : k.last ≡ false → EdgesLeft s W H p k.next (es ++ (edge_at W H (triple k.x k.y k.third) ∷ []))
      more_left e =
          let f = more-front e in
          record {
            entries = f.0;
            rest = left.rest;
            there = f.1;
            inside = (more-passes e).1;
            whole = λ net at.
                append_assoc es (edge_at W H here ∷ []) (map (edge_at W H) f.0)
                ∙ ap (λ (ts : List Triple). es ++ map (edge_at W H) ts) (sym f.2)
                ∙ left.whole net at;
          }

      pub more-place : k.last ≡ false → (i < k.next) × (k.next ≤ length s)
      more-place e = let t = edge_told s i k is false e in (t.1, t.2)
