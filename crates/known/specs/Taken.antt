-- A loop over the entries of an `edges` line that is read again: what holds of those that it has taken.
-- Assumes nothing.
use Rattle.std.specs.Prelude.{Some, true, false, List, [], ◌∷◌, ◌++◌, ◌≡◌, ℕ, ◌≤◌, ◌<◌, length, get_or}
use Rattle.std.proofs.Common.{sym, subst, ap, ◌∙◌}
use Rattle.std.proofs.lemmas.Bool.{not-true, not-false}
use Rattle.std.specs.Iterator.{IsFinite}
use Rattle.layout.specs.Shapes.{Shaped}
use Rattle.layout.specs.declared.shape.Shape.{Shape}
use Rattle.model.specs.Job.{Net}
use Rattle.model.specs.Lists.{has}
use Rattle.model.specs.Read.{Triple, edge_inside}
use Rattle.net.specs.Left.{EdgesLeft, EdgeNext, EdgesThere, next-new, next-room, left-start, left-next, last-whole, more_left}
use Rattle.net.specs.Table.{EdgesAt}
use Rattle.scan.specs.Inside.{false-true}
use Rattle.scan.specs.Pins.{triple}
use Rattle.text.specs.Entries.{edge_entry_at}
use Rattle.text.specs.declared.Entry.{Entry}
use Rattle.theory.specs.congestion.Sums.{In, in_head}
use Rattle.theory.specs.walk.Stops.{in_right}
use Rattle.ways.specs.Entry.{edge_of}
use Rattle.known.specs.Edges.{AllFrom, CanNext, NextGives, entries_most}
use Rattle.known.specs.declared.Edges.{Edges}

-- P holds of the entries of the line at p that were taken, and t gives the others
pub record Taken (s : List ℕ) (g : Shape) (p : ℕ) (t : Edges) (P : List ℕ → Type 0) : Type 0 where
  pub so_far : List ℕ
  pub text : t.text.now ≡ s
  pub left : t.more ≡ true → EdgesLeft s g.w g.h p t.at so_far
  pub whole : t.more ≡ false → (net : Net) → EdgesAt s g.w g.h p net → so_far ≡ net.entries
  pub holds : P so_far

-- the invariant of such a loop: t can go on and ends, too
abbrev pub Taking : List ℕ → Shape → ℕ → Edges → (List ℕ → Type 0) → Type 0
Taking s g p t P = CanNext t × IsFinite (entries_most t) × Taken s g p t P

module _ {s : List ℕ} {g : Shape} {p : ℕ} (shaped : Shaped g) where
  taking : {t : Edges} {P : List ℕ → Type 0} → Taken s g p t P → Taking s g p t P
  taking now = ((λ m. rw now.text (record { grid = g; shaped = shaped; line = p; so_far = now.so_far; left = now.left m })), tt, now)

  pub taken_start : EdgesThere s g p → (get_or s p 0 ≡ 10 → ⊥) → {t : Edges} → AllFrom s p t → {P : List ℕ → Type 0} → P [] → Taking s g p t P
  taken_start there h {t} is x =
      taking (record {
        so_far = [];
        text = is.0;
        left = λ m. rw is.1 (left-start s g.w g.h p there.net there.edges h);
        whole = λ m. absurd (false-true (sym m ∙ is.2));
        holds = x;
      })

module _ {s : List ℕ} {g : Shape} {p : ℕ} where
  module _ {t : Edges} {P : List ℕ → Type 0} (now : Taken s g p t P) where
    -- none is left
    pub taken_all : t.more ≡ false → (net : Net) → EdgesAt s g.w g.h p net → P net.entries
    taken_all m net at = subst P (now.whole m net at) now.holds

    -- the entry that comes, and what is left then
    module _ (k : Entry) (u : Edges) (gives : NextGives t (Some k) u) where
      abbrev entry : Triple
      entry = triple k.x k.y k.third

      here : EdgesLeft s g.w g.h p t.at now.so_far
      here = now.left gives.0

      is : Some k ≡ edge_entry_at s t.at
      is = gives.1 ∙ ap (λ (x : List ℕ). edge_entry_at x t.at) now.text

      next : EdgeNext s g.w g.h p now.so_far (triple k.x k.y k.third)
      next = left-next s g.w g.h p t.at now.so_far here k is

      pub taken-inside : (k.third ≤ 1) × (edge_inside g.w g.h (triple k.x k.y k.third) ≡ true)
      taken-inside = (next.way, next.inside)

      pub taken-new : EdgesThere s g p → has now.so_far (edge_of g (triple k.x k.y k.third)) ≡ false
      taken-new there = next-new s g p now.so_far entry there next

      pub taken_in : (net : Net) → EdgesAt s g.w g.h p net → In (edge_of g (triple k.x k.y k.third)) net.entries
      taken_in net at =
          let u = next.whole net at in
          subst (In (edge_of g entry)) u.1 (in_right (edge_of g entry) now.so_far (edge_of g entry ∷ u.0) (in_head (edge_of g entry) u.0))

      pub taken-room : EdgesThere s g p → length now.so_far < g.e
      taken-room there = next-room s g p now.so_far entry there next

      pub taken_more : Shaped g → {Q : List ℕ → Type 0} → Q (now.so_far ++ (edge_of g (triple k.x k.y k.third) ∷ [])) → Taking s g p u Q
      taken_more shaped x =
          taking shaped (record {
            so_far = now.so_far ++ (edge_of g entry ∷ []);
            text = gives.2 ∙ now.text;
            left = λ m. rw gives.3 (more_left s g.w g.h p t.at now.so_far here k is (not-true k.last (sym gives.4 ∙ m)));
            whole = λ m. last-whole s g.w g.h p t.at now.so_far here k is (not-false k.last (sym gives.4 ∙ m));
            holds = x;
          })
