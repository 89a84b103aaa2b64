-- The line `layers`, judged by the stack's limits.
-- Assumes nothing.
use mathlib.Core.Path.{◌≡◌, refl, sym, ap, ◌∙◌, subst}
use mathlib.Core.Bool.{Bool, true, false, cond}
use Prim.Native.Nat.{ℕ, ◌+◌, ◌≤◌}
use borrow.Author.Tests.{ltb-true, ltb-false}
use lib.Dec.{ltb}
use Rattle.std.specs.Prelude.{Option, Some, None}
use Rattle.model.specs.Read.{Place, Result, refused, found, next, dirs_line}
use Rattle.theory.specs.links.JobText.{option_lines}
use Rattle.text.specs.declared.Cursor.{Cursor}
use Rattle.layout.specs.Dirs.{dirs_of}
use Rattle.layout.specs.Shapes.{stack_of, ShapeOf, sizes_of}
use Rattle.layout.specs.declared.shape.Dirs.{Dirs}
use Rattle.layout.specs.declared.shape.Shape.{Shape}
use Rattle.layout.specs.declared.Stack.{Stack}
use Rattle.lines.specs.Keyed.{key_bytes, number_line_by, ranged_by, ranged-is}
use Rattle.lines.specs.Told.{After}
use Rattle.lines.proofs.Ranges.{range-refused, range-low, range-high, range-in}
use Rattle.head.specs.Reads.{ways_in, stack_in}

-- what a stack that was made says of its layers
pub stack-limits : (k : ℕ) (st : Stack) → stack_of k ≡ Some st → (st.layers ≡ k) × (2 ≤ k) × (k ≤ 8)
stack-limits k st e = go (ltb k 2) (ltb 8 k) refl refl e
  where
    go : (p q : Bool) → ltb k 2 ≡ p → ltb 8 k ≡ q → cond p None (cond q None (Some (record { layers = k }))) ≡ Some st → (st.layers ≡ k) × (2 ≤ k) × (k ≤ 8)
    go true q a b h = cc
    go false true a b h = cc
    go false false a b h = (layers-is, ltb-false k 2 a, ltb-false 8 k b)
      where
        layers-is : st.layers ≡ k
        layers-is = let f : record { layers = k } ≡ st = cc in ap (λ (x : Stack). x.layers) (sym f)

module _ (W H : ℕ) (p : Place) where
  by-range : (r : Result ℕ) → ranged_by (key_bytes "layers") 2 8 p ≡ r → stack_in W H p ≡ next r (ways_in W H)
  unfolding stack_in
  by-range r e = rw (ranged-is "layers" 2 8 p ∙ e)

  pub stack-refused : (n l : ℕ) → number_line_by (key_bytes "layers") p ≡ refused n l → stack_in W H p ≡ refused n l
  stack-refused n l e = by-range (refused n l) (range-refused (key_bytes "layers") 2 8 p n l e)

  module _ (k : ℕ) (q : Place) (e : number_line_by (key_bytes "layers") p ≡ found k q) where
    pub stack-outside : stack_of k ≡ None → stack_in W H p ≡ refused 3 q.line
    stack-outside h = go (ltb k 2) (ltb 8 k) refl refl h
      where
        go : (a b : Bool) → ltb k 2 ≡ a → ltb 8 k ≡ b → ◌≡◌ {A = Option Stack} (cond a None (cond b None (Some (record { layers = k })))) None → stack_in W H p ≡ refused 3 q.line
        go true b x y h = by-range (refused 3 q.line) (range-low (key_bytes "layers") 2 8 p k q e (ltb-true k 2 x))
        go false true x y h = by-range (refused 3 q.line) (range-high (key_bytes "layers") 2 8 p k q e (ltb-false k 2 x) (ltb-true 8 k y))
        go false false x y h = cc

    pub stack-inside : (st : Stack) → stack_of k ≡ Some st → stack_in W H p ≡ ways_in W H st.layers q
    stack-inside st h = by-range (found k q) (range-in (key_bytes "layers") 2 8 p k q e l.1 l.2) ∙ ap (λ (x : ℕ). ways_in W H x q) (sym l.0)
      where
        l : (st.layers ≡ k) × (2 ≤ k) × (k ≤ 8)
        l = stack-limits k st h

-- ---- the line `dirs`, where it stands

module _ (W H K : ℕ) (p : Place) where
  pub ways-refused : (n l : ℕ) → dirs_line K p ≡ refused n l → ways_in W H K p ≡ refused n l
  unfolding ways_in
  ways-refused n l e = rw e

  -- the shape that is made of what was read
  pub ways-found : (d : Option Dirs) (q : Place) (g : Shape) → ShapeOf W H K d g → dirs_line K p ≡ found (dirs_of K d) q → found (sizes_of g) q ≡ ways_in W H K p
  unfolding ways_in
  ways-found d q g s e = rw (e, s.width, s.height, s.layers, s.dirs)

pub ways-hold : (size line K : ℕ) (d : Option Dirs) (W H : ℕ) (g : Shape) (c : Cursor) → ShapeOf W H K d g → After size (line + option_lines (dirs_of K d)) c
    → After size (line + option_lines (dirs_of g.k g.dirs)) c
ways-hold size line K d W H g c s h = rw (s.layers, s.dirs) h
