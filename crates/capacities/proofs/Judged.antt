-- A line of capacities that was read and stored, judged by the way of its layer: "12, on a capacity line, after 3, a nonzero capacity on a layer that runs the
-- other way".
-- Assumes nothing.
use mathlib.Core.Path.{◌≡◌, refl, sym, ap, ◌∙◌}
use mathlib.Core.Bool.{Bool, true, false, ◌||◌, cond}
use mathlib.Core.List.{List}
use Prim.Native.Nat.{ℕ, zero, suc, ◌+◌, ◌-◌, ◌*◌, ◌≤◌, ◌<◌}
use native.Mathlib.Nat.{not-suc-le-zero}
use native.Mathlib.Numerals.{sub-one}
use native.Mathlib.Omega.{arith}
use borrow.Author.Tests.{eq-eqb, ne_eqb}
use lib.Dec.{T, leb, eqb, eqb→eq}
use lib.ListN.{length, get_or}
use Rattle.std.specs.Prelude.{Ok, Err, Result as Outcome}
use Rattle.model.specs.Limits.{most_capacity}
use Rattle.model.specs.Lists.{all}
use Rattle.model.specs.Read.{Place, Result, refused, found, next, form, need}
use Rattle.model.specs.Text.{numbers}
use Rattle.theory.specs.links.Reading.{Gives, CapsOk, any-gives, need-gives, then-gives}
use Rattle.text.specs.Refusals.{place_of}
use Rattle.text.specs.declared.Cursor.{Cursor}
use Rattle.text.specs.declared.Refusal.{Refusal}
use Rattle.lines.specs.Keyed.{line_by}
use Rattle.lines.specs.Told.{mapped, refused_by}
use Rattle.capacities.specs.Capacities.{column}
use Rattle.capacities.specs.Reads.{capacity_line_by, zeros, judged_by, judged_line_by}
use Rattle.capacities.specs.Spread.{spread, Room}
use Rattle.capacities.specs.Told.{list_told}
use Rattle.capacities.proofs.Spreads.{spread-column}

-- either test
pub first-true : (a b : Bool) → a ≡ true → (a || b) ≡ true
first-true a b h = rw h

pub either_true : (a b : Bool) → b ≡ true → (a || b) ≡ true
either_true true b h = refl
either_true false b h = h

pub neither-true : (a b : Bool) → a ≡ false → b ≡ false → (a || b) ≡ false
neither-true true b g h = g
neither-true false b g h = h

-- ---- a column, number after number

module _ (k : ℕ) (w : List ℕ) where
  pub zeros-none : (at left : ℕ) → left ≤ 0 → zeros (column k w at left) ≡ true
  zeros-none at zero h = refl
  zeros-none at (suc n) h = absurd (not-suc-le-zero h)

  pub zeros-end : (at left : ℕ) → 0 < left → (get_or w at 0 ≡ 0 → ⊥) → zeros (column k w at left) ≡ false
  zeros-end at zero h n = absurd (not-suc-le-zero h)
  zeros-end at (suc m) h n = rw (ne_eqb (get_or w at 0) 0 n)

  pub zeros-next : (at left : ℕ) → 0 < left → get_or w at 0 ≡ 0 → zeros (column k w at left) ≡ zeros (column k w (at + k) (left - 1))
  zeros-next at zero h e = absurd (not-suc-le-zero h)
  zeros-next at (suc m) h e = rw (eq-eqb (get_or w at 0) 0 e, sub-one)

-- ---- the line

-- what was read has the right length
pub caps-give-by : (key : List ℕ) (size : ℕ) (p : Place) → Gives (CapsOk size) (capacity_line_by key size p)
unfolding capacity_line_by
caps-give-by key size p =
    then-gives (λ v. Unit {0}) (CapsOk size) (line_by key p) _ (any-gives (line_by key p))
    (λ v p1 u1.
    then-gives (λ cs. Unit {0}) (CapsOk size) (form 2 (numbers v) p1) _ (any-gives (form 2 (numbers v) p1))
    (λ cs p2 u2.
    then-gives (λ u. T (eqb (length cs) size)) (CapsOk size) (need 2 (eqb (length cs) size) p2) _ (need-gives 2 (eqb (length cs) size) p2)
    (λ u3 p3 t3.
    then-gives (λ u. T (all (λ c. leb c most_capacity) cs)) (CapsOk size) (need 3 (all (λ c. leb c most_capacity) cs) p3) _ (need-gives 3 (all (λ c. leb c most_capacity) cs) p3)
    (λ u4 p4 t4. (eqb→eq (length cs) size t3, t4)))))

-- the code has read and stored the line: its answer is r, and the working numbers are x
module _ (s x : List ℕ) (k : ℕ) (w : List ℕ) (to size : ℕ) (room : Room k to size (length w)) (key : List ℕ) (along : Bool) (p : Place) (r : Outcome Cursor Refusal)
    (e : list_told s x r ≡ mapped (spread k w to) (capacity_line_by key size p)) where
  -- a line that is refused by itself stays so
  pub judged-refused : (z : Refusal) → r ≡ Err z → refused_by z ≡ mapped (spread k w to) (judged_line_by key size along p)
  unfolding judged_line_by
  judged-refused z f = go (capacity_line_by key size p) (sym (ap (list_told s x) f) ∙ e)
    where
      go : (R : Result (List ℕ)) → refused_by z ≡ mapped (spread k w to) R → refused_by z ≡ mapped (spread k w to) (next R (judged_by along))
      go (refused n l) h = h
      go (found cs q) h = absurd (let y : ◌≡◌ {A = ℕ} 0 1 = cc in omega arith)

  -- and else the numbers stand in their column
  module _ (d : Cursor) (f : r ≡ Ok d) where
    stored : (R : Result (List ℕ)) → Gives (CapsOk size) R → found x (place_of s d) ≡ mapped (spread k w to) R → (b : Bool) → (along || zeros (column k x to size)) ≡ b
        → mapped (spread k w to) (next R (judged_by along)) ≡ cond b (found x (place_of s d)) (refused 12 d.line)
    stored (refused n l) g h b t = absurd (let y : ◌≡◌ {A = ℕ} 0 1 = cc in omega arith)
    stored (found cs q) g h b t = rw (same_test b t) (by b)
      where
        numbers-are : x ≡ spread k w to cs
        numbers-are = cc

        place_is : place_of s d ≡ q
        place_is = cc

        column-is : column k x to size ≡ cs
        column-is =
            ap (λ (v : List ℕ). column k v to size) numbers-are
            ∙ ap (λ (m : ℕ). column k (spread k w to cs) to m) (sym g.0)
            ∙ spread-column k w to cs room.apart (omega (arith, room.room, ap (λ (m : ℕ). m * k) g.0))

        same_test : (c : Bool) → (along || zeros (column k x to size)) ≡ c → (along || zeros cs) ≡ c
        same_test c u = ap (λ (v : List ℕ). along || zeros v) (sym column-is) ∙ u

        by : (c : Bool) → mapped (spread k w to) (next (need 12 c q) (λ u t. found cs t)) ≡ cond c (found x (place_of s d)) (refused 12 d.line)
        by true = rw (numbers-are, place_is)
        by false = ap (λ (o : Place). refused 12 o.line) (sym place_is)

    pub judged-fine : (along || zeros (column k x to size)) ≡ true → found x (place_of s d) ≡ mapped (spread k w to) (judged_line_by key size along p)
    unfolding judged_line_by
    judged-fine t = sym (stored (capacity_line_by key size p) (caps-give-by key size p) (sym (ap (list_told s x) f) ∙ e) true t)

    pub judged-closed : (along || zeros (column k x to size)) ≡ false → refused 12 d.line ≡ mapped (spread k w to) (judged_line_by key size along p)
    unfolding judged_line_by
    judged-closed t = sym (stored (capacity_line_by key size p) (caps-give-by key size p) (sym (ap (list_told s x) f) ∙ e) false t)
