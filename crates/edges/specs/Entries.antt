-- The entries of an `edges` line as they are read from left to right.
-- Assumes nothing.
use Rattle.std.specs.Prelude.{Option, Some, None, Bool, true, false, cond, List, [], ◌∷◌, ◌++◌, ◌≡◌, refl, ℕ, ◌+◌, ◌≤◌, ◌<◌, eqb, length, drop, get_or}
use Rattle.std.proofs.Common.{append_assoc, sym, ap, ◌∙◌, arith, eqb-true}
use Rattle.std.proofs.Math.Option.{none, some}
use Rattle.model.specs.Read.{Triple}
use Rattle.scan.specs.Edges.{edge-is, edge_told}
use Rattle.scan.specs.Lines.{Lined, cons_to}
use Rattle.scan.specs.Pins.{triple}
use Rattle.scan.specs.Places.{get_d-in}
use Rattle.scan.specs.Ways.{edges_of}
use Rattle.text.specs.Entries.{on_number, comma_at, entry, broken, edge_entry_at}
use Rattle.text.specs.declared.Entry.{Entry}
use Rattle.text.specs.declared.Numeral.{Numeral}

-- the entries ts, and then those of a line
abbrev pub before : List Triple → Lined → Lined
before ts none = none
before ts (some c) = some (ts ++ c.0, c.1)

pub before-none : (r : Lined) → r ≡ before [] r
before-none none = refl
before-none (some c) = refl

before-one : (ts : List Triple) (t : Triple) (r : Lined) → before ts (cons_to (some t) r) ≡ before (ts ++ (t ∷ [])) r
before-one ts t none = refl
before-one ts t (some c) = ap (λ (l : List Triple). some (l, c.1)) (sym (append_assoc ts (t ∷ []) c.0))

-- ---- an entry goes east or north, and the place after it is in the text

abbrev pub Entered : List ℕ → Option Entry → Type 0
Entered s (Some e) = (e.third ≤ 1) × (e.next ≤ length s)
Entered s None = Unit {0}

broken-entered : (s : List ℕ) (x y d n : ℕ) → d ≤ 1 → Entered s (broken s x y d n)
broken-entered s x y d n h = go (eqb (get_or s n 0) 59) (eqb (get_or s n 0) 10) refl refl
  where
    go : (p q : Bool) → eqb (get_or s n 0) 59 ≡ p → eqb (get_or s n 0) 10 ≡ q → Entered s (cond p (Some (entry x y d (n + 1) false)) (cond q (Some (entry x y d (n + 1) true)) None))
    go true q a b = (h, omega (arith, get_d-in s n 59 (eqb-true (get_or s n 0) 59 a) (omega arith)))
    go false true a b = (h, omega (arith, get_d-in s n 10 (eqb-true (get_or s n 0) 10 b) (omega arith)))
    go false false a b = tt

entered : (s : List ℕ) (i : ℕ) → Entered s (edge_entry_at s i)
unfolding edge_entry_at
entered s i = first (comma_at s i)
  where
    way : (x y q : ℕ) (a b : Bool) → Entered s (cond a (broken s x y 0 (q + 1)) (cond b (broken s x y 1 (q + 1)) None))
    way x y q true b = broken-entered s x y 0 (q + 1) (omega arith)
    way x y q false true = broken-entered s x y 1 (q + 1) (omega arith)
    way x y q false false = tt

    second : (x : ℕ) (m : Option Numeral)
        → Entered s (on_number m (λ y q. cond (eqb (get_or s q 0) 101) (broken s x y 0 (q + 1)) (cond (eqb (get_or s q 0) 110) (broken s x y 1 (q + 1)) None)) None)
    second x None = tt
    second x (Some n) = way x n.value n.next (eqb (get_or s n.next 0) 101) (eqb (get_or s n.next 0) 110)

    first : (m : Option Numeral)
        → Entered s
        (on_number m
        (λ x p. on_number (comma_at s p) (λ y q. cond (eqb (get_or s q 0) 101) (broken s x y 0 (q + 1)) (cond (eqb (get_or s q 0) 110) (broken s x y 1 (q + 1)) None)) None)
        None)
    first None = tt
    first (Some n) = second n.value (comma_at s n.next)

pub entry-fits : (s : List ℕ) (i : ℕ) (e : Option Entry) → e ≡ edge_entry_at s i → Entered s e
entry-fits s i e h = rw h (entered s i)

-- ---- by what stands at the place

module _ (s : List ℕ) (at i : ℕ) (ts : List Triple) (so_far : edges_of (drop at s) ≡ before ts (edges_of (drop i s))) where
  pub text-bad : None ≡ edge_entry_at s i → edges_of (drop at s) ≡ none
  text-bad e = so_far ∙ ap (before ts) (edge-is s i None e)

  module _ (k : Entry) (is : Some k ≡ edge_entry_at s i) where
    pub text-last : k.last ≡ true → edges_of (drop at s) ≡ some (ts ++ (triple k.x k.y k.third ∷ []), drop k.next s)
    text-last e = so_far ∙ ap (before ts) (edge_told s i k is true e)

    pub text-more : k.last ≡ false → edges_of (drop at s) ≡ before (ts ++ (triple k.x k.y k.third ∷ [])) (edges_of (drop k.next s))
    text-more e = so_far ∙ ap (before ts) (edge_told s i k is false e).0 ∙ before-one ts (triple k.x k.y k.third) (edges_of (drop k.next s))

    pub place-more : k.last ≡ false → i < k.next
    place-more e = (edge_told s i k is false e).1
