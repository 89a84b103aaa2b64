-- What an edge entry at a place says of the definitions' reading of the line from there on. Assumes nothing.
use Rattle.std.specs.Prelude.{Option as Maybe, Some, None, ◌≡◌, refl, Bool, true, false, cond, List, [], ◌∷◌, ℕ, ◌+◌, ◌≤◌, ◌<◌, eqb, length, drop, get_or}
use Rattle.std.proofs.Common.{sym, ap, ◌∙◌, arith, eqb-true}
use Rattle.std.proofs.Math.Option.{Option, none, some}
use Rattle.std.proofs.lemmas.Bool.{eqb-false}
use Rattle.model.specs.Text.{number}
use Rattle.model.specs.Read.{Triple, triple_of, three_parts, way}
use Rattle.text.specs.declared.Numeral.{Numeral}
use Rattle.scan.specs.Lines.{Judge, line_of, cons_to, one_to}
use Rattle.scan.specs.Places.{Begins, run, get_d-in, drop-byte, head-drop}
use Rattle.scan.specs.Ways.{Ends, way-bad, way-semicolon, way-newline, way-no-break, edges_of}
use Rattle.text.specs.declared.Entry.{Entry}
use Rattle.text.specs.Entries.{on_number, comma_at, entry, broken, edge_entry_at}
use Rattle.scan.specs.Pins.{triple, CommaSays, comma-says, no_second, no_third}

abbrev edge : Judge
edge = three_parts way

begins-0 : Begins edge
begins-0 = record { wrong = go }
  where
    go : (p : List ℕ) (ps : List (List ℕ)) → number p ≡ none → edge (p ∷ ps) ≡ none
    go p [] e = refl
    go p (a ∷ []) e = refl
    go p (a ∷ b ∷ []) e = rw e
    go p (a ∷ b ∷ c ∷ ps) e = refl

begins-1 : (d : List ℕ) → Begins (λ ps. edge (d ∷ ps))
begins-1 d = record { wrong = go }
  where
    go : (p : List ℕ) (ps : List (List ℕ)) → number p ≡ none → edge (d ∷ p ∷ ps) ≡ none
    go p [] e = refl
    go p (a ∷ []) e = rw e (no_second (number d) (way a))
    go p (a ∷ b ∷ ps) e = refl

ends-2 : (d c : List ℕ) → Ends (λ ps. edge (d ∷ c ∷ ps))
ends-2 d c = record { wrong = λ p e. rw e (no_third (number d) (number c)); more = λ p q ps. refl }

-- an entry with another behind it, or the last of its line
abbrev pub EdgeTold : List ℕ → ℕ → Triple → ℕ → Bool → Type 0
EdgeTold s i t next false = (edges_of (drop i s) ≡ cons_to (some t) (edges_of (drop next s))) × (i < next) × (next ≤ length s)
EdgeTold s i t next true = edges_of (drop i s) ≡ some (t ∷ [], drop next s)

abbrev pub EdgeSays : List ℕ → ℕ → Maybe Entry → Type 0
EdgeSays s i (Some e) = EdgeTold s i (triple e.x e.y e.third) e.next e.last
EdgeSays s i None = edges_of (drop i s) ≡ none

-- a way c, of number d, at q
module _ (s : List ℕ) (i x y q : ℕ) (xs ys : List ℕ) (ex : number xs ≡ some x) (ey : number ys ≡ some y) (iq : i ≤ q)
    (h : edges_of (drop i s) ≡ line_of (λ ps. edge (xs ∷ ys ∷ ps)) edge (drop q s)) where
  way-says : (c d : ℕ) → way (c ∷ []) ≡ some d → get_or s q 0 ≡ c → 0 < c → (c ≡ 44 → ⊥) → (c ≡ 59 → ⊥) → (c ≡ 10 → ⊥) → EdgeSays s i (broken s x y d (q + 1))
  way-says c d w e pos n44 n59 n10 = go (eqb (get_or s (q + 1) 0) 59) (eqb (get_or s (q + 1) 0) 10) refl refl
    where
      one : triple_of (number xs) (number ys) (way (c ∷ [])) ≡ some (triple x y d)
      one = rw (ex, ey, w)

      here : edges_of (drop i s) ≡ line_of (λ ps. edge (xs ∷ ys ∷ ps)) edge (c ∷ drop (q + 1) s)
      here = h ∙ rw (drop-byte s q c e pos)

      go : (t u : Bool) → eqb (get_or s (q + 1) 0) 59 ≡ t → eqb (get_or s (q + 1) 0) 10 ≡ u → EdgeSays s i (cond t (Some (entry x y d (q + 1 + 1) false)) (cond u (Some (entry x y d (q + 1 + 1) true)) None))
      go true u a b = (
        here ∙ rw (drop-byte s (q + 1) 59 (eqb-true (get_or s (q + 1) 0) 59 a) (omega arith)) (way-semicolon (λ ps. edge (xs ∷ ys ∷ ps)) edge (ends-2 xs ys) c n44 n59 n10 (drop (q + 1 + 1) s) ∙ ap (λ (o : Option Triple). cons_to o (edges_of (drop (q + 1 + 1) s))) one),
        omega arith,
        omega (arith, get_d-in s (q + 1) 59 (eqb-true (get_or s (q + 1) 0) 59 a) (omega arith)),
      )
      go false true a b =
          here ∙ rw (drop-byte s (q + 1) 10 (eqb-true (get_or s (q + 1) 0) 10 b) (omega arith)) (way-newline (λ ps. edge (xs ∷ ys ∷ ps)) edge (ends-2 xs ys) c n44 n59 n10 (drop (q + 1 + 1) s) ∙ ap (λ (o : Option Triple). one_to o (drop (q + 1 + 1) s)) one)
      go false false a b =
          here ∙ way-no-break (λ ps. edge (xs ∷ ys ∷ ps)) edge (ends-2 xs ys) c n44 n59 n10 (drop (q + 1) s)
          (λ z. eqb-false (get_or s (q + 1) 0) 59 a (sym (head-drop s (q + 1)) ∙ z)) (λ z. eqb-false (get_or s (q + 1) 0) 10 b (sym (head-drop s (q + 1)) ∙ z))

  ways-say : EdgeSays s i (cond (eqb (get_or s q 0) 101) (broken s x y 0 (q + 1)) (cond (eqb (get_or s q 0) 110) (broken s x y 1 (q + 1)) None))
  ways-say = go (eqb (get_or s q 0) 101) (eqb (get_or s q 0) 110) refl refl
    where
      go : (t u : Bool) → eqb (get_or s q 0) 101 ≡ t → eqb (get_or s q 0) 110 ≡ u → EdgeSays s i (cond t (broken s x y 0 (q + 1)) (cond u (broken s x y 1 (q + 1)) None))
      go true u a b = way-says 101 0 refl (eqb-true (get_or s q 0) 101 a) (omega arith) (λ z. omega arith) (λ z. omega arith) (λ z. omega arith)
      go false true a b = way-says 110 1 refl (eqb-true (get_or s q 0) 110 b) (omega arith) (λ z. omega arith) (λ z. omega arith) (λ z. omega arith)
      go false false a b =
          h ∙ way-bad (λ ps. edge (xs ∷ ys ∷ ps)) edge (ends-2 xs ys) (drop q s)
          (λ z. eqb-false (get_or s q 0) 101 a (sym (head-drop s q) ∙ z)) (λ z. eqb-false (get_or s q 0) 110 b (sym (head-drop s q) ∙ z))

edge-says : (s : List ℕ) (i : ℕ) → EdgeSays s i (edge_entry_at s i)
unfolding edge_entry_at
edge-says s i = go1 (comma_at s i) (comma-says edge edge begins-0 (λ p. refl) s i)
  where
    go1 : (m : Maybe Numeral) → CommaSays edge edge s i m →
        EdgeSays s i (on_number m (λ x p. on_number (comma_at s p) (λ y q. cond (eqb (get_or s q 0) 101) (broken s x y 0 (q + 1)) (cond (eqb (get_or s q 0) 110) (broken s x y 1 (q + 1)) None)) None) None)
    go1 None h = h
    go1 (Some a) h = go2 (comma_at s a.next) (comma-says (λ ps. edge (run s i ∷ ps)) edge (begins-1 (run s i)) (λ p. refl) s a.next)
      where
        go2 : (m : Maybe Numeral) → CommaSays (λ ps. edge (run s i ∷ ps)) edge s a.next m →
            EdgeSays s i (on_number m (λ y q. cond (eqb (get_or s q 0) 101) (broken s a.value y 0 (q + 1)) (cond (eqb (get_or s q 0) 110) (broken s a.value y 1 (q + 1)) None)) None)
        go2 None k = h.1 ∙ k
        go2 (Some b) k = ways-say s i a.value b.value b.next (run s i) (run s a.next) h.0 k.0 (omega (arith, h.2, k.2)) (h.1 ∙ k.1)

module _ (s : List ℕ) (i : ℕ) where
  pub edge-is : (e : Maybe Entry) → e ≡ edge_entry_at s i → EdgeSays s i e
  edge-is e h = rw h (edge-says s i)

  -- the same by whether it is the last
  pub edge_told : (e : Entry) → Some e ≡ edge_entry_at s i → (last : Bool) → e.last ≡ last → EdgeTold s i (triple e.x e.y e.third) e.next last
  edge_told e h last k = rw (← k) (edge-is (Some e) h)

-- ---- an entry goes east or north

abbrev pub EdgeWay : Maybe Entry → Type 0
EdgeWay (Some e) = e.third ≤ 1
EdgeWay None = Unit {0}

broken-way : (s : List ℕ) (x y d n : ℕ) → d ≤ 1 → EdgeWay (broken s x y d n)
broken-way s x y d n h = go (eqb (get_or s n 0) 59) (eqb (get_or s n 0) 10)
  where
    go : (p q : Bool) → EdgeWay (cond p (Some (entry x y d (n + 1) false)) (cond q (Some (entry x y d (n + 1) true)) None))
    go true q = h
    go false true = h
    go false false = tt

way_at : (s : List ℕ) (i : ℕ) → EdgeWay (edge_entry_at s i)
unfolding edge_entry_at
way_at s i = first (comma_at s i)
  where
    third : (x y q : ℕ) (a b : Bool) → EdgeWay (cond a (broken s x y 0 (q + 1)) (cond b (broken s x y 1 (q + 1)) None))
    third x y q true b = broken-way s x y 0 (q + 1) (omega arith)
    third x y q false true = broken-way s x y 1 (q + 1) (omega arith)
    third x y q false false = tt

    second : (x : ℕ) (m : Maybe Numeral)
        → EdgeWay (on_number m (λ y q. cond (eqb (get_or s q 0) 101) (broken s x y 0 (q + 1)) (cond (eqb (get_or s q 0) 110) (broken s x y 1 (q + 1)) None)) None)
    second x None = tt
    second x (Some n) = third x n.value n.next (eqb (get_or s n.next 0) 101) (eqb (get_or s n.next 0) 110)

    first : (m : Maybe Numeral)
        → EdgeWay
        (on_number m
        (λ x p. on_number (comma_at s p) (λ y q. cond (eqb (get_or s q 0) 101) (broken s x y 0 (q + 1)) (cond (eqb (get_or s q 0) 110) (broken s x y 1 (q + 1)) None)) None)
        None)
    first None = tt
    first (Some n) = second n.value (comma_at s n.next)

pub edge-way : (s : List ℕ) (i : ℕ) (e : Maybe Entry) → e ≡ edge_entry_at s i → EdgeWay e
edge-way s i e h = rw h (way_at s i)
