-- The three parts of an entry that is known to be right, byte by byte.
-- Assumes nothing.
use mathlib.Core.Bool.{Bool, true, false, cond}
use mathlib.Core.List.{List}
use mathlib.Core.Logic.{⊎_elim}
use mathlib.Core.Path.{◌≡◌, refl, sym, ap, ap₂, ◌∙◌}
use Prim.Native.Nat.{ℕ, ◌+◌, ◌-◌, ◌*◌, ◌≤◌, ◌<◌}
use native.Mathlib.Omega.{arith}
use borrow.Author.Tests.{eq-eqb, ne_eqb, eqb-true, ltb-true, ltb-false}
use lib.Dec.{eqb, ltb}
use lib.ListN.{length, get_or}
use Rattle.scan.specs.Places.{get_d-in}
use Rattle.std.specs.Prelude.{Option, Some, None}
use Rattle.text.specs.Entries.{on_number, comma_at, entry, broken, pin_entry_at, edge_entry_at}
use Rattle.text.specs.Number.{numeral, number_at}
use Rattle.text.specs.declared.Entry.{Entry}
use Rattle.text.specs.declared.Numeral.{Numeral}
use Rattle.known.specs.Short.{ShortNumber, ShortEntry}
use Rattle.known.proofs.Spelling.{Spelt, spelt}

-- ---- a coordinate

pub record Coordinates (s : List ℕ) (i : ℕ) : Type 0 where
  pub first_least : 48 ≤ get_or s i 0
  pub first_most : get_or s i 0 ≤ 57
  pub room : i + 1 < length s
  pub one : (a : ℕ) → a + 48 ≡ get_or s i 0 → get_or s (i + 1) 0 < 48 → Some (numeral a (i + 2)) ≡ comma_at s i
  pub two : (a : ℕ) → a + 48 ≡ get_or s i 0 → 48 ≤ get_or s (i + 1) 0 → Some (numeral (10 * a + (get_or s (i + 1) 0 - 48)) (i + 3)) ≡ comma_at s i

module _ (s : List ℕ) (i v n : ℕ) (number : number_at s i ≡ Some (numeral v n)) (comma : get_or s n 0 ≡ 44) (short : v < 100) where
  value : Some (numeral v (n + 1)) ≡ comma_at s i
  unfolding comma_at
  value = rw (number, eq-eqb (get_or s n 0) 44 comma)

  inside : n < length s
  inside = get_d-in s n 44 comma (omega arith)

  valued : (a m : ℕ) → a ≡ v → m ≡ n + 1 → Some (numeral a m) ≡ comma_at s i
  valued a m e f = ap₂ (λ (b k : ℕ). Some (numeral b k)) e f ∙ value

  comma-coordinate : Coordinates s i
  comma-coordinate =
      let k = spelt s i v n number short in
      ⊎_elim
      (λ d. let b : get_or s (i + 1) 0 ≡ 44 = ap (λ (m : ℕ). get_or s m 0) (sym d.0) ∙ comma in
      record {
        first_least = k.first_least;
        first_most = k.first_most;
        room = omega (arith, inside, d.0);
        one = λ a e f. valued a (i + 2) (omega (arith, d.1)) (omega (arith, d.0));
        two = λ a e f. absurd (omega (arith, b));
      })
      (λ d. record {
        first_least = k.first_least;
        first_most = k.first_most;
        room = omega (arith, inside, d.0);
        one = λ a e f. absurd (omega (arith, d.2));
        two = λ a e f. valued (10 * a + (get_or s (i + 1) 0 - 48)) (i + 3) (omega (arith, d.4)) (omega (arith, d.0));
      })
      k.digits

pub coordinates : (s : List ℕ) (i : ℕ) → ShortNumber (comma_at s i) → Coordinates s i
unfolding comma_at
coordinates s i h = go (number_at s i) refl h
  where
    go : (m : Option Numeral) → number_at s i ≡ m → ShortNumber (on_number m (λ v next. cond (eqb (get_or s next 0) 44) (Some (numeral v (next + 1))) None) None) → Coordinates s i
    go None e k = absurd k
    go (Some n) e k = test (eqb (get_or s n.next 0) 44) refl k
      where
        test : (q : Bool) → eqb (get_or s n.next 0) 44 ≡ q → ShortNumber (cond q (Some (numeral n.value (n.next + 1))) None) → Coordinates s i
        test true q l = comma-coordinate s i n.value n.next e (eqb-true (get_or s n.next 0) 44 q) l
        test false q l = absurd l

-- whether a comma or a digit stands behind the first digit a
pub decoded : (s : List ℕ) (i : ℕ) → Coordinates s i → (a : ℕ) → a + 48 ≡ get_or s i 0
    → Some (numeral (cond (ltb (get_or s (i + 1) 0) 48) a (10 * a + (get_or s (i + 1) 0 - 48))) (i + 3 - cond (ltb (get_or s (i + 1) 0) 48) 1 0)) ≡ comma_at s i
decoded s i k a e = go (ltb (get_or s (i + 1) 0) 48) refl
  where
    go : (q : Bool) → ltb (get_or s (i + 1) 0) 48 ≡ q → Some (numeral (cond q a (10 * a + (get_or s (i + 1) 0 - 48))) (i + 3 - cond q 1 0)) ≡ comma_at s i
    go true h = let n : i + 3 - 1 ≡ i + 2 = omega arith in ap (λ (k : ℕ). Some (numeral a k)) n ∙ k.one a e (ltb-true (get_or s (i + 1) 0) 48 h)
    go false h =
        let n : i + 3 - 0 ≡ i + 3 = omega arith in
        ap (λ (k : ℕ). Some (numeral (10 * a + (get_or s (i + 1) 0 - 48)) k)) n ∙ k.two a e (ltb-false (get_or s (i + 1) 0) 48 h)

-- ---- two coordinates, and a third part

module _ (third : ℕ → ℕ → ℕ → Option Entry) (keeps : (x y q : ℕ) → ShortEntry (third x y q) → (x < 100) × (y < 100)) (s : List ℕ) (i : ℕ) where
  abbrev pub parts : Option Entry
  parts = on_number (comma_at s i) (λ x p. on_number (comma_at s p) (λ y q. third x y q) None) None

  pub first_short : ShortEntry parts → ShortNumber (comma_at s i)
  first_short h = go (comma_at s i) h
    where
      go : (m : Option Numeral) → ShortEntry (on_number m (λ x p. on_number (comma_at s p) (λ y q. third x y q) None) None) → ShortNumber m
      go None k = k
      go (Some a) k = rest (comma_at s a.next) k
        where
          rest : (m : Option Numeral) → ShortEntry (on_number m (λ y q. third a.value y q) None) → a.value < 100
          rest None l = absurd l
          rest (Some b) l = (keeps a.value b.value b.next l).0

  module _ (a : Numeral) (first : Some a ≡ comma_at s i) where
    from_second : parts ≡ on_number (comma_at s a.next) (λ y q. third a.value y q) None
    from_second = ap (λ (m : Option Numeral). on_number m (λ x p. on_number (comma_at s p) (λ y q. third x y q) None) None) (sym first)

    pub second_short : ShortEntry parts → ShortNumber (comma_at s a.next)
    second_short h = go (comma_at s a.next) (rw (sym from_second) h)
      where
        go : (m : Option Numeral) → ShortEntry (on_number m (λ y q. third a.value y q) None) → ShortNumber m
        go None k = k
        go (Some b) k = (keeps a.value b.value b.next k).1

    pub third-is : (b : Numeral) → Some b ≡ comma_at s a.next → parts ≡ third a.value b.value b.next
    third-is b second = from_second ∙ ap (λ (m : Option Numeral). on_number m (λ y q. third a.value y q) None) (sym second)

-- ---- the third part at q, and the byte behind the entry

-- an entry whose third part has one byte, at q
pub record Ended (s : List ℕ) (x y q z : ℕ) (e : Option Entry) : Type 0 where
  pub x_short : x < 100
  pub y_short : y < 100
  pub room : q + 1 < length s
  pub is : Some (entry x y z (q + 2) (eqb (get_or s (q + 1) 0) 10)) ≡ e

ended : (s : List ℕ) (x y q z : ℕ) → ShortEntry (broken s x y z (q + 1)) → Ended s x y q z (broken s x y z (q + 1))
ended s x y q z h = go (eqb (get_or s (q + 1) 0) 59) refl h
  where
    next : q + 2 ≡ q + 1 + 1
    next = omega arith

    last : (u : Bool) → eqb (get_or s (q + 1) 0) 10 ≡ u → ShortEntry (cond u (Some (entry x y z (q + 1 + 1) true)) None)
        → Ended s x y q z (cond u (Some (entry x y z (q + 1 + 1) true)) None)
    last true e k = record {
      x_short = k.0;
      y_short = k.1;
      room = get_d-in s (q + 1) 10 (eqb-true (get_or s (q + 1) 0) 10 e) (omega arith);
      is = rw e (ap (λ (k : ℕ). Some (entry x y z k true)) next);
    }
    last false e k = absurd k

    go : (t : Bool) → eqb (get_or s (q + 1) 0) 59 ≡ t → ShortEntry (cond t (Some (entry x y z (q + 1 + 1) false)) (cond (eqb (get_or s (q + 1) 0) 10) (Some (entry x y z (q + 1 + 1) true)) None))
        → Ended s x y q z (cond t (Some (entry x y z (q + 1 + 1) false)) (cond (eqb (get_or s (q + 1) 0) 10) (Some (entry x y z (q + 1 + 1) true)) None))
    go true e k =
        let b : get_or s (q + 1) 0 ≡ 59 = eqb-true (get_or s (q + 1) 0) 59 e in
        record {
          x_short = k.0;
          y_short = k.1;
          room = get_d-in s (q + 1) 59 b (omega arith);
          is = rw (ne_eqb (get_or s (q + 1) 0) 10 (λ f. omega arith)) (ap (λ (k : ℕ). Some (entry x y z k false)) next);
        }
    go false e k = last (eqb (get_or s (q + 1) 0) 10) refl k

-- ---- an edge

abbrev way_third : List ℕ → ℕ → ℕ → ℕ → Option Entry
way_third s x y q = cond (eqb (get_or s q 0) 101) (broken s x y 0 (q + 1)) (cond (eqb (get_or s q 0) 110) (broken s x y 1 (q + 1)) None)

way-ended : (s : List ℕ) (x y q : ℕ) → ShortEntry (way_third s x y q) → Ended s x y q (cond (eqb (get_or s q 0) 110) 1 0) (way_third s x y q)
way-ended s x y q h = go (eqb (get_or s q 0) 101) refl h
  where
    north : (u : Bool) → ShortEntry (cond u (broken s x y 1 (q + 1)) None) → Ended s x y q (cond u 1 0) (cond u (broken s x y 1 (q + 1)) None)
    north true k = ended s x y q 1 k
    north false k = absurd k

    go : (t : Bool) → eqb (get_or s q 0) 101 ≡ t → ShortEntry (cond t (broken s x y 0 (q + 1)) (cond (eqb (get_or s q 0) 110) (broken s x y 1 (q + 1)) None))
        → Ended s x y q (cond (eqb (get_or s q 0) 110) 1 0) (cond t (broken s x y 0 (q + 1)) (cond (eqb (get_or s q 0) 110) (broken s x y 1 (q + 1)) None))
    go true e k =
        let b : get_or s q 0 ≡ 101 = eqb-true (get_or s q 0) 101 e in
        rw (ne_eqb (get_or s q 0) 110 (λ f. omega arith)) (ended s x y q 0 k)
    go false e k = north (eqb (get_or s q 0) 110) k

-- ---- a pin

abbrev layer_third : List ℕ → ℕ → ℕ → ℕ → Option Entry
layer_third s x y q = on_number (number_at s q) (λ l n. broken s x y l n) None

pub record Layer (s : List ℕ) (x y q : ℕ) (e : Option Entry) : Type 0 where
  pub least : 48 ≤ get_or s q 0
  pub room : q + 1 < length s
  pub ends : (z : ℕ) → z + 48 ≡ get_or s q 0 → Ended s x y q z e

third-short : (s : List ℕ) (x y z n : ℕ) → ShortEntry (broken s x y z n) → z < 10
third-short s x y z n h = go (eqb (get_or s n 0) 59) (eqb (get_or s n 0) 10) h
  where
    go : (t u : Bool) → ShortEntry (cond t (Some (entry x y z (n + 1) false)) (cond u (Some (entry x y z (n + 1) true)) None)) → z < 10
    go true u k = k.2
    go false true k = k.2
    go false false k = absurd k

layer-ended : (s : List ℕ) (x y q : ℕ) → ShortEntry (layer_third s x y q) → Layer s x y q (layer_third s x y q)
layer-ended s x y q h = go (number_at s q) refl h
  where
    go : (m : Option Numeral) → number_at s q ≡ m → ShortEntry (on_number m (λ l n. broken s x y l n) None) → Layer s x y q (on_number m (λ l n. broken s x y l n) None)
    go None e k = absurd k
    go (Some m) e k = finish (spelt s q m.value m.next e (omega (arith, third-short s x y m.value m.next k)))
      where
        one : Spelt s q m.value m.next → (m.next ≡ q + 1) × (m.value ≡ get_or s q 0 - 48)
        one p = ⊎_elim (λ d. d) (λ d. absurd (omega (arith, d.1, third-short s x y m.value m.next k))) p.digits

        here : Spelt s q m.value m.next → Ended s x y q m.value (broken s x y m.value (q + 1))
        here p = ended s x y q m.value (rw (sym (one p).0) k)

        finish : Spelt s q m.value m.next → Layer s x y q (broken s x y m.value m.next)
        finish p = record {
          least = p.first_least;
          room = (here p).room;
          ends = λ z f. let a : z ≡ m.value = omega (arith, (one p).1) in rw (a, (one p).0) (here p);
        }

-- ---- the entries at a place

way-keeps : (s : List ℕ) (x y q : ℕ) → ShortEntry (way_third s x y q) → (x < 100) × (y < 100)
way-keeps s x y q h = let k = way-ended s x y q h in (k.x_short, k.y_short)

layer-keeps : (s : List ℕ) (x y q : ℕ) → ShortEntry (layer_third s x y q) → (x < 100) × (y < 100)
layer-keeps s x y q h =
    let k = layer-ended s x y q h in
    let e = k.ends (get_or s q 0 - 48) (omega (arith, k.least)) in
    (e.x_short, e.y_short)

module _ (s : List ℕ) (i : ℕ) where
  module _ (h : ShortEntry (edge_entry_at s i)) where
    pub edge-first : ShortNumber (comma_at s i)
    unfolding edge_entry_at
    edge-first = first_short (way_third s) (way-keeps s) s i h

    module _ (a : Numeral) (first : Some a ≡ comma_at s i) where
      pub edge-second : ShortNumber (comma_at s a.next)
      unfolding edge_entry_at
      edge-second = second_short (way_third s) (way-keeps s) s i a first h

      module _ (b : Numeral) (second : Some b ≡ comma_at s a.next) where
        edge-is : edge_entry_at s i ≡ way_third s a.value b.value b.next
        unfolding edge_entry_at
        edge-is = third-is (way_third s) (way-keeps s) s i a first b second

        pub edge-third : Ended s a.value b.value b.next (cond (eqb (get_or s b.next 0) 110) 1 0) (edge_entry_at s i)
        edge-third = rw edge-is (way-ended s a.value b.value b.next (rw (sym edge-is) h))

  module _ (h : ShortEntry (pin_entry_at s i)) where
    pub pin-first : ShortNumber (comma_at s i)
    unfolding pin_entry_at
    pin-first = first_short (layer_third s) (layer-keeps s) s i h

    module _ (a : Numeral) (first : Some a ≡ comma_at s i) where
      pub pin-second : ShortNumber (comma_at s a.next)
      unfolding pin_entry_at
      pin-second = second_short (layer_third s) (layer-keeps s) s i a first h

      module _ (b : Numeral) (second : Some b ≡ comma_at s a.next) where
        pin-is : pin_entry_at s i ≡ layer_third s a.value b.value b.next
        unfolding pin_entry_at
        pin-is = third-is (layer_third s) (layer-keeps s) s i a first b second

        pub pin-third : Layer s a.value b.value b.next (pin_entry_at s i)
        pin-third = rw pin-is (layer-ended s a.value b.value b.next (rw (sym pin-is) h))
