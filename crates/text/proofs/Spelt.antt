-- A number of known digits, without a loop.
-- Assumes nothing.
use mathlib.Core.Bool.{Bool, true, false, true≢false, cond}
use mathlib.Core.List.{List, [], ◌∷◌}
use mathlib.Core.Path.{◌≡◌, refl, sym, ap, subst, ◌∙◌}
use Prim.Native.Nat.{ℕ, suc, ◌+◌, ◌-◌, ◌*◌, ◌≤◌, ◌<◌}
use native.Mathlib.Nat.{add-zero, zero-add}
use native.Mathlib.Omega.{arith}
use borrow.Author.Tests.{lt-leb, eq-eqb, ne_eqb}
use lib.Dec.{eqb}
use lib.ListN.{length, get_or, drop, get_or-eq_default}
use Rattle.model.specs.Text.{is_digit, is_number, value_from}
use Rattle.text.specs.Entries.{ended_at, comma_at, Short, ThreeDigits, Brief, Paired, pin_entry_at, edge_entry_at, broken, way_at, Told}
use Rattle.std.specs.Prelude.{Option, Some, None}
use Rattle.text.specs.Number.{numeral, digit_run, run, number_at}
use Rattle.text.specs.declared.Entry.{Entry}
use Rattle.text.specs.declared.Numeral.{Numeral}
use Rattle.text.specs.declared.Pair.{Pair}
use Rattle.text.proofs.Digits.{digits_more, digits-stop}

-- a byte below 48 is no digit
no_digit : (b end : ℕ) → b ≡ end → end < 48 → is_digit b ≡ false
no_digit b end e h = rw (lt-leb 48 b (omega arith))

module _ (s : List ℕ) where
  -- the digits ds stand at a place
  abbrev Digits : ℕ → List ℕ → Type 0
  Digits at [] = Unit {0}
  Digits at (d ∷ ds) = (get_or s at 0 ≡ d) × (is_digit d ≡ true) × Digits (at + 1) ds

  -- and with no digit behind them they are the run of digits there
  run_is : (at : ℕ) (ds : List ℕ) → Digits at ds → at + length ds < length s → is_digit (get_or s (at + length ds) 0) ≡ false → run s at ≡ ds
  run_is at [] h l e = digits-stop s at (omega arith) (rw (add-zero at) at e)
  run_is at (d ∷ ds) h l e =
      let n : at + suc (length ds) ≡ at + 1 + length ds = omega arith in
      digits_more s at (omega arith) (ap is_digit h.0 ∙ h.1)
      ∙ ap (λ (b : ℕ). b ∷ digit_run (drop (at + 1) s)) h.0
      ∙ ap (λ (l : List ℕ). d ∷ l) (run_is (at + 1) ds h.2 (omega arith) (ap (λ (k : ℕ). is_digit (get_or s k 0)) (sym n) ∙ e))

  -- the number that they spell
  number_is : (at : ℕ) (ds : List ℕ) → Digits at ds → is_number ds ≡ true → at + length ds < length s → is_digit (get_or s (at + length ds) 0) ≡ false
      → (v : ℕ) → v ≡ value_from 0 ds → number_at s at ≡ Some (numeral v (at + length ds))
  unfolding number_at
  number_is at ds h k l e v n = rw (run_is at ds h l e, k, n)

  -- and with the byte `end` behind it
  ended_is : (at : ℕ) (ds : List ℕ) → Digits at ds → is_number ds ≡ true → at + length ds < length s → (end : ℕ) → end < 48 → get_or s (at + length ds) 0 ≡ end
      → (v next : ℕ) → v ≡ value_from 0 ds → next ≡ at + length ds + 1 → ended_at s at end ≡ Some (numeral v next)
  unfolding ended_at
  ended_is at ds h k l end small e v next n p =
      rw (number_is at ds h k l (no_digit _ end e small) v n, eq-eqb (get_or s (at + length ds) 0) end e, p)

module _ (s : List ℕ) (at : ℕ) where
  -- the same place, counted in steps and at once
  place : (k m : ℕ) → k ≡ m → get_or s k 0 ≡ get_or s m 0
  place k m e = ap (λ (i : ℕ). get_or s i 0) e

  -- one digit
  number-one : at + 1 < length s → is_digit (get_or s at 0) ≡ true → is_digit (get_or s (at + 1) 0) ≡ false → number_at s at ≡ Some (numeral (get_or s at 0 - 48) (at + 1))
  number-one h a b = number_is s at (get_or s at 0 ∷ []) (refl, a, tt) a h b (get_or s at 0 - 48) (omega arith)

  module _ (end : ℕ) (small : end < 48) (room : at + 3 ≤ length s) (a : is_digit (get_or s at 0) ≡ true) where
    pub short-one : (v : ℕ) → v ≡ get_or s at 0 - 48 → get_or s (at + 1) 0 ≡ end → Short s at end (Some (numeral v (at + 2)))
    short-one v e b = (ended_is s at (get_or s at 0 ∷ []) (refl, a, tt) a (omega arith) end small b v (at + 2) (omega arith) (omega arith), omega arith)

    pub short-two : (v : ℕ) → v ≡ 10 * (get_or s at 0 - 48) + (get_or s (at + 1) 0 - 48) → (get_or s at 0 ≡ 48 → ⊥) → is_digit (get_or s (at + 1) 0) ≡ true → get_or s (at + 2) 0 ≡ end
        → Short s at end (Some (numeral v (at + 3)))
    short-two v e z b c = (
      ended_is s at (get_or s at 0 ∷ get_or s (at + 1) 0 ∷ []) (refl, a, (refl, b, tt)) (rw (a, b, ne_eqb (get_or s at 0) 48 z)) (omega arith) end small c v (at + 3) (omega arith) (omega arith),
      omega arith,
    )

  -- three digits and more, the first not 0
  module _ (end : ℕ) (small : end < 48) (room : at + 6 ≤ length s) (u : ℕ) (three : ThreeDigits s at u) where
    -- whatever follows the three
    first : (ds : List ℕ) → Digits s (at + 3) ds → Digits s at (get_or s at 0 ∷ get_or s (at + 1) 0 ∷ get_or s (at + 2) 0 ∷ ds)
    first ds h =
        let e : at + 1 + 1 + 1 ≡ at + 3 = omega arith in
        (refl, three.0, (refl, three.2, (place (at + 1 + 1) (at + 2) (omega arith), three.3, subst (λ (k : ℕ). Digits s k ds) (sym e) h)))

    -- and what they spell with the three
    spells : (ds : List ℕ) → value_from u ds ≡ value_from 0 (get_or s at 0 ∷ get_or s (at + 1) 0 ∷ get_or s (at + 2) 0 ∷ ds)
    spells ds =
        ap (λ (x : ℕ). value_from x ds) three.4
        ∙ ap (λ (x : ℕ). value_from (10 * (10 * x + (get_or s (at + 1) 0 - 48)) + (get_or s (at + 2) 0 - 48)) ds) (sym (zero-add (get_or s at 0 - 48)))

    pub brief-three : get_or s (at + 3) 0 ≡ end → Brief s at end (Some (numeral u (at + 4)))
    brief-three e =
        ended_is s at (get_or s at 0 ∷ get_or s (at + 1) 0 ∷ get_or s (at + 2) 0 ∷ []) (first [] tt) (rw (three.0, three.1, three.2, three.3))
        (omega arith) end small e u (at + 4) (spells []) (omega arith)

    module _ (d : is_digit (get_or s (at + 3) 0) ≡ true) where
      pub brief-four : get_or s (at + 4) 0 ≡ end → (v : ℕ) → v ≡ 10 * u + (get_or s (at + 3) 0 - 48) → Brief s at end (Some (numeral v (at + 5)))
      brief-four e v v-is =
          ended_is s at (get_or s at 0 ∷ get_or s (at + 1) 0 ∷ get_or s (at + 2) 0 ∷ get_or s (at + 3) 0 ∷ []) (first (get_or s (at + 3) 0 ∷ []) (refl, d, tt)) (rw (three.0, three.1, three.2, three.3, d))
          (omega arith) end small e v (at + 5) (v-is ∙ spells (get_or s (at + 3) 0 ∷ [])) (omega arith)

      pub brief-five : is_digit (get_or s (at + 4) 0) ≡ true → get_or s (at + 5) 0 ≡ end → (w v : ℕ) → w ≡ 10 * (get_or s (at + 3) 0 - 48) + (get_or s (at + 4) 0 - 48) → v ≡ 100 * u + w
          → Brief s at end (Some (numeral v (at + 6)))
      brief-five f e w v w_is v-is =
          let t : v ≡ 10 * (10 * u + (get_or s (at + 3) 0 - 48)) + (get_or s (at + 4) 0 - 48) = omega arith in
          ended_is s at (get_or s at 0 ∷ get_or s (at + 1) 0 ∷ get_or s (at + 2) 0 ∷ get_or s (at + 3) 0 ∷ get_or s (at + 4) 0 ∷ [])
          (first (get_or s (at + 3) 0 ∷ get_or s (at + 4) 0 ∷ []) (refl, d, (place (at + 3 + 1) (at + 4) (omega arith), f, tt))) (rw (three.0, three.1, three.2, three.3, d, f))
          (omega arith) end small e v (at + 6) (t ∙ spells (get_or s (at + 3) 0 ∷ get_or s (at + 4) 0 ∷ [])) (omega arith)

  pub comma-is : ended_at s at 44 ≡ comma_at s at
  unfolding ended_at comma_at
  comma-is = refl

  -- a number that ends with a comma, or none
  pub comma-told : (r : Option Numeral) → r ≡ ended_at s at 44 → comma_at s at ≡ r
  comma-told r e = sym comma-is ∙ sym e

-- ---- entries

pub told_is : (e r : Option Entry) → r ≡ e → Told e r
told_is e (Some x) h = h
told_is e None h = tt

module _ (s : List ℕ) (at : ℕ) (r : Pair) (h : Paired s at (Some r)) where
  pub edge-told : (e : Option Entry) → e ≡ way_at s r.x r.y r.next → Told (edge_entry_at s at) e
  unfolding edge_entry_at
  edge-told e k = told_is (edge_entry_at s at) e (rw (h.1, h.2) k)

  pub pin-told : (l : ℕ) → is_digit (get_or s r.next 0) ≡ true → l ≡ get_or s r.next 0 - 48 → (e : Option Entry) → e ≡ broken s r.x r.y l (r.next + 1) → Told (pin_entry_at s at) e
  unfolding pin_entry_at
  pin-told l d l-is e k = go (is_digit (get_or s (r.next + 1) 0)) refl
    where
      -- a digit ends no entry
      no_end : (b : ℕ) → is_digit (get_or s (r.next + 1) 0) ≡ true → is_digit b ≡ false → get_or s (r.next + 1) 0 ≡ b → ⊥
      no_end b f g h = true≢false (sym f ∙ ap is_digit h ∙ g)

      go : (q : Bool) → is_digit (get_or s (r.next + 1) 0) ≡ q → Told (pin_entry_at s at) e
      go false f =
          told_is (pin_entry_at s at) e (rw (h.1, h.2, number-one s r.next (omega (arith, h.3)) d f) (k ∙ ap (λ (m : ℕ). broken s r.x r.y m (r.next + 1)) l-is))
      go true f = rw (k, ne_eqb (get_or s (r.next + 1) 0) 59 (no_end 59 f refl), ne_eqb (get_or s (r.next + 1) 0) 10 (no_end 10 f refl)) tt

-- where a byte behind the letter is wanting, there is no entry
pub way_out : (s : List ℕ) (x y q : ℕ) → length s < q + 2 → None ≡ way_at s x y q
way_out s x y q h =
    rw (get_or-eq_default s 0 {n = q + 1} (omega arith)) (go (eqb (get_or s q 0) 101) (eqb (get_or s q 0) 110))
  where
    go : (a b : Bool) → ◌≡◌ {A = Option Entry} None (cond a None (cond b None None))
    go true b = refl
    go false true = refl
    go false false = refl
