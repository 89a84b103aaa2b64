-- Keys, and entries of three parts, at a place of the text.
-- Assumes nothing.
use Rattle.std.specs.Prelude.{Option, Some, None, Bool, true, false, ◌&&◌, cond, List, [], ◌∷◌, ◌≡◌, ℕ, ◌+◌, ◌-◌, ◌*◌, ◌≤◌, eqb, length, get_or}
use Rattle.model.specs.Text.{is_digit}
use Rattle.text.specs.Number.{numeral, number_at}
use Rattle.text.specs.declared.Entry.{Entry}
use Rattle.text.specs.declared.Pair.{Pair}
use Rattle.text.specs.declared.Numeral.{Numeral}

-- the text begins with the key
unfoldable pub starts_with : List ℕ → List ℕ → Bool
starts_with [] text = true
starts_with (k ∷ key) [] = false
starts_with (k ∷ key) (b ∷ text) = eqb k b && starts_with key text

-- what to do with a number that was read, and with none
module _ {A : Type 0} where
  abbrev pub on_number : Option Numeral → (ℕ → ℕ → A) → A → A
  on_number (Some n) f bad = f n.value n.next
  on_number None f bad = bad

-- a number and the byte behind it
unfoldable pub ended_at : List ℕ → ℕ → ℕ → Option Numeral
ended_at s at end = on_number (number_at s at) (λ v next. cond (eqb (get_or s next 0) end) (Some (numeral v (next + 1))) None) None

-- what was found is such a number
abbrev pub Brief : List ℕ → ℕ → ℕ → Option Numeral → Type 0
Brief s at end (Some n) = ended_at s at end ≡ Some n
Brief s at end None = Unit {0}

-- and has at most two digits
abbrev pub Short : List ℕ → ℕ → ℕ → Option Numeral → Type 0
Short s at end (Some n) = (ended_at s at end ≡ Some n) × (n.next ≤ at + 3)
Short s at end None = Unit {0}

-- three digits stand at `at`, the first of them not 0, and spell u
abbrev pub ThreeDigits : List ℕ → ℕ → ℕ → Type 0
ThreeDigits s at u = (is_digit (get_or s at 0) ≡ true) × (eqb (get_or s at 0) 48 ≡ false) × (is_digit (get_or s (at + 1) 0) ≡ true) × (is_digit (get_or s (at + 2) 0) ≡ true)
    × (u ≡ 10 * (10 * (get_or s at 0 - 48) + (get_or s (at + 1) 0 - 48)) + (get_or s (at + 2) 0 - 48)) × (u ≤ 22977)

-- what was found are such digits
abbrev pub Three : List ℕ → ℕ → Option Numeral → Type 0
Three s at (Some n) = ThreeDigits s at n.value × (n.next ≡ at + 3)
Three s at None = Unit {0}

-- a number and a comma
unfoldable pub comma_at : List ℕ → ℕ → Option Numeral
comma_at s at = on_number (number_at s at) (λ v next. cond (eqb (get_or s next 0) 44) (Some (numeral v (next + 1))) None) None

-- what was found is the two numbers that an entry begins with, and two bytes more are there
abbrev pub Paired : List ℕ → ℕ → Option Pair → Type 0
Paired s at (Some r) = (p : ℕ) × (comma_at s at ≡ Some (numeral r.x p)) × (comma_at s p ≡ Some (numeral r.y r.next)) × (r.next + 2 ≤ length s)
Paired s at None = Unit {0}

abbrev pub entry : ℕ → ℕ → ℕ → ℕ → Bool → Entry
entry x y third next last = record { x = x; y = y; third = third; next = next; last = last }

-- the byte behind an entry, at n: a semicolon or byte 10, which ends the line
abbrev pub broken : List ℕ → ℕ → ℕ → ℕ → ℕ → Option Entry
broken s x y z n = cond (eqb (get_or s n 0) 59) (Some (entry x y z (n + 1) false)) (cond (eqb (get_or s n 0) 10) (Some (entry x y z (n + 1) true)) None)

-- the rest of an edge from its letter on, at q: `e` or `n`, and the byte behind it
abbrev pub way_at : List ℕ → ℕ → ℕ → ℕ → Option Entry
way_at s x y q = cond (eqb (get_or s q 0) 101) (broken s x y 0 (q + 1)) (cond (eqb (get_or s q 0) 110) (broken s x y 1 (q + 1)) None)

-- `x,y,l`
unfoldable pub pin_entry_at : List ℕ → ℕ → Option Entry
pin_entry_at s at =
    on_number (comma_at s at) (λ x p. on_number (comma_at s p) (λ y q. on_number (number_at s q) (λ l n. broken s x y l n) None) None) None

-- `x,y,e` or `x,y,n`
unfoldable pub edge_entry_at : List ℕ → ℕ → Option Entry
edge_entry_at s at = on_number (comma_at s at) (λ x p. on_number (comma_at s p) (λ y q. way_at s x y q) None) None

-- what was found, if anything, is this entry
abbrev pub Told : Option Entry → Option Entry → Type 0
Told e (Some r) = Some r ≡ e
Told e None = Unit {0}
