-- The capacities of a line, read on from one to the next.
-- Assumes nothing.
use mathlib.Core.Bool.{Bool, true, ◌&&◌}
use mathlib.Core.List.{List}
use mathlib.Core.Path.{◌≡◌, refl, sym, ap, subst, ◌∙◌}
use Prim.Native.Nat.{ℕ, suc, ◌+◌, ◌-◌, ◌≤◌, ◌<◌}
use native.Mathlib.Nat.{suc-mul}
use native.Mathlib.Omega.{arith}
use lib.Dec.{leb}
use lib.ListN.{length}
use Rattle.std.specs.Prelude.{Some, None, Result}
use Rattle.model.specs.Limits.{most_capacity}
use Rattle.model.specs.Read.{refused}
use Rattle.text.specs.Entries.{ended_at}
use Rattle.text.specs.declared.Cursor.{Cursor}
use Rattle.text.specs.declared.Refusal.{Refusal}
use Rattle.text.specs.declared.Numeral.{Numeral}
use Rattle.lines.specs.Digits.{ended-within}
use Rattle.lines.specs.Told.{list_in}
use Rattle.lines.specs.Keyed.{ender}
use Rattle.capacities.specs.declared.Run.{Run}
use Rattle.capacities.specs.Entries.{list_at, finish}
use Rattle.capacities.specs.Ran.{onward, Stands, Ran}
use Rattle.capacities.specs.Spread.{kept, Room}
use Rattle.capacities.specs.Told.{list_told, answer_of}
use Rattle.capacities.proofs.Steps.{room_in, room-kept, kept-length, ender-comma, ender-last, list-none, turn, answer-told, answer-in}

module _ (s : List ℕ) (k : ℕ) where
  pub ran-start : {w : List ℕ} {r : Run} → Stands s k w r → Ran s k w r w r
  ran-start h = record { stands = h; long = refl; fewer = omega arith; same = λ line. refl }

  pub ran_then : {w w' w'' : List ℕ} {a b c : Run} → Ran s k w a w' b → Ran s k w' b w'' c → Ran s k w a w'' c
  ran_then one two = record {
    stands = two.stands;
    long = two.long ∙ one.long;
    fewer = omega (arith, one.fewer, two.fewer);
    same = λ line. one.same line ∙ two.same line;
  }

  module _ (w : List ℕ) (r : Run) (here : Stands s k w r) where
    -- the next capacity has its place
    pub next-in : r.to < length w
    next-in = room_in k r.to (length w) (suc r.left) (omega arith) here.room

    pub next_small : r.to + k ≤ 100000
    next_small = omega (arith, here.room.small, suc-mul r.left k)

    -- one more before the last: the number v with a comma behind it
    module _ (h : 0 < r.left) where
      before : ender (suc r.left - 1) ≡ 44
      before = ender-comma (suc r.left) (omega arith)

      one_less : suc r.left - 1 ≡ suc (r.left - 1)
      one_less = omega arith

      pub one-bad : (line : ℕ) → ended_at s r.at 44 ≡ None → onward k line s w r ≡ refused 2 line
      one-bad line e = ap (finish k line r.inside w r.to) (list-none s (suc r.left) r.at (omega arith) (ap (ended_at s r.at) before ∙ e))

      module _ (n : Numeral) (inside : Bool) (w' : List ℕ) (e : ended_at s r.at 44 ≡ Some n) (f : inside ≡ (r.inside && leb n.value most_capacity))
          (g : w' ≡ kept w r.to n.value) where
        pub one_more : Ran s k w r w' (record { at = n.next; to = r.to + k; left = r.left - 1; inside = inside })
        one_more = record {
          stands = record {
            place = ended-within s r.at 44 n (omega arith) (sym e);
            room =
                subst (λ (m : ℕ). Room k (r.to + k) m (length w')) one_less (room-kept k r.to (suc r.left) n.value w w' g (omega arith) here.room);
          };
          long = ap length g ∙ kept-length w r.to n.value;
          fewer = omega arith;
          same = λ line.
              turn k line s (suc r.left) r.at n.value n.next r.inside inside w w' r.to (omega arith) (ap (ended_at s r.at) before ∙ e) f g
              ∙ ap (λ (m : ℕ). finish k line inside w' (r.to + k) (list_at m s n.next)) one_less;
        }

    -- the last: the number v with byte 10 behind it
    module _ (h : r.left ≤ 0) (line : ℕ) where
      behind : ender (suc r.left - 1) ≡ 10
      behind = ender-last (suc r.left) (omega arith)

      pub last-bad : ended_at s r.at 10 ≡ None → onward k line s w r ≡ refused 2 line
      last-bad e = ap (finish k line r.inside w r.to) (list-none s (suc r.left) r.at (omega arith) (ap (ended_at s r.at) behind ∙ e))

      module _ (n : Numeral) (inside : Bool) (w' : List ℕ) (e : ended_at s r.at 10 ≡ Some n) (f : inside ≡ (r.inside && leb n.value most_capacity))
          (g : w' ≡ kept w r.to n.value) (x : Result Cursor Refusal) (told : x ≡ answer_of n.next line inside) where
        pub last_told : list_told s w' x ≡ onward k line s w r
        last_told =
            answer-told line s n.next inside x told k w' (r.to + k) (suc r.left - 1) (omega arith)
            ∙ sym (turn k line s (suc r.left) r.at n.value n.next r.inside inside w w' r.to (omega arith) (ap (ended_at s r.at) behind ∙ e) f g)

        pub last_in : list_in (length s) line x
        last_in = answer-in line s n.next inside x told (ended-within s r.at 10 n (omega arith) (sym e))

-- ---- the first

module _ (s : List ℕ) (k : ℕ) (w : List ℕ) (at first count : ℕ) (h : count ≡ 0 → ⊥) where
  abbrev pub start : Run
  start = record { at = at; to = first; left = count - 1; inside = true }

  all_left : suc (count - 1) ≡ count
  all_left = omega arith

  pub start-stands : at ≤ length s → Room k first count (length w) → Stands s k w start
  start-stands p r = record { place = p; room = subst (λ (n : ℕ). Room k first n (length w)) (sym all_left) r }

  pub start-onward : (line : ℕ) → onward k line s w start ≡ finish k line true w first (list_at count s at)
  start-onward line = ap (λ (n : ℕ). finish k line true w first (list_at n s at)) all_left
