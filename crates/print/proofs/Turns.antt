-- The nets of the turns, as they are taken from the net table.
-- Assumes nothing.
use mathlib.Core.List.{List, ◌∷◌}
use mathlib.Core.Path.{◌≡◌, sym, ap, ◌∙◌}
use Prim.Native.Nat.{ℕ, ◌+◌, ◌≤◌, ◌<◌}
use native.Mathlib.Omega.{arith}
use lib.ListN.{length, drop, get_or}
use Rattle.layout.specs.Table.{turn_column}
use Rattle.model.specs.Text.{decimal, decimals}
use Rattle.put.specs.Lists.{others}
use Rattle.print.specs.Texts.{turns_of, turns-long, turns_at}
use Rattle.put.specs.declared.Writer.{Writer}
use Rattle.put.specs.Wrote.{Wrote, Left, Room, wrote_as}
use Rattle.put.proofs.Steps as steps

module _ (table : List ℕ) (n : ℕ) where
  pub turns-none : n ≡ 0 → (w : Writer) → Wrote w (decimals (turns_of table n)) w
  turns-none e w = steps.list-none (turns_of table n) w (turns-long table n ∙ e)

  -- the net v of turn k
  module _ (k v : ℕ) (h : k < n) (e : v ≡ get_or table (turn_column k) 0) where
    inside : k < length (turns_of table n)
    inside = omega (arith, turns-long table n)

    digits_are : decimal v ≡ decimal (get_or (turns_of table n) k 0)
    digits_are = ap decimal (e ∙ sym (turns_at table n k h))

    module _ {w u : Writer} {text : List ℕ} (l : Left w text u (others (drop k (turns_of table n)))) where
      pub turn-room : Room w text → Room u (44 ∷ decimal v)
      turn-room room = rw digits_are (steps.turn-room (turns_of table n) k inside l room)

      pub turn_more : {z : Writer} → Wrote u (44 ∷ decimal v) z → Left w text z (others (drop (k + 1) (turns_of table n)))
      turn_more one = steps.turn_more (turns_of table n) k inside l (wrote_as one (ap (λ (x : List ℕ). 44 ∷ x) digits_are))

  -- the net v of the first turn, and the others
  module _ (v : ℕ) (h : 1 ≤ n) (e : v ≡ get_or table (turn_column 0) 0) where
    pub first-room : (w : Writer) → Room w (decimals (turns_of table n)) → Room w (decimal v)
    first-room w room = rw (digits_are 0 v h e) (steps.first-room (turns_of table n) (inside 0 v h e) w room)

    module _ {w u : Writer} (one : Wrote w (decimal v) u) where
      pub others-room : Room w (decimals (turns_of table n)) → Room u (others (drop 1 (turns_of table n)))
      others-room room = steps.others-room (turns_of table n) (inside 0 v h e) (wrote_as one (digits_are 0 v h e)) room

      pub turns-whole : {z : Writer} → Wrote u (others (drop 1 (turns_of table n))) z → Wrote w (decimals (turns_of table n)) z
      turns-whole two = steps.list-whole (turns_of table n) (inside 0 v h e) (wrote_as one (digits_are 0 v h e)) two

  pub turns-end : {w u : Writer} {text : List ℕ} (k : ℕ) → k ≡ n → Left w text u (others (drop k (turns_of table n))) → Wrote w text u
  turns-end k e l = steps.others-done (turns_of table n) k (e ∙ sym (turns-long table n)) l
