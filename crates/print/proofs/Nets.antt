-- The lines of the nets, as they are taken from the net table.
-- Assumes nothing.
use mathlib.Core.List.{List}
use mathlib.Core.Path.{◌≡◌, ap}
use Prim.Native.Nat.{ℕ, ◌+◌, ◌-◌, ◌<◌}
use native.Mathlib.Nat.{sub-zero}
use native.Mathlib.Omega.{arith}
use lib.ListN.{length, take, drop, get_or, length-append}
use Rattle.layout.specs.Table.{first_column, entries_in, vias_column}
use Rattle.model.specs.Print.{print_net}
use Rattle.print.specs.Texts.{row_text, nets_text, nets-more, nets-done}
use Rattle.put.specs.declared.Writer.{Writer}
use Rattle.put.specs.Wrote.{Wrote, Left, Room, left-start, left-then, left_as, left-done}

-- the number at a place of the table that is known by another name
pub same_place : (table : List ℕ) (i k : ℕ) → i ≡ k → get_or table i 0 ≡ get_or table k 0
same_place table i k e = rw e

-- one net: its vias v, and its k layers from f on
module _ (table answer : List ℕ) (i f k v : ℕ) (ef : f ≡ get_or table (first_column i) 0) (ek : k ≡ entries_in table i) (ev : v ≡ get_or table (vias_column i) 0) where
  pub row_is : print_net (i + 1) v (take (f + k - f) (drop f answer)) ≡ row_text table answer i
  row_is = let e : f + k - f ≡ k = omega arith in rw (e, ef, ek, ev)

  pub row_room : (w : Writer) → Room w (row_text table answer i) → Room w (print_net (i + 1) v (take (f + k - f) (drop f answer)))
  row_room w h = omega (arith, ap length row_is)

-- ---- one net after another

pub nets-start : (table answer : List ℕ) (w : Writer) (n : ℕ) → Left w (nets_text table answer 0 n) w (nets_text table answer 0 (n - 0))
nets-start table answer w n = rw sub-zero (left-start w (nets_text table answer 0 n))

module _ {w u : Writer} {text : List ℕ} (table answer : List ℕ) (i n : ℕ) (h : i < n) (l : Left w text u (nets_text table answer i (n - i))) where
  pub net-room : Room w text → Room u (row_text table answer i)
  net-room k =
      omega (
        arith,
        l.next,
        l.long,
        ap length (nets-more table answer i n h),
        length-append (row_text table answer i) (nets_text table answer (i + 1) (n - (i + 1))),
      )

  pub net-more : {v : Writer} → Wrote u (row_text table answer i) v → Left w text v (nets_text table answer (i + 1) (n - (i + 1)))
  net-more one = left-then {y = nets_text table answer (i + 1) (n - (i + 1))} (left_as (nets-more table answer i n h) l) one

pub nets-end : {w u : Writer} {text : List ℕ} (table answer : List ℕ) (i n : ℕ) → i ≡ n → Left w text u (nets_text table answer i (n - i)) → Wrote w text u
nets-end table answer i n e l = left-done (left_as (nets-done table answer i n e) l)
