-- `text` meets its contract: the part that is lent comes back as the text.
-- Assumes nothing.
use mathlib.Core.List.{List, ◌++◌, append_assoc}
use mathlib.Core.Path.{◌≡◌, refl, sym, ap₂, ◌∙◌}
use Prim.Native.Nat.{ℕ, ◌+◌, ◌-◌, ◌≤◌}
use native.Mathlib.Omega.{arith}
use borrow.Rule.Slice.PartMut.{put_mid, Post-is}
use lib.ListN.{length, take, drop}
use lib.Seq.{sets, sets-eq}
use Rattle.put.proofs.Writer.text.Goals as goal

put_back : (a : ℕ) (x w p : List ℕ) → a + length x ≤ length w → p ≡ x → put_mid a (a + length x - a) w p ≡ sets w a x
put_back a x w p room is =
    ap₂ (λ (q rest : List ℕ). take a w ++ (q ++ rest)) is (Post-is a (a + length x) w (omega arith))
    ∙ sym (append_assoc (take a w) x (drop (a + length x) w))
    ∙ sym (sets-eq x w a room)

pub returns : goal.returns
returns c =
    record {
      buffer = put_back c.args.self.now.at c.args.x.now c.args.self.now.buf.now c.copy_from_slice.new.self c.requires c.copy_from_slice.ensures.after;
      next = refl;
      lent = refl;
    }
