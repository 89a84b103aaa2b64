-- `clear_part` meets its contract.
-- Assumes nothing.
use mathlib.Core.List.{List}
use mathlib.Core.Path.{◌≡◌, refl, sym, ap, ◌∙◌}
use Prim.Native.Nat.{ℕ, ◌+◌, ◌-◌, ◌≤◌}
use native.Mathlib.Omega.{arith}
use lib.ListN.{length, take, drop, get_or, replicate, length-replicate, get_or-replicate}
use borrow.Rule.Slice.PartMut.{put_mid}
use Rattle.layout.specs.Lent.{put-part, put-outside}
use Rattle.layout.specs.Fill.{PartCleared}
use Rattle.layout.specs.Parts.{part_at, part-long}
use Rattle.layout.proofs.clear_part.Goals as goal

-- a part comes back as zeros
module _ (a b : ℕ) (w : List ℕ) (rise : a ≤ b) (room : b ≤ length w) (p : List ℕ) (is : p ≡ replicate (length (take (b - a) (drop a w))) 0) where
  abbrev k : ℕ
  k = b - a

  end : b ≡ a + (b - a)
  end = omega arith

  inside : a + (b - a) ≤ length w
  inside = omega arith

  size : length (take (b - a) (drop a w)) ≡ b - a
  size = part-long a k w inside

  long : length p ≡ b - a
  long = ap length is ∙ length-replicate (length (take k (drop a w))) 0 ∙ size

  cleared : PartCleared a b w (put_mid a (b - a) w p)
  cleared = record {
    outside = put-outside a k w a b refl end p inside long;
    zeros = λ i low high.
        let v = put_mid a (b - a) w p in
        let at : a + (i - a) ≡ i = omega arith in
        ap (λ (n : ℕ). get_or v n 0) (sym at) ∙ sym (part_at a k v (i - a) (omega arith)) ∙ ap (λ (l : List ℕ). get_or l (i - a) 0) (put-part a k w a b refl end p inside long ∙ is)
        ∙ get_or-replicate (length (take k (drop a w))) (i - a) 0 0 (omega (arith, size));
  }

pub returns : goal.returns
returns c =
    cleared c.args.from c.args.to c.args.w.now c.requires.0 c.requires.1 c.fill.new.self (c.fill.ensures.after (λ y e. e))
