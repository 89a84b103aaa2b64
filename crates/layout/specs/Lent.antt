-- A part of a list that is lent on, `&mut w[from..to]`, from a place to a place that the code computes: what is lent, and the list once it is back.
-- Assumes nothing.
use Rattle.std.specs.Prelude.{List, ◌≡◌, ℕ, ◌+◌, ◌-◌, ◌≤◌, length, take, drop}
use Rattle.std.proofs.Common.{ap₂, arith}
use borrow.Rule.Slice.PartMut.{put_mid}
use Rattle.layout.specs.Parts.{part, Outside, back-part, back-outside}

module _ (a k : ℕ) (w : List ℕ) (from to : ℕ) (from_is : from ≡ a) (to_is : to ≡ a + k) where
  size_is : to - from ≡ k
  size_is = omega arith

  pub lent-part : take (to - from) (drop from w) ≡ part a k w
  lent-part = ap₂ (λ (x y : ℕ). take x (drop y w)) size_is from_is

  module _ (p : List ℕ) (room : a + k ≤ length w) (long : length p ≡ k) where
    put_is : put_mid from (to - from) w p ≡ put_mid a k w p
    put_is = ap₂ (λ (x y : ℕ). put_mid x y w p) from_is size_is

    pub put-part : part a k (put_mid from (to - from) w p) ≡ p
    put-part = rw put_is (back-part a k w p room long)

    pub put-outside : Outside a k w (put_mid from (to - from) w p)
    put-outside = rw put_is (back-outside a k w p room long)
