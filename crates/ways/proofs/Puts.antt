-- What marking a bit finds, for the two marks of an edge.
-- Assumes nothing.
use mathlib.Core.Bool.{Bool, true, false, cond}
use mathlib.Core.List.{List}
use mathlib.Core.Path.{◌≡◌, refl, sym, ap, ◌∙◌}
use Prim.Native.Nat.{ℕ, ◌+◌}
use borrow.Author.Tests.{ne_eqb}
use lib.Dec.{eqb}
use Rattle.marks.specs.Marks.{bits_at, marked, mark, put_of, marks_after}
use Rattle.marks.specs.Words.{bit-some}
use Rattle.marks.specs.declared.Put.{Put}
use Rattle.marks.specs.declared.Put.TheVariants.{Twice, Fresh, Known}
use Rattle.model.specs.Lists.{bit}
use Rattle.std.specs.Prelude.{Some, None}
use Rattle.ways.specs.Ends.{first_mark, ends_of, ends_after}

module _ (n : ℕ) (a : List ℕ) (t i : ℕ) where
  abbrev Finds : Put → Type 0
  Finds Twice = marked n a t i ≡ true
  Finds Fresh = (marked n a t i ≡ false) × (eqb (bits_at n a t) 0 ≡ true)
  Finds Known = (marked n a t i ≡ false) × (eqb (bits_at n a t) 0 ≡ false)

  pub put-finds : (p : Put) → p ≡ put_of n a t i → Finds p
  unfolding put_of
  put-finds p e = rw e (go (marked n a t i) (eqb (bits_at n a t) 0) refl refl)
    where
      go : (m z : Bool) → marked n a t i ≡ m → eqb (bits_at n a t) 0 ≡ z → Finds (cond m Twice (cond z Fresh Known))
      go true z h k = h
      go false true h k = (h, k)
      go false false h k = (h, k)

  pub first-twice : Twice ≡ put_of n a t i → 0 ≡ first_mark n a t
  first-twice e = sym (ap bit (ne_eqb (bits_at n a t) 0 (bit-some (bits_at n a t) i (put-finds Twice e))))

  pub first-fresh : Fresh ≡ put_of n a t i → 1 ≡ first_mark n a t
  first-fresh e = sym (ap bit (put-finds Fresh e).1)

  pub first-known : Known ≡ put_of n a t i → 0 ≡ first_mark n a t
  first-known e = sym (ap bit (put-finds Known e).1)

module _ (n : ℕ) (a : List ℕ) (here there d : ℕ) (b : List ℕ) (b-is : b ≡ marks_after n a here (8 + d)) where
  pub ends-marked : Twice ≡ put_of n a here (8 + d) → (None ≡ ends_of n a here there d) × (b ≡ ends_after n a here there d)
  unfolding ends_of ends_after marks_after
  ends-marked e = let m = put-finds n a here (8 + d) Twice e in (rw m, rw (b-is, m))

  -- the count for both tiles, from that for the one where it starts and that for the other
  module _ (start k j : ℕ) (c : List ℕ) (new : marked n a here (8 + d) ≡ false) (start-is : start ≡ first_mark n a here) (k-is : k ≡ first_mark n b there)
      (c-is : c ≡ marks_after n b there (10 + d)) where
    pub ends-new : j ≡ start + k → (Some j ≡ ends_of n a here there d) × (c ≡ ends_after n a here there d)
    unfolding ends_of ends_after marks_after
    ends-new e =
        let first : b ≡ mark n a here (8 + d) = rw b-is (rw new) in
        (rw (e, new, start-is, k-is, first), c-is ∙ rw (first, new))
