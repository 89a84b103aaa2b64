-- The three ways of marking a bit.
-- Assumes nothing.
use mathlib.Core.Bool.{Bool, true, false}
use mathlib.Core.List.{List}
use mathlib.Core.Path.{◌≡◌, sym, ap, ◌∙◌}
use Prim.Native.Nat.{ℕ, ◌+◌, ◌*◌, ◌^◌}
use borrow.Author.Tests.{eq-eqb, ne_eqb}
use lib.ListN.{get_or, set}
use Rattle.marks.specs.Marks.{bits_at, marked, put_of, marks_after}
use Rattle.marks.specs.Words.{bits_in, bit_of, stamp_unit}
use Rattle.marks.specs.declared.Put.TheVariants.{Twice, Fresh, Known}

module _ (n : ℕ) (a : List ℕ) (t i m : ℕ) (m_is : m ≡ bits_in n (get_or a t 0)) (q : Bool) (q-is : q ≡ bit_of m i) where
  found : q ≡ true → marked n a t i ≡ true
  found e = ap (λ (k : ℕ). bit_of k i) (sym m_is) ∙ sym q-is ∙ e

  missing : q ≡ false → marked n a t i ≡ false
  missing e = ap (λ (k : ℕ). bit_of k i) (sym m_is) ∙ sym q-is ∙ e

  pub put-twice : q ≡ true → (Twice ≡ put_of n a t i) × (a ≡ marks_after n a t i)
  unfolding put_of marks_after
  put-twice e = (rw (found e), rw (found e))

  module _ (p : ℕ) (p-is : p ≡ 2 ^ i) (e : q ≡ false) where
    stored : set a t (n * stamp_unit + (m + p)) ≡ marks_after n a t i
    unfolding marks_after
    stored = rw (missing e) (λ k. set a t (n * stamp_unit + (m_is k + p-is k)))

    pub put-fresh : m ≡ 0 → (Fresh ≡ put_of n a t i) × (set a t (n * stamp_unit + (m + p)) ≡ marks_after n a t i)
    unfolding put_of
    put-fresh z = (rw (missing e, eq-eqb (bits_at n a t) 0 (sym m_is ∙ z)), stored)

    pub put-known : (m ≡ 0 → ⊥) → (Known ≡ put_of n a t i) × (set a t (n * stamp_unit + (m + p)) ≡ marks_after n a t i)
    unfolding put_of
    put-known h = (rw (missing e, ne_eqb (bits_at n a t) 0 (λ z. h (m_is ∙ z))), stored)
