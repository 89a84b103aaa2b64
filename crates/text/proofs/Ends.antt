-- A number and the byte behind it.
-- Assumes nothing.
use mathlib.Core.Path.{◌≡◌}
use mathlib.Core.List.{List}
use Prim.Native.Nat.{ℕ, ◌+◌, ◌≤◌, ◌<◌}
use native.Mathlib.Omega.{arith}
use borrow.Author.Tests.{eq-eqb, ne_eqb}
use lib.ListN.{length, get_or, get_or-eq_default}
use Rattle.std.specs.Prelude.{Some, None}
use Rattle.text.specs.Entries.{ended_at}
use Rattle.text.specs.Number.{numeral, number_at}
use Rattle.text.specs.declared.Numeral.{Numeral}

module _ (s : List ℕ) (at end : ℕ) where
  pub ended-bad : None ≡ number_at s at → None ≡ ended_at s at end
  unfolding ended_at
  ended-bad e = rw (← e)

  module _ (n : Numeral) (e : Some n ≡ number_at s at) where
    pub ended-other : (get_or s n.next 0 ≡ end → ⊥) → None ≡ ended_at s at end
    unfolding ended_at
    ended-other h = rw (← e, ne_eqb _ _ h)

    pub ended-out : length s ≤ n.next → 0 < end → None ≡ ended_at s at end
    ended-out h pos = ended-other (λ q. omega (arith, get_or-eq_default s 0 {n = n.next} h))

    pub ended-good : get_or s n.next 0 ≡ end → Some (numeral n.value (n.next + 1)) ≡ ended_at s at end
    unfolding ended_at
    ended-good h = rw (← e, eq-eqb _ _ h)
