-- What the reader answers is what the definitions say.
-- Assumes nothing.
use Rattle.std.specs.Prelude.{Ok, Err, Result as Outcome}
use mathlib.Core.List.{List}
use mathlib.Core.Path.{◌≡◌, sym, ap}
use Prim.Native.Nat.{ℕ}
use Rattle.head.specs.declared.Head.{Head}
use Rattle.model.specs.Read.{Lent, read}
use Rattle.reader.specs.Whole.{JobTold}
use Rattle.text.specs.Refusals.{number_of, line_of}
use Rattle.text.specs.declared.Refusal.{Refusal}
use Rattle.cases.specs.Told.{told_in, told_by}
use Rattle.cases.specs.declared.Told.{Told}

pub told-accepted : (r : Outcome Head Refusal) (h : Head) → r ≡ Ok h → ◌≡◌ {A = Told} (record { number = 0; line = 0 }) (told_by r)
told-accepted r h e = sym (ap told_by e)

pub told-refused : (r : Outcome Head Refusal) (f : Refusal) → r ≡ Err f → (n l : ℕ) → n ≡ number_of f → l ≡ line_of f → ◌≡◌ {A = Told} (record { number = n; line = l }) (told_by r)
told-refused r f e n l p q = rw (p, q) (sym (ap told_by e))

-- the answer, whichever it is
pub told_is : (s : List ℕ) (lent : Lent) (w table : List ℕ) (r : Outcome Head Refusal) → JobTold s lent w table r → told_by r ≡ told_in (read lent s)
told_is s lent w table (Ok h) k = sym (ap told_in k.is)
told_is s lent w table (Err r) e = sym (ap told_in e)
