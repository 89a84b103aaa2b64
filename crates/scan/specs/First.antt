-- The first entry of a line that was read, and those after it.
-- Assumes nothing.
use Rattle.std.specs.Prelude.{Bool, true, false, cond, List, [], ◌∷◌, ◌≡◌, refl, ℕ}
use Rattle.std.proofs.Math.Option.{none, some}
use Rattle.std.proofs.Common.{sym, ap, arith}
use Rattle.model.specs.Lists.{all}
use Rattle.model.specs.Read.{Triple}
use Rattle.scan.specs.Inside.{false-true}
use Rattle.scan.specs.Lines.{Lined, cons_to}

-- the entries of a line, and the text after it
entries_of : Lined → List Triple
entries_of none = []
entries_of (some c) = c.0

rest_of : Lined → List ℕ
rest_of none = []
rest_of (some c) = c.1

pub some-none : {A : Type 0} (c : List Triple × List ℕ) → ◌≡◌ {A = Lined} (some c) none → A
some-none c e = absurd (let y : ◌≡◌ {A = ℕ} 0 1 = cc in omega arith)

-- an entry in front: the entries are it and those left
pub front : (t : Triple) (r : Lined) (es : List Triple) (rest : List ℕ) → ◌≡◌ {A = Lined} (some (es, rest)) (cons_to (some t) r)
    → (us : List Triple) × (r ≡ some (us, rest)) × (es ≡ t ∷ us)
unfolding entries_of rest_of
front t none es rest e = some-none (es, rest) e
front t (some c) es rest e = (c.0, ap (λ (x : List ℕ). some (c.0, x)) (sym (ap rest_of e)), ap entries_of e)

-- a line has its entries only
pub one_line : (es us : List Triple) (r q : List ℕ) → ◌≡◌ {A = Lined} (some (es, r)) (some (us, q)) → es ≡ us
unfolding entries_of
one_line es us r q e = ap entries_of e

-- the first passes, and the others
pub all_first : (q : Triple → Bool) (t : Triple) (ts : List Triple) → all q (t ∷ ts) ≡ true → (q t ≡ true) × (all q ts ≡ true)
all_first q t ts e = go (q t) e
  where
    go : (p : Bool) → cond p (all q ts) false ≡ true → (p ≡ true) × (all q ts ≡ true)
    go true h = (refl, h)
    go false h = absurd (false-true h)
