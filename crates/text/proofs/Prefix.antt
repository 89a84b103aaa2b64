-- A key, compared with what the text has at its place.
use mathlib.Core.Path.{◌≡◌, refl, ap}
use mathlib.Core.List.{List, [], ◌∷◌}
use mathlib.Core.Bool.{◌&&◌}
use Prim.Native.Nat.{ℕ}
use lib.Dec.{eqb}
use lib.ListN.{length, take}
use lib.Pointwise.{pointwise}
use Rattle.text.specs.Entries.{starts_with}

pub key-is : (key text : List ℕ) → pointwise eqb key (take (length key) text) ≡ starts_with key text
unfolding starts_with
key-is [] text = refl
key-is (k ∷ key) [] = refl
key-is (k ∷ key) (b ∷ text) = ap (λ q. eqb k b && q) (key-is key text)
