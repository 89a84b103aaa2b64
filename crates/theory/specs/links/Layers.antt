-- The layers of a group of edges and the layers that an edge may use: some of 1 to K, each once, rising.
-- Assumes nothing.
use Rattle.std.specs.Prelude.{◌≡◌, refl, List, [], ◌∷◌, Bool, true, false, cond, ℕ, zero, suc, ◌≤◌, T, length}
use Rattle.std.proofs.Common.{subst, arith}
use Rattle.model.specs.Job.{Job, runs, group, layers_in, layers_of}
use Rattle.model.specs.Layering.{IsChoice, IsLayering}
use Rattle.model.specs.Lists.{up_from, any}
use Rattle.theory.specs.congestion.Sums.{occurs, In, keep, in-keep, keep-few, keep-shorter}
use Rattle.theory.specs.congestion.Base.{up_from-once, in-up_from, length-up_from}
use Rattle.theory.specs.congestion.Dictionary.{Rising, rising-keep}

pub rising-up : (a n : ℕ) → Rising (up_from a n)
rising-up a zero = tt
rising-up a (suc n) = (λ y i. omega (arith, (in-up_from y (suc a) n).0 i), rising-up (suc a) n)

-- some element passes, so something is kept
pub any-kept : (p : ℕ → Bool) (xs : List ℕ) → T (any p xs) → 1 ≤ length (keep p xs)
any-kept p [] t = absurd t
any-kept p (x ∷ xs) t = go (any-kept p xs) (p x) refl t
  where
    go : (T (any p xs) → 1 ≤ length (keep p xs)) → (q : Bool) → p x ≡ q → T (cond (p x) true (any p xs)) → 1 ≤ length (cond (p x) (x ∷ keep p xs) (keep p xs))
    go ih true e t' = rw e (omega arith)
    go ih false e t' = rw e (ih (subst (λ (q : Bool). T (cond q true (any p xs))) e t'))

-- a choice and a layering may always use more layers
module _ (some more : ℕ → List ℕ) (sub : (e l : ℕ) → In l (some e) → In l (more e)) where
  pub choice-wider : (es ys : List ℕ) → IsChoice some es ys → IsChoice more es ys
  choice-wider [] [] h = h
  choice-wider [] (y ∷ ys) h = h
  choice-wider (e ∷ es) [] h = h
  choice-wider (e ∷ es) (y ∷ ys) h = (sub e y h.0, choice-wider es ys h.1)

  pub layering-wider : (ns ys : List (List ℕ)) → IsLayering some ns ys → IsLayering more ns ys
  layering-wider [] [] h = h
  layering-wider [] (y ∷ ys) h = h
  layering-wider (n ∷ ns) [] h = h
  layering-wider (n ∷ ns) (y ∷ ys) h = (choice-wider n y h.0, layering-wider ns ys h.1)

module _ (j : Job) where
  pub layers_once : (g l : ℕ) → occurs l (layers_in j g) ≤ 1
  layers_once g l = omega (arith, keep-few (runs j.dirs g) l (up_from 1 j.layers), up_from-once l 1 j.layers)

  pub layers-few : (g : ℕ) → length (layers_in j g) ≤ j.layers
  layers-few g = omega (arith, keep-shorter (runs j.dirs g) (up_from 1 j.layers), length-up_from 1 j.layers)

  pub layers-rising : (g : ℕ) → Rising (layers_in j g)
  layers-rising g = rising-keep (runs j.dirs g) (up_from 1 j.layers) (rising-up 1 j.layers)

  pub in-layers : (g l : ℕ) → In l (layers_in j g) → (1 ≤ l) × (l ≤ j.layers) × T (runs j.dirs g l)
  in-layers g l i =
      let r = (in-keep (runs j.dirs g) l (up_from 1 j.layers)).0 i in
      let b = (in-up_from l 1 j.layers).0 r.0 in
      (b.0, omega (arith, b.1), r.1)

  pub layers-in : (g l : ℕ) → 1 ≤ l → l ≤ j.layers → T (runs j.dirs g l) → In l (layers_in j g)
  layers-in g l a b t = (in-keep (runs j.dirs g) l (up_from 1 j.layers)).1 ((in-up_from l 1 j.layers).1 (a, omega arith), t)

  pub among-all : (e l : ℕ) → In l (layers_of j e) → In l (up_from 1 j.layers)
  among-all e l i = ((in-keep (runs j.dirs (group j e)) l (up_from 1 j.layers)).0 i).0

  -- along the allowed layers is along the layers 1 to K
  pub choice-all : (es ys : List ℕ) → IsChoice (layers_of j) es ys → IsChoice (λ e. up_from 1 j.layers) es ys
  choice-all = choice-wider (layers_of j) (λ e. up_from 1 j.layers) among-all

  pub layering-all : (ns ys : List (List ℕ)) → IsLayering (layers_of j) ns ys → IsLayering (λ e. up_from 1 j.layers) ns ys
  layering-all = layering-wider (layers_of j) (λ e. up_from 1 j.layers) among-all
